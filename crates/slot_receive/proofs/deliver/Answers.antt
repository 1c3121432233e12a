use Rattle.slot.specs.declared.ChannelSlot.{ChannelSlot}
use Rattle.slot.proofs.Laws.{cond-true, cond-false}
use Rattle.std.proofs.Common.{sym, ap, ◌∙◌, ap₂, arith, le-leb}
use borrow.Author.Tests.{lt-leb}
use Rattle.slot.specs.Slot.{with_total, delivered_of, acked}
use Rattle.slot_receive.proofs.deliver.Goals as goal
use Rattle.std.specs.Prelude.{Some}

pub returns-then-slot : goal.returns-then-slot
unfolding delivered_of
returns-then-slot c =
    ap₂ acked (c.with_total.ensures ∙ ap (with_total c.args.slot) c.total_with-total.ensures) c.some_len.ensures
    ∙ sym (cond-true _ _ _ c.if-slot.true) ∙ sym (cond-true _ _ _ c.if-policy.true)

pub returns-then-policy : goal.returns-then-policy
unfolding delivered_of
returns-then-policy c = rw (c.if-policy.true, c.if-slot.false)

pub returns-then-slot-policy : goal.returns-then-slot-policy
unfolding delivered_of
returns-then-slot-policy c = rw (c.if-policy.false, le-leb c.args.policy.watermark c.args.slot.buffered (omega arith))

pub returns-then-slot-2 : goal.returns-then-slot-2
unfolding delivered_of
returns-then-slot-2 c =
    ap (λ (x : ChannelSlot). acked x (Some c.args.slot.unacked)) c.with_numbers.ensures
    ∙ sym (cond-true _ _ _ c.if-slot-2.true)
    ∙ sym (cond-false _ _ _ (lt-leb c.args.policy.watermark c.args.slot.buffered (omega arith)))
    ∙ sym (cond-false _ _ _ c.if-policy.false)

pub returns : goal.returns
unfolding delivered_of
returns c = rw (c.if-policy.false, lt-leb c.args.policy.watermark c.args.slot.buffered (omega arith), c.if-slot-2.false)
