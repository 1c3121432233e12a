use Rattle.rx_store.proofs.Laws.{head-appended}
use Rattle.slot.proofs.Laws.{wrote-now, wrote-hold}
use Rattle.std.proofs.Common.{◌+◌, ◌*◌, sym, ◌∙◌, arith, lt-ltb}
use Rattle.saturate.specs.Saturate.{sat_sum}
use Rattle.slot.specs.Slot.{held_of, wrote_of}
use Rattle.slot_receive.proofs.apply_write.Goals as goal

pub returns-then-is_opening : goal.returns-then-is_opening
unfolding wrote_of
returns-then-is_opening c = rw (sym c.is_opening.ensures ∙ c.if-is_opening.true)

pub overflow_sub-policy : goal.overflow_sub-policy
unfolding held_of
overflow_sub-policy c = omega arith

pub returns-then-policy-held : goal.returns-then-policy-held
unfolding wrote_of held_of
returns-then-policy-held c =
    rw (
      sym c.is_opening.ensures ∙ c.if-is_opening.false,
      lt-ltb c.args.policy.rx_cap
          (held_of c.args.slot + c.args.n) (omega arith),
    )

pub appended_head-head-requires : goal.appended_head-head-requires
unfolding held_of
appended_head-head-requires c = record { run_fits = omega arith; more-fits = omega arith }

pub overflow_cast-head : goal.overflow_cast-head
unfolding held_of
overflow_cast-head c =
    let r = head-appended (2 * c.args.policy.rx_cap) c.args.slot.head c.args.slot.buffered c.args.n
    (record { run_fits = omega arith; more-fits = omega arith }) in
    record { fits = omega arith }

pub returns-then-acks_now : goal.returns-then-acks_now
unfolding held_of
returns-then-acks_now c =
    wrote-now c.args.slot c.args.policy c.args.n c.with_numbers.result c.appended_head-head.result
    c.held-held.result c.acks_now.result (sym c.is_opening.ensures ∙ c.if-is_opening.false) (omega (arith, c.held-held.ensures, c.if-policy-held.false, c.requires.held-cap))
    c.held-held.ensures c.acks_now.ensures c.appended_head-head.ensures c.if-acks_now.true
    c.with_numbers.ensures

pub returns : goal.returns
unfolding held_of sat_sum
returns c =
    wrote-hold c.args.slot c.args.policy c.args.n c.with_numbers-2.result c.appended_head-head.result
    c.held-held.result c.acks_now.result (sym c.is_opening.ensures ∙ c.if-is_opening.false) (omega (arith, c.held-held.ensures, c.if-policy-held.false, c.requires.held-cap))
    c.held-held.ensures c.acks_now.ensures c.appended_head-head.ensures c.saturating_add-unacked.result
    c.if-acks_now.false c.saturating_add-unacked.ensures c.with_numbers-2.ensures
