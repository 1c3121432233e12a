use Rattle.std.proofs.Common.{sym, ◌∙◌, arith}
use Rattle.slot.specs.Slot.{taken_of}
use Rattle.slot.proofs.Laws.{take-held}
use Rattle.slot_receive.proofs.take_buffered.Goals as goal

pub took-requires : goal.took-requires
took-requires c = (c.requires, rw c.take_len-n.ensures (take-held c.args.slot c.args.room (omega arith)))

pub returns-then-has_data : goal.returns-then-has_data
unfolding taken_of
returns-then-has_data c = rw (sym c.has_data.ensures ∙ c.if-has_data.true) (cc)

pub returns-then-is_closed : goal.returns-then-is_closed
unfolding taken_of
returns-then-is_closed c =
    rw (
      sym c.has_data.ensures ∙ c.if-has_data.false,
      sym c.is_closed.ensures ∙ c.if-is_closed.true,
      c.closed_error.ensures,
    )

pub returns : goal.returns
unfolding taken_of
returns c = rw (sym c.has_data.ensures ∙ c.if-has_data.false, sym c.is_closed.ensures ∙ c.if-is_closed.false)
