use Rattle.std.proofs.Common.{sym, ◌∙◌}
use Rattle.slot.specs.Slot.{settled_some, settled_by}
use Rattle.slot.proofs.Laws.{ack-small}
use Rattle.slot_receive.proofs.settle_some.Goals as goal

pub overflow_sub-slot-in-Some : goal.overflow_sub-slot-in-Some
overflow_sub-slot-in-Some c = ack-small c.args.slot c.args.policy c.args.n _ _ (sym c.ack_len-ack.ensures ∙ c.in-Some.is)

pub returns-in-None : goal.returns-in-None
unfolding settled_some settled_by
returns-in-None c = rw (sym c.ack_len-ack.ensures ∙ c.in-None.is)

pub returns-in-Some : goal.returns-in-Some
unfolding settled_some settled_by
returns-in-Some c = rw (sym c.ack_len-ack.ensures ∙ c.in-Some.is, c.with_total.ensures, c.with_numbers-rest.ensures, c.total_with-total.ensures)
