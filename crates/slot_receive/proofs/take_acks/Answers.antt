use Rattle.slot.proofs.Laws.{is-ack}
use Rattle.std.proofs.Common.{sym, ap, ◌∙◌, eq-eqb}
use Rattle.slot.specs.Slot.{take_acks, is_ack}
use Rattle.slot_receive.proofs.take_acks.Goals as goal

pub returns-then-slot-eq0 : goal.returns-then-slot-eq0
unfolding take_acks
returns-then-slot-eq0 c =
    rw (sym c.has_data.ensures ∙ c.if-has_data.true, eq-eqb c.args.slot.settled 0 c.if-slot-eq0.true)
    (c.is_some.ensures ∙ is-ack _ ∙ ap is_ack (rw c.min-n.ensures at c.ack_len.ensures))
