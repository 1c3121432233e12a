use Rattle.std.proofs.Common.{eq-eqb, ne_eqb}
use Rattle.slot.specs.Slot.{take_len}
use Rattle.slot_receive.proofs.take_len.Goals as goal

pub returns-then-slot-eq0 : goal.returns-then-slot-eq0
unfolding take_len
returns-then-slot-eq0 c = rw (eq-eqb c.args.slot.settled 0 c.if-slot-eq0.true) c.min.ensures

pub returns : goal.returns
unfolding take_len
returns c = rw (ne_eqb c.args.slot.settled 0 c.if-slot-eq0.false) c.min-2.ensures
