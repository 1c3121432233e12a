use borrow.Author.Tests.{eq-eqb, ne_eqb}
use Rattle.protocol.specs.Packet.{check_passes}
use Rattle.protocol.proofs.packet.check_passes.Goals as goal

pub returns-then-check-eq0 : goal.returns-then-check-eq0
unfolding check_passes
returns-then-check-eq0 c = rw (eq-eqb c.args.check 0 c.if-check-eq0.true)

pub returns-else-check-eq0 : goal.returns-else-check-eq0
unfolding check_passes
returns-else-check-eq0 c = rw (ne_eqb c.args.check 0 c.if-check-eq0.false, c.payload_checksum.ensures)
