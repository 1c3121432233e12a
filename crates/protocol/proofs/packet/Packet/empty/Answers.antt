use mathlib.Core.Path.{refl}
use Rattle.protocol.specs.Packet.{empty_packet}
use Rattle.protocol.proofs.packet.Packet.empty.Goals as goal

pub returns : goal.returns
unfolding empty_packet
returns c = refl
