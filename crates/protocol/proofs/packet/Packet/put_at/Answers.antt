use native.Mathlib.Omega.{arith}
use Rattle.protocol.proofs.PacketLaws.{framed}
use Rattle.protocol.proofs.packet.Packet.put_at.Goals as goal

pub returns : goal.returns
returns c =
    framed _ _ _ _ _ _ _ _ _ _ _ _ _ (omega arith) c.word.ensures c.of-check.ensures c.magic.ensures
    c.put_at.ensures c.copy_at.ensures (omega arith)
