use mathlib.Core.Path.{refl}
use native.Mathlib.Omega.{arith}
use borrow.Author.Tests.{lt-ltb, le-ltb}
use Rattle.protocol.specs.Packet.{encode_of}
use Rattle.protocol.proofs.PacketLaws.{encoded}
use Rattle.protocol.proofs.packet.Packet.encode.Goals as goal

pub returns-then-len : goal.returns-then-len
unfolding encode_of
returns-then-len c = rw (lt-ltb _ _ c.if-len.true) (record { result-is = refl; out-is = refl })

pub returns-then-out-len : goal.returns-then-out-len
unfolding encode_of
returns-then-out-len c = rw (le-ltb _ _ c.if-len.false, lt-ltb _ _ c.if-out-len.true) (record { result-is = refl; out-is = refl })

pub returns : goal.returns
returns c = encoded _ _ _ _ _ _ _ _ (omega arith) (omega arith) c.put_at-end.ensures
