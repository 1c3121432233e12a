use mathlib.Core.Path.{ap}
use lib.Bits.{bit_xor}
use Rattle.protocol.specs.Command.{magic_of}
use Rattle.protocol.proofs.command.Command.magic.Goals as goal

pub returns : goal.returns
unfolding magic_of
returns c = ap (λ w. bit_xor w 0xffff_ffff) c.word.ensures
