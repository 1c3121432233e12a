use Rattle.std.proofs.Common.{arith, rules}
use Rattle.replay.proofs.TextLaws.{hex-pair}
use Rattle.replay.proofs.text.write_byte.Goals as goal

pub returns : goal.returns
returns g c = λ plain ok. rw (← hex-pair c.args.b (omega arith)) (search rules)
