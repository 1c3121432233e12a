use native.Mathlib.Omega.{arith}
use Rattle.replay.proofs.TextLaws.{puts_none}
use Rattle.replay.proofs.text.put.Goals as goal

pub returns-then-at-line : goal.returns-then-at-line
returns-then-at-line c = puts_none c.args.line.now c.args.at c.args.s.now (omega arith)
