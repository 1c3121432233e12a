use native.Mathlib.Omega.{arith}
use Rattle.le.proofs.Laws.{put_byte}
use Rattle.le.proofs.U8Word.put_at.Goals as goal

pub returns : goal.returns
returns c = put_byte c.args.s.now c.args.at c.args.self c.requires (omega arith)
