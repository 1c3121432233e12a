use Rattle.le.proofs.Laws.{read-halves}
use Rattle.le.proofs.U64Word.read_at.Goals as goal

pub returns : goal.returns
returns c = cc (read-halves c.args.s.now c.args.at c.requires)
