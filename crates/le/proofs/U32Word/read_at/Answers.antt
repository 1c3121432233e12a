use Rattle.le.proofs.Laws.{read-four}
use Rattle.le.proofs.U32Word.read_at.Goals as goal

pub returns : goal.returns
returns c = rw c.from_le_bytes.ensures (read-four c.args.s.now c.args.at c.requires)
