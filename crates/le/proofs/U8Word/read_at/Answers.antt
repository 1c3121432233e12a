use Rattle.le.proofs.Laws.{read-one}
use Rattle.le.proofs.U8Word.read_at.Goals as goal

pub returns : goal.returns
returns c = read-one c.args.s.now c.args.at c.requires
