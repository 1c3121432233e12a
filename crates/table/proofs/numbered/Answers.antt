use Rattle.table.proofs.numbered.Goals as goal

pub returns : goal.returns
returns c = rw c.next_local.ensures
