use Rattle.call.proofs.ends.not_there.Goals as goal

pub returns : goal.returns
returns c = c.ends.ensures
