use Rattle.state.proofs.Fields.{open-put}
use Rattle.state.proofs.fill_queued.Goals as goal

pub returns : goal.returns
returns c = cc (open-put c.args.p.now c.args.q c.requires)
