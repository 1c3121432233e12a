use Rattle.state.proofs.Fields.{header-put}
use Rattle.state.proofs.put_header.Goals as goal

pub returns : goal.returns
returns c = cc (header-put c.args.state.now c.args.h c.requires)
