use Rattle.state.proofs.Fields.{slot-put}
use Rattle.state.proofs.fill_slot.Goals as goal

pub returns : goal.returns
returns c = cc (slot-put c.args.p.now c.args.s c.requires)
