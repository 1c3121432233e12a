use Rattle.device_make.proofs.MakeLaws.{puts-head}
use Rattle.device_make.proofs.put_head.Goals as goal

pub returns : goal.returns
returns c = puts-head c.args.head.now c.args.text.now _ _ _ c.requires c.put.ensures c.put-2.ensures c.copy_at.ensures
