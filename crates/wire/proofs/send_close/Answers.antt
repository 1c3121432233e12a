use Rattle.wire.proofs.Laws.{empty-puts}
use Rattle.wire.specs.Wire.{close_bytes}
use Rattle.wire.proofs.send_close.Goals as goal

pub returns : goal.returns
unfolding close_bytes
returns c = empty-puts _ _ _ _ _ _ _ _ _ c.empty-frame.ensures c.put_empty.ensures
