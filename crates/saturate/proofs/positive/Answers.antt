use mir.Facts.{to_z-of_z}
use Rattle.saturate.proofs.Laws.{positive_is}
use Rattle.saturate.proofs.positive.Goals as goal

pub returns : goal.returns
returns c = rw c.unwrap_or.ensures (positive_is c.args.b c.try_from.result c.ranges.b (rw (to_z-of_z c.ranges.b) at c.try_from.ensures))
