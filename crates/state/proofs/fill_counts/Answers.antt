use Rattle.le.specs.Le.{bytes_of}
use Rattle.le.specs.Rows.{flat}
use Rattle.state.specs.State.{slot_counts}
use Rattle.state.proofs.fill_counts.Goals as goal

pub returns : goal.returns
unfolding flat slot_counts bytes_of
returns c = c.put_all.ensures
