use Rattle.le.specs.Le.{bytes_of}
use Rattle.le.specs.Rows.{flat}
use Rattle.state.specs.State.{header_sizes}
use Rattle.state.proofs.put_sizes.Goals as goal

pub returns : goal.returns
unfolding flat header_sizes bytes_of
returns c = c.put_all.ensures
