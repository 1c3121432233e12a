use Rattle.le.specs.Le.{bytes_of}
use Rattle.le.specs.Rows.{flat}
use Rattle.state.specs.State.{header_tags}
use Rattle.state.proofs.put_tags.Goals as goal

pub returns : goal.returns
unfolding flat header_tags bytes_of
returns c = rw (c.flag_byte.ensures.0, c.from.ensures) at c.put_all.ensures
