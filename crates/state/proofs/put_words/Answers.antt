use Rattle.le.specs.Le.{bytes_of}
use Rattle.le.specs.Rows.{flat}
use Rattle.state.specs.State.{header_words}
use Rattle.state.proofs.put_words.Goals as goal

pub returns : goal.returns
unfolding flat header_words bytes_of
returns c = c.put_all.ensures
