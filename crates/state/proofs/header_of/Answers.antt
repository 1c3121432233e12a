use Rattle.state.specs.State.{header_of}
use Rattle.state.proofs.header_of.Goals as goal

pub returns : goal.returns
unfolding header_of
returns c = cc
