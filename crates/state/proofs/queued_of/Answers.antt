use Rattle.state.specs.State.{queued_of}
use Rattle.state.proofs.queued_of.Goals as goal

pub returns : goal.returns
unfolding queued_of
returns c = cc
