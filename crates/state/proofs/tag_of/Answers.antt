use native.Mathlib.Omega.{arith}
use Rattle.state.specs.State.{tag_of}
use Rattle.state.proofs.tag_of.Goals as goal

pub returns : goal.returns
unfolding tag_of
returns c = (omega arith, omega arith)
