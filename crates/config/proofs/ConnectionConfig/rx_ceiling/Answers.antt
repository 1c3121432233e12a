use native.Mathlib.Omega.{arith}
use Rattle.config.specs.Config.{cap_of, ceiling_of}
use Rattle.config.proofs.ConnectionConfig.rx_ceiling.Goals as goal

pub overflow_sub-result : goal.overflow_sub-result
unfolding cap_of
overflow_sub-result c = omega arith

pub returns : goal.returns
unfolding ceiling_of
returns c = omega arith
