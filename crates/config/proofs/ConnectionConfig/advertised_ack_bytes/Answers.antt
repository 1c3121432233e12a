use native.Mathlib.Omega.{arith}
use Rattle.config.specs.Config.{opening_credit}
use Rattle.config.proofs.ConnectionConfig.advertised_ack_bytes.Goals as goal

pub returns : goal.returns
unfolding opening_credit
returns c = omega arith
