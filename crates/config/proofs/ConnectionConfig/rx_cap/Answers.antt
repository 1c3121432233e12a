use Rattle.std.proofs.Common.{arith}
use Rattle.std.proofs.lemmas.Bool.Decides.{nat_tests}
use Rattle.config.specs.Config.{cap_of}
use Rattle.config.proofs.ConnectionConfig.rx_cap.Goals as goal

pub returns : goal.returns
unfolding cap_of
returns c = grind (arith, nat_tests)
