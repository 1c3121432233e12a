use Rattle.std.proofs.Common.{arith}
use Rattle.std.proofs.lemmas.Bool.Decides.{nat_tests}
use Rattle.config.specs.Config.{watermark_of}
use Rattle.config.proofs.ConnectionConfig.rx_watermark.Goals as goal

pub returns : goal.returns
unfolding watermark_of
returns c = grind (arith, nat_tests)
