use mathlib.Core.Path.{refl}
use native.Mathlib.Omega.{arith}
use Rattle.config.specs.Config.{open_store_len}
use Rattle.config.proofs.Laws.{open-store-small}
use Rattle.config.proofs.ConnectionConfig.open_store_len.Goals as goal

pub overflow_mul-result : goal.overflow_mul-result
overflow_mul-result c = let z = open-store-small c.args.self c.requires in omega arith

pub returns : goal.returns
unfolding open_store_len
returns c = refl
