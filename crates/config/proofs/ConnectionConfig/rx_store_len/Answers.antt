use native.Mathlib.Omega.{arith}
use Rattle.config.specs.Config.{cap_of, rx_store_len}
use Rattle.config.proofs.Laws.{rx-store-small}
use Rattle.config.proofs.ConnectionConfig.rx_store_len.Goals as goal

pub overflow_mul-share : goal.overflow_mul-share
unfolding cap_of
overflow_mul-share c = omega arith

pub overflow_mul-result : goal.overflow_mul-result
overflow_mul-result c =
    rw c.rx_cap-share.ensures
    (let z = rx-store-small c.args.self c.requires in omega arith)

pub returns : goal.returns
unfolding rx_store_len
returns c = rw c.rx_cap-share.ensures
