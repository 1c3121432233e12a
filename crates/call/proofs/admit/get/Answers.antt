use Rattle.call.proofs.ThereLaws.{get-slot, get_other, get-far}
use native.Mathlib.Omega.{arith}
use Rattle.call.proofs.admit.get.Goals as goal

pub returns-then-has_local : goal.returns-then-has_local
returns-then-has_local c =
    get-slot c.args.state.now c.args.n c.args.ch (omega arith) (omega arith) c.slot_at-s.result
    c.slot_at-s.ensures c.has_local.result c.has_local.ensures c.if-has_local.true

pub returns-then-ch-n : goal.returns-then-ch-n
returns-then-ch-n c =
    get_other c.args.state.now c.args.n c.args.ch (omega arith) (omega arith) c.slot_at-s.result
    c.slot_at-s.ensures c.has_local.result c.has_local.ensures c.if-has_local.false

pub returns : goal.returns
returns c = get-far c.args.state.now c.args.n c.args.ch (omega arith) (omega arith)
