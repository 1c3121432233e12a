use mathlib.Core.Path.{◌≡◌, refl, subst}
use native.Mathlib.Omega.{arith}
use Prim.Native.Nat.{ℕ}
use Rattle.le.specs.Le.{put}
use Rattle.call_make.specs.Make.{empty_queue}
use Rattle.call_make.proofs.MakeLaws.{opens-none, opens-more}
use Rattle.state.specs.State.{queue_at}
use Rattle.call_make.proofs.clear_queue.Goals as goal

pub loop-i-init : goal.loop-i-init
loop-i-init c = (omega arith, refl, opens-none c.args.state.now)

pub loop-i-preserved : goal.loop-i-preserved
loop-i-preserved c = (
  omega arith,
  omega arith,
  opens-more c.args.state.now c.loop-i.state _ c.none_queued.result c.loop-i.i
      (omega arith) (omega arith) c.loop-i.invariant.2 c.none_queued.ensures c.put_queued.ensures,
)

pub returns : goal.returns
returns c =
    let e : c.loop-i.i ≡ 64 = omega arith in subst (λ (x : ℕ). c.loop-i.state ≡ put c.args.state.now queue_at (empty_queue x))
    e c.loop-i.invariant.2
