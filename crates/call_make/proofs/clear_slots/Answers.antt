use mathlib.Core.Path.{◌≡◌, refl, subst}
use native.Mathlib.Omega.{arith}
use Prim.Native.Nat.{ℕ}
use Rattle.le.specs.Le.{put}
use Rattle.call_make.specs.Make.{empty_slots}
use Rattle.call_make.proofs.MakeLaws.{slots-none, slots-more}
use Rattle.state.specs.State.{header_len}
use Rattle.call_make.proofs.clear_slots.Goals as goal

pub loop-i-init : goal.loop-i-init
loop-i-init c = (omega arith, refl, slots-none c.args.state.now)

pub loop-i-preserved : goal.loop-i-preserved
loop-i-preserved c = (
  omega arith,
  omega arith,
  slots-more c.args.state.now c.loop-i.state _ c.empty.result c.loop-i.i
      (omega arith) (omega arith) c.loop-i.invariant.2 c.empty.ensures c.put_slot.ensures,
)

pub returns : goal.returns
returns c =
    let e : c.loop-i.i ≡ 64 = omega arith in subst (λ (x : ℕ). c.loop-i.state ≡ put c.args.state.now header_len
    (empty_slots x)) e c.loop-i.invariant.2
