use native.Mathlib.Omega.{arith}
use mathlib.Core.Path.{◌≡◌, refl, ◌∙◌}
use Rattle.incoming.proofs.KeptLaws.{carries-first, carries-next}
use Rattle.incoming.proofs.put_first.Goals as goal

pub loop-i-init : goal.loop-i-init
loop-i-init c = (omega arith, refl, carries-first c.args.state.now c.args.first (omega arith))

pub loop-i-preserved : goal.loop-i-preserved
loop-i-preserved c = (
  omega arith,
  omega arith,
  carries-next c.args.state.now c.args.first (omega arith) c.loop-i.i (omega arith)
      c.loop-i.state c.loop-i.carried c.loop-i.invariant.2 c.queued_at-next.result _
      c.queued_at-next.ensures c.put_queued.ensures,
)

pub returns : goal.returns
returns c = let e : c.loop-i.i ≡ c.args.queued = omega arith in c.put_queued-2.ensures ∙ rw (← e) c.loop-i.invariant.2.then_is
