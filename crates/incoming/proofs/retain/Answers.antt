use native.Mathlib.Omega.{arith}
use mathlib.Core.Path.{◌≡◌, refl, sym, ◌∙◌}
use Rattle.incoming.proofs.KeptLaws.{retain-none, retain-skips, retain-puts}
use Rattle.incoming.proofs.retain.Goals.{then-stays, else-stays}
use Rattle.incoming.proofs.retain.Goals as goal

pub loop-i-init : goal.loop-i-init
loop-i-init c = (omega arith, omega arith, omega arith, refl, retain-none c.args.gone c.args.state.now c.args.from)

pub loop-i-preserved : goal.loop-i-preserved
loop-i-preserved c =
    elim c.if-stays.branch [
      | then-stays w ↦ (
        omega arith,
        omega arith,
        omega arith,
        omega arith,
        rw (w.state-is, w.w-is)
            (retain-puts c.args.gone c.args.state.now c.args.from
            c.loop-i.i (omega arith) (omega arith) c.loop-i.w c.loop-i.state c.queued_at-q.result (omega arith)
            (omega arith) c.loop-i.invariant.4 c.queued_at-q.ensures w.put_queued.new.state
            (sym c.stays.ensures ∙ w.if-stays.true) w.put_queued.ensures),
      )
      | else-stays w ↦ (
        omega arith,
        omega arith,
        omega arith,
        omega arith,
        rw (w.state-is, w.w-is)
            (retain-skips c.args.gone c.args.state.now c.args.from
            c.loop-i.i (omega arith) (omega arith) c.loop-i.w c.loop-i.state c.queued_at-q.result (omega arith)
            (omega arith) c.loop-i.invariant.4 c.queued_at-q.ensures (sym c.stays.ensures ∙ w.if-stays.false)),
      )
    ]

pub returns : goal.returns
returns c = let e : c.loop-i.i ≡ c.args.queued = omega arith in rw (← e) c.loop-i.invariant.4
