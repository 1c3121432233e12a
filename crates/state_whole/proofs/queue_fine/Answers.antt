use native.Mathlib.Omega.{arith}
use mathlib.Core.Path.{refl, sym, ◌∙◌}
use Rattle.state_whole.proofs.ValidLaws.{opens-step, opens-stop, opens-end}
use Rattle.state_whole.proofs.queue_fine.Goals as goal

pub loop-i-init : goal.loop-i-init
loop-i-init c = (omega arith, refl)

pub loop-i-preserved : goal.loop-i-preserved
loop-i-preserved c = (
  omega arith,
  c.loop-i.invariant.1 ∙ opens-step c.args.state.now c.args.n c.loop-i.i (omega arith) (omega arith)
      c.args.channels c.args.payload (sym (rw c.queued_at-q.ensures at c.queued_fine.ensures) ∙ c.if-not-queued_fine.false),
)

pub returns-then-not-queued_fine : goal.returns-then-not-queued_fine
returns-then-not-queued_fine c =
    sym (c.loop-i.invariant.1 ∙ opens-stop c.args.state.now c.args.n c.loop-i.i (omega arith) (omega arith)
    c.args.channels c.args.payload (sym (rw c.queued_at-q.ensures at c.queued_fine.ensures) ∙ c.if-not-queued_fine.true))

pub returns : goal.returns
returns c =
    sym (c.loop-i.invariant.1 ∙ opens-end c.args.state.now c.args.n c.loop-i.i c.args.channels
    c.args.payload (omega arith))
