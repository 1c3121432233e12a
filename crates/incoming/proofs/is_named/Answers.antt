use native.Mathlib.Omega.{arith}
use mathlib.Core.Path.{refl, sym, ◌∙◌}
use Rattle.incoming.proofs.ShareLaws.{named-stop, named_step, named_end}
use Rattle.incoming.proofs.is_named.Goals as goal

pub loop-i-init : goal.loop-i-init
loop-i-init c = (omega arith, refl)

pub returns-then-q-k : goal.returns-then-q-k
returns-then-q-k c =
    sym (c.loop-i.invariant.1 ∙ named-stop c.args.k c.args.state.now c.args.queued c.loop-i.i (omega arith)
    (omega arith) (rw c.queued_at-q.ensures at c.if-q-k.true))

pub loop-i-preserved : goal.loop-i-preserved
loop-i-preserved c = (
  omega arith,
  c.loop-i.invariant.1 ∙ named_step c.args.k c.args.state.now c.args.queued c.loop-i.i
      (omega arith) (omega arith) (rw c.queued_at-q.ensures at c.if-q-k.false),
)

pub returns : goal.returns
returns c = sym (c.loop-i.invariant.1 ∙ named_end c.args.k c.args.state.now c.args.queued c.loop-i.i (omega arith))
