use native.Mathlib.Omega.{arith}
use mathlib.Core.Path.{◌≡◌, sym, ◌∙◌}
use lib.ListN.{take}
use Rattle.state.specs.State.{state_of}
use Rattle.incoming.proofs.ShareLaws.{free-start, free_step, free-stop, free-end}
use Rattle.incoming.proofs.free_share.Goals as goal

pub loop-k-init : goal.loop-k-init
loop-k-init c = (omega arith, free-start c.args.n (take c.args.queued (state_of c.args.state.now).queue))

pub loop-k-preserved : goal.loop-k-preserved
loop-k-preserved c = (
  omega arith,
  c.loop-k.invariant.1 ∙ free_step c.loop-k.k c.args.n
      (take c.args.queued (state_of c.args.state.now).queue) (omega arith) (sym c.is_named.ensures ∙ c.if-not-is_named.false),
)

pub returns-then-not-is_named : goal.returns-then-not-is_named
returns-then-not-is_named c =
    sym (c.loop-k.invariant.1 ∙ free-stop c.loop-k.k c.args.n
    (take c.args.queued (state_of c.args.state.now).queue) (omega arith) (sym c.is_named.ensures ∙ c.if-not-is_named.true))

pub returns : goal.returns
returns c =
    let e : c.args.n ≡ c.loop-k.k = omega arith in e ∙ sym
    (c.loop-k.invariant.1 ∙ free-end c.loop-k.k c.args.n (take c.args.queued (state_of c.args.state.now).queue)
    (omega arith))
