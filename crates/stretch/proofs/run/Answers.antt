use mathlib.Core.Path.{refl}
use native.Mathlib.Omega.{arith}
use lib.ListN.{length}
use borrow.Author.Rules.{rules}
use Rattle.stretch.specs.Stretch.{world_of}
use Rattle.stretch.proofs.RunLaws.{running-starts, running-goes, running-stops, running-ends}
use Rattle.stretch.proofs.run.Goals as goal

pub loop-i-init : goal.loop-i-init
loop-i-init c = (refl, refl, refl, running-starts _ _ _)

pub dispatch_at-turn-requires : goal.dispatch_at-turn-requires
dispatch_at-turn-requires c = c.requires c.loop-i.i (omega arith)

pub returns-then-turn-ne0 : goal.returns-then-turn-ne0
returns-then-turn-ne0 c =
    running-stops (world_of c.args.state.now c.args.rx.now c.args.store.now) c.args.received.now c.args.places.now c.loop-i.state c.loop-i.rx c.loop-i.store c.loop-i.i c.loop-i.invariant.3
    (omega arith) c.dispatch_at-turn.result _ _ _ c.dispatch_at-turn.ensures (λ e. omega arith)

pub loop-i-preserved : goal.loop-i-preserved
loop-i-preserved c = (
  search rules,
  search rules,
  search rules,
  running-goes (world_of c.args.state.now c.args.rx.now c.args.store.now) c.args.received.now c.args.places.now c.loop-i.state c.loop-i.rx c.loop-i.store c.loop-i.i c.loop-i.invariant.3
      (omega arith) c.dispatch_at-turn.result _ _ _ c.dispatch_at-turn.ensures (omega arith),
)

pub returns : goal.returns
returns c =
    running-ends (world_of c.args.state.now c.args.rx.now c.args.store.now) c.args.received.now c.args.places.now c.loop-i.state c.loop-i.rx c.loop-i.store c.loop-i.i c.loop-i.invariant.3
    (length c.args.places.now) (omega arith) (omega arith)
