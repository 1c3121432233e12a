use mathlib.Core.Path.{◌≡◌, refl, subst}
use Prim.Native.Nat.{ℕ}
use native.Mathlib.Omega.{arith}
use borrow.Author.Rules.{rules}
use Rattle.stretch.specs.Stretch.{world_of, Tells}
use Rattle.stretch.proofs.TellLaws.{telling-starts, telling-goes, telling-stops, telling-ends}
use Rattle.stretch.proofs.tell.Goals as goal

pub loop-n-init : goal.loop-n-init
loop-n-init c = (refl, refl, refl, search rules, telling-starts _ _ _)

pub dispatch_at-met-requires : goal.dispatch_at-met-requires
dispatch_at-met-requires c = c.loop-n.invariant.4.inside

pub returns-then-met-ne0 : goal.returns-then-met-ne0
returns-then-met-ne0 c =
    telling-stops (world_of c.args.state.now c.args.rx.now c.args.store.now) c.args.received.now c.loop-n.state c.loop-n.rx c.loop-n.store c.loop-n.n c.loop-n.at c.loop-n.places c.loop-n.invariant.4 c.loop-n.invariant.3
    (omega arith) c.dispatch_at-met.result _ _ _ c.dispatch_at-met.ensures (λ e. omega arith)

pub overflow_add-at : goal.overflow_add-at
overflow_add-at c =
    let g = telling-goes (world_of c.args.state.now c.args.rx.now c.args.store.now) c.args.received.now c.loop-n.state c.loop-n.rx c.loop-n.store c.loop-n.n c.loop-n.at c.loop-n.places c.loop-n.invariant.4 c.loop-n.invariant.3
    (omega arith) c.dispatch_at-met.result _ _ _ c.dispatch_at-met.ensures (omega arith) in
    let h = g.inside in
    search rules

pub loop-n-preserved : goal.loop-n-preserved
loop-n-preserved c = (
  search rules,
  search rules,
  search rules,
  search rules,
  telling-goes (world_of c.args.state.now c.args.rx.now c.args.store.now) c.args.received.now c.loop-n.state c.loop-n.rx c.loop-n.store c.loop-n.n c.loop-n.at c.loop-n.places c.loop-n.invariant.4 c.loop-n.invariant.3
      (omega arith) c.dispatch_at-met.result _ _ _ c.dispatch_at-met.ensures (omega arith),
)

pub returns : goal.returns
returns c =
    let all : c.loop-n.n ≡ 32 = omega arith in
    subst (λ (n : ℕ). Tells (world_of c.args.state.now c.args.rx.now c.args.store.now) c.args.received.now (record { count = n; number = 0 }) c.loop-n.places) all
    (telling-ends (world_of c.args.state.now c.args.rx.now c.args.store.now) c.args.received.now c.loop-n.state c.loop-n.rx c.loop-n.store c.loop-n.n c.loop-n.at c.loop-n.places c.loop-n.invariant.4 c.loop-n.invariant.3 (omega arith))
