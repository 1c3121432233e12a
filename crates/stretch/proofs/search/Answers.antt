use mathlib.Core.Path.{refl, sym, ◌∙◌}
use native.Mathlib.Omega.{arith}
use borrow.Author.Rules.{rules}
use Rattle.stretch.specs.Stretch.{world_of}
use Rattle.stretch.proofs.SearchLaws.{best-starts, best_takes, best-stays, best-is, inside-rest, run-from}
use Rattle.stretch.proofs.search.Goals.{then-is_shorter, else-is_shorter}
use Rattle.stretch.proofs.search.Goals as goal

pub loop-first-init : goal.loop-first-init
loop-first-init c = (refl, refl, omega arith, best-starts (world_of c.args.state.now c.args.rx.now c.args.store.now) c.args.received.now c.args.places.now c.args.number c.requires.refused c.requires.ends)

pub run-ran-requires : goal.run-ran-requires
run-ran-requires c = inside-rest c.args.received.now c.args.places.now c.loop-first.first c.requires.inside

pub loop-first-preserved : goal.loop-first-preserved
loop-first-preserved c =
    let ran =
    run-from _ c.args.state.now _ _ c.args.rx.now c.args.store.now c.args.received.now c.args.places.now c.loop-first.first c.run-ran.result
    refl (omega arith) (omega arith) c.fits-state (λ j. (c.type_inv.received j).fits) c.run-ran.ensures in
    elim c.if-is_shorter.branch [
      | then-is_shorter w ↦ (
        search rules,
        search rules,
        omega arith,
        rw w.best-is
            (best_takes (world_of c.args.state.now c.args.rx.now c.args.store.now) c.args.received.now c.args.places.now c.args.number c.requires.refused c.loop-first.best.first c.loop-first.best.count c.loop-first.first c.loop-first.invariant.3
            (omega arith) c.run-ran.result ran (sym c.is_shorter.ensures ∙ w.if-is_shorter.true)),
      )
      | else-is_shorter w ↦ (
        search rules,
        search rules,
        omega arith,
        rw w.best-is
            (best-stays (world_of c.args.state.now c.args.rx.now c.args.store.now) c.args.received.now c.args.places.now c.args.number c.requires.refused c.loop-first.best.first c.loop-first.best.count c.loop-first.first c.loop-first.invariant.3
            (omega arith) c.run-ran.result ran (sym c.is_shorter.ensures ∙ w.if-is_shorter.false)),
      )
    ]

pub returns : goal.returns
returns c = best-is (world_of c.args.state.now c.args.rx.now c.args.store.now) c.args.received.now c.args.places.now c.args.number c.requires.refused c.loop-first.best.first c.loop-first.best.count c.loop-first.first c.loop-first.invariant.3 (omega arith) (omega arith)
