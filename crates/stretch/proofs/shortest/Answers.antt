use mathlib.Core.Path.{refl, sym, ◌∙◌}
use lib.ListN.{length-take}
use native.Mathlib.Omega.{arith}
use Rattle.stretch.proofs.SearchLaws.{told-few, none_found, search-asks, found-is}
use borrow.Author.Rules.{rules}
use Rattle.stretch.proofs.shortest.Goals as goal

pub slice_bounds-places-end : goal.slice_bounds-places-end
slice_bounds-places-end c = let h = told-few _ _ c.tell-told.result _ c.tell-told.ensures in search rules

pub slice_bounds-search-end : goal.slice_bounds-search-end
slice_bounds-search-end c = let h = told-few _ _ c.tell-told.result _ c.tell-told.ensures in simp length-take (omega arith)

pub search-requires : goal.search-requires
search-requires c =
    search-asks _ c.args.state.now c.args.rx.now c.args.store.now c.args.received.now _ c.tell-told.result
    refl c.tell-told.ensures
    _ _ (omega arith) (omega arith) c.fits-state (λ j. (c.type_inv.received j).fits) (sym c.is_counted.ensures ∙ c.if-is_counted.true)

pub returns-then-is_counted : goal.returns-then-is_counted
returns-then-is_counted c =
    found-is _ c.args.state.now c.args.rx.now c.args.store.now c.args.received.now _ c.tell-told.result
    refl c.tell-told.ensures
    _ _ (omega arith) (omega arith) c.fits-state (λ j. (c.type_inv.received j).fits) (sym c.is_counted.ensures ∙ c.if-is_counted.true) _ c.search.ensures

pub returns : goal.returns
returns c =
    none_found _ c.args.state.now c.args.rx.now c.args.store.now c.args.received.now _ c.tell-told.result
    refl c.tell-told.ensures
    (sym c.is_counted.ensures ∙ c.if-is_counted.false)
