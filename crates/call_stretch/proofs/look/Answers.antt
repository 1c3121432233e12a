use native.Mathlib.Omega.{arith}
use mathlib.Core.Path.{◌≡◌, refl, sym, ◌∙◌}
use Rattle.std.specs.Prelude.{Ok, Some}
use lib.ListN.{length-take}
use Rattle.call_stretch.specs.Promise.{own_bytes}
use Rattle.call_stretch.proofs.LookLaws.{both_long, look-short, look-found}
use borrow.Author.Rules.{rules}
use Rattle.call_stretch.proofs.look.Goals as goal

pub returns-then-is_spare_short : goal.returns-then-is_spare_short
returns-then-is_spare_short c = look-short c.args.state.now c.args.received.now c.args.spare_rx.now c.args.spare_store.now c.args.rx c.args.store (sym c.is_spare_short.ensures ∙ c.if-is_spare_short.true)

pub slice_bounds-shortest-end : goal.slice_bounds-shortest-end
slice_bounds-shortest-end c = let k = both_long c.args.rx c.args.store _ _ (sym c.is_spare_short.ensures ∙ c.if-is_spare_short.false) in k.0

pub slice_bounds-shortest-end-2 : goal.slice_bounds-shortest-end-2
slice_bounds-shortest-end-2 c = let k = both_long c.args.rx c.args.store _ _ (sym c.is_spare_short.ensures ∙ c.if-is_spare_short.false) in simp length-take (omega arith)

pub slice_bounds-shortest-end-3 : goal.slice_bounds-shortest-end-3
slice_bounds-shortest-end-3 c = let k = both_long c.args.rx c.args.store _ _ (sym c.is_spare_short.ensures ∙ c.if-is_spare_short.false) in k.1

pub slice_bounds-shortest-end-4 : goal.slice_bounds-shortest-end-4
slice_bounds-shortest-end-4 c = let k = both_long c.args.rx c.args.store _ _ (sym c.is_spare_short.ensures ∙ c.if-is_spare_short.false) in simp length-take (omega arith)

pub returns : goal.returns
returns c =
    let is : c.first_chunk.result ≡ Some c.unwrap.result = search rules in
    let own : c.unwrap.result.now ≡ own_bytes c.args.state.now = (rw is at c.first_chunk.ensures.cases).same in
    look-found c.args.state.now c.args.received.now c.args.spare_rx.now c.args.spare_store.now c.args.rx c.args.store c.shortest-found.result (Ok c.shortest-found.result) c.shortest-found.new.rx c.shortest-found.new.store
    (sym c.is_spare_short.ensures ∙ c.if-is_spare_short.false) (λ j. (c.type_inv.state j).fits) (λ j. (c.type_inv.received j).fits) (rw own at c.shortest-found.ensures) refl (search rules) (search rules)
