use Rattle.std.proofs.Common.{◌≡◌, true, false, arith, rules, tests}
use Rattle.std.proofs.lemmas.Iterator.{first_from_Range}
use Rattle.state.specs.State.{slot_at}
use Rattle.table.specs.Table.{wanted_by}
use Rattle.table.proofs.Laws.{found-below}
use Rattle.table.proofs.place_below.Goals as goal

pub returns : goal.returns
returns c =
    let w = c.args.want in
    let b = c.args.state.now in
    found-below w b c.args.n (omega arith) c.find.result
    (first_from_Range _ _ _ _ (λ i. wanted_by w (slot_at b i) ≡ true) (λ i. wanted_by w (slot_at b i) ≡ false) c.find.ensures.ran
    (λ x q k. search (rules, tests))
    (λ x q k. (search rules, search (rules, tests))))
