use Rattle.std.proofs.Common.{◌≡◌, true, false, rules}
use borrow.Author.Tests.{tests}
use Rattle.std.proofs.lemmas.Iterator.{first_from_Range}
use Rattle.names.specs.Names.{named_at}
use Rattle.names.proofs.NamesLaws.{first-stands}
use Rattle.names.proofs.place.Goals as goal

pub returns : goal.returns
unfolding named_at
returns c =
    let t = c.args.names.now in
    let n = c.args.name.now in
    first-stands t n c.find.result
    (first_from_Range _ _ _ _ (λ i. named_at t n i ≡ true) (λ i. named_at t n i ≡ false) c.find.ensures.ran (λ x q k. search (rules, tests)) (λ x q k. search (rules, tests)))
