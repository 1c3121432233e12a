use Rattle.std.proofs.Common.{◌≡◌, true, false, rules, arith}
use borrow.Author.Tests.{tests}
use Rattle.std.proofs.lemmas.Iterator.{first_from_Range}
use Rattle.features.specs.Features.{named}
use Rattle.features.proofs.FeaturesLaws.{first-named}
use Rattle.features.proofs.find_name.Goals as goal

pub returns : goal.returns
returns c =
    let t = c.args.banner.now in
    let f = first-named t _ c.find.result (omega arith) (omega arith)
    (first_from_Range _ _ _ _ (λ i. named t i ≡ true) (λ i. named t i ≡ false) c.find.ensures.ran (λ x q k. search (rules, tests)) (λ x q k. search (rules, tests))) in
    record { in_bounds = f.0; list = f.1 }
