use Rattle.std.proofs.Common.{eqb, rules}
use borrow.Author.Tests.{tests}
use Rattle.std.specs.Str.{bytes_eq}
use Rattle.std.proofs.lemmas.Iterator.Search.{any_from_yields_List}
use Rattle.std.proofs.lemmas.Iterator.Splits.{YieldsList-from_slice_split}
use Rattle.features.specs.Features.{comma, any_same, parts_of}
use Rattle.features.proofs.any_part.Goals as goal

pub returns : goal.returns
unfolding any_same parts_of
returns c =
    let s = c.split.ensures in
    any_from_yields_List (λ p. bytes_eq p c.args.name.now) _ _ _ c.any.ensures.ran
    (YieldsList-from_slice_split _ (λ b. eqb b comma) c.args.list.now s.rest s.done s.closure (λ x b q k. search (rules, tests)))
    (λ x b q k. search (rules, tests))
