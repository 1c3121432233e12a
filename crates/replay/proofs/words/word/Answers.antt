use Rattle.std.proofs.Common.{[], ◌∙◌, eqb, ap, Bor, List, ℕ, Option, unwrap_or, rules}
use borrow.Author.Tests.{tests}
use Rattle.std.proofs.lemmas.Iterator.Consumers.{nth_from_yields_List}
use Rattle.std.proofs.lemmas.Iterator.Splits.{YieldsList-from_slice_split}
use Rattle.replay.proofs.WordsLaws.{word-is, read-now}
use Rattle.replay.proofs.words.word.Goals as goal

pub returns : goal.returns
returns c =
    let s = c.split.ensures in
    let n = nth_from_yields_List c.nth.result _ c.args.k c.nth.ensures.ran (YieldsList-from_slice_split _ (λ b. eqb b 32) c.args.line.now s.rest s.done s.closure (λ x b q k. search (rules, tests))) in
    ap (λ (x : Bor (List ℕ)). x.now) c.unwrap_or.ensures ∙ read-now c.nth.result _ ∙ ap (λ (o : Option (List ℕ)). unwrap_or o []) n ∙ word-is c.args.line.now c.args.k
