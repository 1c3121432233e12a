use Rattle.std.proofs.Common.{arith, eqb, rules}
use borrow.Author.Tests.{tests}
use Rattle.std.proofs.lemmas.Iterator.{YieldsList-from_slice}
use Rattle.std.proofs.lemmas.Iterator.Search.{position_from_yields_List}
use Rattle.replay.proofs.WordsLaws.{find-in}
use Rattle.replay.proofs.scan.find.Goals as goal

pub returns : goal.returns
returns c =
    let a = c.args in
    let p = position_from_yields_List (λ b. eqb b a.byte) _ _ _ c.position.ensures.ran (YieldsList-from_slice _ c.iter.ensures.rest) (λ x b q k. search (rules, tests)) in
    find-in a.s.now a.at a.end a.byte c.position.result c.unwrap_or.result (omega arith) (omega arith) p c.unwrap_or.ensures
