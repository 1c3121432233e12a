use mathlib.Core.Path.{◌≡◌, ◌∙◌}
use lib.ListN.{length}
use borrow.Author.Rules.{rules}
use Rattle.call_answer.specs.Answer.{answer_bytes}
use Rattle.call_answer.proofs.AnswerLaws.{said-six}
use Rattle.call_answer.proofs.answered.Goals as goal

pub returns : goal.returns
unfolding answer_bytes
returns c =
    let n : length c.numbers_of.result ≡ 6 = search rules in
    (c.number.ensures, rw c.numbers_of.ensures at c.put.ensures.put, said-six _ _ n c.put.ensures.says ∙ c.numbers_of.ensures)
