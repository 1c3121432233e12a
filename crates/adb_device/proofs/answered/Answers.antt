use mathlib.Core.Path.{◌≡◌, ◌∙◌}
use lib.ListN.{length}
use borrow.Author.Rules.{rules}
use Rattle.adb_device.specs.Export.{device_bytes}
use Rattle.call_answer.proofs.AnswerLaws.{said-six}
use Rattle.adb_device.proofs.answered.Goals as goal

pub returns : goal.returns
unfolding device_bytes
returns c =
    let n : length c.device_numbers.result ≡ 6 = search rules in
    (c.number_of.ensures, rw c.device_numbers.ensures at c.put.ensures.put, said-six _ _ n c.put.ensures.says ∙ c.device_numbers.ensures)
