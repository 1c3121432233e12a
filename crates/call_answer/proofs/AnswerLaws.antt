-- An answer's bytes, read back. Assumes nothing.
use Rattle.std.proofs.Common.{◌≡◌, sym, ap, ◌∙◌, List, ℕ, length}
use Rattle.le.specs.Le.{num_of}
use Rattle.le.specs.Rows.{rows}
use Rattle.call_answer.specs.Answer.{said_in}

-- six numbers, read back as rows, are what the answer says
pub said-six : (d numbers : List ℕ) → length numbers ≡ 6 → rows 8 num_of (length numbers) d ≡ numbers → said_in d ≡ numbers
unfolding said_in
said-six d numbers n e = ap (λ (k : ℕ). rows 8 num_of k d) (sym n) ∙ e
