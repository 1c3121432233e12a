-- What a writer gives. Assumes nothing.
use Rattle.std.specs.Prelude.{ℕ, ◌≡◌, List, Result}
use Rattle.refusal.specs.declared.WriteError.{WriteError}
use Rattle.refusal.specs.declared.WriteError.TheVariants.{Refused, OutShort}

-- the number of a refusal to write: what the reader's has, 9 for want of room
abbrev pub write_refusal : {E : Type 0} → (E → ℕ) → WriteError E → ℕ
write_refusal number (Refused e) = number e
write_refusal number OutShort = 9

-- its answer, which is how many bytes it wrote or why it wrote none, and the outgoing bytes after it
pub record Composed (E : Type 0) : Type 0 where
  pub result : Result ℕ E
  pub out : List ℕ

-- what it promises: the definition's answer, and every byte of out
pub record Writes {E : Type 0} (o : Composed E) (r : Result ℕ E) (out : List ℕ) : Type 0 where
  pub result-is : r ≡ o.result
  pub out-is : out ≡ o.out
