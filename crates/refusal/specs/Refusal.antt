-- The numbers of answers. Assumes nothing.
use Rattle.std.specs.Prelude.{ℕ, Option, Some, None, Result, Ok, Err}

-- what there is, or the number of nothing
abbrev pub there_number_of : {T : Type 0} → ℕ → Option T → ℕ
there_number_of nothing (Some x) = 0
there_number_of nothing None = nothing

module _ {T E : Type 0} where
  -- a refusal's own number, 0 where there is none
  abbrev pub number_of : (E → ℕ) → Result T E → ℕ
  number_of number (Ok x) = 0
  number_of number (Err e) = number e

  -- a refusal's own number, and a number where there is nothing
  abbrev pub found_number_of : (E → ℕ) → ℕ → Result (Option T) E → ℕ
  found_number_of number nothing (Ok found) = there_number_of nothing found
  found_number_of number nothing (Err e) = number e

  -- 100 where more bytes are waited for
  abbrev pub read_number_of : (E → ℕ) → Result (Option T) E → ℕ
  read_number_of number = found_number_of number 100
