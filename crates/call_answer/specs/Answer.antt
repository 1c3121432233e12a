-- What a call's answer says to C, as numbers and as bytes (docs/LAYOUT.md, "The answer"). Assumes nothing.
use Rattle.std.specs.Prelude.{ℕ, List, ◌∷◌}
use Rattle.le.specs.Le.{num_of, bytes_of}
use Rattle.le.specs.Rows.{flat, rows}
use Rattle.connection.specs.declared.Answer.{Answer}
use Rattle.connection.specs.Answer.{answer_values}

-- an answer's six numbers: used, written, then the answer's four values
abbrev pub numbers_of : ℕ → ℕ → Answer → List ℕ
numbers_of used written a = used ∷ written ∷ answer_values a

-- its 48 bytes
unfoldable pub answer_bytes : ℕ → ℕ → Answer → List ℕ
answer_bytes used written a = flat (bytes_of 8) (numbers_of used written a)

-- the six numbers that an answer's bytes say
unfoldable pub said_in : List ℕ → List ℕ
said_in answer = rows 8 num_of 6 answer
