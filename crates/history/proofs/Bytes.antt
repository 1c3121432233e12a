-- A caller's numbers stand for bytes, or for numbers of 32 bits. Assumes nothing.
use mathlib.Core.List.{List, [], ◌∷◌}
use Prim.Native.Nat.{ℕ, zero, suc, ◌^◌, ◌<◌}
use native.Mathlib.Omega.{arith}
use Rattle.le.specs.Le.{Bytes}
use Rattle.history.specs.Run.{bytes_in, word_in}

-- numbers as bytes are bytes
pub bytes-in : (l : List ℕ) → Bytes (bytes_in l)
unfolding bytes_in
bytes-in [] k = omega arith
bytes-in (x ∷ l) zero = omega arith
bytes-in (x ∷ l) (suc k) = bytes-in l k

-- and a number as one of 32 bits is one
pub word-in : (n : ℕ) → word_in n < 2 ^ 32
unfolding word_in
word-in n = omega arith
