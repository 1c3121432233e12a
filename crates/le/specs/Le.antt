-- Numbers as bytes, the low byte first, and parts of a list of bytes. Assumes nothing.
use Rattle.std.specs.Prelude.{ℕ, zero, suc, ◌+◌, ◌-◌, ◌*◌, ◌/◌, ◌%◌, ◌^◌, ◌<◌, cond, List, [], ◌∷◌, ◌++◌, ltb, ℤ, pos, negsuc, length, take, drop, get_or}

-- the number that the bytes of l stand for
unfoldable pub num_of : List ℕ → ℕ
num_of [] = 0
num_of (b ∷ l) = b + 256 * num_of l

-- the low k bytes of x
unfoldable pub bytes_of : ℕ → ℕ → List ℕ
bytes_of zero x = []
bytes_of (suc k) x = x % 256 ∷ bytes_of k (x / 256)

-- two's complement of k bits and a sign; `negsuc n` is -(n + 1)
unfoldable pub signed : ℕ → ℕ → ℤ
signed k v = cond (ltb v (2 ^ k)) (pos v) (negsuc (2 * 2 ^ k - 1 - v))

-- the k bits and the sign that stand for a number
unfoldable pub unsigned : ℕ → ℤ → ℕ
unsigned k (pos n) = n
unsigned k (negsuc n) = 2 * 2 ^ k - 1 - n

-- the n elements of l from place at
unfoldable pub part : List ℕ → ℕ → ℕ → List ℕ
part l at n = take n (drop at l)

-- d with s in the place of its elements from place at
unfoldable pub put : List ℕ → ℕ → List ℕ → List ℕ
put d at s = take at d ++ s ++ drop (at + length s) d

-- every element is a byte
abbrev pub Bytes : List ℕ → Type 0
Bytes l = (k : ℕ) → get_or l k 0 < 256
