-- Text that is put into lent bytes, and numbers and bytes as text. Assumes nothing.
use Rattle.std.specs.Prelude.{ℕ, zero, suc, ◌+◌, ◌-◌, ◌/◌, ◌≡◌, cond, List, [], ◌∷◌, ◌++◌, ltb, ℤ, pos, negsuc, length, take}
use Rattle.io.specs.Digits.{last_digits}
use Rattle.le.specs.Le.{put}

-- as much of s as d has room for from place at
unfoldable pub fitting : List ℕ → ℕ → List ℕ → List ℕ
fitting d at s = take (length d - at) s

-- e is d with as much of s as fits from place at, and end is where that ends
pub record Puts (d : List ℕ) (at : ℕ) (s e : List ℕ) (end : ℕ) : Type 0 where
  pub line-is : e ≡ put d at (fitting d at s)
  pub end_is : end ≡ at + length (fitting d at s)

-- how many decimal digits n has, counted by at most f divisions
unfoldable pub places : ℕ → ℕ → ℕ
places zero n = 1
places (suc f) n = cond (ltb n 10) 1 (suc (places f (n / 10)))

-- a number in decimal
unfoldable pub decimal_of : ℕ → List ℕ
decimal_of n = last_digits 10 (places n n) n

-- a number in decimal, behind a minus where it is below 0
unfoldable pub signed_text : ℤ → List ℕ
signed_text (pos n) = decimal_of n
signed_text (negsuc n) = 45 ∷ decimal_of (suc n)

-- two hexadecimal digits for each byte
unfoldable pub hex_of : List ℕ → List ℕ
hex_of [] = []
hex_of (b ∷ s) = last_digits 16 2 b ++ hex_of s

-- the same, "-" for no byte
unfoldable pub hex_text : List ℕ → List ℕ
hex_text [] = 45 ∷ []
hex_text (b ∷ s) = hex_of (b ∷ s)
