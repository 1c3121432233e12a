-- Sums that stop at the ends of a range. `pos n` is n and `negsuc n` is -(n + 1), so both ends of 64 bits with a sign are
-- n = 2 ^ 63 - 1. Assumes nothing.
use Rattle.std.specs.Prelude.{ℕ, ◌+◌, min, ℤ, pos, negsuc}

-- the nearest number of 64 bits with a sign
unfoldable pub clamp : ℤ → ℤ
clamp (pos n) = pos (min n 9223372036854775807)
clamp (negsuc n) = negsuc (min n 9223372036854775807)

-- a + b, or the largest number of 64 bits
unfoldable pub sat_sum : ℕ → ℕ → ℕ
sat_sum a b = min (a + b) 0xffff_ffff_ffff_ffff

-- a number where it is above 0, or 0
unfoldable pub positive_part : ℤ → ℕ
positive_part (pos n) = n
positive_part (negsuc n) = 0
