-- Laws of the check. Assumes nothing.
use Rattle.std.proofs.Common.{◌≡◌, ℕ, ◌+◌, ◌*◌, ◌%◌, ◌^◌, ◌<◌, ◌≤◌, List, [], ◌∷◌, length, take, drop, refl, arith}
use Rattle.std.proofs.lemmas.Grind.{get_or_default_zero}
use Rattle.std.proofs.lemmas.List.Sums.{sum_by-take-drop, sum_by-le}
use Rattle.le.specs.Le.{Bytes}
use Rattle.checksum.specs.declared.Checksum.{Checksum}
use Rattle.checksum.specs.declared.Checksum.TheVariants.{Compute, Skip}
use Rattle.checksum.specs.Checksum.{total, sum_of, check_for}

-- the first n bytes and the rest, as two lists
pub cut_step : (l front back : List ℕ) (n : ℕ) → front ≡ take n l → back ≡ drop n l → total front + total back ≡ total l
unfolding total
cut_step l front back n f b = rw (f, b) (sum_by-take-drop (λ x. x) l n)

-- no bytes
pub total_none : (l : List ℕ) → length l ≡ 0 → total l ≡ 0
unfolding total
total_none [] h = refl
total_none (x ∷ l) h = absurd (omega arith)

-- each byte adds at most 255
pub total_bound : (l : List ℕ) → Bytes l → total l ≤ 255 * length l
unfolding total
total_bound l h = omega (arith, sum_by-le (λ x. x) 255 l (λ k d i. omega (arith, h k, get_or_default_zero l k d i)))

-- ---- the check

-- no run is summed yet
pub sum_none : (l : List ℕ) → (0 + total l) % 2 ^ 32 ≡ sum_of l
unfolding sum_of
sum_none l = omega arith

-- a check is a word of 32 bits
pub sum-small : (l : List ℕ) → sum_of l < 2 ^ 32
unfolding sum_of
sum-small l = omega arith

pub check-small : (k : Checksum) (l : List ℕ) → check_for k l < 2 ^ 32
unfolding check_for
check-small Compute l = sum-small l
check-small Skip l = omega arith
