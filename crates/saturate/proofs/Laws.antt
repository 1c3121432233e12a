-- Laws of sums that are held within 64 bits. Assumes nothing.
use mathlib.Core.Path.{◌≡◌, refl, ◌∙◌, ap, subst}
use mathlib.Core.Bool.{true, false}
use Prim.Native.Nat.{ℕ, zero, suc, ◌+◌, ◌≤◌, ◌<◌, ◌^◌}
use native.Mathlib.Omega.{arith}
use lib.Dec.{T}
use lib.IntN.{+ℤ_idl, ℤ, pos, negsuc, nat_abs, neg_ℤ, ◌+ℤ◌, ◌-ℤ◌}
use lib.Signed.{lt_z, mag}
use mir.Syntax.{w64}
use mir.Val.{SFits, to_z, of_z}
use mir.Facts.{to_z-of_z}
use borrow.Author.Tests.{ltb-true, ltb-false}
use Rattle.std.specs.Int.{saturate_signed, FitsUnsignedBits}
use Rattle.std.specs.Prelude.{Result, Ok, Err}
use Rattle.std.specs.Result.{OkIff, result_unwrap_or}
use Rattle.saturate.specs.Saturate.{clamp, sat_sum, positive_part}

-- the library's word for it
pub is-clamp : (z : ℤ) → saturate_signed w64 z ≡ clamp z
unfolding clamp
is-clamp (pos n) = refl
is-clamp (negsuc n) = refl

clamp-held : (z : ℤ) → SFits w64 (clamp z)
unfolding clamp
clamp-held (pos n) = record { sfits = omega arith }
clamp-held (negsuc n) = record { sfits = omega arith }

-- the library's sum of two numbers of 64 bits
pub held_sum : (a b r : ℤ) → SFits w64 a → SFits w64 b → r ≡ saturate_signed w64 (to_z w64 (of_z w64 a) +ℤ to_z w64 (of_z w64 b))
    → to_z w64 (of_z w64 r) ≡ clamp (a +ℤ b)
held_sum a b r fa fb e =
    let s = (rw (to_z-of_z fa, to_z-of_z fb) at e) ∙ is-clamp (a +ℤ b) in
    rw s (to_z-of_z (clamp-held (a +ℤ b)))

-- what is held and not above the least number is that number
least : (z : ℤ) → lt_z (negsuc 9223372036854775807) (clamp z) ≡ false → negsuc 9223372036854775807 ≡ clamp z
unfolding clamp
least (pos n) t = absurd (subst T t tt)
least (negsuc n) t = ap negsuc (omega (arith, ltb-true, ltb-false))

-- where the library's sum is at the low end, so is the sum
pub held_low : (a b r : ℤ) → SFits w64 a → SFits w64 b → r ≡ saturate_signed w64 (to_z w64 (of_z w64 a) +ℤ to_z w64 (of_z w64 b))
    → lt_z (negsuc 9223372036854775807) (to_z w64 (of_z w64 r)) ≡ false → negsuc 9223372036854775807 ≡ clamp (a +ℤ b)
held_low a b r fa fb e t = least (a +ℤ b) (rw (held_sum a b r fa fb e) at t)

-- the second is for a wrong program alone: with it, one that gives the least number at the low end is proved
pub ruleset sum_rules = (held_sum, held_low)

-- what is held fits
pub held_fits : (z : ℤ) → mag (clamp z) < 2 ^ 63
unfolding clamp
held_fits (pos n) = omega arith
held_fits (negsuc n) = omega arith

-- a number below 2 ^ 63, negated
pub zero-sub : (z : ℤ) → pos 0 -ℤ z ≡ neg_ℤ z
zero-sub z = +ℤ_idl (neg_ℤ z)

pub neg-fits : (n : ℕ) → n < 2 ^ 63 → SFits w64 (neg_ℤ (pos n))
neg-fits zero h = record { sfits = omega arith }
neg-fits (suc n) h = record { sfits = omega arith }

-- std's conversion to a number with no sign fails below 0, and then 0 stands
pub positive_is : {E : Type 0} (b : ℤ) (r : Result ℕ E) → SFits w64 b → OkIff r (FitsUnsignedBits 64 b) (nat_abs b) → result_unwrap_or r 0 ≡ positive_part b
unfolding positive_part
positive_is (pos n) (Ok x) f e = e.1
positive_is (pos n) (Err x) f e = absurd (e (omega (arith, f.sfits)))
positive_is (negsuc n) (Ok x) f e = absurd e.0
positive_is (negsuc n) (Err x) f e = refl

-- a sum that stops is at least either part, where they are of 64 bits
pub sum-grows : (a b : ℕ) → a < 2 ^ 64 → a ≤ sat_sum a b
unfolding sat_sum
sum-grows a b h = omega arith

pub sum-exact : (a b : ℕ) → a + b < 2 ^ 64 → sat_sum a b ≡ a + b
unfolding sat_sum
sum-exact a b h = omega arith
