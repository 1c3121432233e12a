-- What a credit's sign says, and the numbers of what is wrong with one. Assumes nothing.
use mathlib.Core.Path.{◌≡◌, refl, subst}
use mathlib.Core.Bool.{true, false}
use Prim.Native.Nat.{ℕ}
use native.Mathlib.Omega.{arith}
use lib.Dec.{T}
use lib.IntN.{ℤ, pos, negsuc}
use lib.Signed.{lt_z}
use borrow.Author.Tests.{ltb-true}
use Rattle.credit.specs.Credit.{at_least_zero, credit_fault_number}
use Rattle.credit.specs.declared.CreditFault.TheVariants.{Short, Long, Negative}
use Rattle.credit.specs.declared.CreditFault.{CreditFault}
use Rattle.std.specs.Prelude.{Ok, Err}

-- below 0: refused
pub below-zero : (z : ℤ) → lt_z z (pos 0) ≡ true → (Err Negative) ≡ at_least_zero z
unfolding at_least_zero
below-zero (pos n) t = absurd (omega (arith, ltb-true))
below-zero (negsuc n) t = refl

-- not below 0: the credit
pub not-below-zero : (z : ℤ) → lt_z z (pos 0) ≡ false → (Ok z) ≡ at_least_zero z
unfolding at_least_zero
not-below-zero (pos n) t = refl
not-below-zero (negsuc n) t = absurd (subst T t tt)

-- what holds of 5, 20 and 21 holds of a fault's number
pub by_number : (P : ℕ → Type 0) → P 5 → P 20 → P 21 → (f : CreditFault) → P (credit_fault_number f)
by_number P a b c Short = a
by_number P a b c Long = b
by_number P a b c Negative = c
