-- Where the two readings do not differ, what is proved of ours holds of libadb's, and only there. Assumes nothing.
use mathlib.Core.Path.{◌≡◌, refl, sym}
use mathlib.Core.Bool.{Bool, true, false, xor}
use mathlib.Core.List.{List}
use Prim.Native.Nat.{ℕ}
use Rattle.features.specs.Features.{has_feature}
use Rattle.features.specs.Differ.{first_reading, differs}

-- two tests that do not differ are equal
xor-false : (a b : Bool) → xor a b ≡ false → a ≡ b
unfolding xor
xor-false true true h = refl
xor-false true false h = h
xor-false false true h = sym h
xor-false false false h = refl

-- and equal ones do not differ
eq-xor : (a b : Bool) → a ≡ b → xor a b ≡ false
unfolding xor
eq-xor true true h = refl
eq-xor true false h = h
eq-xor false true h = sym h
eq-xor false false h = refl

module _ (text name : List ℕ) where
  -- no difference: the readings agree
  pub agrees : differs text name ≡ false → has_feature text name ≡ first_reading text name
  unfolding differs
  agrees h = xor-false (has_feature text name) (first_reading text name) h

  -- they agree: no difference
  pub agreed : has_feature text name ≡ first_reading text name → differs text name ≡ false
  unfolding differs
  agreed h = eq-xor (has_feature text name) (first_reading text name) h
