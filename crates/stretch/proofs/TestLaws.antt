-- The two tests of numbers. Assumes nothing.
use mathlib.Core.Path.{◌≡◌, refl, ◌∙◌}
use mathlib.Core.Bool.{true, false}
use Prim.Native.Nat.{ℕ, ◌<◌}
use native.Mathlib.Omega.{arith}
use lib.Dec.{ltb}
use borrow.Author.Tests.{lt-ltb, ltb-true, ltb-false}
use Rattle.le.proofs.Parts.{by-test}
use Rattle.le.proofs.RowLaws.{never}
use Rattle.stretch.specs.Stretch.{is_counted}

module _ (x : ℕ) where
  pub counted_none : x < 1 → false ≡ is_counted x
  unfolding is_counted
  counted_none h = rw (lt-ltb x 1 h) refl

  pub counted-some : is_counted x ≡ true → 0 < x
  unfolding is_counted
  counted-some e = by-test (ltb x 1) (λ t. absurd (no t e)) (λ t. omega (arith, ltb-false x 1 t))
    where
      no : ltb x 1 ≡ true → is_counted x ≡ true → ⊥
      no t e = never (counted_none (ltb-true x 1 t) ∙ e)
