-- Laws of a table of names. Assumes nothing.
use Rattle.std.proofs.Common.{◌≡◌, refl, sym, true, false, List, [], ◌∷◌, Option, Some, None, ℕ, zero, suc, ◌+◌, ◌-◌, ◌≤◌, ◌<◌, eqb, length, get_or, MatchOption, arith}
use borrow.Author.Tests.{eqb-true, eqb-false}
use Rattle.le.proofs.Parts.{by-test}
use Rattle.names.specs.Names.{starts, named_at, place_from, ends_in_zero}

-- it stands at none of `n` places
place-none : (t name : List ℕ) (at n : ℕ) → ((k : ℕ) → at ≤ k → k < at + n → named_at t name k ≡ false) → place_from t name at n ≡ None
unfolding place_from
place-none t name at zero h = refl
place-none t name at (suc n) h = rw (h at (omega arith) (omega arith)) (place-none t name (suc at) n (λ k a b. h k (omega arith) (omega arith)))

-- it stands at one of them, and at none before
place_found : (t name : List ℕ) (at n i : ℕ) → at ≤ i → i < at + n → named_at t name i ≡ true → ((k : ℕ) → at ≤ k → k < i → named_at t name k ≡ false)
    → place_from t name at n ≡ Some i
unfolding place_from
place_found t name at zero i h k e f = absurd (omega arith)
place_found t name at (suc n) i h k e f =
    by-test (eqb at i)
    (λ q. let same : at ≡ i = eqb-true at i q in rw (same, e))
    (λ q. let below : at < i = omega (arith, eqb-false at i q) in
    rw (f at (omega arith) below) (place_found t name (suc at) n i (omega arith) (omega arith) e (λ j a b. f j (omega arith) b)))

-- what std's `find` answers, over every place
pub first-stands : (t name : List ℕ) (r : Option ℕ)
    → MatchOption r ((k : ℕ) → 0 ≤ k → k < length t → named_at t name k ≡ false)
    (λ i. (0 ≤ i) × (i < length t) × (named_at t name i ≡ true) × ((k : ℕ) → 0 ≤ k → k < i → named_at t name k ≡ false))
    → r ≡ place_from t name 0 (length t)
first-stands t name None h = sym (place-none t name 0 (length t) (λ k a b. h k a (omega arith)))
first-stands t name (Some i) h = sym (place_found t name 0 (length t) i h.0 (omega arith) h.2 h.3)

-- ---- where a name begins

pub start-first : (t : List ℕ) (at : ℕ) → at ≡ 0 → true ≡ starts t at
unfolding starts
start-first t at h = rw h

pub start-later : (t : List ℕ) (at : ℕ) → 0 < at → eqb (get_or t (at - 1) 0) 0 ≡ starts t at
unfolding starts
start-later t zero h = absurd (omega arith)
start-later t (suc i) h = let m : suc i - 1 ≡ i = omega arith in rw m

-- ---- the end of a text

-- one that ends in a zero byte is not empty
pub ends-long : (t : List ℕ) → ends_in_zero t ≡ true → 1 ≤ length t
unfolding ends_in_zero
ends-long [] h = cc
ends-long (b ∷ t) h = omega arith

-- ---- for the functions

pub ruleset start_rules = (start-first, start-later)

pub ruleset end_rules = ends-long
