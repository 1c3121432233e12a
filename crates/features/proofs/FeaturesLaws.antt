-- Laws of equal texts, of a text's colons and properties, of the name in it and of its parts. Assumes nothing.
use Rattle.std.proofs.Common.{◌≡◌, refl, sym, ap, ◌∙◌, Bool, true, false, ◌&&◌, ◌||◌, List, [], ◌∷◌, Option, Some, None, ℕ, zero, suc, ◌+◌, ◌-◌, ◌≤◌, ◌<◌, eqb, ltb, length, take, drop, get_or, MatchOption, IfSome, option_map, option_copied, Bor, arith, length-take, length-drop, take_all}
use native.Mathlib.Nat.{suc-sub-suc, sub-zero}
use lib.Dec.{eqb-zero-suc, eqb-suc-zero, eqb-suc-suc, leb-suc-suc, leb-suc-zero, leb-zero}
use borrow.Author.Tests.{eqb-true, eqb-false, eq-eqb, ne_eqb, ltb-true, ltb-false}
use Rattle.std.specs.List.{position, position_or_len}
use Rattle.std.specs.Option.{option_eq}
use Rattle.std.specs.Str.{bytes_eq}
use Rattle.std.proofs.lemmas.Slice.Eq.{bytes_eq-Decides}
use Rattle.std.proofs.lemmas.Slice.{between_to_end}
use Rattle.le.proofs.Parts.{by-test}
use Rattle.features.specs.Features.{colon, semicolon, features_name, same_bytes, colons_in, colon_after, begins, named, after_name, first_part, parts_of, any_same, listed, has_feature, Behind}

-- ---- equal texts

-- the order of the two does not matter
pub same-sym : (a b : List ℕ) → same_bytes a b ≡ same_bytes b a
unfolding same_bytes
same-sym [] [] = refl
same-sym [] (y ∷ ys) = refl
same-sym (x ∷ xs) [] = refl
same-sym (x ∷ xs) (y ∷ ys) = rw (same-sym xs ys) (ap (λ (t : Bool). t && same_bytes ys xs) (swapped x y))
  where
    swapped : (m n : ℕ) → eqb m n ≡ eqb n m
    swapped m n = by-test (eqb n m) (λ t. rw t (eq-eqb m n (sym (eqb-true n m t)))) (λ t. rw t (ne_eqb m n (λ e. eqb-false n m t (sym e))))

-- texts of different lengths are not equal
same_length : (a b : List ℕ) → (length a ≡ length b → ⊥) → same_bytes a b ≡ false
unfolding same_bytes
same_length a b h = by-test (same_bytes a b) (λ t. absurd (h (ap length ((bytes_eq-Decides a b).0 t)))) (λ t. t)

-- ---- the first place of a byte

-- a first part ends at the first `cut`, or with the text
place-is : (cut : ℕ) (t : List ℕ) → position_or_len (λ b. eqb b cut) t ≡ length (first_part cut t)
unfolding first_part
place-is cut [] = refl
place-is cut (b ∷ t) = by-test (eqb b cut) (λ c. rw c) (λ c. let r = place-is cut t in rw c (omega arith))

-- a first part is the text up to its length
part-take : (cut : ℕ) (t : List ℕ) → take (length (first_part cut t)) t ≡ first_part cut t
unfolding first_part
part-take cut [] = refl
part-take cut (b ∷ t) = by-test (eqb b cut) (λ c. rw c) (λ c. rw c (ap (λ (x : List ℕ). b ∷ x) (part-take cut t)))

module _ (cut : ℕ) (t : List ℕ) where
  found : (i : ℕ) → position (λ b. eqb b cut) t ≡ Some i → (i ≡ length (first_part cut t)) × (i < length t)
  found i h =
      let n = position_or_len (λ b. eqb b cut) t in
      let e = place-is cut t in
      by-test (ltb n (length t))
      (λ c. let q : Some n ≡ Some i = rw c at h in let p : i ≡ n = cc in (cc, omega (arith, ltb-true)))
      (λ c. let q : None ≡ Some i = rw c at h in cc)

  not-found : position (λ b. eqb b cut) t ≡ None → length t ≤ length (first_part cut t)
  not-found h =
      let n = position_or_len (λ b. eqb b cut) t in
      let e = place-is cut t in
      by-test (ltb n (length t))
      (λ c. let q : Some n ≡ None = rw c at h in cc)
      (λ c. omega (arith, ltb-false n (length t) c))

  pub part-found : (i : ℕ) → position (λ b. eqb b cut) t ≡ Some i → take i t ≡ first_part cut t
  part-found i h = rw ((found i h).0) (part-take cut t)

  pub part-all : position (λ b. eqb b cut) t ≡ None → t ≡ first_part cut t
  part-all h = sym (take_all _ t (not-found h)) ∙ part-take cut t

-- ---- colons

-- a test that fails, last
and-false : (t : Bool) → (t && false) ≡ false
and-false true = refl
and-false false = refl

-- no colon: none stands at any place
colon-none : (t : List ℕ) (k i : ℕ) → length t ≤ length (first_part colon t) → colon_after k t i ≡ false
unfolding colon_after colons_in first_part
colon-none [] k i h = refl
colon-none (b ∷ t) k zero h =
    by-test (eqb b colon)
    (λ c. absurd (let z = rw c at h in omega arith))
    (λ c. rw c)
colon-none (b ∷ t) k (suc i) h =
    by-test (eqb b colon)
    (λ c. absurd (let z = rw c at h in omega arith))
    (λ c. let z = rw c at h in rw c (colon-none t k i (omega arith)))

-- the first colon ends the first part
colon-first : (t : List ℕ) (i : ℕ) → length (first_part colon t) < length t → colon_after 0 t i ≡ eqb i (length (first_part colon t))
unfolding colon_after colons_in first_part
colon-first [] i h = absurd (omega arith)
colon-first (b ∷ t) zero h =
    by-test (eqb b colon)
    (λ c. rw c)
    (λ c. rw (c, eqb-zero-suc))
colon-first (b ∷ t) (suc i) h =
    by-test (eqb b colon)
    (λ c. rw c (simp eqb-suc-zero (and-false (eqb (get_or t i 0) colon))))
    (λ c. let z = rw c at h in rw (c, eqb-suc-suc) (colon-first t i (omega arith)))

-- one more colon before a place: it stands behind the first, and the rest has one fewer
colon-next : (t : List ℕ) (k i : ℕ) → length (first_part colon t) < length t
    → colon_after (suc k) t i ≡ (ltb (length (first_part colon t)) i && colon_after k (drop (suc (length (first_part colon t))) t) (i - suc (length (first_part colon t))))
unfolding colon_after colons_in first_part
colon-next [] k i h = absurd (omega arith)
colon-next (b ∷ t) k zero h =
    by-test (eqb b colon)
    (λ c. rw (c, eqb-zero-suc))
    (λ c. rw (c, leb-suc-zero))
colon-next (b ∷ t) k (suc i) h =
    by-test (eqb b colon)
    (λ c. rw (c, eqb-suc-suc, leb-suc-suc, leb-zero, suc-sub-suc, sub-zero))
    (λ c. let z = rw c at h in rw (c, leb-suc-suc, suc-sub-suc) (colon-next t k i (omega arith)))

-- place `e` of what lies behind `d` bytes and one more, as a place of the whole
behind-place : (d e i n : ℕ) → n ≡ suc d + e → (ltb d i && eqb (i - suc d) e) ≡ eqb (suc i) (n + 1)
behind-place d e i n s =
    by-test (ltb d i)
    (λ l. rw l (by-test (eqb (i - suc d) e) (λ q. rw q (sym (both l q))) (λ q. rw q (sym (other l q)))))
    (λ l. rw l (sym (ne_eqb (suc i) (n + 1) (λ r. omega (arith, ltb-false)))))
  where
    both : ltb d i ≡ true → eqb (i - suc d) e ≡ true → eqb (suc i) (n + 1) ≡ true
    both l q = eq-eqb (suc i) (n + 1) (omega (arith, ltb-true, eqb-true))

    other : ltb d i ≡ true → eqb (i - suc d) e ≡ false → eqb (suc i) (n + 1) ≡ false
    other l q = ne_eqb (suc i) (n + 1) (λ r. eqb-false (i - suc d) e q (omega (arith, ltb-true)))

-- not one colon
pub behind-none : (t : List ℕ) → position (λ b. eqb b colon) t ≡ None → Behind t None
behind-none t h i = colon-none t 1 i (not-found colon t h)

-- a first colon at `first`
module _ (t : List ℕ) (first : ℕ) (f : position (λ b. eqb b colon) t ≡ Some first) where
  -- what follows it, as the call that looks for the second is lent it
  abbrev rest : List ℕ
  rest = take (length t - (first + 1)) (drop (first + 1) t)

  rest-is : rest ≡ drop (suc (length (first_part colon t))) t
  rest-is =
      let p = found colon t first f in
      let e : first + 1 ≡ suc (length (first_part colon t)) = omega arith in
      between_to_end t (first + 1) (length t) (omega arith) ∙ ap (λ (n : ℕ). drop n t) e

  -- with no second
  pub behind-one : position (λ b. eqb b colon) rest ≡ None → Behind t None
  behind-one s i =
      let p = found colon t first f in
      let d = length (first_part colon t) in
      let n = colon-none (drop (suc d) t) 0 (i - suc d) (not-found colon _ (rw rest-is at s)) in
      colon-next t 0 i (omega arith) ∙ rw n (and-false (ltb d i))

  -- with a second, `second` bytes behind it
  pub behind-two : (second : ℕ) → position (λ b. eqb b colon) rest ≡ Some second → Behind t (Some (first + 1 + (second + 1)))
  behind-two second s i =
      let p = found colon t first f in
      let d = length (first_part colon t) in
      let q = found colon (drop (suc d) t) second (rw rest-is at s) in
      let n = colon-first (drop (suc d) t) (i - suc d) (omega arith) in
      let e : first + 1 + (second + 1) ≡ (suc d + second) + 1 = omega arith in
      colon-next t 0 i (omega arith) ∙ rw (n, e) (behind-place d (length (first_part colon (drop (suc d) t))) i (suc d + second) (omega arith))

-- ---- where a property begins

module _ (t : List ℕ) (at : ℕ) (start : Option ℕ) where
  pub begins-none : at ≤ 0 → begins t at ≡ false
  unfolding begins
  begins-none h = let e : at ≡ 0 = omega arith in rw e

-- behind the second colon
pub begins-start : (t : List ℕ) (at : ℕ) (start : Option ℕ) → Behind t start → 0 < at → option_eq eqb start (Some at) ≡ true → begins t at ≡ true
unfolding begins
begins-start t zero start b h e = absurd (omega arith)
begins-start t (suc i) None b h e = cc
begins-start t (suc i) (Some s) b h e = rw (b i, eqb-true s (suc i) e, eq-eqb (suc i) (suc i) refl) (or-true (eqb (get_or t i 0) semicolon))
  where
    or-true : (t : Bool) → (t || true) ≡ true
    or-true true = refl
    or-true false = refl

or-false : (t : Bool) → t ≡ (t || false)
or-false true = refl
or-false false = refl

-- and elsewhere behind a semicolon
pub begins-other : (t : List ℕ) (at : ℕ) (start : Option ℕ) → Behind t start → 0 < at → option_eq eqb start (Some at) ≡ false
    → eqb (get_or t (at - 1) 0) semicolon ≡ begins t at
unfolding begins
begins-other t zero start b h e = absurd (omega arith)
begins-other t (suc i) None b h e = let m : suc i - 1 ≡ i = omega arith in rw (b i, m) (or-false (eqb (get_or t i 0) semicolon))
begins-other t (suc i) (Some s) b h e =
    let m : suc i - 1 ≡ i = omega arith in
    rw (b i, ne_eqb (suc i) s (λ q. eqb-false s (suc i) e (sym q)), m) (or-false (eqb (get_or t i 0) semicolon))

-- ---- the name

-- where a property begins the name is compared
pub named-beginning : (t : List ℕ) (at : ℕ) → begins t at ≡ true → bytes_eq features_name (take 9 (drop at t)) ≡ named t at
unfolding named same_bytes
named-beginning t at b = rw b (same-sym features_name (take 9 (drop at t)))

-- the same of the bytes that stand there
pub named-same : (t : List ℕ) (at : ℕ) → begins t at ≡ true → bytes_eq (take (at + 9 - at) (drop at t)) features_name ≡ named t at
unfolding named same_bytes
named-same t at b = let e : at + 9 - at ≡ 9 = omega arith in rw (b, e) refl

-- elsewhere it does not count
pub named-inside : (t : List ℕ) (at : ℕ) → begins t at ≡ false → named t at ≡ false
unfolding named
named-inside t at b = rw b

-- fewer than nine bytes do not hold the name
named-short : (t : List ℕ) (at : ℕ) → length t < at + 9 → named t at ≡ false
unfolding named
named-short t at h =
    let n : length (take 9 (drop at t)) ≡ length features_name → ⊥ = λ e. omega (arith, length-take 9 (drop at t), length-drop at t) in
    rw (same_length (take 9 (drop at t)) features_name n) (and-false (begins t at))

named-long : (t : List ℕ) (at : ℕ) → named t at ≡ true → at + 9 ≤ length t
named-long t at h = by-test (ltb (length t) (at + 9)) (λ l. absurd (let e = named-short t at (ltb-true _ _ l) in cc)) (λ l. ltb-false _ _ l)

-- the name stands at none of `n` places
after-none : (t : List ℕ) (at n : ℕ) → ((k : ℕ) → at ≤ k → k < at + n → named t k ≡ false) → after_name t at n ≡ None
unfolding after_name
after-none t at zero h = refl
after-none t at (suc n) h = rw (h at (omega arith) (omega arith)) (after-none t (suc at) n (λ k a b. h k (omega arith) (omega arith)))

-- it stands at one of them, and at none before
after-found : (t : List ℕ) (at n i : ℕ) → at ≤ i → i < at + n → named t i ≡ true → ((k : ℕ) → at ≤ k → k < i → named t k ≡ false)
    → after_name t at n ≡ Some (drop (i + 9) t)
unfolding after_name
after-found t at zero i h k e f = absurd (omega arith)
after-found t at (suc n) i h k e f =
    by-test (eqb at i)
    (λ q. let same : at ≡ i = eqb-true at i q in rw (same, e))
    (λ q. let below : at < i = omega (arith, eqb-false at i q) in
    rw (f at (omega arith) below) (after-found t (suc at) n i (omega arith) (omega arith) e (λ j a b. f j (omega arith) b)))

-- what std's `find` answers, over every place that leaves room for the name
pub first-named : (t : List ℕ) (n : ℕ) (r : Option ℕ) → n ≤ length t → length t ≤ n + 8
    → MatchOption r ((k : ℕ) → 0 ≤ k → k < n → named t k ≡ false)
    (λ i. (0 ≤ i) × (i < n) × (named t i ≡ true) × ((k : ℕ) → 0 ≤ k → k < i → named t k ≡ false))
    → IfSome r (λ i. i + 9 ≤ length t) × (option_map (λ i. drop (i + 9) t) r ≡ after_name t 0 (length t))
first-named t n None l m h = (
  tt,
  sym (after-none t 0 (length t) (λ k a b. by-test (ltb k n) (λ u. h k a (ltb-true k n u)) (λ u. let w = ltb-false k n u in named-short t k (omega arith)))),
)
first-named t n (Some i) l m h = (named-long t i h.2, sym (after-found t 0 (length t) i h.0 (omega arith) h.2 h.3))

-- ---- the parts of a list

-- what std's `is_some_and` answers, where what it calls says of a list whether it has the name
pub feature-is : (t name : List ℕ) (list : Option (Bor (List ℕ))) (r : Bool) {Q : Bor (List ℕ) → Type 0} → option_copied list ≡ after_name t 0 (length t)
    → MatchOption list (r ≡ false) Q → ((rest : Bor (List ℕ)) → Q rest → r ≡ any_same (parts_of (first_part semicolon rest.now)) name) → r ≡ has_feature t name
unfolding has_feature listed
feature-is t name None r e h f = rw (← e, h)
feature-is t name (Some rest) r e h f = rw (← e, f rest h)

-- ---- for the functions

pub ruleset part_rules = (part-found, part-all)

pub ruleset colon_rules = (behind-none, behind-two)

pub ruleset begin_rules = (begins-none, begins-start, begins-other)

pub ruleset name_rules = (named-beginning, named-inside, between_to_end)

pub ruleset feature_rules = feature-is
