-- Laws of the words of a line, and of the numbers and bytes that they spell. Assumes nothing.
use mathlib.Core.Path.{◌≡◌, refl, sym, ap, subst, ◌∙◌}
use mathlib.Core.Bool.{true, false, cond}
use mathlib.Core.List.{List, [], ◌∷◌}
use Prim.Native.Nat.{ℕ, zero, suc, ◌+◌, ◌-◌, ◌*◌, ◌/◌, ◌≤◌, ◌<◌, min}
use native.Mathlib.Numerals.{add-one}
use native.Mathlib.Omega.{arith}
use Rattle.std.proofs.Common.{Option, Some, None, Bor, option_map, unwrap_or, slice_get}
use Rattle.std.specs.List.{position, slice_split}
use lib.Dec.{T, eqb, ltb}
use lib.IntN.{pos, negsuc, neg_ℤ}
use lib.ListN.{length, take, drop, get_or, set, length-take, length-drop, drop_of_length-le}
use lib.Seq.{drop-cons, take_all, paste, paste-suc}
use borrow.Author.Tests.{ltb-true, ltb-false}
use Rattle.le.specs.Le.{put, part}
use Rattle.le.proofs.Parts.{by-test}
use Rattle.saturate.specs.Saturate.{clamp}
use Rattle.replay.specs.Text.{Puts}
use Rattle.replay.specs.Words.{index_of, from_word, word_of, is_digit, grown, spelled, is_negative, signed_of, nibble_of, unhexed}
use Rattle.replay.proofs.TextLaws.{puts-take}

-- the first place of a byte, from the front on
index-cons : (b x : ℕ) (l : List ℕ) → index_of b (x ∷ l) ≡ cond (eqb x b) 0 (suc (index_of b l))
unfolding index_of
index-cons b x l = by-test (eqb x b) (λ t. rw t) (λ t. rw t (omega arith))

index-fits : (b : ℕ) (l : List ℕ) → index_of b l ≤ length l
unfolding index_of
index-fits b [] = omega arith
index-fits b (x ∷ l) = let i = index-fits b l in by-test (eqb x b) (λ t. rw t (omega arith)) (λ t. rw t (omega arith))

-- that place, or the length
pub find-is : (b : ℕ) (l : List ℕ) (r : Option ℕ) → r ≡ position (λ x. eqb x b) l → (unwrap_or r (length l) ≡ index_of b l) × (index_of b l ≤ length l)
unfolding index_of
find-is b l r e =
    let f = index-fits b l in
    (rw e (by-test (ltb (index_of b l) (length l)) (λ t. rw t) (λ t. rw t (omega (arith, ltb-false)))), f)

-- the same from place `at` to `end`, where u is what a search of that part answers
pub find-in : (s : List ℕ) (at end b : ℕ) (r : Option ℕ) (u : ℕ) → at ≤ end → end ≤ length s → r ≡ position (λ x. eqb x b) (take (end - at) (drop at s))
    → u ≡ unwrap_or r (end - at) → (at + u ≡ at + index_of b (part s at (end - at))) × (at + u ≤ end)
unfolding part
find-in s at end b r u h k e v =
    let n : length (take (end - at) (drop at s)) ≡ end - at = simp (length-take, length-drop) (omega arith) in
    let f = find-is b (take (end - at) (drop at s)) r e in
    let g = rw n at f.0 in
    (omega arith, omega arith)

-- words past the end of a line are empty
from-nil : (k : ℕ) → from_word k [] ≡ []
unfolding from_word
from-nil zero = refl
from-nil (suc k) = from-nil k

-- a line with no space is one word
no-space : (l : List ℕ) → length l ≤ index_of 32 l → slice_split (λ b. eqb b 32) l ≡ l ∷ []
unfolding index_of
no-space [] h = refl
no-space (x ∷ l) h = by-test (eqb x 32) (λ t. absurd (let z = rw t at h in omega arith)) (λ t. let z = rw t at h in rw (t, no-space l (omega arith)))

-- one that has some is a word, and what stands behind the space
a-space : (l : List ℕ) → index_of 32 l < length l
    → slice_split (λ b. eqb b 32) l ≡ take (index_of 32 l) l ∷ slice_split (λ b. eqb b 32) (drop (suc (index_of 32 l)) l)
a-space [] h = absurd (omega arith)
a-space (x ∷ l) h =
    let c = index-cons 32 x l in
    by-test (eqb x 32) (λ t. rw (c, t)) (λ t. let z = rw (c, t) at h in rw (c, t, a-space l (omega arith)))

-- word k is part k of std's split
pub word-is : (l : List ℕ) (k : ℕ) → unwrap_or (slice_get (slice_split (λ b. eqb b 32) l) k) [] ≡ word_of l k
unfolding word_of from_word index_of
word-is l zero =
    by-test (ltb (index_of 32 l) (length l))
    (λ t. rw (a-space l (ltb-true _ _ t)))
    (λ t. rw (no-space l (ltb-false _ _ t)) (sym (take_all (index_of 32 l) l (ltb-false _ _ t))))
word-is l (suc k) =
    by-test (ltb (index_of 32 l) (length l))
    (λ t. rw (a-space l (ltb-true _ _ t)) (word-is (drop (suc (index_of 32 l)) l) k))
    (λ t.
    let h = ltb-false (index_of 32 l) (length l) t in
    let z = drop_of_length-le l {i = suc (index_of 32 l)} (omega arith) in
    rw (no-space l h, z, from-nil k))

-- what a part is read through, as a list
pub read-now : (r : Option (Bor (List ℕ))) (d : Bor (List ℕ)) → (unwrap_or r d).now ≡ unwrap_or (option_map (λ x. x.now) r) d.now
read-now None d = refl
read-now (Some x) d = refl

grown-up : (n b : ℕ) → n ≤ grown n b
unfolding grown
grown-up n b = by-test (is_digit b) (λ t. rw t (omega arith)) (λ t. rw t (omega arith))

-- digits make a number no smaller
spelled-up : (n : ℕ) (w : List ℕ) → n ≤ spelled n w
unfolding spelled
spelled-up n [] = omega arith
spelled-up n (b ∷ w) = let g = grown-up n b in let h = spelled-up (grown n b) w in omega arith

-- a number that is held within a limit on the way is held in the end
pub spelled-held : (n most : ℕ) (w : List ℕ) → min (spelled (min n most) w) most ≡ min (spelled n w) most
spelled-held n most w =
    by-test (ltb most n)
    (λ t.
    let e : min n most ≡ most = omega (arith, ltb-true) in
    let a = spelled-up most w in
    let b = spelled-up n w in
    rw e (omega (arith, ltb-true)))
    (λ t. let e : min n most ≡ n = omega (arith, ltb-false) in rw e)

-- one byte more, and none
pub spelled_step : (s : List ℕ) (i n : ℕ) → i < length s → spelled n (drop i s) ≡ spelled (grown n (get_or s i 0)) (drop (i + 1) s)
unfolding spelled
spelled_step s i n h = rw (add-one, drop-cons s i 0)

pub spelled-end : (s : List ℕ) (i n : ℕ) → length s ≤ i → spelled n (drop i s) ≡ n
unfolding spelled
spelled-end s i n h = rw (drop_of_length-le s h)

-- a number that was held within 64 bits without a sign
pub above-held : (n : ℕ) → clamp (pos (min n 0xffff_ffff_ffff_ffff)) ≡ clamp (pos n)
unfolding clamp
above-held n = ap pos (omega arith)

pub below-held : (n : ℕ) → clamp (neg_ℤ (pos (min n 0xffff_ffff_ffff_ffff))) ≡ clamp (neg_ℤ (pos n))
unfolding clamp
below-held zero = let e : min 0 0xffff_ffff_ffff_ffff ≡ 0 = omega arith in rw e
below-held (suc n) =
    let e : min (suc n) 0xffff_ffff_ffff_ffff ≡ suc (min n 0xffff_ffff_ffff_fffe) = omega arith in
    rw e (ap negsuc (omega arith))

-- two digits spell a byte
pub length-unhexed : (l : List ℕ) → length (unhexed l) ≡ length l / 2
unfolding unhexed
length-unhexed [] = refl
length-unhexed (a ∷ []) = refl
length-unhexed (a ∷ b ∷ l) = omega (arith, length-unhexed l)

-- two digits more
pub unhexed-step : (s : List ℕ) (i : ℕ) → i + 1 < length s
    → unhexed (drop i s) ≡ (nibble_of (get_or s i 0) * 16 + nibble_of (get_or s (i + 1) 0)) ∷ unhexed (drop (i + 2) s)
unfolding unhexed
unhexed-step s i h =
    let e : i + 2 ≡ suc (suc i) = omega arith in
    rw (add-one, e, drop-cons s i 0 (omega arith), drop-cons s (suc i) 0 (omega arith))

-- bytes that are stored one by one
module _ (d u : List ℕ) (n v : ℕ) (rest : List ℕ) (h : n < length d) (e : drop n u ≡ v ∷ rest) where
  pub store-fits : n < length u
  store-fits = omega (arith, ap length e, length-drop n u)

  pub store-rest : drop (n + 1) u ≡ rest
  store-rest = let c = drop-cons u n 0 store-fits in rw add-one (cc)

  pub store_step : set (paste d 0 u n) n v ≡ paste d 0 u (n + 1)
  store_step =
      let c = drop-cons u n 0 store-fits in
      let g : get_or u n 0 ≡ v = cc in
      let z : 0 + n ≡ n = omega arith in
      let p = paste-suc d 0 u n 0 (omega arith) store-fits in
      rw add-one (ap (λ (k : ℕ). set (paste d 0 u n) k v) (sym z) ∙ (rw g at p))

pub stored : (d u : List ℕ) (n : ℕ) → n ≡ min (length d) (length u) → Puts d 0 u (paste d 0 u n) n
unfolding put
stored d u n e =
    let p = puts-take d 0 u n (omega arith) in
    let l : length (take n u) ≡ n = simp length-take (omega arith) in
    let z : 0 + n ≡ n = omega arith in
    let e : put d 0 (take n u) ≡ paste d 0 u n = rw l in
    record { line-is = sym e ∙ p.line-is; end_is = sym z ∙ p.end_is }

-- a digit is at least "0"
pub digit_low : (b : ℕ) → is_digit b ≡ true → 48 ≤ b
unfolding is_digit
digit_low b h = by-test (ltb b 48) (λ t. absurd (subst T (sym (rw t at h)) tt)) (λ t. ltb-false b 48 t)

-- a number behind a sign, and one with none
pub signed_below : (w : List ℕ) (n : ℕ) → is_negative w ≡ true → n ≡ min (spelled 0 w) 0xffff_ffff_ffff_ffff → clamp (neg_ℤ (pos n)) ≡ signed_of w
unfolding signed_of
signed_below w n t e = rw (t, e) (below-held (spelled 0 w))

pub signed_above : (w : List ℕ) (n : ℕ) → is_negative w ≡ false → n ≡ min (spelled 0 w) 0xffff_ffff_ffff_ffff → clamp (pos n) ≡ signed_of w
unfolding signed_of
signed_above w n t e = rw (t, e) (above-held (spelled 0 w))
