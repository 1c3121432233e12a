-- Each number in bytes keeps to its laws, at any width. Assumes nothing.
use mathlib.Core.Path.{◌≡◌, refl, sym, ap, subst, ◌∙◌}
use mathlib.Core.Bool.{Bool, true, false}
use mathlib.Core.List.{List, [], ◌∷◌}
use Prim.Native.Nat.{ℕ, zero, suc, ◌+◌, ◌-◌, ◌*◌, ◌/◌, ◌%◌, ◌^◌, ◌<◌}
use native.Mathlib.Nat.{pow-suc}
use native.Mathlib.Omega.{arith}
use lib.Dec.{ltb}
use lib.ListN.{length}
use lib.Signed.{mag}
use borrow.Author.Tests.{ltb-true, ltb-false}
use Rattle.le.specs.Le.{num_of, bytes_of, signed, unsigned, Bytes}
use Rattle.le.specs.Word.{WordLaws}

-- a test goes one of two ways
pub by-test : {P : Type 0} (t : Bool) → (t ≡ true → P) → (t ≡ false → P) → P
by-test true f g = f refl
by-test false f g = g refl

pub length-bytes_of : (k x : ℕ) → length (bytes_of k x) ≡ k
unfolding bytes_of
length-bytes_of zero x = refl
length-bytes_of (suc k) x = ap suc (length-bytes_of k (x / 256))

-- a number of k bytes is below 256 ^ k
pub num_of-small : (l : List ℕ) → Bytes l → num_of l < 256 ^ length l
unfolding num_of
num_of-small [] h = omega arith
num_of-small (b ∷ l) h =
    let i = num_of-small l (λ j. h (suc j)) in
    let lt : b < 256 = h 0 in
    let e : 256 ^ suc (length l) ≡ 256 ^ length l * 256 = pow-suc 256 (length l) in
    rw e (omega arith)

-- bytes, read and written again
pub read-write : (l : List ℕ) → Bytes l → bytes_of (length l) (num_of l) ≡ l
unfolding num_of bytes_of
read-write [] h = refl
read-write (b ∷ l) h =
    let m = num_of l in
    let lt : b < 256 = h 0 in
    let r : (b + 256 * m) % 256 ≡ b = omega arith in
    let q : (b + 256 * m) / 256 ≡ m = omega arith in
    let i = read-write l (λ j. h (suc j)) in
    rw (r, q, i)

-- two's complement from bits and back
pub unsigned_signed : (k x : ℕ) → x < 2 * 2 ^ k → unsigned k (signed k x) ≡ x
unfolding signed unsigned
unsigned_signed k x h =
    by-test (ltb x (2 ^ k)) (λ t. rw t)
    (λ t. let e : 2 * 2 ^ k - 1 - (2 * 2 ^ k - 1 - x) ≡ x = omega arith in rw (t, e))

-- the number that bits stand for is within its range
pub signed-small : (k x : ℕ) → x < 2 * 2 ^ k → mag (signed k x) < 2 ^ k
unfolding signed
signed-small k x h =
    by-test (ltb x (2 ^ k)) (λ t. rw t (omega (arith, ltb-true))) (λ t. rw t (omega (arith, ltb-false)))

pub unsigned_laws : (k : ℕ) → WordLaws k num_of (bytes_of k)
unsigned_laws k = record {
  width_of = length-bytes_of k;
  as_it_stood = λ l h e. ap (λ n. bytes_of n (num_of l)) (sym e) ∙ read-write l h;
}

-- with h bits and a sign in k bytes
pub signed_laws : (h k : ℕ) → 256 ^ k ≡ 2 * 2 ^ h → WordLaws k (λ l. signed h (num_of l)) (λ z. bytes_of k (unsigned h z))
signed_laws h k wide = record {
  width_of = λ z. length-bytes_of k (unsigned h z);
  as_it_stood = λ l b e.
      let small : num_of l < 256 ^ k = subst (λ n. num_of l < 256 ^ n) e (num_of-small l b) in
      ap (bytes_of k) (unsigned_signed h (num_of l) (subst (λ n. num_of l < n) wide small))
      ∙ ap (λ n. bytes_of n (num_of l)) (sym e)
      ∙ read-write l b;
}
