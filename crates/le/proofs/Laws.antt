-- Laws of numbers as bytes, over any number of bytes and any number of bits. Assumes nothing.
use mathlib.Core.Path.{◌≡◌, refl, sym, ap, ◌∙◌}
use mathlib.Core.Logic.{◌⊎◌, ⊎_elim}
use mathlib.Core.List.{List, [], ◌∷◌}
use Prim.Native.Nat.{ℕ, zero, suc, ◌+◌, ◌-◌, ◌*◌, ◌/◌, ◌%◌, ◌^◌, ◌≤◌, ◌<◌}
use native.Mathlib.Nat.{pow-suc, one-le-pow}
use native.Mathlib.Omega.{arith}
use lib.Dec.{ltb}
use lib.IntN.{ℤ, pos, negsuc}
use lib.ListN.{length, take, drop, get_or, set, length-take, get_or-eq_default}
use lib.Seq.{get_or-take, drop-cons, get_or-drop, sets-eq}
use lib.Signed.{mag}
use mir.Syntax.{Width}
use mir.Val.{bits, hbits, to_z, of_z}
use Rattle.std.specs.Int.{bytes_low_first}
use Rattle.std.proofs.Math.Nat.{div-div-eq-div-mul}
use borrow.Author.Tests.{ltb-true, ltb-false, lt-ltb, le-ltb}
use Rattle.le.specs.Le.{num_of, bytes_of, signed, unsigned, part, put, Bytes}
pub use Rattle.le.specs.WordLaws.{length-bytes_of, num_of-small, read-write, unsigned_signed, signed-small}
use Rattle.le.proofs.Parts.{by-test, length_part, part_join, part-put-same, part-put-below, part-put-above, length-put}

pub bytes_drop : (n : ℕ) (l : List ℕ) → Bytes l → Bytes (drop n l)
bytes_drop n l h k = rw get_or-drop (h (n + k))

pub bytes_take : (n : ℕ) (l : List ℕ) → Bytes l → Bytes (take n l)
bytes_take n l h k =
    by-test (ltb k n)
    (λ t. rw (get_or-take n l k 0 (ltb-true k n t)) (h k))
    (λ t. let m : length (take n l) ≤ k = simp length-take (omega (arith, ltb-false)) in rw (get_or-eq_default (take n l) 0 m) (omega arith))

-- a part of bytes is bytes
pub bytes-part : (l : List ℕ) (at n : ℕ) → Bytes l → Bytes (part l at n)
unfolding part
bytes-part l at n h = bytes_take n (drop at l) (bytes_drop at l h)

-- the bytes of a number are bytes
pub bytes-bytes_of : (k x : ℕ) → Bytes (bytes_of k x)
unfolding bytes_of
bytes-bytes_of zero x j = omega arith
bytes-bytes_of (suc k) x zero = omega arith
bytes-bytes_of (suc k) x (suc j) = bytes-bytes_of k (x / 256) j

-- and so is one of at most k
pub num_of-take : (k : ℕ) (l : List ℕ) → Bytes l → num_of (take k l) < 256 ^ k
unfolding num_of
num_of-take zero l h = omega arith
num_of-take (suc k) [] h = one-le-pow (suc k) 256 (omega arith)
num_of-take (suc k) (b ∷ l) h =
    let i = num_of-take k l (λ j. h (suc j)) in
    let lt : b < 256 = h 0 in
    let e : 256 ^ suc k ≡ 256 ^ k * 256 = pow-suc 256 k in
    rw e (omega arith)

pub num_of-part : (k : ℕ) (l : List ℕ) (at : ℕ) → Bytes l → num_of (part l at k) < 256 ^ k
unfolding part
num_of-part k l at h = num_of-take k (drop at l) (bytes_drop at l h)

-- a number, written in k bytes and read again
pub write_read : (k x : ℕ) → x < 256 ^ k → num_of (bytes_of k x) ≡ x
unfolding num_of bytes_of
write_read zero x h = omega arith
write_read (suc k) x h =
    let e : 256 ^ suc k ≡ 256 ^ k * 256 = pow-suc 256 k in
    let q : x / 256 < 256 ^ k = omega arith in
    let i = write_read k (x / 256) q in
    rw i (omega arith)

pub read-write-part : (l : List ℕ) (at k : ℕ) → Bytes l → at + k ≤ length l → bytes_of k (num_of (part l at k)) ≡ part l at k
read-write-part l at k h e =
    ap (λ (j : ℕ). bytes_of j (num_of (part l at k))) (sym (length_part l at k e)) ∙ read-write (part l at k) (bytes-part l at k h)

-- what was put is read back, whatever the width
pub put-get : (l : List ℕ) (at k x : ℕ) → at + k ≤ length l → x < 256 ^ k → num_of (part (put l at (bytes_of k x)) at k) ≡ x
put-get l at k x h lt =
    let n = length-bytes_of k x in
    let z = part-put-same l at (bytes_of k x) (omega arith) in
    ap (λ (j : ℕ). num_of (part (put l at (bytes_of k x)) at j)) (sym n) ∙ ap num_of z ∙ write_read k x lt

-- a word elsewhere is as it was, whatever the widths
pub put-else : (l : List ℕ) (at k x b n : ℕ) → at + k ≤ length l → (b + n ≤ at) ⊎ (at + k ≤ b) → num_of (part (put l at (bytes_of k x)) b n) ≡ num_of (part l b n)
put-else l at k x b n h out =
    let e = length-bytes_of k x in
    ⊎_elim
    (λ w. ap num_of (part-put-below l at (bytes_of k x) b n (omega arith) w))
    (λ w. ap num_of (part-put-above l at (bytes_of k x) b n (omega arith) (omega arith)))
    out

-- the length stays, whatever the width
pub put-length : (l : List ℕ) (at k x : ℕ) → at + k ≤ length l → length (put l at (bytes_of k x)) ≡ length l
put-length l at k x h = let e = length-bytes_of k x in length-put l at (bytes_of k x) (omega arith)

-- four bytes of a list
four : (l : List ℕ) (a : ℕ) → a + 4 ≤ length l → part l a 4 ≡ get_or l a 0 ∷ get_or l (a + 1) 0 ∷ get_or l (a + 2) 0 ∷ get_or l (a + 3) 0 ∷ []
unfolding part
four l a h =
    let e1 : a + 1 ≡ suc a = omega arith in
    let e2 : a + 2 ≡ suc (suc a) = omega arith in
    let e3 : a + 3 ≡ suc (suc (suc a)) = omega arith in
    rw (
      e1,
      e2,
      e3,
      drop-cons l a 0 (omega arith),
      drop-cons l (suc a) 0 (omega arith),
      drop-cons l (suc (suc a)) 0 (omega arith),
      drop-cons l (suc (suc (suc a))) 0 (omega arith),
    )

pub read-one : (l : List ℕ) (a : ℕ) → a + 1 ≤ length l → get_or l a 0 ≡ num_of (part l a 1)
unfolding num_of part
read-one l a h = rw (drop-cons l a 0 (omega arith)) (omega arith)

pub read-four : (l : List ℕ) (a : ℕ) → a + 4 ≤ length l → get_or l a 0 + get_or l (a + 1) 0 * 256 + get_or l (a + 2) 0 * 65536 + get_or l (a + 3) 0 * 16777216 ≡ num_of (part l a 4)
unfolding num_of
read-four l a h = rw (four l a h) (omega arith)

pub read-halves : (l : List ℕ) (a : ℕ) → a + 8 ≤ length l → num_of (part l a 4) + num_of (part l (a + 4) 4) * 4294967296 ≡ num_of (part l a 8)
unfolding num_of
read-halves l a h =
    let e = sym (part_join l a 4 4) in
    rw (e, four l a (omega arith), four l (a + 4) (omega arith)) (omega arith)

-- one store
pub put_byte : (d : List ℕ) (at v : ℕ) → at + 1 ≤ length d → v < 256 → set d at v ≡ put d at (bytes_of 1 v)
unfolding put bytes_of
put_byte d at v h k =
    let e : v % 256 ≡ v = omega arith in
    rw e (sets-eq (v ∷ []) d at h)

-- two's complement, both ways, at any number of bits
pub signed-unsigned : (k : ℕ) (z : ℤ) → mag z < 2 ^ k → signed k (unsigned k z) ≡ z
unfolding signed unsigned
signed-unsigned k (pos n) f = rw (lt-ltb n (2 ^ k) f)
signed-unsigned k (negsuc n) f =
    let e : 2 * 2 ^ k - 1 - (2 * 2 ^ k - 1 - n) ≡ n = omega arith in
    rw (le-ltb (2 * 2 ^ k - 1 - n) (2 ^ k) (omega arith), e)

-- the number that bits stand for is within its range, and so are the bits of a number
pub unsigned_small : (k : ℕ) (z : ℤ) → mag z < 2 ^ k → unsigned k z < 2 * 2 ^ k
unfolding unsigned
unsigned_small k (pos n) f = omega arith
unsigned_small k (negsuc n) f = omega arith

-- two's complement as the library says it, at 32 and 64 bits
pub is-signed : (w : Width) (v : ℕ) → 2 ^ bits w ≡ 2 * 2 ^ hbits w → to_z w v ≡ signed (hbits w) v
unfolding signed
is-signed w v e =
    let f : 2 ^ bits w - suc v ≡ 2 * 2 ^ hbits w - 1 - v = omega arith in
    by-test (ltb v (2 ^ hbits w)) (λ t. rw t) (λ t. rw (t, f))

pub is-unsigned : (w : Width) (z : ℤ) → 2 ^ bits w ≡ 2 * 2 ^ hbits w → of_z w z ≡ unsigned (hbits w) z
unfolding unsigned
is-unsigned w (pos n) e = refl
is-unsigned w (negsuc n) e = omega arith

-- the bytes that the library makes of a number, from byte i on
le_bytes : (i k n : ℕ) → bytes_low_first i k n ≡ bytes_of k (n / 256 ^ i)
unfolding bytes_of
le_bytes i zero n = refl
le_bytes zero (suc k) n =
    let e : n / 256 ^ 0 ≡ n = omega arith in
    rw (e, le_bytes 1 k n)
le_bytes (suc i) (suc k) n =
    let e : n / 256 ^ suc i / 256 ≡ n / 256 ^ suc (suc i) = div-div-eq-div-mul n (256 ^ suc i) 256 ∙ ap (λ m. n / m) (sym (pow-suc 256 (suc i))) in
    rw (e, le_bytes (suc (suc i)) k n)

pub is-bytes_of : (k n : ℕ) → bytes_low_first 0 k n ≡ bytes_of k n
is-bytes_of k n = le_bytes 0 k n ∙ ap (bytes_of k) (omega arith)
