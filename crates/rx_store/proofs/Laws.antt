-- Laws of a share of the receive store: what an append and a take leave buffered, and that other shares stay.
-- Assumes nothing.
use mathlib.Core.Path.{◌≡◌, sym, ap, ◌∙◌}
use mathlib.Core.List.{List, ◌++◌}
use Prim.Native.Nat.{ℕ, suc, ◌+◌, ◌-◌, ◌*◌, ◌≤◌, ◌<◌}
use native.Mathlib.Nat.{zero-add, suc-mul, mul-le-mul_right}
use native.Mathlib.Omega.{arith}
use lib.Dec.{leb, eqb, ltb}
use lib.ListN.{length, take, drop, length-append, length-take, length-drop, drop_of_length-le}
use lib.Seq.{take_at, drop-drop, take-take}
use borrow.Author.Tests.{leb-true, eqb-true, ltb-true, ltb-false}
use Rattle.std.specs.List.{copy_within}
use Rattle.le.specs.Le.{part, put}
use Rattle.le.proofs.Parts.{by-test, drop-take, length_part, length-put, part_join, part-put-same, part-put-below, part-put-above}
use Rattle.rx_store.specs.RxStore.{Room, slid, fits_behind, appended_head, appended, taken_head}

-- moving the run down is std's `copy_within`
pub slid_is : (share : List ℕ) (head n : ℕ) → copy_within share head (head + n) 0 ≡ slid share head n
unfolding slid part
slid_is share head n = let e : head + n - head ≡ n = omega arith in rw (e, zero-add)

-- moving down leaves the share's length
pub length-slid : (share : List ℕ) (head n : ℕ) → head + n ≤ length share → length (slid share head n) ≡ length share
unfolding slid
length-slid share head n h = let e = length_part share head n h in simp (length-append, length-drop) (omega arith)

-- bytes put behind a run are its last ones
part-behind : (share : List ℕ) (head b : ℕ) (p : List ℕ) → head + b + length p ≤ length share
    → part (put share (head + b) p) head (b + length p) ≡ part share head b ++ p
part-behind share head b p h =
    let s = put share (head + b) p in
    sym (part_join s head b (length p))
    ∙ ap (λ (l : List ℕ). l ++ part s (head + b) (length p)) (part-put-below share (head + b) p head b h (omega arith))
    ∙ ap (λ (l : List ℕ). part share head b ++ l) (part-put-same share (head + b) p h)

-- a run that was moved down
part-slid : (share : List ℕ) (head b : ℕ) → head + b ≤ length share → part (slid share head b) 0 b ≡ part share head b
unfolding slid part
part-slid share head b h = take_at (take b (drop head share)) (drop b share) b (simp (length-take, length-drop) (omega arith))

-- after an append the buffered bytes are the old ones, then the payload
pub part-appended : (share : List ℕ) (head b : ℕ) (p : List ℕ) → Room (length share) head b (length p)
    → part (appended share head b p) (appended_head (length share) head b (length p)) (b + length p) ≡ part share head b ++ p
unfolding appended appended_head fits_behind
part-appended share head b p room =
    by-test (leb (head + b + length p) (length share))
    (λ t. rw t (part-behind share head b p (leb-true (head + b + length p) (length share) t)))
    (λ t. rw t
    (let n = length-slid share head b room.run_fits in
    let z = part-behind (slid share head b) 0 b p (omega arith) in
    cc (z, part-slid share head b room.run_fits, zero-add b)))

-- an append leaves the share's length
pub length-appended : (share : List ℕ) (head b : ℕ) (p : List ℕ) → Room (length share) head b (length p)
    → length (appended share head b p) ≡ length share
unfolding appended fits_behind
length-appended share head b p room =
    by-test (leb (head + b + length p) (length share))
    (λ t. rw t (length-put share (head + b) p (leb-true (head + b + length p) (length share) t)))
    (λ t. rw t
    (let n = length-slid share head b room.run_fits in
    length-put (slid share head b) b p (omega arith) ∙ n))

-- after an append the run still lies in the share
pub head-appended : (len head b k : ℕ) → Room len head b k → appended_head len head b k + (b + k) ≤ len
unfolding appended_head fits_behind
head-appended len head b k room =
    by-test (leb (head + b + k) len)
    (λ t. rw t (omega (arith, leb-true (head + b + k) len t)))
    (λ t. rw t (omega arith))

-- after a take the buffered bytes are the rest
pub part-taken : (share : List ℕ) (head b n : ℕ) → n ≤ b → head + b ≤ length share
    → part share (taken_head head b n) (b - n) ≡ drop n (part share head b)
unfolding taken_head part
part-taken share head b n h k =
    let e : n + (b - n) ≡ b = omega arith in
    by-test (eqb n b)
    (λ t. rw t
    (let z : b - n ≡ 0 = omega (arith, eqb-true n b t) in
    let l : length (take b (drop head share)) ≤ n = simp (length-take, length-drop) (omega (arith, eqb-true n b t)) in
    rw z (sym (drop_of_length-le (take b (drop head share)) {i = n} l))))
    (λ t. rw t
    (let z = drop-take n (b - n) (drop head share) in
    cc (z, drop-drop n head share, e)))

-- after a take the run still lies in the share
pub head-taken : (len head b n : ℕ) → n ≤ b → head + b ≤ len → taken_head head b n + (b - n) ≤ len
unfolding taken_head
head-taken len head b n h k =
    by-test (eqb n b)
    (λ t. rw t (omega arith))
    (λ t. rw t (omega arith))

-- what a take leaves in the reader's buffer: the first n buffered bytes, and its own rest
pub buf-taken : (share : List ℕ) (head b n : ℕ) (buf : List ℕ) → n ≤ b → head + b ≤ length share
    → put buf 0 (part share head n) ≡ take n (part share head b) ++ drop n buf
unfolding put part
buf-taken share head b n buf h k =
    let l : length (take n (drop head share)) ≡ n = simp (length-take, length-drop) (omega arith) in
    let t = take-take n b (drop head share) h in
    rw (zero-add, l, t)

-- the share that was written is what was written
pub own-share : (store : List ℕ) (i w : ℕ) (new : List ℕ) → length new ≡ w → i * w + w ≤ length store
    → part (put store (i * w) new) (i * w) w ≡ new
own-share store i w new l h =
    let z = part-put-same store (i * w) new (omega arith) in
    cc (z, l)

-- a share begins at or behind the end of those before it
pub share-before : (i j w : ℕ) → i < j → i * w + w ≤ j * w
share-before i j w h =
    let z : suc i * w ≤ j * w = mul-le-mul_right w (omega arith) in
    omega (arith, suc-mul i w)

-- a write within one share leaves what lies in another
pub apart : (store : List ℕ) (i j w : ℕ) (new : List ℕ) (n : ℕ) → length new ≤ w → n ≤ w → i * w + w ≤ length store → (i ≡ j → ⊥)
    → part (put store (i * w) new) (j * w) n ≡ part store (j * w) n
apart store i j w new n l k h d =
    by-test (ltb i j)
    (λ t.
    let z = share-before i j w (ltb-true i j t) in
    part-put-above store (i * w) new (j * w) n (omega arith) (omega arith))
    (λ t.
    let g : j < i = omega (arith, ltb-false i j t) in
    let z = share-before j i w g in
    part-put-below store (i * w) new (j * w) n (omega arith) (omega arith))

-- other shares stay
pub other-share : (store : List ℕ) (i j w : ℕ) (new : List ℕ) → length new ≡ w → i * w + w ≤ length store → (i ≡ j → ⊥)
    → part (put store (i * w) new) (j * w) w ≡ part store (j * w) w
other-share store i j w new l h d = apart store i j w new w (omega arith) (omega arith) h d
