-- Laws of parts of a list and of what is put into it. Assumes nothing.
use mathlib.Core.Path.{◌≡◌, refl, sym, ap, ◌∙◌}
use mathlib.Core.List.{List, [], ◌∷◌, ◌++◌, append_assoc, append-nil}
use Prim.Native.Nat.{ℕ, zero, suc, ◌+◌, ◌-◌, ◌≤◌}
use native.Mathlib.Nat.{zero-add, suc-add}
use native.Mathlib.Omega.{arith}
use lib.ListN.{length, take, drop, length-append, length-take, length-drop, drop_of_length-le, take-append-drop}
use lib.Seq.{take-length, take-append-le, drop-append-le, take_at, drop_at, drop-drop, take-append_seam, take-nil, take-take, take-add, drop-append-add}
use borrow.Rule.Slice.PartMut.{put_mid}
use Rattle.le.specs.Le.{part, put}
pub use Rattle.le.specs.WordLaws.{by-test}

pub drop-take : (n k : ℕ) (l : List ℕ) → drop n (take (n + k) l) ≡ take k (drop n l)
drop-take zero k l = rw zero-add
drop-take (suc n) k [] = rw (suc-add, take-nil)
drop-take (suc n) k (x ∷ l) = rw suc-add (drop-take n k l)

pub length_part : (l : List ℕ) (at n : ℕ) → at + n ≤ length l → length (part l at n) ≡ n
unfolding part
length_part l at n h = simp (length-take, length-drop) (omega arith)

pub length-put : (d : List ℕ) (at : ℕ) (s : List ℕ) → at + length s ≤ length d → length (put d at s) ≡ length d
unfolding put
length-put d at s h = simp (length-append, length-take, length-drop) (omega arith)

-- a part, and the part after it
pub part_join : (l : List ℕ) (at n m : ℕ) → part l at n ++ part l (at + n) m ≡ part l at (n + m)
unfolding part
part_join l at n m = rw (take-add, drop-drop)

-- a part of a part
pub part-part : (l : List ℕ) (at n b m : ℕ) → b + m ≤ n → part (part l at n) b m ≡ part l (at + b) m
unfolding part
part-part l at n b m h =
    let e : b + (n - b) ≡ n = omega arith in
    let x : drop b (take n (drop at l)) ≡ take (n - b) (drop b (drop at l)) =
    ap (λ (k : ℕ). drop b (take k (drop at l))) (sym e) ∙ drop-take b (n - b) (drop at l) in
    rw (x, take-take m (n - b) (drop b (drop at l)) (omega arith), drop-drop)

-- a part of a list with another behind it, where the part lies in the first
pub part-front : (x y : List ℕ) (at n : ℕ) → at + n ≤ length x → part (x ++ y) at n ≡ part x at n
unfolding part
part-front x y at n h =
    let f : at ≤ length x = omega arith in
    let g : n ≤ length (drop at x) = simp length-drop (omega arith) in
    rw (drop-append-le at x y f, take-append-le n (drop at x) y g)

-- a part of a list with another before it, where the part lies in the second
pub part-back : (x y : List ℕ) (at n : ℕ) → part (x ++ y) (length x + at) n ≡ part y at n
unfolding part
part-back x y at n = rw drop-append-add

-- a whole list, as a part
pub part-all : (l : List ℕ) → part l 0 (length l) ≡ l
unfolding part
part-all l = take-length l

-- what a call that is lent `s[a..a + k]` sees, and what its writes are to the whole
pub lent-part : (l : List ℕ) (a k : ℕ) → take (a + k - a) (drop a l) ≡ part l a k
unfolding part
lent-part l a k = let e : a + k - a ≡ k = omega arith in rw e

pub lent_back : (l : List ℕ) (a k : ℕ) (ys : List ℕ) → length ys ≡ k → put_mid a (a + k - a) l ys ≡ put l a ys
unfolding put
lent_back l a k ys h =
    let e : a + k - a ≡ length ys = omega arith in
    rw e (simp (drop-drop, append_assoc))

-- a copy that fills the part that it is lent is a put
pub copied : (d : List ℕ) (at : ℕ) (s e : List ℕ) → at + length s ≤ length d
    → e ≡ take (length s) s ++ drop (length s) (take (at + length s - at) (drop at d))
    → put_mid at (at + length s - at) d e ≡ put d at s
copied d at s e h is =
    let n = length_part d at (length s) h in
    let z : e ≡ s =
    is
    ∙ ap (λ (l : List ℕ). take (length s) s ++ drop (length s) l) (lent-part d at (length s))
    ∙ rw (take-length, drop_of_length-le (part d at (length s)) {i = length s} (omega arith)) (append-nil s) in
    rw z (lent_back d at (length s) s refl)

-- no bytes put
pub put-none : (d : List ℕ) (at : ℕ) → put d at [] ≡ d
unfolding put
put-none d at =
    let e : at + 0 ≡ at = omega arith in
    rw (e, append-nil (take at d)) (take-append-drop at d)

-- one put behind another is one
pub put-put : (d : List ℕ) (at : ℕ) (a : List ℕ) (k : ℕ) (b : List ℕ) → at + length a ≡ k → k + length b ≤ length d → put (put d at a) k b ≡ put d at (a ++ b)
unfolding put
put-put d at a k b e h =
    let f = take at d ++ a in
    let r = drop (at + length a) d in
    let l : length f ≡ k = simp (length-append, length-take) (omega arith) in
    let t : take k (f ++ r) ≡ f = take_at f r k l in
    let n : at + length a + length b ≡ at + length (a ++ b) = omega (arith, length-append a b) in
    let u : drop (k + length b) (f ++ r) ≡ drop (at + length (a ++ b)) d =
    ap (λ (m : ℕ). drop (m + length b) (f ++ r)) (sym l)
    ∙ drop-append-add f r (length b)
    ∙ drop-drop (length b) (at + length a) d
    ∙ ap (λ (m : ℕ). drop m d) n in
    rw (t, u) (simp append_assoc)

-- what was put is read back
pub part-put-same : (l : List ℕ) (a : ℕ) (ys : List ℕ) → a + length ys ≤ length l → part (put l a ys) a (length ys) ≡ ys
unfolding part put
part-put-same l a ys h =
    let f : length (take a l) ≡ a = simp length-take (omega arith) in
    let e : take a l ++ ys ++ drop (a + length ys) l ≡ take a l ++ (ys ++ drop (a + length ys) l) = simp append_assoc in
    rw (e, drop_at (take a l) (ys ++ drop (a + length ys) l) a f, take-append_seam)

-- what lies below is as it was
pub part-put-below : (l : List ℕ) (a : ℕ) (ys : List ℕ) (b n : ℕ) → a + length ys ≤ length l → b + n ≤ a → part (put l a ys) b n ≡ part l b n
unfolding part put
part-put-below l a ys b n h k =
    let r = ys ++ drop (a + length ys) l in
    let f : b ≤ length (take a l) = simp length-take (omega arith) in
    let g : n ≤ length (drop b (take a l)) = simp (length-drop, length-take) (omega arith) in
    let e : take a l ++ ys ++ drop (a + length ys) l ≡ take a l ++ r = simp append_assoc in
    let z : b + (a - b) ≡ a = omega arith in
    let y : take n (drop b (take a l)) ≡ take n (drop b l) =
    rw (← z) (rw (drop-take b (a - b) l) (take-take n (a - b) (drop b l) (omega arith))) in
    rw (e, drop-append-le b (take a l) r f, take-append-le n (drop b (take a l)) r g) y

-- what lies above is as it was
pub part-put-above : (l : List ℕ) (a : ℕ) (ys : List ℕ) (b n : ℕ) → a + length ys ≤ length l → a + length ys ≤ b → part (put l a ys) b n ≡ part l b n
unfolding part put
part-put-above l a ys b n h k =
    let f = take a l ++ ys in
    let m = a + length ys in
    let e : m + (b - m) ≡ b = omega arith in
    let g : length f + (b - m) ≡ b = simp (length-append, length-take) (omega arith) in
    let x : drop b (f ++ drop m l) ≡ drop b l =
    ap (λ (j : ℕ). drop j (f ++ drop m l)) (sym g) ∙ drop-append-add f (drop m l) (b - m) ∙ drop-drop (b - m) m l ∙ ap (λ (j : ℕ). drop j l) e in
    rw x

-- fields put one behind the other, and their bytes as one
abbrev pub put_seq : List ℕ → ℕ → List (List ℕ) → List ℕ
put_seq d at [] = d
put_seq d at (f ∷ fs) = put_seq (put d at f) (at + length f) fs

abbrev pub joined : List ℕ → List (List ℕ) → List ℕ
joined a [] = a
joined a (f ∷ fs) = joined (a ++ f) fs

joined-grows : (a : List ℕ) (fs : List (List ℕ)) → length a ≤ length (joined a fs)
joined-grows a [] = omega arith
joined-grows a (f ∷ fs) = let h = joined-grows (a ++ f) fs in omega (arith, length-append a f)

-- they are one put
pub put-seq : (d : List ℕ) (at : ℕ) (a : List ℕ) (fs : List (List ℕ)) → at + length (joined a fs) ≤ length d
    → put_seq (put d at a) (at + length a) fs ≡ put d at (joined a fs)
put-seq d at a [] h = refl
put-seq d at a (f ∷ fs) h =
    let g = joined-grows (a ++ f) fs in
    let n = length-append a f in
    let e : at + length a + length f ≡ at + length (a ++ f) = omega arith in
    rw (put-put d at a (at + length a) f refl (omega arith), e) (put-seq d at (a ++ f) fs h)
