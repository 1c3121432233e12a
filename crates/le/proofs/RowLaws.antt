-- Laws of tables of records. Assumes nothing.
use mathlib.Core.Path.{◌≡◌, refl, sym, ap, subst, ◌∙◌}
use mathlib.Core.Bool.{Bool, true, false}
use mathlib.Core.List.{List, [], ◌∷◌, ◌++◌, append_assoc, append-nil}
use Prim.Native.Nat.{ℕ, zero, suc, ◌+◌, ◌*◌, ◌^◌, ◌≤◌, ◌<◌}
use native.Mathlib.Nat.{zero-mul, suc-mul}
use native.Mathlib.Omega.{arith}
use lib.Dec.{T}
use lib.ListN.{length, take, drop, get_or, set, length-append, length-drop, length-take, take-append-drop, drop_of_length-le}
use lib.Seq.{split_at, set_split, take_at, drop_at, drop-drop, drop-cons, get_or-take, take-add, length-take-le}
use Rattle.le.specs.Le.{num_of, bytes_of, part, put, Bytes}
use Rattle.le.proofs.Parts.{by-test, put-put}
use Rattle.le.proofs.Laws.{length-bytes_of, write_read, bytes_drop, bytes_take}
use Rattle.std.proofs.Common.{add-one}
use Rattle.std.proofs.lemmas.List.{take_more}
use Rattle.std.proofs.Math.Nat.{mul-le-mul_right}
use Rattle.le.specs.Rows.{flat, rows, all_is}

pub never : {P : Type 0} → false ≡ true → P
never e = absurd (subst T (sym e) tt)

-- what stands at a place is replaced by as much
pub put-at : (f m r n : List ℕ) (at : ℕ) → length f ≡ at → length m ≡ length n → put (f ++ m ++ r) at n ≡ f ++ n ++ r
unfolding put
put-at f m r n at h e =
    let g : f ++ m ++ r ≡ f ++ (m ++ r) = append_assoc f m r in
    let t : take at (f ++ (m ++ r)) ≡ f = take_at f (m ++ r) at h in
    let k : length (f ++ m) ≡ at + length n = simp length-append (omega arith) in
    let d : drop (at + length n) (f ++ m ++ r) ≡ r = drop_at (f ++ m) r (at + length n) k in
    rw d (rw (g, t))

module _ {A : Type 0} (size : ℕ) (bytes : A → List ℕ) (sized : (a : A) → length (bytes a) ≡ size) where
  pub flat_append : (x y : List A) → flat bytes (x ++ y) ≡ flat bytes x ++ flat bytes y
  unfolding flat
  flat_append [] y = refl
  flat_append (a ∷ x) y = rw (flat_append x y) (sym (append_assoc (bytes a) (flat bytes x) (flat bytes y)))

  pub length-flat : (x : List A) → length (flat bytes x) ≡ length x * size
  unfolding flat
  length-flat [] = rw zero-mul
  length-flat (a ∷ x) = let e = length-flat x in let s = sized a in simp length-append (rw suc-mul (omega arith))

  flat-cut : (k : ℕ) (x : List A) → flat bytes x ≡ flat bytes (take k x) ++ flat bytes (drop k x)
  flat-cut k x = ap (flat bytes) (sym (take-append-drop k x)) ∙ flat_append (take k x) (drop k x)

  flat-cut-length : (k : ℕ) (x : List A) → k ≤ length x → length (flat bytes (take k x)) ≡ k * size
  flat-cut-length k x h = length-flat (take k x) ∙ rw (length-take-le k x h)

  -- a row behind the first i of them, where each has been put behind those before it
  pub put_one_more : (d : List ℕ) (at i : ℕ) (xs : List A) (x : A) → i < length xs → at + length xs * size ≤ length d → x ≡ get_or xs i x
      → put (put d at (flat bytes (take i xs))) (at + i * size) (bytes x) ≡ put d at (flat bytes (take (i + 1) xs))
  unfolding flat
  put_one_more d at i xs x h room is =
      let n : length (flat bytes (take i xs)) ≡ i * size = flat-cut-length i xs (omega arith) in
      let fit : (i + 1) * size ≤ length xs * size = mul-le-mul_right {m = i + 1} {n = length xs} size (omega arith) in
      let e : (i + 1) * size ≡ i * size + size = rw (add-one i) (suc-mul i size) in
      let s = sized x in
      let grown : take (i + 1) xs ≡ take i xs ++ (x ∷ []) = take_more xs i x h ∙ ap (λ y. take i xs ++ (y ∷ [])) (sym is) in
      put-put d at (flat bytes (take i xs)) (at + i * size) (bytes x) (omega arith) (omega arith)
      ∙ ap (put d at) (sym (ap (flat bytes) grown ∙ flat_append (take i xs) (x ∷ []) ∙ ap (λ l. flat bytes (take i xs) ++ l) (append-nil (bytes x))))

  pub flat-take : (k : ℕ) (x : List A) → k ≤ length x → take (k * size) (flat bytes x) ≡ flat bytes (take k x)
  flat-take k x h = rw (flat-cut k x) (take_at (flat bytes (take k x)) (flat bytes (drop k x)) (k * size) (flat-cut-length k x h))

  pub flat-drop : (k : ℕ) (x : List A) → k ≤ length x → drop (k * size) (flat bytes x) ≡ flat bytes (drop k x)
  flat-drop k x h = rw (flat-cut k x) (drop_at (flat bytes (take k x)) (flat bytes (drop k x)) (k * size) (flat-cut-length k x h))

  -- a record is put at its place in a table that stands behind f
  pub put-row : (f : List ℕ) (x : List A) (r : List ℕ) (i at : ℕ) (a : A) → i < length x → length f + i * size ≡ at
      → put (f ++ flat bytes x ++ r) at (bytes a) ≡ f ++ flat bytes (set x i a) ++ r
  unfolding flat
  put-row f x r i at a h e =
      let y = get_or x i a in
      let b = take i x in
      let d = drop (suc i) x in
      let s : flat bytes x ≡ flat bytes b ++ (bytes y ++ flat bytes d) = ap (flat bytes) (split_at x i a h) ∙ flat_append b (y ∷ d) in
      let t : flat bytes (set x i a) ≡ flat bytes b ++ (bytes a ++ flat bytes d) = ap (flat bytes) (set_split x i a h) ∙ flat_append b (a ∷ d) in
      let n : length (f ++ flat bytes b) ≡ at = simp (length-append, length-flat, length-take-le i x (omega arith)) (omega arith) in
      let g : (z : A) → f ++ (flat bytes b ++ (bytes z ++ flat bytes d)) ++ r ≡ f ++ flat bytes b ++ bytes z ++ (flat bytes d ++ r) = λ z. simp append_assoc in
      let p = put-at (f ++ flat bytes b) (bytes y) (flat bytes d ++ r) (bytes a) at n (sized y ∙ sym (sized a)) in
      rw (s, t, g y, g a) p

  -- the first records of a table that stands behind f are put, the rest stay
  pub put-rows : (f : List ℕ) (x : List A) (r : List ℕ) (at : ℕ) (y : List A) → length y ≤ length x → length f ≡ at
      → put (f ++ flat bytes x ++ r) at (flat bytes y) ≡ f ++ flat bytes (y ++ drop (length y) x) ++ r
  put-rows f x r at y h e =
      let d = flat bytes (drop (length y) x) in
      let s = flat-cut (length y) x in
      let t = flat_append y (drop (length y) x) in
      let n = flat-cut-length (length y) x h in
      let m = length-flat y in
      let g : (z : List ℕ) → f ++ (z ++ d) ++ r ≡ f ++ z ++ (d ++ r) = λ z. simp append_assoc in
      let p = put-at f (flat bytes (take (length y) x)) (d ++ r) (flat bytes y) at e (omega arith) in
      rw (s, t, g (flat bytes (take (length y) x)), g (flat bytes y)) p

module _ {A : Type 0} (size : ℕ) (read : List ℕ → A) where
  pub length-rows : (n : ℕ) (l : List ℕ) → length (rows size read n l) ≡ n
  unfolding rows
  length-rows zero l = refl
  length-rows (suc n) l = ap suc (length-rows n (drop size l))

  pub row_at : (d : A) (n i : ℕ) (l : List ℕ) → i < n → get_or (rows size read n l) i d ≡ read (part l (i * size) size)
  unfolding rows part
  row_at d zero i l h = absurd (omega arith)
  row_at d (suc n) zero l h = rw zero-mul
  row_at d (suc n) (suc i) l h =
      let e : size + i * size ≡ suc i * size = rw suc-mul (omega arith) in
      row_at d n i (drop size l) (omega arith) ∙ rw (drop-drop, e)

-- a walk over the first n that stands at place i: the element there, and the rest
pub walk_here : {A : Type 0} (l : List A) (n i : ℕ) (d a : A) → i < n → n ≤ length l → get_or l i d ≡ a
    → drop i (take n l) ≡ a ∷ drop (suc i) (take n l)
walk_here l n i d a h k e =
    let m : i < length (take n l) = simp length-take (omega arith) in
    drop-cons (take n l) i d m ∙ ap (λ x. x ∷ drop (suc i) (take n l)) (get_or-take n l i d h ∙ e)

-- the same walk at its end: nothing is left
pub walk-over : {A : Type 0} (l : List A) (n i : ℕ) → n ≤ i → drop i (take n l) ≡ []
walk-over l n i h = let m : length (take n l) ≤ i = simp length-take (omega arith) in drop_of_length-le (take n l) m

module _ {A : Type 0} (size : ℕ) (bytes : A → List ℕ) (read : List ℕ → A) (is : List ℕ → Bool)
    (back : (l : List ℕ) → Bytes l → size ≤ length l → is (take size l) ≡ true → bytes (read (take size l)) ≡ take size l) where
  -- bytes that pass the test are those of the table that they stand for
  pub flat_rows : (n : ℕ) (l : List ℕ) → Bytes l → n * size ≤ length l → all_is size is n l ≡ true → flat bytes (rows size read n l) ≡ take (n * size) l
  unfolding flat rows all_is
  flat_rows zero l b h t = rw zero-mul
  flat_rows (suc n) l b h t =
      let e : suc n * size ≡ size + n * size = rw suc-mul (omega arith) in
      let g : size ≤ length l = omega arith in
      let k : n * size ≤ length (drop size l) = simp length-drop (omega arith) in
      by-test (is (take size l))
      (λ u. rw (e, take-add, back l b g u, flat_rows n (drop size l) (bytes_drop size l b) k (rw u at t)))
      (λ u. never (rw u at t))

-- each element of a list
abbrev pub Every : {A : Type 0} → (A → Type 0) → List A → Type 0
Every P [] = Unit {0}
Every P (a ∷ x) = P a × Every P x

module _ {A : Type 0} (size : ℕ) (bytes : A → List ℕ) (read : List ℕ → A) (Fit : A → Type 0)
    (sized : (a : A) → length (bytes a) ≡ size) (forth : (a : A) → Fit a → read (bytes a) ≡ a) where
  -- a table of records that fit is read back from its bytes
  pub rows-flat : (x : List A) (r : List ℕ) → Every Fit x → rows size read (length x) (flat bytes x ++ r) ≡ x
  unfolding rows flat
  rows-flat [] r f = refl
  rows-flat (a ∷ x) r f =
      let g : bytes a ++ flat bytes x ++ r ≡ bytes a ++ (flat bytes x ++ r) = append_assoc (bytes a) (flat bytes x) r in
      rw (g, take_at (bytes a) (flat bytes x ++ r) size (sized a), drop_at (bytes a) (flat bytes x ++ r) size (sized a), forth a f.0, rows-flat x r f.1)

module _ {A : Type 0} (size : ℕ) (read : List ℕ → A) (Fit : A → Type 0) (fit : (l : List ℕ) → Bytes l → Fit (read l)) where
  -- records that are read from bytes fit
  pub rows_fit : (n : ℕ) (l : List ℕ) → Bytes l → Every Fit (rows size read n l)
  unfolding rows
  rows_fit zero l y = tt
  rows_fit (suc n) l y = (fit (take size l) (bytes_take size l y), rows_fit n (drop size l) (bytes_drop size l y))

pub every_set : {A : Type 0} (P : A → Type 0) (l : List A) (i : ℕ) (a : A) → Every P l → P a → Every P (set l i a)
every_set P [] i a e p = tt
every_set P (x ∷ l) zero a e p = (p, e.1)
every_set P (x ∷ l) (suc i) a e p = (e.0, every_set P l i a e.1 p)

pub every_append : {A : Type 0} (P : A → Type 0) (x y : List A) → Every P x → Every P y → Every P (x ++ y)
every_append P [] y e f = f
every_append P (a ∷ x) y e f = (e.0, every_append P x y e.1 f)

pub every_drop : {A : Type 0} (P : A → Type 0) (n : ℕ) (x : List A) → Every P x → Every P (drop n x)
every_drop P zero x e = e
every_drop P (suc n) [] e = tt
every_drop P (suc n) (a ∷ x) e = every_drop P n x e.1

pub every_take : {A : Type 0} (P : A → Type 0) (k : ℕ) (x : List A) → Every P x → Every P (take k x)
every_take P zero x e = tt
every_take P (suc k) [] e = tt
every_take P (suc k) (a ∷ x) e = (e.0, every_take P k x e.1)

module _ {A : Type 0} (size : ℕ) (bytes : A → List ℕ) (is : List ℕ → Bool) (sized : (a : A) → length (bytes a) ≡ size) (good : (a : A) → is (bytes a) ≡ true) where
  -- records' bytes pass the test
  pub all-flat : (x : List A) (r : List ℕ) → all_is size is (length x) (flat bytes x ++ r) ≡ true
  unfolding all_is flat
  all-flat [] r = refl
  all-flat (a ∷ x) r =
      let g : bytes a ++ flat bytes x ++ r ≡ bytes a ++ (flat bytes x ++ r) = append_assoc (bytes a) (flat bytes x) r in
      rw (g, take_at (bytes a) (flat bytes x ++ r) size (sized a), drop_at (bytes a) (flat bytes x ++ r) size (sized a), good a) (all-flat x r)

-- ---- numbers of 64 bits, eight bytes for each

abbrev pub Small : ℕ → Type 0
Small x = x < 2 ^ 64

-- each of them is below 2^64
pub small_each : (l : List ℕ) → ((k : ℕ) → get_or l k 0 < 2 ^ 64) → Every Small l
small_each [] h = tt
small_each (x ∷ l) h = (h 0, small_each l (λ k. h (suc k)))

-- numbers put at the start are read back
pub put_back : (d l : List ℕ) → Every Small l → rows 8 num_of (length l) (put d 0 (flat (bytes_of 8) l)) ≡ l
unfolding put
put_back d l fits =
    rows-flat 8 (bytes_of 8) num_of Small (λ x. length-bytes_of 8 x) (λ x q. write_read 8 x q) l (drop (0 + length (flat (bytes_of 8) l)) d) fits

-- and so is one
pub count_back : (d : List ℕ) (n : ℕ) → n < 2 ^ 64 → rows 8 num_of 1 (put d 0 (bytes_of 8 n)) ≡ n ∷ []
unfolding flat
count_back d n h = ap (rows 8 num_of 1) (ap (put d 0) (sym (append-nil (bytes_of 8 n)))) ∙ put_back d (n ∷ []) (h, tt)
