-- The search over all stretches finds what one run from each start does. Assumes nothing.
use mathlib.Core.Path.{◌≡◌, refl, sym, ap, subst, ◌∙◌}
use mathlib.Core.Bool.{Bool, true, false, cond, ◌&&◌}
use mathlib.Core.List.{List, [], ◌∷◌, ◌++◌}
use Prim.Native.Nat.{ℕ, zero, suc, ◌+◌, ◌-◌, ◌≤◌, ◌<◌}
use native.Mathlib.Omega.{arith}
use lib.Dec.{eqb, ltb}
use lib.ListN.{length, take, drop, length-drop}
use lib.Seq.{take_all, get_or-drop}
use borrow.Author.Tests.{eqb-true, eqb-false, ltb-true, ltb-false, eq-eqb, ne_eqb, lt-ltb, le-ltb}
use Rattle.config.proofs.Laws.{and-true}
use Rattle.le.specs.Le.{Bytes}
use Rattle.le.proofs.Parts.{by-test}
use Rattle.le.proofs.RowLaws.{never}
use Rattle.slot.proofs.Laws.{cond-true, cond-false}
use Rattle.connection.proofs.Stores.{Sound, bytes-sound}
use Rattle.stretch.specs.declared.Ran.{Ran}
use Rattle.stretch.specs.declared.Stretch.{Stretch}
use Rattle.stretch.specs.Stretch.{World, world_of, frames_in, ends_in, of_count, from_count, stretches_of, first_of, ends_so, shortest_in, is_counted, shortest_of, run_of, Inside, Tells, is_shorter, Searches}
use Rattle.stretch.proofs.RunLaws.{ends-take, ends-run, run-some, run-few, run-like, ends-like, places-like}
use Rattle.stretch.proofs.TellLaws.{places-inside, places-few}
use Rattle.stretch.proofs.TestLaws.{counted-some}
use Rattle.stretch.proofs.TurnLaws.{Like}
use Rattle.std.specs.Prelude.{Option, Some, None}

-- ---- the search, by any test

abbrev stretch : ℕ → ℕ → Stretch
stretch i n = record { first = i; count = n }

before : (i place : ℕ) → i ≤ place → (i ≡ place → ⊥) → i < place
before i place a z = omega arith

same_place : (j i : ℕ) → j < i + 1 → i ≤ j → i ≡ j
same_place j i a z = omega arith

module _ (t : Stretch → Bool) where
  first-skips : (n i m : ℕ) (rest : List Stretch) → ((j : ℕ) → i ≤ j → j < i + m → t (stretch j n) ≡ false) → first_of t (of_count n i m ++ rest) ≡ first_of t rest
  unfolding first_of of_count
  first-skips n i zero rest f = refl
  first-skips n i (suc m) rest f = rw (f i (omega arith) (omega arith)) (first-skips n (suc i) m rest (λ j a b. f j (omega arith) (omega arith)))

  first_finds : (n i m place : ℕ) (rest : List Stretch) → i ≤ place → place < i + m → ((j : ℕ) → j < place → t (stretch j n) ≡ false) → t (stretch place n) ≡ true
      → first_of t (of_count n i m ++ rest) ≡ Some (stretch place n)
  unfolding first_of of_count
  first_finds n i zero place rest a b f g = absurd (omega arith)
  first_finds n i (suc m) place rest a b f g =
      by-test (eqb i place)
      (λ e. let z = eqb-true i place e in subst (λ (j : ℕ). cond (t (stretch j n)) (Some (stretch j n)) (first_of t (of_count n (suc i) m ++ rest)) ≡ (Some (stretch place n))) (sym z) (rw g refl))
      (λ e. let z = eqb-false i place e in
      rw (f i (before i place a z)) (first_finds n (suc i) m place rest (before i place a z) (omega arith) f g))

  -- the fewest of those that begin before place `to`, and the earliest of these: nothing before it in the search passes
  pub record Best (k first count to : ℕ) : Type 0 where
    pub some : 1 ≤ count
    pub fits : first + count ≤ k
    pub here : t (stretch first count) ≡ true
    pub fewer : (i n : ℕ) → i < to → n < count → t (stretch i n) ≡ false
    pub earlier : (i : ℕ) → i < first → t (stretch i count) ≡ false

  module _ (k first count : ℕ) (b : Best k first count k) where
    from-finds : (n m : ℕ) → n + m ≡ k + 1 → 1 ≤ n → n ≤ count → first_of t (from_count n m) ≡ Some (stretch first count)
    unfolding from_count
    from-finds n zero e o h = let f = b.fits in absurd (omega arith)
    from-finds n (suc m) e o h =
        let f = b.fits in
        by-test (eqb n count)
        (λ u. let z = eqb-true n count u in
        subst (λ (x : ℕ). first_of t (of_count x 0 (suc m) ++ from_count (suc n) m) ≡ (Some (stretch first count))) (sym z)
        (first_finds count 0 (suc m) first (from_count (suc n) m) (omega arith) (omega arith) b.earlier b.here))
        (λ u. let z = before n count h (eqb-false n count u) in
        first-skips n 0 (suc m) (from_count (suc n) m) (λ j a c. b.fewer j n (omega arith) z) ∙ from-finds (suc n) m (omega arith) (omega arith) z)

    pub best-found : (Some (stretch first count)) ≡ first_of t (stretches_of k)
    unfolding stretches_of
    best-found = let o = b.some in sym (from-finds 1 k (omega arith) (omega arith) (omega arith))

and-false : (a b : Bool) → (a && b) ≡ false → a ≡ true → b ≡ false
and-false true b e f = e
and-false false b e f = never f

-- ---- one run from each start

module _ (w : World) (received ps : List ℕ) (x : ℕ) (some : 0 < x) where
  abbrev test : Stretch → Bool
  test s = ends_so w received ps x s

  -- what a run from place i says of each stretch from there
  by-run : (i n : ℕ) (r : Ran) → r ≡ run_of w received (drop i ps) → test (stretch i n) ≡ eqb (cond (ltb n r.count) 0 r.number) x
  unfolding ends_so
  by-run i n r e =
      ap (λ (y : ℕ). eqb y x) (ends-take w received (drop i ps) n ∙ ap (λ (z : Ran). cond (ltb n z.count) 0 z.number) (sym e))

  zero-not : eqb 0 x ≡ false
  zero-not = ne_eqb 0 x (λ e. omega arith)

  pub best-starts : ends_in w received ps ≡ x → Best test (length ps) 0 (length ps) 0
  unfolding ends_so
  best-starts e =
      record {
        some = nonempty ps e;
        fits = omega arith;
        here = ap (λ (l : List ℕ). eqb (ends_in w received l) x) (take_all (length ps) ps (omega arith)) ∙ eq-eqb _ x e;
        fewer = λ i n a b. absurd (omega arith);
        earlier = λ i a. absurd (omega arith);
      }
    where
      nonempty : (l : List ℕ) → ends_in w received l ≡ x → 1 ≤ length l
      nonempty l e =
          let r = ends-run w received l in
          let few = run-few w received l in
          let one = run-some w received l (omega arith) in
          omega arith

  module _ (first count i : ℕ) (b : Best test (length ps) first count i) (h : i < length ps) (r : Ran) (e : r ≡ run_of w received (drop i ps)) where
    -- the run is shorter
    pub best_takes : is_shorter r x count ≡ true → Best test (length ps) i r.count (i + 1)
    unfolding is_shorter
    best_takes s =
        let k = and-true _ _ s in
        let number = eqb-true r.number x k.0 in
        let short = ltb-true r.count count k.1 in
        let most : r.count ≤ length (drop i ps) = subst (λ (z : Ran). z.count ≤ length (drop i ps)) (sym e) (run-few w received (drop i ps)) in
        let left = length-drop i ps in
        record {
          some = subst (λ (z : Ran). 0 < z.number → 1 ≤ z.count) (sym e) (run-some w received (drop i ps)) (omega arith);
          fits = omega arith;
          here = by-run i r.count r e ∙ rw (le-ltb r.count r.count (omega arith)) (eq-eqb r.number x number);
          fewer = λ j n a c. at_most j n a c (omega arith);
          earlier = λ j a. b.fewer j r.count a short;
        }
      where
        at_most : (j n : ℕ) → j < i + 1 → n < r.count → r.count < count → test (stretch j n) ≡ false
        at_most j n a c s =
            by-test (ltb j i) (λ u. b.fewer j n (ltb-true j i u) (omega arith))
            (λ u. let z = ltb-false j i u in
            subst (λ (y : ℕ). test (stretch y n) ≡ false) (same_place j i a z) (by-run i n r e ∙ rw (lt-ltb n r.count c) zero-not))

    -- or not
    pub best-stays : is_shorter r x count ≡ false → Best test (length ps) first count (i + 1)
    unfolding is_shorter
    best-stays s =
        record {
          some = b.some;
          fits = b.fits;
          here = b.here;
          fewer = λ j n a c. at_most j n a c;
          earlier = b.earlier;
        }
      where
        from-here : (n : ℕ) → n < count → test (stretch i n) ≡ false
        from-here n c =
            by-run i n r e ∙ by-test (eqb r.number x)
            (λ u. let f = and-false (eqb r.number x) (ltb r.count count) s u in
            rw (lt-ltb n r.count (omega (arith, ltb-false r.count count f))) zero-not)
            (λ u. by-test (ltb n r.count) (λ v. rw v zero-not) (λ v. rw v u))

        at_most : (j n : ℕ) → j < i + 1 → n < count → test (stretch j n) ≡ false
        at_most j n a c =
            by-test (ltb j i) (λ u. b.fewer j n (ltb-true j i u) c)
            (λ u. subst (λ (y : ℕ). test (stretch y n) ≡ false) (same_place j i a (ltb-false j i u)) (from-here n c))

  -- a run from every start was looked at
  pub best-is : (first count i : ℕ) → Best test (length ps) first count i → length ps ≤ i → i ≤ length ps → (Some (stretch first count)) ≡ shortest_in w received ps x
  unfolding shortest_in
  best-is first count i b h k =
      let e : i ≡ length ps = omega arith in
      best-found test (length ps) first count (subst (Best test (length ps) first count) e b)

-- ---- the same state, stores of the same lengths: the same answer

first-same : (t u : Stretch → Bool) → ((s : Stretch) → t s ≡ u s) → (ss : List Stretch) → first_of t ss ≡ first_of u ss
unfolding first_of
first-same t u f [] = refl
first-same t u f (s ∷ ss) = rw (f s) (ap (λ (y : Option Stretch). cond (u s) (Some s) y) (first-same t u f ss))

module _ (w v : World) (k : Like w v) (s : Sound w.state) (received : List ℕ) (y : Bytes received) where
  pub shortest-in-like : (ps : List ℕ) (x : ℕ) → shortest_in w received ps x ≡ shortest_in v received ps x
  unfolding shortest_in ends_so
  shortest-in-like ps x =
      first-same (ends_so w received ps x) (ends_so v received ps x)
      (λ z. ap (λ (n : ℕ). eqb n x) (ends-like w v k s received y (take z.count (drop z.first ps)))) (stretches_of (length ps))

  pub shortest-like : shortest_of w received ≡ shortest_of v received
  unfolding shortest_of frames_in
  shortest-like =
      let frames = places-like 32 w v k s received y 0 in
      let ends = ends-like w v k s received y (frames_in v received) in
      let e : ends_in w received (frames_in w received) ≡ ends_in v received (frames_in v received) = ap (ends_in w received) frames ∙ ends in
      ap (λ (n : ℕ). cond (is_counted n) (shortest_in w received (frames_in w received) n) None) e
      ∙ ap (λ (ps : List ℕ). cond (is_counted (ends_in v received (frames_in v received))) (shortest_in w received ps (ends_in v received (frames_in v received))) None) frames
      ∙ ap (λ (r : Option Stretch). cond (is_counted (ends_in v received (frames_in v received))) r None) (shortest-in-like (frames_in v received) (ends_in v received (frames_in v received)))

-- ---- a run on the copy, begun anew

pub inside-rest : (received ps : List ℕ) (i : ℕ) → Inside received ps → Inside received (take (length ps - i) (drop i ps))
inside-rest received ps i f =
    subst (Inside received) (sym (take_all (length ps - i) (drop i ps) (omega (arith, length-drop i ps))))
    (λ j h. subst (λ (n : ℕ). n ≤ length received) (sym (get_or-drop i ps j 0)) (f (i + j) (omega (arith, length-drop i ps))))

pub run-from : (copy state rx store rx₀ store₀ received ps : List ℕ) (i : ℕ) (r : Ran) → copy ≡ state → length rx ≡ length rx₀ → length store ≡ length store₀
    → Bytes state → Bytes received → r ≡ run_of (world_of copy rx store) received (take (length ps - i) (drop i ps)) → r ≡ run_of (world_of state rx₀ store₀) received (drop i ps)
run-from copy state rx store rx₀ store₀ received ps i r c a b y z e =
    e ∙ ap (run_of (world_of copy rx store) received) (take_all (length ps - i) (drop i ps) (omega (arith, length-drop i ps)))
    ∙ run-like (world_of copy rx store) (world_of state rx₀ store₀) (record { state = c; rx = a; store = b }) (bytes-sound copy (subst Bytes (sym c) y)) received z (drop i ps)

-- ---- the whole: frames told apart on a copy of the state, then the search

pub told-few : (w : World) (received : List ℕ) (told : Ran) (places : List ℕ) → Tells w received told places → told.count ≤ 32
unfolding frames_in
told-few w received told places t =
    let c : told.count ≡ (run_of w received (frames_in w received)).count = ap (λ (z : Ran). z.count) t.ran-is in
    let a = run-few w received (frames_in w received) in
    let b = places-few 32 w received 0 in
    omega arith

module _ (copy state rx store received places : List ℕ) (told : Ran) (e : copy ≡ state) (t : Tells (world_of copy rx store) received told places) where
  abbrev given : World
  given = world_of state rx store

  tells : Tells given received told places
  tells = subst (λ (l : List ℕ). Tells (world_of l rx store) received told places) e t

  number_is : told.number ≡ ends_in given received (frames_in given received)
  number_is = ap (λ (z : Ran). z.number) tells.ran-is ∙ sym (ends-run given received (frames_in given received))

  pub none_found : is_counted told.number ≡ false → None ≡ shortest_of given received
  unfolding shortest_of
  none_found f = sym (cond-false _ _ _ (ap is_counted (sym number_is) ∙ f))

  module _ (rx₂ store₂ : List ℕ) (a : length rx₂ ≡ length rx) (b : length store₂ ≡ length store) (y : Bytes state) (z : Bytes received) (f : is_counted told.number ≡ true) where
    abbrev later : World
    later = world_of state rx₂ store₂

    like : Like later given
    like = record { state = refl; rx = a; store = b }

    pub search-asks : Searches later received (take told.count places) told.number
    unfolding frames_in
    search-asks =
        record {
          inside = subst (Inside received) (sym tells.places-are) (places-inside 32 given received 0 (omega arith));
          ends = ap (ends_in later received) tells.places-are ∙ ends-like later given like (bytes-sound state y) received z (frames_in given received) ∙ sym number_is;
          refused = counted-some told.number f;
        }

    pub found-is : (r : Option Stretch) → r ≡ shortest_in later received (take told.count places) told.number → r ≡ shortest_of given received
    unfolding shortest_of
    found-is r g =
        g ∙ ap (λ (ps : List ℕ). shortest_in later received ps told.number) tells.places-are
        ∙ shortest-in-like later given like (bytes-sound state y) received z (frames_in given received) told.number
        ∙ ap (shortest_in given received (frames_in given received)) number_is
        ∙ sym (cond-true _ _ _ (ap is_counted (sym number_is) ∙ f))
