-- Runs of dispatches, a frame a call. Assumes nothing.
use mathlib.Core.Path.{◌≡◌, refl, sym, ap, ◌∙◌}
use mathlib.Core.Bool.{Bool, true, false, cond}
use mathlib.Core.List.{List, [], ◌∷◌}
use Prim.Native.Nat.{ℕ, zero, suc, ◌+◌, ◌≤◌, ◌<◌}
use native.Mathlib.Omega.{arith}
use lib.Dec.{ltb}
use lib.ListN.{length, take, drop, get_or, drop_of_length-le}
use lib.Seq.{drop-cons}
use borrow.Author.Tests.{eq-eqb, ne_eqb, lt-ltb, le-ltb, ltb-true, ltb-false}
use Rattle.le.proofs.Parts.{by-test}
use Rattle.le.specs.Le.{Bytes}
use Rattle.le.proofs.Laws.{bytes_drop}
use Rattle.slot.proofs.Laws.{cond-true, cond-false}
use Rattle.connection.proofs.Stores.{Sound}
use Rattle.stretch.specs.declared.Ran.{Ran}
use Rattle.stretch.specs.declared.Turn.{Turn}
use Rattle.stretch.specs.Stretch.{World, world_of, turn_of, after, is_done, places_in, ends_in, Turns, one_more, run_of}
use Rattle.stretch.proofs.TurnLaws.{Like, like-turn, like-done, like-after, sound-after}

-- n frames more
abbrev pub more_by : ℕ → Ran → Ran
more_by n r = record { count = n + r.count; number = r.number }

-- a run told by other numbers
abbrev pub ran_of : ℕ → ℕ → Ran
ran_of count number = record { count = count; number = number }

pub recounted : (a b number : ℕ) → a ≡ b → ran_of a number ≡ ran_of b number
recounted a b number e = ap (λ (x : ℕ). ran_of x number) e

-- ---- one frame of a run

module _ (received : List ℕ) (w : World) (p : ℕ) (ps : List ℕ) where
  pub run-done : is_done w (drop p received) ≡ true → run_of w received (p ∷ ps) ≡ one_more (run_of (after w (drop p received)) received ps)
  unfolding run_of
  run-done t = cond-true _ _ _ t

  pub run-stops : is_done w (drop p received) ≡ false → run_of w received (p ∷ ps) ≡ record { count = 1; number = (turn_of w (drop p received)).number }
  unfolding run_of
  run-stops t = cond-false _ _ _ t

-- what a turn's number says
module _ (w : World) (received : List ℕ) (r : Turn) (e : r ≡ turn_of w received) where
  pub turn-done : r.number ≡ 0 → is_done w received ≡ true
  unfolding is_done
  turn-done n = eq-eqb _ 0 (sym (ap (λ (t : Turn). t.number) e) ∙ n)

  pub turn-stops : (r.number ≡ 0 → ⊥) → is_done w received ≡ false
  unfolding is_done
  turn-stops n = ne_eqb _ 0 (λ z. n (ap (λ (t : Turn). t.number) e ∙ z))

-- what is worked on is what the definition leaves
pub turned : (w : World) (received : List ℕ) (r : Turn) (state rx store : List ℕ) → Turns w received r state rx store → world_of state rx store ≡ after w received
turned w received r state rx store t =
    ap (λ (x : List ℕ). world_of x rx store) t.state-is ∙ ap (λ (x : List ℕ). world_of (after w received).state x store) t.rx-is
    ∙ ap (λ (x : List ℕ). world_of (after w received).state (after w received).rx x) t.store_is

-- ---- a run, frame by frame

-- i frames are done: the rest of the run goes on from what they left
pub record Running (w : World) (received ps : List ℕ) (now : World) (i : ℕ) : Type 0 where
  pub within : i ≤ length ps
  pub ran : run_of w received ps ≡ more_by i (run_of now received (drop i ps))

module _ (w : World) (received ps : List ℕ) where
  pub running-starts : Running w received ps w 0
  running-starts = record { within = omega arith; ran = recounted (run_of w received ps).count (0 + (run_of w received ps).count) (run_of w received ps).number (omega arith) }

  module _ (state rx store : List ℕ) (i : ℕ) (g : Running w received ps (world_of state rx store) i) where
    abbrev here : World
    here = world_of state rx store

    at-end : (j : ℕ) → length ps ≤ j → j ≡ i → length ps ≤ i
    at-end j h e = omega arith

    pub running-ends : (j : ℕ) → length ps ≤ j → j ≡ i → record { count = j; number = 0 } ≡ run_of w received ps
    unfolding run_of
    running-ends j h e = sym (g.ran ∙ ap (λ (x : List ℕ). more_by i (run_of here received x)) (drop_of_length-le ps (at-end j h e))
        ∙ recounted (i + 0) j 0 (omega arith))

    module _ (h : i < length ps) (r : Turn) (state₂ rx₂ store₂ : List ℕ) (t : Turns here (drop (get_or ps i 0) received) r state₂ rx₂ store₂) where
      head : run_of here received (drop i ps) ≡ run_of here received (get_or ps i 0 ∷ drop (suc i) ps)
      head = ap (run_of here received) (drop-cons ps i 0 h)

      pub running-stops : (r.number ≡ 0 → ⊥) → record { count = i + 1; number = r.number } ≡ run_of w received ps
      running-stops n =
          let e = t.turn_is in
          sym (g.ran ∙ ap (more_by i) (head ∙ run-stops received here _ _ (turn-stops here _ r e n))
          ∙ ap (λ (x : ℕ). record { count = i + 1; number = x }) (sym (ap (λ (z : Turn). z.number) e)))

      pub running-goes : r.number ≡ 0 → Running w received ps (world_of state₂ rx₂ store₂) (i + 1)
      running-goes n =
          let e = t.turn_is in
          let z = turned here (drop (get_or ps i 0) received) r state₂ rx₂ store₂ t in
          let rest = run_of (after here (drop (get_or ps i 0) received)) received (drop (suc i) ps) in
          let next : drop (suc i) ps ≡ drop (i + 1) ps = ap (λ (x : ℕ). drop x ps) {x = suc i} {y = i + 1} (omega arith) in
          let one : more_by i (one_more rest) ≡ more_by (i + 1) rest = recounted (i + suc rest.count) (i + 1 + rest.count) rest.number (omega arith) in
          record {
            within = omega arith;
            ran = g.ran ∙ ap (more_by i) (head ∙ run-done received here _ _ (turn-done here _ r e n)) ∙ one
                ∙ ap (λ (x : World). more_by (i + 1) (run_of x received (drop (suc i) ps))) (sym z)
                ∙ ap (λ (x : List ℕ). more_by (i + 1) (run_of (world_of state₂ rx₂ store₂) received x)) next;
          }

-- ---- what a run says

below : (n m : ℕ) → ltb n m ≡ ltb (suc n) (suc m)
below n m =
    by-test (ltb n m) (λ t. t ∙ sym (lt-ltb (suc n) (suc m) (omega (arith, ltb-true n m t)))) (λ t. t ∙ sym (le-ltb (suc n) (suc m) (omega (arith, ltb-false n m t))))

-- of the first n frames
pub ends-take : (w : World) (received ps : List ℕ) (n : ℕ) → ends_in w received (take n ps) ≡ cond (ltb n (run_of w received ps).count) 0 (run_of w received ps).number
unfolding ends_in run_of
ends-take w received [] zero = refl
ends-take w received [] (suc n) = rw (le-ltb (suc n) 0 (omega arith)) refl
ends-take w received (p ∷ ps) zero =
    by-test (is_done w (drop p received)) (λ t. rw (t, lt-ltb 0 (suc (run_of (after w (drop p received)) received ps).count) (omega arith)) refl) (λ t. rw t refl)
ends-take w received (p ∷ ps) (suc n) =
    by-test (is_done w (drop p received))
    (λ t. rw t (ends-take (after w (drop p received)) received ps n ∙ ap (λ (b : Bool). cond b 0 (run_of (after w (drop p received)) received ps).number) (below n (run_of (after w (drop p received)) received ps).count)))
    (λ t. rw (t, le-ltb (suc n) 1 (omega arith)) refl)

-- of all of them
pub ends-run : (w : World) (received ps : List ℕ) → ends_in w received ps ≡ (run_of w received ps).number
unfolding ends_in run_of
ends-run w received [] = refl
ends-run w received (p ∷ ps) = by-test (is_done w (drop p received)) (λ t. rw t (ends-run (after w (drop p received)) received ps)) (λ t. rw t refl)

-- it has no more frames than there are
pub run-few : (w : World) (received ps : List ℕ) → (run_of w received ps).count ≤ length ps
unfolding run_of
run-few w received [] = omega arith
run-few w received (p ∷ ps) =
    by-test (is_done w (drop p received)) (λ t. let i = run-few (after w (drop p received)) received ps in rw t (omega arith)) (λ t. rw t (omega arith))

-- and some where it ends in a number
pub run-some : (w : World) (received ps : List ℕ) → 0 < (run_of w received ps).number → 1 ≤ (run_of w received ps).count
unfolding run_of
run-some w received [] h = absurd (omega arith)
run-some w received (p ∷ ps) h =
    by-test (is_done w (drop p received)) (λ t. rw t (omega arith)) (λ t. rw t (omega arith))

-- ---- the same state, stores of the same lengths: the same run, and the same frames

pub run-like : (w v : World) → Like w v → Sound w.state → (received : List ℕ) → Bytes received → (ps : List ℕ) → run_of w received ps ≡ run_of v received ps
unfolding run_of
run-like w v k s received y [] = refl
run-like w v k s received y (p ∷ ps) =
    let f = drop p received in
    let z = bytes_drop p received y in
    rw (like-done w v k f, like-turn w v k f)
    (ap (λ (r : Ran). cond (is_done v f) (one_more r) (ran_of 1 (turn_of v f).number)) (run-like (after w f) (after v f) (like-after w v k f s z) (sound-after w v k f s z) received y ps))

pub ends-like : (w v : World) → Like w v → Sound w.state → (received : List ℕ) → Bytes received → (ps : List ℕ) → ends_in w received ps ≡ ends_in v received ps
ends-like w v k s received y ps = ends-run w received ps ∙ ap (λ (r : Ran). r.number) (run-like w v k s received y ps) ∙ sym (ends-run v received ps)

pub places-like : (n : ℕ) (w v : World) → Like w v → Sound w.state → (received : List ℕ) → Bytes received → (at : ℕ) → places_in n w received at ≡ places_in n v received at
unfolding places_in
places-like zero w v k s received y at = refl
places-like (suc n) w v k s received y at =
    let f = drop at received in
    let z = bytes_drop at received y in
    rw (like-done w v k f, like-turn w v k f)
    (ap (λ (l : List ℕ). at ∷ cond (is_done v f) l []) (places-like n (after w f) (after v f) (like-after w v k f s z) (sound-after w v k f s z) received y (at + (turn_of v f).used)))
