-- Telling the frames apart, frame by frame. Assumes nothing.
use mathlib.Core.Path.{◌≡◌, refl, sym, ap, subst, ◌∙◌}
use mathlib.Core.Bool.{true, false}
use mathlib.Core.List.{List, [], ◌∷◌, ◌++◌, append-nil}
use Prim.Native.Nat.{ℕ, zero, suc, ◌+◌, ◌-◌, ◌≤◌, ◌<◌}
use native.Mathlib.Omega.{arith}
use lib.ListN.{length, take, drop, set}
use lib.Seq.{append_snoc, take-suc-set}
use Rattle.slot.proofs.Kept.{pick}
use Rattle.slot.proofs.Laws.{cond-true, cond-false}
use Rattle.stretch.specs.declared.Turn.{Turn}
use Rattle.stretch.specs.Stretch.{World, world_of, turn_of, after, is_done, places_in, frames_in, Turns, run_of, Inside, Tells}
use Rattle.stretch.proofs.TurnLaws.{used-inside}
use Rattle.stretch.proofs.RunLaws.{more_by, ran_of, recounted, run-done, run-stops, turn-done, turn-stops, turned}

module _ (m : ℕ) (w : World) (received : List ℕ) (at : ℕ) where
  places-done : is_done w (drop at received) ≡ true
      → places_in (suc m) w received at ≡ at ∷ places_in m (after w (drop at received)) received (at + (turn_of w (drop at received)).used)
  unfolding places_in
  places-done t = ap (λ (l : List ℕ). at ∷ l) (cond-true _ _ _ t)

  places-stop : is_done w (drop at received) ≡ false → places_in (suc m) w received at ≡ at ∷ []
  unfolding places_in
  places-stop t = ap (λ (l : List ℕ). at ∷ l) (cond-false _ _ _ t)

-- one place more
next_place : (places : List ℕ) (n at : ℕ) → n < length places → take (n + 1) (set places n at) ≡ take n places ++ (at ∷ [])
next_place places n at h = ap (λ (x : ℕ). take x (set places n at)) {x = n + 1} {y = suc n} (omega arith) ∙ take-suc-set places n at h

-- n frames are done, and their places are told: the rest goes on from what they left
pub record Telling (w : World) (received : List ℕ) (now : World) (n at : ℕ) (places : List ℕ) : Type 0 where
  pub within : n ≤ 32
  pub inside : at ≤ length received
  pub places-are : frames_in w received ≡ take n places ++ places_in (32 - n) now received at
  pub ran : run_of w received (frames_in w received) ≡ more_by n (run_of now received (places_in (32 - n) now received at))

module _ (w : World) (received : List ℕ) where
  pub telling-starts : (places : List ℕ) → Telling w received w 0 0 places
  unfolding frames_in
  telling-starts places =
      record {
        within = omega arith;
        inside = omega arith;
        places-are = refl;
        ran = recounted _ _ _ (omega arith);
      }

  module _ (state rx store : List ℕ) (n at : ℕ) (places : List ℕ) (g : Telling w received (world_of state rx store) n at places) (long : length places ≡ 32) where
    abbrev here : World
    here = world_of state rx store

    pub telling-ends : 32 ≤ n → Tells w received (ran_of n 0) places
    unfolding places_in run_of
    telling-ends h =
        let z : n ≡ 32 = omega (arith, g.within) in
        let e : 32 - n ≡ 0 = omega arith in
        let none : places_in (32 - n) here received at ≡ [] = ap (λ (m : ℕ). places_in m here received at) e in
        record {
          ran-is = sym (g.ran ∙ ap (λ (l : List ℕ). more_by n (run_of here received l)) none ∙ recounted (n + 0) n 0 (omega arith));
          places-are = sym (g.places-are ∙ ap (λ (l : List ℕ). take n places ++ l) none ∙ append-nil (take n places));
        }

    module _ (h : n < 32) (r : Turn) (state₂ rx₂ store₂ : List ℕ) (t : Turns here (drop at received) r state₂ rx₂ store₂) where
      less : 32 - n ≡ suc (32 - (n + 1))
      less = omega arith

      put-place : take (n + 1) (set places n at) ≡ take n places ++ (at ∷ [])
      put-place = next_place places n at (omega arith)

      pub telling-stops : (r.number ≡ 0 → ⊥) → Tells w received (ran_of (n + 1) r.number) (set places n at)
      telling-stops o =
          let e = t.turn_is in
          let u = turn-stops here (drop at received) r e o in
          let one : places_in (32 - n) here received at ≡ at ∷ [] =
          ap (λ (m : ℕ). places_in m here received at) less ∙ places-stop (32 - (n + 1)) here received at u in
          record {
            ran-is = sym (g.ran ∙ ap (λ (l : List ℕ). more_by n (run_of here received l)) one ∙ ap (more_by n) (run-stops received here at [] u)
                ∙ ap (ran_of (n + 1)) (sym (ap (λ (z : Turn). z.number) e)));
            places-are = put-place ∙ sym (g.places-are ∙ ap (λ (l : List ℕ). take n places ++ l) one);
          }

      pub telling-goes : r.number ≡ 0 → Telling w received (world_of state₂ rx₂ store₂) (n + 1) (at + r.used) (set places n at)
      telling-goes o =
          let e = t.turn_is in
          let u = turn-done here (drop at received) r e o in
          let z = turned here (drop at received) r state₂ rx₂ store₂ t in
          let used = ap (λ (y : Turn). y.used) e in
          let m = 32 - (n + 1) in
          let rest = places_in m (after here (drop at received)) received (at + (turn_of here (drop at received)).used) in
          let rest₂ = places_in m (world_of state₂ rx₂ store₂) received (at + r.used) in
          let same : rest ≡ rest₂ =
          ap (λ (x : World). places_in m x received (at + (turn_of here (drop at received)).used)) (sym z)
          ∙ ap (λ (x : ℕ). places_in m (world_of state₂ rx₂ store₂) received (at + x)) (sym used) in
          let more : places_in (32 - n) here received at ≡ at ∷ rest = ap (λ (x : ℕ). places_in x here received at) less ∙ places-done m here received at u in
          let ran = run_of (after here (drop at received)) received rest in
          let fits = used-inside here received at g.inside u in
          record {
            within = omega arith;
            inside = subst (λ (x : ℕ). at + x ≤ length received) (sym used) fits;
            places-are = g.places-are ∙ ap (λ (l : List ℕ). take n places ++ l) more ∙ sym (append_snoc (take n places) at rest)
                ∙ ap (λ (l : List ℕ). l ++ rest) (sym put-place) ∙ ap (λ (l : List ℕ). take (n + 1) (set places n at) ++ l) same;
            ran = g.ran ∙ ap (λ (l : List ℕ). more_by n (run_of here received l)) more ∙ ap (more_by n) (run-done received here at rest u)
                ∙ recounted (n + suc ran.count) (n + 1 + ran.count) ran.number (omega arith)
                ∙ ap (λ (x : World). more_by (n + 1) (run_of x received rest)) (sym z)
                ∙ ap (λ (l : List ℕ). more_by (n + 1) (run_of (world_of state₂ rx₂ store₂) received l)) same;
          }

-- ---- the places lie in the received bytes

inside-cons : (received : List ℕ) (p : ℕ) (ps : List ℕ) → p ≤ length received → Inside received ps → Inside received (p ∷ ps)
inside-cons received p ps a f zero k = a
inside-cons received p ps a f (suc j) k = f j (omega arith)

inside-none : (received : List ℕ) → Inside received []
inside-none received j k = absurd (omega arith)

pub places-inside : (m : ℕ) (w : World) (received : List ℕ) (at : ℕ) → at ≤ length received → Inside received (places_in m w received at)
unfolding places_in
places-inside zero w received at h = inside-none received
places-inside (suc m) w received at h =
    pick (λ (l : List ℕ). Inside received (at ∷ l)) (is_done w (drop at received))
    (λ t. inside-cons received at (places_in m (after w (drop at received)) received (at + (turn_of w (drop at received)).used)) h
    (places-inside m (after w (drop at received)) received (at + (turn_of w (drop at received)).used) (used-inside w received at h t)))
    (λ t. inside-cons received at [] h (inside-none received))

-- and are at most as many as are looked for
pub places-few : (m : ℕ) (w : World) (received : List ℕ) (at : ℕ) → length (places_in m w received at) ≤ m
unfolding places_in
places-few zero w received at = omega arith
places-few (suc m) w received at =
    pick (λ (l : List ℕ). suc (length l) ≤ suc m) (is_done w (drop at received))
    (λ t. let i = places-few m (after w (drop at received)) received (at + (turn_of w (drop at received)).used) in omega arith) (λ t. omega arith)
