-- The call's promise, from what the search gives. Assumes nothing.
use mathlib.Core.Path.{◌≡◌, refl, sym, ap, subst, ◌∙◌}
use mathlib.Core.Bool.{Bool, true, false, ◌||◌}
use mathlib.Core.List.{List, ◌++◌}
use Prim.Native.Nat.{ℕ, ◌≤◌}
use native.Mathlib.Omega.{arith}
use lib.Dec.{ltb}
use lib.ListN.{length, take, drop, length-take}
use lib.Seq.{drop_at}
use borrow.Author.Tests.{ltb-false}
use Rattle.le.specs.Le.{Bytes}
use Rattle.le.proofs.Laws.{bytes_take}
use Rattle.le.proofs.RowLaws.{never}
use Rattle.slot.proofs.Laws.{cond-true, cond-false}
use Rattle.state.specs.declared.Header.{Header}
use Rattle.state.specs.State.{state_len}
use Rattle.connection.specs.declared.Refusal.{Refusal}
use Rattle.connection.specs.declared.Refusal.TheVariants.{StoreShort}
use Rattle.connection.proofs.Stores.{bytes-sound}
use Rattle.call.specs.Promise.{admitted}
use Rattle.stretch.specs.declared.Stretch.{Stretch}
use Rattle.stretch.specs.Stretch.{world_of, shortest_of}
use Rattle.stretch.proofs.SearchLaws.{shortest-like}
use Rattle.call_stretch.specs.Promise.{is_refused, found_as, own_bytes, spare_short, looked_at, stretched_by, stretch_of, Spares, Looks, LookLooks, StretchLooks}
use Rattle.std.specs.Prelude.{Option, Some, None, Result, Ok, Err}

module _ (rx store spare_rx spare_store : ℕ) where
  or-false : (a b : Bool) → (a || b) ≡ false → (a ≡ false) × (b ≡ false)
  or-false true b e = never (sym e)
  or-false false b e = (refl, e)

  pub both_long : spare_short rx store spare_rx spare_store ≡ false → (rx ≤ spare_rx) × (store ≤ spare_store)
  unfolding spare_short
  both_long e =
      let k = or-false (ltb spare_rx rx) (ltb spare_store store) e in
      (ltb-false spare_rx rx k.0, ltb-false spare_store store k.1)

-- ---- refused: nothing is touched

pub refused-spares : (n : ℕ) (refused : Bool) (before : List ℕ) → Spares n refused before before
refused-spares n refused before = record { behind = refl; kept = λ e. refl }

pub look-short : (state received spare_rx spare_store : List ℕ) (rx store : ℕ) → spare_short rx store (length spare_rx) (length spare_store) ≡ true
    → LookLooks state rx store received spare_rx spare_store (Err StoreShort) spare_rx spare_store
unfolding looked_at
look-short state received spare_rx spare_store rx store e rx₀ store₀ a b =
    record {
      answer-is = sym (cond-true _ _ _ (ap (λ (n : ℕ). spare_short n (length store₀) (length spare_rx) (length spare_store)) a ∙ ap (λ (n : ℕ). spare_short rx n (length spare_rx) (length spare_store)) b ∙ e));
      rx-spared = refused-spares rx _ spare_rx;
      store-spared = refused-spares store _ spare_store;
    }

-- ---- the search, in the first bytes of the spare stores

found-not : (f : Option Stretch) → is_refused (found_as f) ≡ true → ⊥
unfolding is_refused
found-not (Some s) e = absurd (never e)
found-not None e = absurd (never e)

found-spares : (n : ℕ) (f : Option Stretch) (r : Result (Option Stretch) Refusal) (before front : List ℕ) → r ≡ found_as f → length front ≡ n → Spares n (is_refused r) before (front ++ drop n before)
found-spares n f r before front e h =
    record { behind = drop_at front (drop n before) n h; kept = λ t. absurd (found-not f (sym (ap is_refused e) ∙ t)) }

pub look-found : (state received spare_rx spare_store : List ℕ) (rx store : ℕ) (f : Option Stretch) (r : Result (Option Stretch) Refusal) (front front_store : List ℕ)
    → spare_short rx store (length spare_rx) (length spare_store) ≡ false → Bytes state → Bytes received
    → f ≡ shortest_of (world_of (own_bytes state) (take rx spare_rx) (take store spare_store)) received → r ≡ found_as f
    → length front ≡ length (take rx spare_rx) → length front_store ≡ length (take store spare_store)
    → LookLooks state rx store received spare_rx spare_store r (front ++ drop rx spare_rx) (front_store ++ drop store spare_store)
unfolding looked_at
look-found state received spare_rx spare_store rx store f r front front_store e y z g h c d rx₀ store₀ a b =
    let k = both_long rx store (length spare_rx) (length spare_store) e in
    let own = own_bytes state in
    let m : length (take rx spare_rx) ≡ length rx₀ = simp length-take (omega arith) in
    let n : length (take store spare_store) ≡ length store₀ = simp length-take (omega arith) in
    let like = shortest-like (world_of own (take rx spare_rx) (take store spare_store)) (world_of own rx₀ store₀) (record { state = refl; rx = m; store = n })
    (bytes-sound own (bytes_take state_len state y)) received z in
    let is : r ≡ looked_at (world_of own rx₀ store₀) received (length spare_rx) (length spare_store) =
    h ∙ ap found_as (g ∙ like)
    ∙ sym (cond-false _ _ _ (ap (λ (x : ℕ). spare_short x (length store₀) (length spare_rx) (length spare_store)) a ∙ ap (λ (x : ℕ). spare_short rx x (length spare_rx) (length spare_store)) b ∙ e)) in
    record {
      answer-is = is;
      rx-spared = subst (λ (x : Result (Option Stretch) Refusal). Spares rx (is_refused x) spare_rx (front ++ drop rx spare_rx)) is (found-spares rx f r spare_rx front h (c ∙ m ∙ a));
      store-spared = subst (λ (x : Result (Option Stretch) Refusal). Spares store (is_refused x) spare_store (front_store ++ drop store spare_store)) is (found-spares store f r spare_store front_store h (d ∙ n ∙ b));
    }

-- ---- the call

module _ (state rx store received spare_rx spare_store : List ℕ) (a : Result Header Refusal) (e : a ≡ admitted state (length rx) (length store)) where
  pub stretch-refused : (x : Refusal) → a ≡ Err x → StretchLooks state rx store received spare_rx spare_store (Err x) spare_rx spare_store
  unfolding stretch_of stretched_by
  stretch-refused x f =
      record {
        answer-is = sym (ap (λ (y : Result Header Refusal). stretched_by y (looked_at (world_of (own_bytes state) rx store) received (length spare_rx) (length spare_store))) (sym e ∙ f));
        rx-spared = refused-spares (length rx) _ spare_rx;
        store-spared = refused-spares (length store) _ spare_store;
      }

  pub stretch-looks : (h : Header) → a ≡ Ok h → (r : Result (Option Stretch) Refusal) (spare_rx₂ spare_store₂ : List ℕ)
      → LookLooks state (length rx) (length store) received spare_rx spare_store r spare_rx₂ spare_store₂
      → StretchLooks state rx store received spare_rx spare_store r spare_rx₂ spare_store₂
  unfolding stretch_of stretched_by
  stretch-looks h f r spare_rx₂ spare_store₂ g =
      let looked = looked_at (world_of (own_bytes state) rx store) received (length spare_rx) (length spare_store) in
      subst (λ (x : Result (Option Stretch) Refusal). Looks x (length rx) (length store) spare_rx spare_store r spare_rx₂ spare_store₂) (sym (ap (λ (y : Result Header Refusal). stretched_by y looked) (sym e ∙ f)))
      (g rx store refl refl)
