-- The call that finds the shortest stretch (docs/SCOPE.md, 14), and what it promises. Assumes nothing.
use Rattle.refusal.specs.Refusal.{found_number_of}
use Rattle.std.specs.Prelude.{ℕ, ◌≡◌, Bool, true, false, cond, ◌||◌, List, [], ◌∷◌, ltb, length, take, drop, Option, Some, None, Result, Ok, Err}
use Rattle.state.specs.State.{state_len}
use Rattle.connection.specs.declared.Refusal.TheVariants.{StoreShort}
use Rattle.connection.specs.Answer.{refusal_number}
use Rattle.call.specs.Promise.{admitted}
use Rattle.stretch.specs.declared.Stretch.{Stretch}
use Rattle.stretch.specs.Stretch.{World, world_of, shortest_of}
use Rattle.state.specs.declared.Header.{Header}
use Rattle.connection.specs.declared.Refusal.{Refusal}

-- ---- the answer

-- 0 for a stretch, 101 for none, a refusal's own
abbrev pub stretched_number : Result (Option Stretch) Refusal → ℕ
stretched_number = found_number_of refusal_number 101

-- the first frame's place and the count, 0 where there is none
unfoldable pub stretched_values : Result (Option Stretch) Refusal → List ℕ
stretched_values (Ok (Some s)) = s.first ∷ s.count ∷ 0 ∷ 0 ∷ []
stretched_values (Ok None) = 0 ∷ 0 ∷ 0 ∷ 0 ∷ []
stretched_values (Err refusal) = 0 ∷ 0 ∷ 0 ∷ 0 ∷ []

-- it is a refusal
unfoldable pub is_refused : Result (Option Stretch) Refusal → Bool
is_refused (Ok (Some s)) = false
is_refused (Ok None) = false
is_refused (Err refusal) = true

-- ---- the call

-- what a search found
abbrev pub found_as : Option Stretch → Result (Option Stretch) Refusal
found_as found = Ok found

-- a state's own bytes, without those that are lent behind them
abbrev pub own_bytes : List ℕ → List ℕ
own_bytes state = take state_len state

-- a spare store is shorter than its original
unfoldable pub spare_short : ℕ → ℕ → ℕ → ℕ → Bool
spare_short rx store spare_rx spare_store = ltb spare_rx rx || ltb spare_store store

-- 8 for a spare store, else the shortest stretch from this state; the spare stores' lengths
unfoldable pub looked_at : World → List ℕ → ℕ → ℕ → Result (Option Stretch) Refusal
looked_at w received spare_rx spare_store =
    cond (spare_short (length w.rx) (length w.store) spare_rx spare_store) (Err StoreShort) (found_as (shortest_of w received))

-- 13 and 8 first, as of every call
unfoldable pub stretched_by : Result Header Refusal → Result (Option Stretch) Refusal → Result (Option Stretch) Refusal
stretched_by (Err refusal) s = Err refusal
stretched_by (Ok h) s = s

-- the call: state and stores, received bytes, the spare stores' lengths
unfoldable pub stretch_of : List ℕ → List ℕ → List ℕ → List ℕ → ℕ → ℕ → Result (Option Stretch) Refusal
stretch_of state rx store received spare_rx spare_store =
    stretched_by (admitted state (length rx) (length store)) (looked_at (world_of (own_bytes state) rx store) received spare_rx spare_store)

-- ---- promises

-- a spare store after the call: behind the original's length as it was, and all of it where the call is refused
pub record Spares (n : ℕ) (refused : Bool) (before after : List ℕ) : Type 0 where
  pub behind : drop n after ≡ drop n before
  pub kept : refused ≡ true → after ≡ before

-- the answer, and both spare stores; state and stores are lent to be looked at
pub record Looks (s : Result (Option Stretch) Refusal) (rx store : ℕ) (spare_rx spare_store : List ℕ) (r : Result (Option Stretch) Refusal) (spare_rx₂ spare_store₂ : List ℕ) : Type 0 where
  pub answer-is : r ≡ s
  pub rx-spared : Spares rx (is_refused s) spare_rx spare_rx₂
  pub store-spared : Spares store (is_refused s) spare_store spare_store₂

-- what `stretch` promises
abbrev pub StretchLooks : List ℕ → List ℕ → List ℕ → List ℕ → List ℕ → List ℕ → Result (Option Stretch) Refusal → List ℕ → List ℕ → Type 0
StretchLooks state rx store received spare_rx spare_store r spare_rx₂ spare_store₂ =
    Looks (stretch_of state rx store received (length spare_rx) (length spare_store)) (length rx) (length store) spare_rx spare_store r spare_rx₂ spare_store₂

-- what `look` promises: of stores of these lengths
abbrev pub LookLooks : List ℕ → ℕ → ℕ → List ℕ → List ℕ → List ℕ → Result (Option Stretch) Refusal → List ℕ → List ℕ → Type 0
LookLooks state rx store received spare_rx spare_store r spare_rx₂ spare_store₂ =
    (rx₀ store₀ : List ℕ) → length rx₀ ≡ rx → length store₀ ≡ store
    → Looks (looked_at (world_of (own_bytes state) rx₀ store₀) received (length spare_rx) (length spare_store)) rx store spare_rx spare_store r spare_rx₂ spare_store₂
