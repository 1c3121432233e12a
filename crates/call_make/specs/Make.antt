-- What making a state does to its bytes. Assumes nothing.
use Rattle.std.specs.Prelude.{ℕ, ◌≡◌, Bool, cond, List, [], ◌∷◌, ltb, length, replicate, Result, Ok, Err}
use Rattle.config.specs.declared.ConnectionConfig.{ConnectionConfig}
use Rattle.features.specs.Features.{has_feature}
use Rattle.state.specs.State.{none_queued}
use Rattle.slot.specs.Slot.{empty_slot}
use Rattle.le.specs.Rows.{flat}
use Rattle.state.specs.State.{state_len, slot_bytes, queued_bytes}
use Rattle.connection.specs.declared.Answer.{Answer}
use Rattle.connection.specs.declared.Answer.TheVariants.{Done, Refused}
use Rattle.connection.specs.declared.Refusal.{Refusal}
use Rattle.connection.specs.declared.Refusal.TheVariants.{StoreShort}
use Rattle.connection.specs.Calls.{Made, make_of}

-- the bytes of n slots with no channel
unfoldable pub empty_slots : ℕ → List ℕ
empty_slots n = flat slot_bytes (replicate n empty_slot)

-- the bytes of n places where no open is queued
unfoldable pub empty_queue : ℕ → List ℕ
empty_queue n = flat queued_bytes (replicate n none_queued)

-- refusal 8 for a state that is too short, and nothing changes; else what the definition says
unfoldable pub make_in : ConnectionConfig → ℕ → ℕ → Bool → Bool → List ℕ → Made
make_in c a b host device state = cond (ltb (length state) state_len) (record { answer = Refused StoreShort; state = state }) (make_of c a b host device state)

-- "delayed_ack"
abbrev pub delayed_ack_name : List ℕ
delayed_ack_name = 100 ∷ 101 ∷ 108 ∷ 97 ∷ 121 ∷ 101 ∷ 100 ∷ 95 ∷ 97 ∷ 99 ∷ 107 ∷ []

-- the same from the device's CNXN itself: whether it lists delayed acknowledgement is found from its payload, the identity text
abbrev pub make_from : ConnectionConfig → ℕ → ℕ → Bool → List ℕ → List ℕ → Made
make_from c a b host identity state = make_in c a b host (has_feature identity delayed_ack_name) state

-- what `make` answers, as the calls' answers have it
abbrev pub answered : Result (Unit {0}) Refusal → Answer
answered (Ok done) = Done
answered (Err refusal) = Refused refusal

-- what `make` promises: the answer, and every byte of the state
pub record Makes (m : Made) (r : Result (Unit {0}) Refusal) (state : List ℕ) : Type 0 where
  pub answer-is : answered r ≡ m.answer
  pub state-is : state ≡ m.state
