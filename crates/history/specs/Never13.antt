-- Refusal 13 is never given on a state that make began, whatever the calls (docs/SCOPE.md, 6: it is given for a state that is
-- not whole and for nothing else). Assumes nothing.
use Rattle.std.specs.Prelude.{ℕ, true, false, List, ◌++◌, ◌≡◌, length, drop}
use Rattle.le.specs.Le.{Bytes}
use Rattle.config.specs.declared.negotiated.Negotiated.{Negotiated}
use Rattle.config.specs.Config.{stores_fit}
use Rattle.state.specs.State.{state_len, layout, state_of}
use Rattle.state_whole.specs.Whole.{is_whole}
use Rattle.connection.specs.Answer.{answer_number}
use Rattle.history.specs.Run.{Call, World, outcome, after_all, Start, begins, agreed_in}

-- what holds of the lent bytes: n is what was negotiated; state, rx and store are the bytes that make was lent
pub record Unbroken (n : Negotiated) (state rx store : List ℕ) (w : World) : Type 0 where
  -- the state is whole: a layout, and behind it the bytes that were lent
  pub is-whole : is_whole w.state ≡ true
  pub is-layout : w.state ≡ layout (state_of w.state) ++ drop state_len state
  -- so no call answers 13
  pub never : (x : Call) → answer_number (outcome w x).answer ≡ 13 → ⊥
  -- both stores keep their lengths, and what was negotiated stays
  pub rx-length : length w.rx ≡ length rx
  pub store_length : length w.store ≡ length store
  pub negotiated : (state_of w.state).header.negotiated ≡ n

-- for every make that is not refused and all lists of calls
abbrev pub Never13 : Type 0
Never13 = (s : Start) (cs : List Call) → Unbroken (agreed_in s) s.state s.rx s.store (after_all (begins s) cs)

-- the same where the lent bytes are a whole state, whatever wrote them
abbrev pub StaysWhole : Type 0
StaysWhole =
    (w : World) → Bytes w.state → is_whole w.state ≡ true
    → (cs : List Call) → Unbroken (state_of w.state).header.negotiated w.state w.rx w.store (after_all w cs)

-- where a store is under its length, every call answers 8 and changes nothing
abbrev pub Always8 : Type 0
Always8 =
    (s : Start) → stores_fit s.config (length s.rx) (length s.store) ≡ false
    → (cs : List Call) → (after_all (begins s) cs ≡ begins s) × ((x : Call) → answer_number (outcome (after_all (begins s) cs) x).answer ≡ 8)
