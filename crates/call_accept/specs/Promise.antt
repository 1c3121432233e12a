-- What taking the open that is offered promises. Assumes nothing.
use Rattle.std.specs.Prelude.{◌≡◌, List, [], length, ℕ, ◌+◌, ◌≤◌}
use Rattle.config.specs.Config.{Within}
use Rattle.slot.specs.declared.ids.RemoteId.{RemoteId}
use Rattle.state.specs.declared.Header.{Header}
use Rattle.state.specs.State.{state_len, state_of}
use Rattle.state_whole.specs.Whole.{is_whole}
use Rattle.table.specs.Table.{allocated}
use Rattle.connection.specs.Calls.{accept_on, accept_step, accept_outcome}
use Rattle.call.specs.Promise.{lent_of, agreed_in, Leaves}
use Rattle.call.specs.declared.Reply.{Reply}

-- what `accept_on` asks: the state's own negotiated values in the header, room for an OKAY
pub record AcceptRoom (state out : List ℕ) (at : ℕ) (h : Header) : Type 0 where
  pub agreed : h.negotiated ≡ agreed_in state
  pub within : Within h.negotiated.config
  pub state-long : state_len ≤ length state
  pub room : at + 28 ≤ length out

-- what it promises, whatever the stores
abbrev pub AcceptOnLeaves : List ℕ → List ℕ → ℕ → Header → RemoteId → ℕ → Reply → List ℕ → List ℕ → Type 0
AcceptOnLeaves state out at h remote credit r state' out' =
    ((rx store : List ℕ) → Leaves h.negotiated (accept_on (lent_of state rx store) h remote credit (allocated h (state_of state).slots)) at state out [] r state' rx store out' [])

-- what `accept_step` promises, whatever the stores
abbrev pub AcceptStepLeaves : List ℕ → List ℕ → Reply → List ℕ → List ℕ → Type 0
AcceptStepLeaves state out r state' out' =
    ((rx store : List ℕ) → Leaves (agreed_in state) (accept_step (lent_of state rx store)) 0 state out [] r state' rx store out' [])

-- what `accept` promises
abbrev pub AcceptLeaves : List ℕ → List ℕ → List ℕ → List ℕ → Reply → List ℕ → List ℕ → Type 0
AcceptLeaves state rx store out r state' out' =
    Leaves (agreed_in state) (accept_outcome (is_whole state) (lent_of state rx store) (length out)) 0 state out [] r state' rx store out' []
