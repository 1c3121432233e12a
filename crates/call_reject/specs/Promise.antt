-- What refusing the open that is offered promises. Assumes nothing.
use Rattle.std.specs.Prelude.{◌≡◌, ◌≤◌, ◌<◌, true, cond, List, [], length, ℕ, Option, Some, None}
use Rattle.slot.specs.declared.ids.RemoteId.{RemoteId}
use Rattle.state.specs.declared.Header.{Header}
use Rattle.state.specs.declared.QueuedOpen.{QueuedOpen}
use Rattle.state.specs.State.{state_len, is_offer, queued_at, put_header}
use Rattle.state_whole.specs.Whole.{is_whole}
use Rattle.connection.specs.declared.Answer.{Answer}
use Rattle.connection.specs.declared.Answer.TheVariants.{Nothing}
use Rattle.connection.specs.Calls.{reject_on, reject_step, reject_outcome}
use Rattle.call.specs.Promise.{lent_of, agreed_in, Leaves}
use Rattle.call.specs.declared.Reply.{Reply}

-- what `reject_on` promises, whatever the stores
abbrev pub RejectOnLeaves : List ℕ → List ℕ → ℕ → Header → RemoteId → Answer → Reply → List ℕ → List ℕ → Type 0
RejectOnLeaves state out at h remote answer r state' out' =
    ((rx store : List ℕ) → Leaves h.negotiated (reject_on (lent_of state rx store) h remote answer) at state out [] r state' rx store out' [])

-- what looking for an offer asks: its entry is one of the 64
pub record OfferRoom (state : List ℕ) (h : Header) : Type 0 where
  pub place : is_offer h.pending.what ≡ true → h.queued < 64
  pub state-fits : state_len ≤ length state

-- the open that is offered, if one is
unfoldable pub offered_in : List ℕ → Header → Option QueuedOpen
offered_in state h = cond (is_offer h.pending.what) (Some (queued_at state h.queued)) None

-- what `none_offered` promises
abbrev pub NoneOfferedLeaves : List ℕ → Header → Reply → List ℕ → Type 0
NoneOfferedLeaves state h r state' = (r ≡ record { answer = Nothing; used = 0; written = 0 }) × (state' ≡ put_header state h)

-- what `reject_step` promises, whatever the stores
abbrev pub RejectStepLeaves : List ℕ → List ℕ → Reply → List ℕ → List ℕ → Type 0
RejectStepLeaves state out r state' out' =
    ((rx store : List ℕ) → Leaves (agreed_in state) (reject_step (lent_of state rx store)) 0 state out [] r state' rx store out' [])

-- what `reject` promises
abbrev pub RejectLeaves : List ℕ → List ℕ → List ℕ → List ℕ → Reply → List ℕ → List ℕ → Type 0
RejectLeaves state rx store out r state' out' =
    Leaves (agreed_in state) (reject_outcome (is_whole state) (lent_of state rx store) (length out)) 0 state out [] r state' rx store out' []
