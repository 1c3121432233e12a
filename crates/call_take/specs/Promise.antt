-- What taking promises. Assumes nothing.
use Rattle.std.specs.Prelude.{List, [], length, ℕ, ◌*◌, ◌≤◌, ◌≡◌, true}
use Rattle.state_whole.specs.Whole.{is_whole}
use Rattle.connection.specs.Calls.{is_there, slot_for, take_step, take_outcome}
use Rattle.call.specs.Promise.{lent_of, agreed_in, BeginsState, Leaves}
use Rattle.config.specs.Negotiated.{policy_of}
use Rattle.slot.specs.declared.ChannelSlot.{ChannelSlot}
use Rattle.state.specs.declared.Header.{Header}
use Rattle.call.specs.declared.Reply.{Reply}
use Rattle.table.specs.declared.ChannelId.{ChannelId}

-- the receive store has a share for each channel
abbrev pub RxLong : List ℕ → List ℕ → Type 0
RxLong state rx = (agreed_in state).config.channels * (2 * (policy_of (agreed_in state)).rx_cap) ≤ length rx

-- what `take_step` asks
abbrev pub TakeStepAsks : List ℕ → List ℕ → Header → Type 0
TakeStepAsks state rx h =
    BeginsState state 56 h × RxLong state rx

-- what `take_there` asks: and the channel is in the table, with this slot
abbrev pub TakeThereAsks : List ℕ → List ℕ → Header → ChannelId → ChannelSlot → Type 0
TakeThereAsks state rx h ch s =
    BeginsState state 56 h × RxLong state rx ×
    ((store : List ℕ) → is_there (lent_of state rx store) ch ≡ true) × ((store : List ℕ) → s ≡ slot_for (lent_of state rx store) ch)

-- what `take_step` and `take_there` promise, whatever the open store
abbrev pub TakeStepLeaves : List ℕ → List ℕ → ChannelId → List ℕ → Reply → List ℕ → List ℕ → Type 0
TakeStepLeaves state rx ch buf r state' buf' =
    ((store : List ℕ) → Leaves (agreed_in state) (take_step (lent_of state rx store) ch (length buf)) 0 state [] buf r state' rx store [] buf')

-- what `take` promises
abbrev pub TakeLeaves : List ℕ → List ℕ → List ℕ → ChannelId → List ℕ → Reply → List ℕ → List ℕ → Type 0
TakeLeaves state rx store ch buf r state' buf' =
    Leaves (agreed_in state) (take_outcome (is_whole state) (lent_of state rx store) ch (length buf)) 0 state [] buf r state' rx store [] buf'
