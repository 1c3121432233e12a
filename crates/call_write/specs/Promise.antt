-- What writing asks and promises inside. Assumes nothing.
use Rattle.std.specs.Prelude.{ℕ, ◌≤◌, ◌<◌, ◌≡◌, true, false, List, [], length, None, Ok}
use Rattle.config.specs.Config.{Within as Limits}
use Rattle.config.specs.Negotiated.{policy_of}
use Rattle.slot.specs.declared.ChannelSlot.{ChannelSlot}
use Rattle.slot.specs.declared.Spending.{Spending}
use Rattle.slot.specs.declared.Spending.TheVariants.{Within}
use Rattle.slot.specs.Slot.{is_closed, budget_of, ready_of}
use Rattle.state.specs.declared.Header.{Header}
use Rattle.state.specs.State.{state_len, state_of}
use Rattle.table.specs.declared.ChannelId.{ChannelId}
use Rattle.connection.specs.Calls.{begun, dropped, is_there, slot_for, Work, policy, received_of, send_len, send_some, send_again, write_readied, write_by, write_first, write_on, write_step, write_outcome}
use Rattle.call.specs.Promise.{lent_of, agreed_in, Admits, Leaves}
use Rattle.state_whole.specs.Whole.{is_whole}
use Rattle.call.specs.declared.Reply.{Reply}
use Rattle.protocol.specs.declared.packet.Packet.{Packet}

-- a call's start, the pending open dropped
abbrev pub starts : List ℕ → List ℕ → List ℕ → Work
starts state rx store = begun (dropped (state_of state).header) (lent_of state rx store)

-- what sending on the channel at a place asks: the header that the call stores, and its limits
pub record Sends (state : List ℕ) (place : ℕ) (h : Header) : Type 0 where
  pub state-fits : state_len ≤ length state
  pub place-fits : place < 64
  pub header : h ≡ dropped (state_of state).header
  pub within : Limits h.negotiated.config
  pub payload : h.negotiated.max_payload ≤ 1_048_576

-- a channel that is in the table, and its slot
pub record Finds (state rx store : List ℕ) (out : ℕ) (ch : ChannelId) (h : Header) (s : ChannelSlot) : Type 0 where
  pub admits : Admits state rx store out
  pub header : h ≡ dropped (state_of state).header
  pub there : is_there (lent_of state rx store) ch ≡ true
  pub slot : s ≡ slot_for (lent_of state rx store) ch

-- it is open, and may send nothing before an OKAY
pub record Waits (state rx store : List ℕ) (out : ℕ) (ch : ChannelId) (h : Header) (s : ChannelSlot) : Type 0 where
  pub finds : Finds state rx store out ch h s
  pub unclosed : is_closed s.state ≡ false
  pub nothing : budget_of s (policy_of (agreed_in state)) ≡ None

-- what `send_some` promises
abbrev pub SendSomeLeaves : List ℕ → ChannelId → ChannelSlot → List ℕ → ℕ → ℕ → List ℕ → Reply → List ℕ → List ℕ → Type 0
SendSomeLeaves state ch s bytes most used out r state' out' =
    ((rx store : List ℕ) → Leaves (agreed_in state) (send_some (lent_of state rx store) ch (length out) bytes used (starts state rx store) s (send_len (lent_of state rx store) bytes most)) 0 state out [] r state' rx store out' [])

-- what `send_again` promises
abbrev pub SendAgainLeaves : Spending → List ℕ → ChannelId → ChannelSlot → List ℕ → ℕ → List ℕ → Reply → List ℕ → List ℕ → Type 0
SendAgainLeaves spending state ch s bytes used out r state' out' =
    ((rx store : List ℕ) → Leaves (agreed_in state) (send_again spending (lent_of state rx store) ch (length out) bytes used (starts state rx store) s) 0 state out [] r state' rx store out' [])

-- what `write_ready` promises
abbrev pub WriteReadyLeaves : Spending → List ℕ → ChannelId → ChannelSlot → List ℕ → List ℕ → ℕ → List ℕ → Reply → List ℕ → List ℕ → Type 0
WriteReadyLeaves spending state ch s bytes payload used out r state' out' =
    ((rx store : List ℕ) → Leaves (agreed_in state) (write_readied spending (lent_of state rx store) ch (length out) bytes used (starts state rx store) s (ready_of s payload (policy (lent_of state rx store)))) 0 state out [] r state' rx store out' [])

-- what `write_packet` asks
abbrev pub WritePacketAsks : List ℕ → List ℕ → List ℕ → ChannelId → ChannelSlot → List ℕ → List ℕ → Header → Packet → Type 0
WritePacketAsks state rx store ch s received out h packet =
    Waits state rx store (length out) ch h s × (received_of (lent_of state rx store) received ≡ (Ok packet))

-- what `write_packet` promises
abbrev pub WritePacketLeaves : Spending → List ℕ → List ℕ → List ℕ → ChannelId → ChannelSlot → List ℕ → List ℕ → List ℕ → Packet → Reply → List ℕ → List ℕ → List ℕ → List ℕ → Type 0
WritePacketLeaves spending state rx store ch s bytes received out packet r state' rx' store' out' =
    Leaves (agreed_in state) (write_by spending (lent_of state rx store) ch (length out) bytes (starts state rx store) s received (Ok packet)) 0 state out
    [] r state' rx' store' out' []

-- what `wait_ack` promises
abbrev pub WaitAckLeaves : Spending → List ℕ → List ℕ → List ℕ → ChannelId → ChannelSlot → List ℕ → List ℕ → List ℕ → Reply → List ℕ → List ℕ → List ℕ → List ℕ → Type 0
WaitAckLeaves spending state rx store ch s bytes received out r state' rx' store' out' =
    Leaves (agreed_in state) (write_first spending (lent_of state rx store) ch (length out) bytes received (starts state rx store) s None) 0 state out [] r
    state' rx' store' out' []

-- what `write_channel` promises
abbrev pub WriteChannelLeaves : Spending → List ℕ → List ℕ → List ℕ → ChannelId → ChannelSlot → List ℕ → List ℕ → List ℕ → Reply → List ℕ → List ℕ → List ℕ → List ℕ → Type 0
WriteChannelLeaves spending state rx store ch s bytes received out r state' rx' store' out' =
    Leaves (agreed_in state) (write_on spending (lent_of state rx store) ch (length out) bytes received (starts state rx store) s) 0 state out [] r state' rx'
    store' out' []

-- what `write_step` promises
abbrev pub WriteStepLeaves : Spending → List ℕ → List ℕ → List ℕ → ChannelId → List ℕ → List ℕ → List ℕ → Reply → List ℕ → List ℕ → List ℕ → List ℕ → Type 0
WriteStepLeaves spending state rx store ch bytes received out r state' rx' store' out' =
    Leaves (agreed_in state) (write_step spending (lent_of state rx store) ch (length out) bytes received) 0 state out [] r state' rx' store' out' []

-- what `write` promises: the host sends within the budget
abbrev pub WriteLeaves : List ℕ → List ℕ → List ℕ → ChannelId → List ℕ → List ℕ → List ℕ → Reply → List ℕ → List ℕ → List ℕ → List ℕ → Type 0
WriteLeaves state rx store ch bytes received out r state' rx' store' out' =
    Leaves (agreed_in state) (write_outcome Within (is_whole state) (lent_of state rx store) (length out) ch bytes received) 0 state out [] r state' rx' store'
    out' []
