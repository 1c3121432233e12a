-- What opening a channel asks and promises. Assumes nothing.
use Rattle.std.specs.Prelude.{◌≡◌, true, List, [], length, ℕ, Ok}
use Rattle.protocol.specs.Packet.{Puts}
use Rattle.slot.specs.Slot.{opening_slot, opened_of}
use Rattle.state.specs.State.{is_ours, state_of}
use Rattle.state_whole.specs.Whole.{is_whole}
use Rattle.table.specs.Table.{allocated}
use Rattle.connection.specs.Act.{act_on}
use Rattle.connection.specs.Calls.{dropped, policy, received_of, body_of, frame_len, open_on, open_readied, open_acted, open_by, open_step, open_outcome}
use Rattle.connection.specs.Frames.{close_frame, frame_bytes}
use Rattle.call.specs.Promise.{lent_of, agreed_in, pending_channel, Leaves, AdmitsState, Admits, Ended}
use Rattle.connection.specs.declared.Answer.TheVariants.{Refused}
use Rattle.connection.specs.declared.Refusal.{Refusal}
use Rattle.call.specs.declared.Reply.{Reply}
use Rattle.state.specs.declared.Header.{Header}
use Rattle.protocol.specs.declared.packet.Packet.{Packet}

-- what `close_open` promises
abbrev pub CloseOpenLeaves : List ℕ → List ℕ → Header → ℕ → Refusal → ℕ → Reply → List ℕ → List ℕ → Type 0
CloseOpenLeaves state out h arg0 why used r state' out' =
    Puts out 0 (frame_bytes h.negotiated (close_frame (record { local = h.pending.local; remote = record { 0 = arg0 } }))) r.written out' ×
    Ended (dropped h) (Refused why) used r.written state r state'

-- what `open_ready` asks: a packet, whatever the stores
abbrev pub OpenReadyAsks : List ℕ → List ℕ → List ℕ → Header → Packet → Type 0
OpenReadyAsks state received out h packet =
    AdmitsState state (length out) × (h ≡ (state_of state).header) × (is_ours h.pending.what ≡ true) ×
    ((rx store : List ℕ) → received_of (lent_of state rx store) received ≡ (Ok packet))

-- what `open_packet` asks
abbrev pub OpenPacketAsks : List ℕ → List ℕ → List ℕ → List ℕ → List ℕ → Header → Packet → Type 0
OpenPacketAsks state rx store received out h packet =
    Admits state rx store (length out) × (h ≡ (state_of state).header) × (is_ours h.pending.what ≡ true) ×
    (received_of (lent_of state rx store) received ≡ (Ok packet))

-- what `open_ready` promises
abbrev pub OpenReadyLeaves : List ℕ → List ℕ → List ℕ → Header → Packet → Reply → List ℕ → List ℕ → Type 0
OpenReadyLeaves state received out h packet r state' out' =
    ((rx store : List ℕ) → Leaves (agreed_in state)
    (open_readied (lent_of state rx store) (pending_channel h) packet.arg0 (frame_len packet) (opened_of (opening_slot h.pending.local) (record { 0 = packet.arg0 }) (body_of received packet) (policy (lent_of state rx store))))
    0 state out [] r state' rx store out' [])

-- what `open_act` asks
abbrev pub OpenActAsks : List ℕ → List ℕ → List ℕ → List ℕ → List ℕ → Header → Packet → Type 0
OpenActAsks state rx store received out h packet =
    Admits state rx store (length out) × (h ≡ (state_of state).header) × (received_of (lent_of state rx store) received ≡ (Ok packet))

-- what `open_act` promises
abbrev pub OpenActLeaves : List ℕ → List ℕ → List ℕ → List ℕ → List ℕ → Packet → Reply → List ℕ → List ℕ → List ℕ → List ℕ → Type 0
OpenActLeaves state rx store received out packet r state' rx' store' out' =
    Leaves (agreed_in state)
    (open_acted (lent_of state rx store) (frame_len packet) (act_on (state_of state).header (state_of state).slots (state_of state).queue rx store packet (body_of received packet)))
    0 state out [] r state' rx' store' out' []

-- what `open_packet` promises
abbrev pub OpenPacketLeaves : List ℕ → List ℕ → List ℕ → List ℕ → List ℕ → Header → Packet → Reply → List ℕ → List ℕ → List ℕ → List ℕ → Type 0
OpenPacketLeaves state rx store received out h packet r state' rx' store' out' =
    Leaves (agreed_in state) (open_by (lent_of state rx store) (pending_channel h) received (Ok packet)) 0 state out [] r state' rx' store' out'
    []

-- what `await_open_ack` asks
abbrev pub AwaitOpenAckAsks : List ℕ → List ℕ → List ℕ → List ℕ → Header → Type 0
AwaitOpenAckAsks state rx store out h = Admits state rx store (length out) × (h ≡ (state_of state).header) × (is_ours h.pending.what ≡ true)

-- what `await_open_ack` promises
abbrev pub AwaitOpenAckLeaves : List ℕ → List ℕ → List ℕ → List ℕ → List ℕ → Header → Reply → List ℕ → List ℕ → List ℕ → List ℕ → Type 0
AwaitOpenAckLeaves state rx store received out h r state' rx' store' out' =
    Leaves (agreed_in state) (open_by (lent_of state rx store) (pending_channel h) received (received_of (lent_of state rx store) received)) 0 state out
    [] r state' rx' store' out' []

-- what `open_channel` promises, whatever the stores
abbrev pub OpenChannelLeaves : List ℕ → List ℕ → List ℕ → Reply → List ℕ → List ℕ → Type 0
OpenChannelLeaves state destination out r state' out' =
    ((rx store : List ℕ) → Leaves (agreed_in state) (open_on (lent_of state rx store) (length out) destination (allocated (state_of state).header (state_of state).slots)) 0
    state out [] r state' rx store out' [])

-- what `open_step` promises
abbrev pub OpenStepLeaves : List ℕ → List ℕ → List ℕ → List ℕ → List ℕ → List ℕ → Reply → List ℕ → List ℕ → List ℕ → List ℕ → Type 0
OpenStepLeaves state rx store destination received out r state' rx' store' out' =
    Leaves (agreed_in state) (open_step (lent_of state rx store) (length out) destination received) 0 state out [] r state' rx' store' out' []

-- what `open` promises
abbrev pub OpenLeaves : List ℕ → List ℕ → List ℕ → List ℕ → List ℕ → List ℕ → Reply → List ℕ → List ℕ → List ℕ → List ℕ → Type 0
OpenLeaves state rx store destination received out r state' rx' store' out' =
    Leaves (agreed_in state) (open_outcome (is_whole state) (lent_of state rx store) (length out) destination received) 0 state out [] r state' rx'
    store' out' []
