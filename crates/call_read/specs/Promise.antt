-- What reading asks and promises inside. Assumes nothing.
use Rattle.std.specs.declared.ops.ControlFlow.{ControlFlow}
use Rattle.std.specs.declared.ops.ControlFlow.TheVariants.{Break, Continue}
use Rattle.std.specs.Prelude.{ℕ, ◌+◌, ◌≤◌, ◌<◌, ◌≡◌, Bool, true, false, List, [], ◌∷◌, length, set, Option, Some, None, Result, Ok, Err}
use Rattle.config.specs.declared.negotiated.Negotiated.{Negotiated}
use Rattle.config.specs.Config.{Within}
use Rattle.config.specs.Negotiated.{policy_of}
use Rattle.protocol.specs.Packet.{Puts}
use Rattle.rx_store.specs.RxStore.{ShareFits}
use Rattle.slot.specs.declared.ChannelSlot.{ChannelSlot}
use Rattle.slot.specs.declared.Settled.{Settled}
use Rattle.slot.specs.Slot.{SlotOk, is_ack, settled_of, taken_of, delivered_of}
use Rattle.state.specs.declared.Header.{Header}
use Rattle.state.specs.State.{state_len, slot_at, state_of}
use Rattle.table.specs.declared.ChannelId.{ChannelId}
use Rattle.connection.specs.Calls.{Lent, Outcome, begun, then, dropped, policy, is_there, slot_for, ack_frames, reread, received_of, read_acted, read_direct, read_by, read_first, read_step, read_outcome}
use Rattle.connection.specs.Frames.{frames_bytes}
use Rattle.call.specs.Promise.{Leaves, lent_of, agreed_in, Admits}
use Rattle.state.specs.Change.{slot_to}
use Rattle.state_whole.specs.Whole.{is_whole}
use Rattle.connection.specs.Act.{act_on, PacketFits}
use Rattle.call.specs.declared.Reply.{Reply}
use Rattle.protocol.specs.declared.packet.Packet.{Packet}
use Rattle.slot.specs.declared.ChannelFault.{ChannelFault}
use Rattle.slot.specs.declared.ChannelError.{ChannelError}

-- what settling and taking give, behind what was done so far
unfoldable pub again_of : Lent → Header → ChannelId → ℕ → ℕ → Option ChannelFault → Settled → Outcome
again_of l h ch room used fault s =
    reread ch (policy_of h.negotiated).rx_cap used fault (then (begun h l) [] (ack_frames s.slot s.ack)) s.slot (taken_of s.slot room)

-- what `take_buffered` asks: a sound slot, its share of the receive store, room for an OKAY where one is due
pub record TakeRoom (n : Negotiated) (state rx out : List ℕ) (i at room : ℕ) : Type 0 where
  pub within : Within n.config
  pub state-fits : state_len ≤ length state
  pub place-fits : i < 64
  pub sound : SlotOk (slot_at state i) (policy_of n).rx_cap
  pub share-fits : ShareFits i (policy_of n).rx_cap (length rx)
  pub at-fits : at ≤ length out
  pub ack-fits : is_ack (settled_of (slot_at state i) (policy_of n) room).ack ≡ true → at + 28 ≤ length out

-- nothing was there: only the OKAY was written, and the slot is not stored yet
pub record Empty (n : Negotiated) (s : Settled) (room at : ℕ) (state out buf : List ℕ) (t : ChannelSlot) (end : ℕ) (state' out' buf' : List ℕ) : Type 0 where
  pub nothing : taken_of s.slot room ≡ Ok None
  pub slot_is : t ≡ s.slot
  pub puts : Puts out at (frames_bytes n (ack_frames s.slot s.ack)) end out'
  pub fits : end ≤ length out
  pub state-is : state' ≡ state
  pub buf-is : buf' ≡ buf

-- whether nothing was there
abbrev pub is_nothing : Result (Option (ChannelSlot × ℕ)) ChannelError → Bool
is_nothing (Ok (Some (t, n))) = false
is_nothing (Ok None) = true
is_nothing (Err e) = false

-- what it promises: the call's reply, or that nothing was there
abbrev pub Tries : Lent → Header → ChannelId → ℕ → ℕ → Option ChannelFault → Settled → ℕ → List ℕ → List ℕ → List ℕ → (ControlFlow Reply (ChannelSlot × ℕ)) → List ℕ → List ℕ → List ℕ → Type 0
Tries l h ch room used fault s at state out buf (Break r) state' out' buf' =
    (is_nothing (taken_of s.slot room) ≡ false)
    × Leaves h.negotiated (again_of l h ch room used fault s) at state out buf r state' l.rx l.store out' buf'
Tries l h ch room used fault s at state out buf (Continue (t, end)) state' out' buf' = Empty h.negotiated s room at state out buf t end state' out' buf'

-- a read that looks at a packet: nothing of the channel's is buffered, and only the first settling's OKAY was written
pub record Looks (l : Lent) (h : Header) (ch : ChannelId) (s : ChannelSlot) (room at : ℕ) : Type 0 where
  pub header_is : h ≡ dropped l.state.header
  pub there : is_there l ch ≡ true
  pub slot_is : s ≡ (settled_of (slot_for l ch) (policy l) room).slot
  pub nothing : taken_of s room ≡ Ok None
  pub at_small : at ≤ 28

-- what `take_buffered` asks
abbrev pub TakeBufferedAsks : List ℕ → List ℕ → ChannelId → ChannelSlot → List ℕ → ℕ → List ℕ → Header → Type 0
TakeBufferedAsks state rx ch slot out at buf h =
    TakeRoom h.negotiated state rx out ch.slot at (length buf) × (slot ≡ slot_at state ch.slot)

-- what `take_buffered` promises
abbrev pub TakeBufferedLeaves : List ℕ → List ℕ → ChannelId → List ℕ → ℕ → List ℕ → Header → ℕ → Option ChannelFault → (ControlFlow Reply (ChannelSlot × ℕ)) → List ℕ → List ℕ → List ℕ → Type 0
TakeBufferedLeaves state rx ch out at buf h used fault r state' out' buf' =
    ((store : List ℕ) → Tries (lent_of state rx store) h ch (length buf) used fault (settled_of (slot_at state ch.slot) (policy_of h.negotiated) (length buf)) at state out buf r state' out' buf')

-- what `read_again` promises
abbrev pub ReadAgainLeaves : List ℕ → List ℕ → ChannelId → List ℕ → ℕ → List ℕ → Header → ℕ → Option ChannelFault → Reply → List ℕ → List ℕ → List ℕ → Type 0
ReadAgainLeaves state rx ch out at buf h used fault r state' out' buf' =
    ((store : List ℕ) → Leaves h.negotiated (again_of (lent_of state rx store) h ch (length buf) used fault (settled_of (slot_at state ch.slot) (policy_of h.negotiated) (length buf))) at state out buf r state' rx store out' buf')

-- what `read_direct` asks
abbrev pub ReadDirectAsks : List ℕ → ChannelId → List ℕ → List ℕ → ℕ → List ℕ → Header → Type 0
ReadDirectAsks state ch payload out at buf h =
    (ch.slot < 64) × (state_len ≤ length state) × Within h.negotiated.config × (length payload ≤ length buf) × (at + 28 ≤ length out)

-- what `read_direct` promises
abbrev pub ReadDirectLeaves : List ℕ → ChannelId → ChannelSlot → ℕ → List ℕ → List ℕ → ℕ → List ℕ → Header → Reply → List ℕ → List ℕ → List ℕ → Type 0
ReadDirectLeaves state ch s used payload out at buf h r state' out' buf' =
    ((rx store : List ℕ) → Leaves h.negotiated (read_direct ch used (begun h (lent_of state rx store)) payload (delivered_of s (policy_of h.negotiated) (length payload))) at state out buf r state' rx store out' buf')

-- what `read_other` asks
abbrev pub ReadOtherAsks : List ℕ → List ℕ → List ℕ → ChannelId → ChannelSlot → Packet → List ℕ → List ℕ → ℕ → List ℕ → Header → Type 0
ReadOtherAsks state rx store ch s packet payload out at buf h =
    Admits state rx store (length out) × Looks (lent_of state rx store) h ch s (length buf) at × PacketFits h.negotiated packet payload

-- what `read_other` promises
abbrev pub ReadOtherLeaves : List ℕ → List ℕ → List ℕ → ChannelId → ChannelSlot → ℕ → Packet → List ℕ → List ℕ → ℕ → List ℕ → Header → Reply → List ℕ → List ℕ → List ℕ → List ℕ → List ℕ → Type 0
ReadOtherLeaves state rx store ch s used packet payload out at buf h r state' rx' store' out' buf' =
    Leaves (agreed_in state)
    (read_acted (lent_of state rx store) ch (length buf) used (then (begun h (lent_of state rx store)) (slot_to ch.slot s ∷ []) []) (act_on h (set (state_of state).slots ch.slot s) (state_of state).queue rx store packet payload))
    at state out buf r state' rx' store' out' buf'

-- what `read_packet` asks
abbrev pub ReadPacketAsks : List ℕ → List ℕ → List ℕ → ChannelId → ChannelSlot → Packet → List ℕ → List ℕ → ℕ → List ℕ → Header → Type 0
ReadPacketAsks state rx store ch s packet received out at buf h =
    Admits state rx store (length out) × Looks (lent_of state rx store) h ch s (length buf) at ×
    (received_of (lent_of state rx store) received ≡ (Ok packet))

-- what `read_packet` promises
abbrev pub ReadPacketLeaves : List ℕ → List ℕ → List ℕ → ChannelId → ChannelSlot → Packet → List ℕ → List ℕ → ℕ → List ℕ → Header → Reply → List ℕ → List ℕ → List ℕ → List ℕ → List ℕ → Type 0
ReadPacketLeaves state rx store ch s packet received out at buf h r state' rx' store' out' buf' =
    Leaves (agreed_in state) (read_by (lent_of state rx store) ch (length buf) (begun h (lent_of state rx store)) s received (Ok packet)) at state
    out buf r state' rx' store' out' buf'

-- what `read_more` asks
abbrev pub ReadMoreAsks : List ℕ → List ℕ → List ℕ → ChannelId → ChannelSlot → List ℕ → ℕ → List ℕ → Header → Type 0
ReadMoreAsks state rx store ch s out at buf h = Admits state rx store (length out) × Looks (lent_of state rx store) h ch s (length buf) at

-- what `read_more` promises
abbrev pub ReadMoreLeaves : List ℕ → List ℕ → List ℕ → ChannelId → ChannelSlot → List ℕ → List ℕ → ℕ → List ℕ → Header → Reply → List ℕ → List ℕ → List ℕ → List ℕ → List ℕ → Type 0
ReadMoreLeaves state rx store ch s received out at buf h r state' rx' store' out' buf' =
    Leaves (agreed_in state)
    (read_by (lent_of state rx store) ch (length buf) (begun h (lent_of state rx store)) s received (received_of (lent_of state rx store) received)) at
    state out buf r state' rx' store' out' buf'

-- what `read_channel` promises
abbrev pub ReadChannelLeaves : List ℕ → List ℕ → List ℕ → ChannelId → List ℕ → List ℕ → List ℕ → Reply → List ℕ → List ℕ → List ℕ → List ℕ → List ℕ → Type 0
ReadChannelLeaves state rx store ch received out buf r state' rx' store' out' buf' =
    Leaves (agreed_in state)
    (read_first (lent_of state rx store) ch (length buf) received (settled_of (slot_for (lent_of state rx store) ch) (policy_of (agreed_in state)) (length buf)))
    0 state out buf r state' rx' store' out' buf'

-- what `read_step` promises
abbrev pub ReadStepLeaves : List ℕ → List ℕ → List ℕ → ChannelId → List ℕ → List ℕ → List ℕ → Reply → List ℕ → List ℕ → List ℕ → List ℕ → List ℕ → Type 0
ReadStepLeaves state rx store ch received out buf r state' rx' store' out' buf' =
    Leaves (agreed_in state) (read_step (lent_of state rx store) ch (length buf) received) 0 state out buf r state' rx' store' out' buf'

-- what `read` promises
abbrev pub ReadLeaves : List ℕ → List ℕ → List ℕ → ChannelId → List ℕ → List ℕ → List ℕ → Reply → List ℕ → List ℕ → List ℕ → List ℕ → List ℕ → Type 0
ReadLeaves state rx store ch received out buf r state' rx' store' out' buf' =
    Leaves (agreed_in state) (read_outcome (is_whole state) (lent_of state rx store) (length out) ch (length buf) received) 0 state out buf r state' rx'
    store' out' buf'
