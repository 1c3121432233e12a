-- The calls (docs/SCOPE.md, 5 and 6; connection.rs), each as a function of what
-- its caller lends and hands in. Assumes nothing.
use Rattle.std.specs.Prelude.{ℕ, ◌+◌, ◌*◌, min, max, Bool, cond, ◌&&◌, List, [], ◌∷◌, ◌++◌, eqb, ltb, leb, length, take, get_or, set, replicate, Option, Some, None, Result, Ok, Err}
use Rattle.le.specs.Le.{unsigned, put}
use Rattle.config.specs.declared.ConnectionConfig.{ConnectionConfig}
use Rattle.config.specs.declared.negotiated.Negotiated.{Negotiated}
use Rattle.config.specs.declared.negotiated.RxPolicy.{RxPolicy}
use Rattle.config.specs.Config.{within_limits, stores_fit}
use Rattle.config.specs.Negotiated.{negotiated_of, policy_of, offered_credit}
use Rattle.incoming.specs.Incoming.{popped, returned}
use Rattle.protocol.specs.declared.packet.Packet.{Packet}
use Rattle.protocol.specs.Packet.{payload_limit, payload_of, decode_of}
use Rattle.protocol.specs.Command.{is_ready, is_close, is_write}
use Rattle.slot.specs.declared.ChannelError.{ChannelError}
use Rattle.slot.specs.declared.ChannelError.TheVariants.{Closed as ErrorClosed, Fault}
use Rattle.slot.specs.declared.ChannelFault.{ChannelFault}
use Rattle.slot.specs.declared.ChannelFault.TheVariants.{RxOverflow, BadCredit as CreditBad, UnexpectedCommand as WriteEarly}
use Rattle.slot.specs.declared.ChannelSlot.{ChannelSlot}
use Rattle.slot.specs.declared.Settled.{Settled as SettledSlot}
use Rattle.slot.specs.declared.Spending.{Spending}
use Rattle.slot.specs.declared.ids.ChannelIds.{ChannelIds}
use Rattle.slot.specs.declared.ids.RemoteId.{RemoteId}
use Rattle.slot.specs.Ids.{closed_by}
use Rattle.slot.specs.Slot.{empty_slot, emptied_slot, opening_slot, accepted_slot, is_closed, opened_of, ready_of, delivered_of, settled_of, taken_of, leave_of, spent_of, closed_slot}
use Rattle.state.specs.declared.Header.{Header}
use Rattle.state.specs.declared.Pending.TheVariants.{Nothing as NothingPending, Opening as OursPending}
use Rattle.state.specs.declared.PendingOpen.{PendingOpen}
use Rattle.state.specs.declared.QueuedOpen.{QueuedOpen}
use Rattle.state.specs.Change.{Change, slot_to, header_to, changed_all}
use Rattle.state.specs.State.{Connection, is_ours, is_offer, none_queued, layout}
use Rattle.table.specs.declared.ChannelId.{ChannelId}
use Rattle.table.specs.Table.{there_in, numbered, allocated, slot_in}
use Rattle.rx_store.specs.RxStore.{front_of}
use Rattle.connection.specs.declared.Answer.{Answer}
use Rattle.connection.specs.declared.Answer.TheVariants.{Done, Waiting, Nothing, Opened, Settled, Read, Written, Front as FrontIs, Numbers, Refused}
use Rattle.connection.specs.declared.Refusal.{Refusal}
use Rattle.connection.specs.declared.Refusal.TheVariants.{InvalidCommand, InvalidMagic, PayloadTooLarge, InvalidChecksum, BadCredit, UnexpectedCommand, BadConfig, StoreShort, OutShort, ChannelClosed, ChannelRxOverflow, NoFreeChannels, BrokenState}
use Rattle.connection.specs.Act.{Acted, act_on}
use Rattle.connection.specs.Frames.{Frame, okay_frame, close_frame, open_frame, write_frame, frames_bytes}
use Rattle.protocol.specs.Message.{message_size}
use Rattle.protocol.specs.declared.packet.DecodeError.TheVariants.{InvalidCommand as WordInvalid, InvalidMagic as MagicInvalid, PayloadTooLarge as LengthTooLarge, InvalidChecksum as SumInvalid}
use Rattle.protocol.specs.declared.packet.DecodeError.{DecodeError}
use Rattle.credit.specs.declared.CreditFault.{CreditFault}
use Rattle.table.specs.declared.NoFreeChannels.{NoFreeChannels as NoFree}

-- ---- what a call is lent, and what it leaves

-- the state, the receive store, the open store
pub record Lent : Type 0 where
  pub state : Connection
  pub rx : List ℕ
  pub store : List ℕ

-- the answer; bytes used; frames written from the outgoing buffer's start; bytes handed over at the start of the reader's
-- buffer; what changed in the state; both stores
pub record Outcome : Type 0 where
  pub answer : Answer
  pub used : ℕ
  pub frames : List Frame
  pub handed : List ℕ
  pub changes : List Change
  pub rx : List ℕ
  pub store : List ℕ

-- bytes written
unfoldable pub written_by : Negotiated → Outcome → ℕ
written_by n o = length (frames_bytes n o.frames)

-- an answer, and nothing changes
abbrev pub looked : Lent → Answer → Outcome
looked l a = record { answer = a; used = 0; frames = []; handed = []; changes = []; rx = l.rx; store = l.store }

-- a refusal that changes nothing
abbrev pub untouched : Lent → Refusal → Outcome
untouched l r = looked l (Refused r)

-- what a call has done so far; the header is stored last
pub record Work : Type 0 where
  pub header : Header
  pub changes : List Change
  pub rx : List ℕ
  pub store : List ℕ
  pub frames : List Frame

-- nothing is done yet
abbrev pub begun : Header → Lent → Work
begun h l = record { header = h; changes = []; rx = l.rx; store = l.store; frames = [] }

-- a slot stored, frames written
abbrev pub then : Work → List Change → List Frame → Work
then w xs fs = record { header = w.header; changes = w.changes ++ xs; rx = w.rx; store = w.store; frames = w.frames ++ fs }

-- a packet acted on
abbrev pub then_acted : Work → Acted → Work
then_acted w a = record { header = a.header; changes = w.changes ++ a.changes; rx = a.rx; store = a.store; frames = w.frames ++ a.frames }

-- another header to store
abbrev pub storing : Work → Header → Work
storing w h = record { header = h; changes = w.changes; rx = w.rx; store = w.store; frames = w.frames }

-- a call's end
unfoldable pub ends : Work → Answer → ℕ → List ℕ → Outcome
ends w a used handed =
    record { answer = a; used = used; frames = w.frames; handed = handed; changes = w.changes ++ header_to w.header ∷ []; rx = w.rx; store = w.store }

-- a call's end with slot s stored at a channel's place, and nothing handed over
abbrev pub ends_with : Work → ChannelId → ChannelSlot → Answer → ℕ → Outcome
ends_with w ch s a used = ends (then w (slot_to ch.slot s ∷ []) []) a used []

-- ---- refusals ahead of every step

-- 13, then 8: nothing changes. `whole`: whether the lent bytes are a whole state
unfoldable pub checked : Bool → Lent → Outcome → Outcome
checked whole l o =
    cond whole (cond (stores_fit l.state.header.negotiated.config (length l.rx) (length l.store)) o (untouched l StoreShort)) (untouched l BrokenState)

-- and 9 for 56 bytes, where a call is lent an outgoing buffer
unfoldable pub checked_out : Bool → Lent → ℕ → Outcome → Outcome
checked_out whole l out o = checked whole l (cond (ltb out 56) (untouched l OutShort) o)

-- ---- small parts

-- nothing is pending any more: neither an open of ours nor an offer
abbrev pub not_pending : PendingOpen → PendingOpen
not_pending w = record { what = NothingPending; slot = w.slot; local = w.local }

-- a header with nothing pending
abbrev pub dropped : Header → Header
dropped h = record { negotiated = h.negotiated; next_local = h.next_local; pending = not_pending h.pending; queued = h.queued }

-- a header with an open of ours pending
abbrev pub pending_for : Header → ChannelId → Header
pending_for h ch = record { negotiated = h.negotiated; next_local = h.next_local; pending = record { what = OursPending; slot = ch.slot; local = ch.local }; queued = h.queued }

-- the receive policy, the same for every channel
abbrev pub policy : Lent → RxPolicy
policy l = policy_of l.state.header.negotiated

-- a slot's two numbers
abbrev pub ids_in : ChannelSlot → ChannelIds
ids_in s = record { local = s.local; remote = s.remote }

-- whether a channel is in the table
unfoldable pub is_there : Lent → ChannelId → Bool
is_there l ch = there_in l.state.header.negotiated.config.channels l.state.slots ch

-- 10 where a channel is not in the table
abbrev pub not_there : Lent → Outcome
not_there l = ends (begun (dropped l.state.header) l) (Refused ChannelClosed) 0 []

-- the slot at a channel's place
unfoldable pub slot_for : Lent → ChannelId → ChannelSlot
slot_for l ch = slot_in l.state.slots ch.slot

-- the OKAY of an acknowledgement that is due
unfoldable pub ack_frames : ChannelSlot → Option ℕ → List Frame
ack_frames s (Some n) = okay_frame (ids_in s) n ∷ []
ack_frames s None = []

-- `fault.error()`
abbrev pub fault_refusal : ChannelFault → Refusal
fault_refusal RxOverflow = ChannelRxOverflow
fault_refusal (CreditBad f) = BadCredit f
fault_refusal WriteEarly = UnexpectedCommand

-- why a channel can be read or written no more, as a refusal
abbrev pub error_refusal : ChannelError → Refusal
error_refusal ErrorClosed = ChannelClosed
error_refusal (Fault f) = fault_refusal f

-- an answer, unless dispatching failed
unfoldable pub unless_fault : Option ChannelFault → Answer → Answer
unless_fault None a = a
unless_fault (Some f) a = Refused (fault_refusal f)

-- `recv_pkt`: waiting and refusals 1 to 3 use nothing, 4 uses the frame
unfoldable pub received_by : Result (Option Packet) DecodeError → Result Packet (Answer × ℕ)
received_by (Ok None) = Err (Waiting, 0)
received_by (Err (WordInvalid word)) = Err (Refused (InvalidCommand word), 0)
received_by (Err MagicInvalid) = Err (Refused InvalidMagic, 0)
received_by (Err LengthTooLarge) = Err (Refused PayloadTooLarge, 0)
received_by (Err (SumInvalid used)) = Err (Refused InvalidChecksum, used)
received_by (Ok (Some p)) = Ok p

-- the packet that received bytes begin with, or the answer where there is none
unfoldable pub received_of : Lent → List ℕ → Result Packet (Answer × ℕ)
received_of l received = received_by (decode_of received l.state.header.negotiated.config.max_payload)

-- a packet's payload
abbrev pub body_of : List ℕ → Packet → List ℕ
body_of received p = payload_of received p.data_length

-- the bytes that a packet uses
abbrev pub frame_len : Packet → ℕ
frame_len p = message_size + p.data_length

-- ---- make (`Handshake::assemble`)

-- 64 empty slots, none queued, the next number 1
unfoldable pub fresh : Negotiated → Connection
fresh n =
    record {
      header = record { negotiated = n; next_local = 1; pending = record { what = NothingPending; slot = 0; local = record { 0 = 0 } }; queued = 0 };
      slots = replicate 64 empty_slot;
      queue = replicate 64 none_queued;
    }

-- the answer, and the state's bytes
pub record Made : Type 0 where
  pub answer : Answer
  pub state : List ℕ

-- 7 where a limit is broken, and nothing changes; else the state's bytes are a fresh connection's. Flags: whether host and
-- device list delayed acknowledgement; a, b: arg0 and arg1 of the device's CNXN
unfoldable pub make_of : ConnectionConfig → ℕ → ℕ → Bool → Bool → List ℕ → Made
make_of c a b host device state =
    cond (within_limits c) (record { answer = Done; state = put state 0 (layout (fresh (negotiated_of host device a b c))) })
    (record { answer = Refused BadConfig; state = state })

-- ---- dispatch (one turn of `accept_incoming`'s loop)

-- no packet: its answer; else the packet is dispatched
unfoldable pub dispatch_by : Lent → Header → List ℕ → Result Packet (Answer × ℕ) → Outcome
dispatch_by l h received (Err (a, used)) = ends (begun h l) a used []
dispatch_by l h received (Ok p) =
    let a = act_on h l.state.slots l.state.queue l.rx l.store p (body_of received p) in
    ends (then_acted (begun h l) a) (unless_fault a.fault Done) (frame_len p) []

-- what is pending is dropped, then one packet is looked at
unfoldable pub dispatch_step : Lent → List ℕ → Outcome
dispatch_step l received = dispatch_by l (dropped l.state.header) received (received_of l received)

-- ---- settle and take (the two halves of `take_buffered`)

-- the settled slot is stored, and the OKAY that is due is written
unfoldable pub settled_as : Lent → ChannelId → SettledSlot → Outcome
settled_as l ch s = ends (then (begun (dropped l.state.header) l) (slot_to ch.slot s.slot ∷ []) (ack_frames s.slot s.ack)) (Settled s.ack) 0 []

-- 10 where the channel is not in the table
unfoldable pub settle_step : Lent → ChannelId → ℕ → Outcome
settle_step l ch want =
    cond (is_there l ch) (settled_as l ch (settled_of (slot_for l ch) (policy l) want)) (not_there l)

-- n bytes of slot s handed over, and t stored in its place
abbrev pub handing : List ℕ → ℕ → ChannelId → ℕ → Work → ChannelSlot → ChannelSlot → ℕ → Outcome
handing rx cap ch used w s t n = ends (then w (slot_to ch.slot t ∷ []) []) (Read n) used (front_of rx cap ch.slot s.head n)

-- taking n bytes, nothing there, or closed with nothing there
unfoldable pub taken_by : Lent → ChannelId → ChannelSlot → Work → Result (Option (ChannelSlot × ℕ)) ChannelError → Outcome
taken_by l ch s w (Ok (Some (t, n))) = handing l.rx (policy l).rx_cap ch 0 w s t n
taken_by l ch s w (Ok None) = ends w Nothing 0 []
taken_by l ch s w (Err e) = ends w (Refused (error_refusal e)) 0 []

-- room: the reader's buffer's length
unfoldable pub take_step : Lent → ChannelId → ℕ → Outcome
take_step l ch room =
    cond (is_there l ch) (taken_by l ch (slot_for l ch) (begun (dropped l.state.header) l) (taken_of (slot_for l ch) room))
    (not_there l)

-- ---- read (`recv_data`)

-- what the second settling and taking give, after a packet that was dispatched
unfoldable pub reread : ChannelId → ℕ → ℕ → Option ChannelFault → Work → ChannelSlot → Result (Option (ChannelSlot × ℕ)) ChannelError → Outcome
reread ch cap used fault w s (Ok (Some (t, n))) = handing w.rx cap ch used w s t n
reread ch cap used fault w s (Ok None) = ends_with w ch s (unless_fault fault Waiting) used
reread ch cap used fault w s (Err e) = ends_with w ch s (unless_fault fault (Refused (error_refusal e))) used

-- the second settling's OKAY, then the second taking
unfoldable pub read_settled : Lent → ChannelId → ℕ → ℕ → Option ChannelFault → Work → SettledSlot → Outcome
read_settled l ch room used fault w s =
    reread ch (policy l).rx_cap used fault (then w [] (ack_frames s.slot s.ack)) s.slot (taken_of s.slot room)

-- any other packet: dispatched, then settling and taking again
unfoldable pub read_acted : Lent → ChannelId → ℕ → ℕ → Work → Acted → Outcome
read_acted l ch room used w a =
    read_settled l ch room used a.fault (then_acted w a)
    (settled_of (slot_in (changed_all l.state (w.changes ++ a.changes)).slots ch.slot) (policy l) room)

-- a WRTE of the channel's own that fits the reader's buffer
unfoldable pub is_direct : ChannelSlot → ℕ → Packet → Bool
is_direct s room p = is_write p.command && eqb p.arg1 s.local.0 && leb p.data_length room

-- it goes straight to the reader
unfoldable pub read_direct : ChannelId → ℕ → Work → List ℕ → SettledSlot → Outcome
read_direct ch used w payload d = ends (then w (slot_to ch.slot d.slot ∷ []) (ack_frames d.slot d.ack)) (Read (length payload)) used payload

-- no packet: its answer; else the channel's own WRTE, its CLSE (10), or any other
unfoldable pub read_by : Lent → ChannelId → ℕ → Work → ChannelSlot → List ℕ → Result Packet (Answer × ℕ) → Outcome
read_by l ch room w s received (Err (a, used)) = ends_with w ch s a used
read_by l ch room w s received (Ok p) =
    cond (is_direct s room p) (read_direct ch (frame_len p) w (body_of received p) (delivered_of s (policy l) p.data_length))
    (cond (closed_by (ids_in s) p) (ends_with w ch (closed_slot s) (Refused ChannelClosed) (frame_len p))
    (read_acted l ch room (frame_len p) (then w (slot_to ch.slot s ∷ []) [])
    (act_on w.header (set l.state.slots ch.slot s) l.state.queue l.rx l.store p (body_of received p))))

-- the first taking: data, closed, or a packet is looked at
unfoldable pub read_taken : Lent → ChannelId → ℕ → Work → ChannelSlot → List ℕ → Result (Option (ChannelSlot × ℕ)) ChannelError → Outcome
read_taken l ch room w s received (Ok (Some (t, n))) = handing l.rx (policy l).rx_cap ch 0 w s t n
read_taken l ch room w s received (Ok None) =
    cond s.has_remote (read_by l ch room w s received (received_of l received)) (ends_with w ch s (Refused ChannelClosed) 0)
read_taken l ch room w s received (Err e) = ends_with w ch s (Refused (error_refusal e)) 0

-- the first settling's OKAY, then the first taking
unfoldable pub read_first : Lent → ChannelId → ℕ → List ℕ → SettledSlot → Outcome
read_first l ch room received s =
    read_taken l ch room (then (begun (dropped l.state.header) l) [] (ack_frames s.slot s.ack)) s.slot received (taken_of s.slot room)

-- 10 where the channel is not in the table
unfoldable pub read_step : Lent → ChannelId → ℕ → List ℕ → Outcome
read_step l ch room received =
    cond (is_there l ch) (read_first l ch room received (settled_of (slot_for l ch) (policy l) room))
    (not_there l)

-- ---- write (`wait_ack`, then one turn of `write_channel`); spending: whether a WRTE may pass the budget

-- the least of data left, max_payload (at least 1) and what may be sent
unfoldable pub send_len : Lent → List ℕ → ℕ → ℕ
send_len l bytes most = min (min (length bytes) (max l.state.header.negotiated.max_payload 1)) most

-- n bytes sent, unless their frame does not fit the outgoing buffer: 9, and nothing has changed
unfoldable pub send_some : Lent → ChannelId → ℕ → List ℕ → ℕ → Work → ChannelSlot → ℕ → Outcome
send_some l ch out bytes used w s n =
    cond (ltb out (length (frames_bytes w.header.negotiated w.frames) + message_size + n)) (untouched l OutShort)
    (ends (then w (slot_to ch.slot (spent_of s (policy l) n) ∷ []) (write_frame (ids_in s) (take n bytes) ∷ [])) (Written n) used [])

-- by what may be sent: sent, or waiting again
unfoldable pub send_by : Lent → ChannelId → ℕ → List ℕ → ℕ → Work → ChannelSlot → Option ℕ → Outcome
send_by l ch out bytes used w s (Some most) = send_some l ch out bytes used w s (send_len l bytes most)
send_by l ch out bytes used w s None = ends_with w ch s Waiting used

-- the turn of the loop after a packet: closed, sent, or waiting again
unfoldable pub send_again : Spending → Lent → ChannelId → ℕ → List ℕ → ℕ → Work → ChannelSlot → Outcome
send_again spending l ch out bytes used w s =
    cond (is_closed s.state) (ends_with w ch s (Refused ChannelClosed) used)
    (send_by l ch out bytes used w s (leave_of spending s (policy l)))

-- the channel's own OKAY: its credit is used at once, or it is short (5)
unfoldable pub write_readied : Spending → Lent → ChannelId → ℕ → List ℕ → ℕ → Work → ChannelSlot → Result ChannelSlot CreditFault → Outcome
write_readied spending l ch out bytes used w s (Ok t) = send_again spending l ch out bytes used w t
write_readied spending l ch out bytes used w s (Err f) = ends w (Refused (BadCredit f)) used []

-- a packet that was dispatched: its fault, or the next turn of the loop
unfoldable pub write_acted : Spending → Lent → ChannelId → ℕ → List ℕ → ℕ → Work → Acted → Option ChannelFault → Outcome
write_acted spending l ch out bytes used w a (Some f) = ends (then_acted w a) (Refused (fault_refusal f)) used []
write_acted spending l ch out bytes used w a None =
    send_again spending l ch out bytes used (then_acted w a) (slot_in (changed_all l.state (w.changes ++ a.changes)).slots ch.slot)

-- any other packet: dispatched
unfoldable pub write_act : Spending → Lent → ChannelId → ℕ → List ℕ → ℕ → Work → Acted → Outcome
write_act spending l ch out bytes used w a = write_acted spending l ch out bytes used w a a.fault

-- no packet: its answer; else the channel's own OKAY, its CLSE (10), or any other
unfoldable pub write_by : Spending → Lent → ChannelId → ℕ → List ℕ → Work → ChannelSlot → List ℕ → Result Packet (Answer × ℕ) → Outcome
write_by spending l ch out bytes w s received (Err (a, used)) = ends w a used []
write_by spending l ch out bytes w s received (Ok p) =
    cond (is_ready p.command && eqb p.arg1 s.local.0) (write_readied spending l ch out bytes (frame_len p) w s (ready_of s (body_of received p) (policy l)))
    (cond (closed_by (ids_in s) p) (ends_with w ch (closed_slot s) (Refused ChannelClosed) (frame_len p))
    (write_act spending l ch out bytes (frame_len p) w
    (act_on w.header l.state.slots l.state.queue l.rx l.store p (body_of received p))))

-- by what may be sent: sent at once, or a packet is looked at
unfoldable pub write_first : Spending → Lent → ChannelId → ℕ → List ℕ → List ℕ → Work → ChannelSlot → Option ℕ → Outcome
write_first spending l ch out bytes received w s (Some most) = send_some l ch out bytes 0 w s (send_len l bytes most)
write_first spending l ch out bytes received w s None =
    cond s.has_remote (write_by spending l ch out bytes w s received (received_of l received)) (ends w (Refused ChannelClosed) 0 [])

-- the first turn: closed, sent at once, or a packet is looked at
unfoldable pub write_on : Spending → Lent → ChannelId → ℕ → List ℕ → List ℕ → Work → ChannelSlot → Outcome
write_on spending l ch out bytes received w s =
    cond (is_closed s.state) (ends w (Refused ChannelClosed) 0 []) (write_first spending l ch out bytes received w s (leave_of spending s (policy l)))

-- no bytes: done without looking at the channel
unfoldable pub write_step : Spending → Lent → ChannelId → ℕ → List ℕ → List ℕ → Outcome
write_step spending l ch out bytes received =
    cond (eqb (length bytes) 0) (ends (begun (dropped l.state.header) l) (Written 0) 0 [])
    (cond (is_there l ch) (write_on spending l ch out bytes received (begun (dropped l.state.header) l) (slot_for l ch))
    (not_there l))

-- ---- close (`close_channel`)

-- a CLSE is written and the slot is emptied, but for the total; 10 where the channel is not in the table
unfoldable pub close_step : Lent → ChannelId → Outcome
close_step l ch =
    cond (is_there l ch && (slot_for l ch).has_remote)
    (ends (then (begun (dropped l.state.header) l) (slot_to ch.slot (emptied_slot (slot_for l ch)) ∷ []) (close_frame (ids_in (slot_for l ch)) ∷ [])) Done 0 [])
    (not_there l)

-- ---- take_front (`try_accept_incoming`, without a verdict)

-- the first that is queued and the place of its destination, or none
unfoldable pub take_front_by : Lent → Header → List Change → Option (QueuedOpen × Header) → Outcome
take_front_by l h xs (Some (q, less)) =
    ends (then (begun less l) xs []) (FrontIs q.remote q.credit (q.share * h.negotiated.config.max_payload) q.length) 0 []
take_front_by l h xs None = ends (begun h l) Nothing 0 []

-- what is pending is dropped, then the first is taken off the queue, and stands as an offer
unfoldable pub take_front_step : Lent → Outcome
take_front_step l =
    let h = dropped l.state.header in
    take_front_by l h (popped h l.state.queue).changes (popped h l.state.queue).result

-- ---- numbers: a call that only looks, so that a pending open stays

-- what a slot's channel has been allowed by our OKAYs, its bytes buffered and unacknowledged, its budget in two's complement
unfoldable pub numbers_in : ChannelSlot → Answer
numbers_in s = Numbers (is_closed s.state) s.acked_total s.buffered s.unacked (unsigned 63 s.send_budget)

-- 10 where the channel is not in the table
unfoldable pub numbers_for : Lent → ChannelId → Answer
numbers_for l ch = cond (is_there l ch) (numbers_in (slot_for l ch)) (Refused ChannelClosed)

-- ---- open (`open_channel`, `await_open_ack`)

-- the OPEN that an open call begins with: 12, then 3 with the next number moved on, then 9 with nothing changed
unfoldable pub open_on : Lent → ℕ → List ℕ → Result ChannelId NoFree → Outcome
open_on l out destination (Err _) = ends (begun (dropped l.state.header) l) (Refused NoFreeChannels) 0 []
open_on l out destination (Ok ch) =
    let h = dropped l.state.header in
    cond (ltb payload_limit (length destination)) (ends (begun (numbered h) l) (Refused PayloadTooLarge) 0 [])
    (cond (ltb out (message_size + length destination)) (untouched l OutShort)
    (ends (then (begun (pending_for (numbered h) ch) l) [] (open_frame ch.local (offered_credit h.negotiated) destination ∷ [])) Waiting 0 []))

-- a pending open stays where the answer is waiting, and ends otherwise
unfoldable pub still_pending : Answer → Header → Header
still_pending Waiting h = h
still_pending Done h = dropped h
still_pending Nothing h = dropped h
still_pending (Opened ch) h = dropped h
still_pending (Settled a) h = dropped h
still_pending (Read n) h = dropped h
still_pending (Written n) h = dropped h
still_pending (FrontIs r c p n) h = dropped h
still_pending (Numbers t total buffered unacked budget) h = dropped h
still_pending (Refused r) h = dropped h

-- its OKAY
unfoldable pub open_readied : Lent → ChannelId → ℕ → ℕ → Result ChannelSlot CreditFault → Outcome
open_readied l ch remote used (Ok t) = ends (then (begun (dropped l.state.header) l) (slot_to ch.slot t ∷ []) []) (Opened ch) used []
open_readied l ch remote used (Err f) =
    ends (then (begun (dropped l.state.header) l) [] (close_frame (record { local = ch.local; remote = record { 0 = remote } }) ∷ [])) (Refused (BadCredit f)) used []

-- any other packet: dispatched
unfoldable pub open_acted : Lent → ℕ → Acted → Outcome
open_acted l used a =
    let w = then_acted (begun l.state.header l) a in
    ends (storing w (still_pending (unless_fault a.fault Waiting) a.header)) (unless_fault a.fault Waiting) used []

-- no packet: its answer; else the open's own OKAY, WRTE (6) or CLSE (10), or any other
unfoldable pub open_by : Lent → ChannelId → List ℕ → Result Packet (Answer × ℕ) → Outcome
open_by l ch received (Err (a, used)) = ends (begun (still_pending a l.state.header) l) a used []
open_by l ch received (Ok p) =
    let mine = eqb p.arg1 ch.local.0 in
    cond (is_ready p.command && mine)
    (open_readied l ch p.arg0 (frame_len p) (opened_of (opening_slot ch.local) (record { 0 = p.arg0 }) (body_of received p) (policy l)))
    (cond (is_write p.command && mine)
    (ends (then (begun (dropped l.state.header) l) [] (close_frame (record { local = ch.local; remote = record { 0 = p.arg0 } }) ∷ [])) (Refused UnexpectedCommand) (frame_len p) [])
    (cond (is_close p.command && mine) (ends (begun (dropped l.state.header) l) (Refused ChannelClosed) (frame_len p) [])
    (open_acted l (frame_len p) (act_on l.state.header l.state.slots l.state.queue l.rx l.store p (body_of received p)))))

-- while an open of ours is pending, it goes on; else one begins, and an offer ends
unfoldable pub open_step : Lent → ℕ → List ℕ → List ℕ → Outcome
open_step l out destination received =
    let h = l.state.header in
    cond (is_ours h.pending.what) (open_by l (record { slot = h.pending.slot; local = h.pending.local }) received (received_of l received))
    (open_on l out destination (allocated h l.state.slots))

-- ---- accept, reject, let go (accept.rs): the verdict on an open of the device's

-- the open that is offered: its entry stands behind those that are queued
abbrev pub offer_in : Lent → QueuedOpen
offer_in l = get_or l.state.queue l.state.header.queued none_queued

-- whether one is offered
abbrev pub is_offered : Lent → Bool
is_offered l = is_offer l.state.header.pending.what

-- none is
abbrev pub not_offered : Lent → Outcome
not_offered l = ends (begun (dropped l.state.header) l) Nothing 0 []

-- `Packet::refuse`: a CLSE that leaves our number out, and nothing else
unfoldable pub reject_on : Lent → Header → RemoteId → Answer → Outcome
reject_on l h remote answer = ends (then (begun h l) [] (close_frame (record { local = record { 0 = 0 }; remote = remote }) ∷ [])) answer 0 []

-- `accept`: the slot is filled and an OKAY is written, which carries our opening credit in delayed mode; with no slot empty the
-- open is rejected, and 12 answered
unfoldable pub accept_on : Lent → Header → RemoteId → ℕ → Result ChannelId NoFree → Outcome
accept_on l h remote credit (Err _) = reject_on l h remote (Refused NoFreeChannels)
accept_on l h remote credit (Ok ch) =
    let ids : ChannelIds = record { local = ch.local; remote = remote } in
    ends (then (begun (numbered h) l) (slot_to ch.slot (accepted_slot ids credit (policy l)) ∷ []) (okay_frame ids (offered_credit h.negotiated) ∷ [])) (Opened ch) 0 []

-- the offer is taken
unfoldable pub accept_step : Lent → Outcome
accept_step l =
    cond (is_offered l)
    (accept_on l (dropped l.state.header) (offer_in l).remote (offer_in l).credit (allocated l.state.header l.state.slots))
    (not_offered l)

-- it is refused
unfoldable pub reject_step : Lent → Outcome
reject_step l = cond (is_offered l) (reject_on l (dropped l.state.header) (offer_in l).remote Done) (not_offered l)

-- an open of the peer's is taken or refused at once, by its number and credit: it was never queued
unfoldable pub verdict_step : Lent → Bool → RemoteId → ℕ → Outcome
verdict_step l take remote credit =
    cond take (accept_on l (dropped l.state.header) remote credit (allocated l.state.header l.state.slots)) (reject_on l (dropped l.state.header) remote Done)

-- it goes back to the head of the queue (`Drop`)
unfoldable pub let_go_step : Lent → Outcome
let_go_step l =
    let back = returned (dropped l.state.header) l.state.queue (offer_in l) in
    cond (is_offered l) (ends (then (begun back.result l) back.changes []) Done 0 []) (not_offered l)

-- ---- the calls, with the refusals ahead of them

-- open; out: the outgoing buffer's length
unfoldable pub open_outcome : Bool → Lent → ℕ → List ℕ → List ℕ → Outcome
open_outcome whole l out destination received = checked_out whole l out (open_step l out destination received)

-- dispatch
unfoldable pub dispatch_outcome : Bool → Lent → ℕ → List ℕ → Outcome
dispatch_outcome whole l out received = checked_out whole l out (dispatch_step l received)

-- settle
unfoldable pub settle_outcome : Bool → Lent → ℕ → ChannelId → ℕ → Outcome
settle_outcome whole l out ch want = checked_out whole l out (settle_step l ch want)

-- take: it is lent no outgoing buffer
unfoldable pub take_outcome : Bool → Lent → ChannelId → ℕ → Outcome
take_outcome whole l ch room = checked whole l (take_step l ch room)

-- read; room: the reader's buffer's length
unfoldable pub read_outcome : Bool → Lent → ℕ → ChannelId → ℕ → List ℕ → Outcome
read_outcome whole l out ch room received = checked_out whole l out (read_step l ch room received)

-- write
unfoldable pub write_outcome : Spending → Bool → Lent → ℕ → ChannelId → List ℕ → List ℕ → Outcome
write_outcome spending whole l out ch bytes received = checked_out whole l out (write_step spending l ch out bytes received)

-- close
unfoldable pub close_outcome : Bool → Lent → ℕ → ChannelId → Outcome
close_outcome whole l out ch = checked_out whole l out (close_step l ch)

-- take_front: it is lent no outgoing buffer
unfoldable pub take_front_outcome : Bool → Lent → Outcome
take_front_outcome whole l = checked whole l (take_front_step l)

-- numbers: it is lent no outgoing buffer
unfoldable pub numbers_outcome : Bool → Lent → ChannelId → Outcome
numbers_outcome whole l ch = checked whole l (looked l (numbers_for l ch))

-- accept
unfoldable pub accept_outcome : Bool → Lent → ℕ → Outcome
accept_outcome whole l out = checked_out whole l out (accept_step l)

-- reject
unfoldable pub reject_outcome : Bool → Lent → ℕ → Outcome
reject_outcome whole l out = checked_out whole l out (reject_step l)

-- a verdict at once: a device's end makes this call, the host's functions do not
unfoldable pub verdict_outcome : Bool → Lent → ℕ → Bool → RemoteId → ℕ → Outcome
verdict_outcome whole l out take remote credit = checked_out whole l out (verdict_step l take remote credit)

-- let go: it is lent no outgoing buffer
unfoldable pub let_go_outcome : Bool → Lent → Outcome
let_go_outcome whole l = checked whole l (let_go_step l)
