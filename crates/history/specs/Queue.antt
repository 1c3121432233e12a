-- The queued opens change as the Rust's IncomingQueue does, over every list of calls (incoming.rs; connection.rs, `act_on`
-- and `try_accept_incoming`). Assumes nothing.
use Rattle.std.specs.Prelude.{ℕ, ◌≤◌, Bool, true, false, cond, ◌&&◌, ◌||◌, List, [], ◌∷◌, ◌++◌, ◌≡◌, eqb, ltb, length, take, drop, Result, Ok, Err}
use Rattle.le.specs.Le.{part}
use Rattle.config.specs.Config.{stores_fit}
use Rattle.incoming.specs.Incoming.{Incoming, queued_as, queued_opens, withdrawn}
use Rattle.protocol.specs.declared.command.Command.{Command}
use Rattle.protocol.specs.declared.command.Command.TheVariants.{Sync, Connect, Open, Ready, Close, Write, Auth, StartTls}
use Rattle.protocol.specs.declared.packet.Packet.{Packet}
use Rattle.protocol.specs.Command.{is_ready, is_close, is_write}
use Rattle.slot.specs.declared.ChannelSlot.{ChannelSlot}
use Rattle.slot.specs.declared.ids.RemoteId.{RemoteId}
use Rattle.slot.specs.Ids.{closed_by}
use Rattle.table.specs.declared.ChannelId.{ChannelId}
use Rattle.table_dispatch.specs.Dispatch.{remote_place}
use Rattle.connection.specs.declared.Answer.{Answer}
use Rattle.connection.specs.declared.Answer.TheVariants.{Nothing, Front as FrontIs}
use Rattle.connection.specs.Calls.{Lent, offer_in, is_offered, ids_in, slot_for, received_of, body_of, is_direct}
use Rattle.history.specs.Run.{bytes_in, Call, open_call, dispatch_call, settle_call, take_call, read_call, write_call, close_call, front_taken, look_call, accept_call, reject_call, let_go_call, verdict_call, World, lent, outcome, after, after_all, Start, begins}

-- what is queued, in order: remote number, credit and destination of each
unfoldable pub queue_of : Lent → List Incoming
queue_of l = queued_opens l.state.header.negotiated.config.max_payload l.store (take l.state.header.queued l.state.queue)

-- what is queued in the lent bytes
abbrev pub queue_in : World → List Incoming
queue_in w = queue_of (lent w)

-- the open that is offered, as it was queued: none, or the one that was taken
unfoldable pub offer_of : Lent → List Incoming
offer_of l = cond (is_offered l) (queued_as l.state.header.negotiated.config.max_payload l.store (offer_in l) ∷ []) []

-- the one that is offered in the lent bytes
abbrev pub offered_in : World → List Incoming
offered_in w = offer_of (lent w)

-- ---- what is done to the queue

-- nothing, an OPEN put behind the others, those of a remote number taken out, the first taken out, one put ahead of the others
pub data QueueMove : Type 0 where
  stays : QueueMove
  pushes : Incoming → QueueMove
  withdraws : RemoteId → QueueMove
  pops : QueueMove
  returns : Incoming → QueueMove

-- `push_back`, which `act_on` does while fewer are queued than there are channels; `withdraw`; `pop_front`; `push_front`
unfoldable pub moved : ℕ → QueueMove → List Incoming → List Incoming
moved channels stays q = q
moved channels (pushes x) q = cond (ltb (length q) channels) (q ++ x ∷ []) q
moved channels (withdraws remote) q = withdrawn remote q
moved channels pops q = drop 1 q
moved channels (returns x) q = x ∷ q

-- ---- which of them a call does

-- a packet that is dispatched: an OPEN is pushed; a CLSE that leaves our number out withdraws, where the device's number
-- names no channel. a, b: arg0 and arg1
unfoldable pub command_move : ℕ → List ChannelSlot → Command → ℕ → ℕ → List ℕ → QueueMove
command_move n ss Sync a b payload = stays
command_move n ss Connect a b payload = stays
command_move n ss Open a b payload = pushes (record { remote = record { 0 = a }; credit = b; destination = payload })
command_move n ss Ready a b payload = stays
command_move n ss Close a b payload = cond (eqb b 0) (cond (ltb (remote_place n ss (record { 0 = a })) n) stays (withdraws (record { 0 = a }))) stays
command_move n ss Write a b payload = stays
command_move n ss Auth a b payload = stays
command_move n ss StartTls a b payload = stays

-- what was received: nothing but a packet that the call does not take for itself is dispatched
unfoldable pub packet_move : Lent → (Packet → Bool) → List ℕ → Result Packet (Answer × ℕ) → QueueMove
packet_move l takes received (Err (a, used)) = stays
packet_move l takes received (Ok p) =
    cond (takes p) stays (command_move l.state.header.negotiated.config.channels l.state.slots p.command p.arg0 p.arg1 (body_of received p))

-- and only where the call uses received bytes: used is what it answers
unfoldable pub used_move : ℕ → QueueMove → QueueMove
used_move used m = cond (eqb used 0) stays m

-- the move of a call that is handed received bytes
abbrev pub received_move : Lent → (Packet → Bool) → List ℕ → ℕ → QueueMove
received_move l takes received used = used_move used (packet_move l takes received (received_of l received))

-- a pending open takes the OKAY, WRTE or CLSE that names its number
unfoldable pub open_takes : Lent → Packet → Bool
open_takes l p =
    let mine = eqb p.arg1 l.state.header.pending.local.0 in
    (is_ready p.command && mine) || ((is_write p.command && mine) || (is_close p.command && mine))

-- a read takes its channel's WRTE that fits the buffer, and its CLSE
unfoldable pub read_takes : Lent → ChannelId → ℕ → Packet → Bool
read_takes l ch room p = is_direct (slot_for l ch) room p || closed_by (ids_in (slot_for l ch)) p

-- a write takes its channel's OKAY and CLSE
unfoldable pub write_takes : Lent → ChannelId → Packet → Bool
write_takes l ch p = (is_ready p.command && eqb p.arg1 (slot_for l ch).local.0) || closed_by (ids_in (slot_for l ch)) p

-- dispatch takes none
unfoldable pub takes_none : Packet → Bool
takes_none p = false

-- letting go puts what is offered back
unfoldable pub back_move : List Incoming → QueueMove
back_move [] = stays
back_move (x ∷ xs) = returns x

-- the move of each call
unfoldable pub move_of : World → Call → QueueMove
move_of w (open_call out destination received) =
    received_move (lent w) (open_takes (lent w)) (bytes_in received) (outcome w (open_call out destination received)).used
move_of w (dispatch_call out received) = received_move (lent w) takes_none (bytes_in received) (outcome w (dispatch_call out received)).used
move_of w (settle_call out ch want) = stays
move_of w (take_call ch buf) = stays
move_of w (read_call out ch buf received) =
    received_move (lent w) (read_takes (lent w) ch (length buf)) (bytes_in received)
    (outcome w (read_call out ch buf received)).used
move_of w (write_call spending out ch bytes received) =
    received_move (lent w) (write_takes (lent w) ch) (bytes_in received) (outcome w (write_call spending out ch bytes received)).used
move_of w (close_call out ch) = stays
move_of w front_taken = pops
move_of w (look_call x) = stays
move_of w (accept_call out) = stays
move_of w (reject_call out) = stays
move_of w let_go_call = back_move (offered_in w)
move_of w (verdict_call out take remote credit) = stays

-- ---- the claim

-- an answer that hands over an OPEN: its numbers, and where its destination stands in the open store
pub record Hands (x : Incoming) (store : List ℕ) (a : Answer) : Type 0 where
  pub place : ℕ
  pub answer-is : a ≡ FrontIs x.remote x.credit place (length x.destination)
  pub destination-is : part store place (length x.destination) ≡ x.destination

-- any call but taking the front
abbrev pub NotFront : Call → Type 0
NotFront (open_call out destination received) = Unit {0}
NotFront (dispatch_call out received) = Unit {0}
NotFront (settle_call out ch want) = Unit {0}
NotFront (take_call ch buf) = Unit {0}
NotFront (read_call out ch buf received) = Unit {0}
NotFront (write_call spending out ch bytes received) = Unit {0}
NotFront (close_call out ch) = Unit {0}
NotFront front_taken = ⊥
NotFront (look_call x) = Unit {0}
NotFront (accept_call out) = Unit {0}
NotFront (reject_call out) = Unit {0}
NotFront let_go_call = Unit {0}
NotFront (verdict_call out take remote credit) = Unit {0}

-- what holds of the queue after a list of calls
pub record Queues (channels : ℕ) (w : World) : Type 0 where
  -- each call does what it does in the Rust
  pub moves : (x : Call) → queue_in (after w x) ≡ moved channels (move_of w x) (queue_in w)
  -- no more are queued than there are channels
  pub fits : length (queue_in w) ≤ channels
  -- taking the front hands over the first, or answers that there is none
  pub front : (x : Incoming) (xs : List Incoming) → queue_in w ≡ x ∷ xs → Hands x (after w front_taken).store (outcome w front_taken).answer
  pub none : queue_in w ≡ [] → (outcome w front_taken).answer ≡ Nothing
  -- what was taken is offered; let go at once, it is where it was, and so are the others
  pub offered : offered_in (after w front_taken) ≡ take 1 (queue_in w)
  pub back : queue_in (after (after w front_taken) let_go_call) ≡ queue_in w
  -- where one is offered after any other call, that call changed nothing: the offer was there, and each call that acts ends it
  pub ended : (x : Call) → NotFront x → is_offered (lent (after w x)) ≡ true → (outcome w x).changes ≡ []

-- for every make that is not refused, all stores that are not under their lengths, and all lists of calls; at first none
-- is queued
abbrev pub QueueIsRusts : Type 0
QueueIsRusts =
    (s : Start) → stores_fit s.config (length s.rx) (length s.store) ≡ true
    → (queue_in (begins s) ≡ []) × ((cs : List Call) → Queues s.config.channels (after_all (begins s) cs))
