-- The queued opens change as the Rust's IncomingQueue does. Assumes nothing.
use mathlib.Core.Path.{◌≡◌, refl, sym, ap, subst, ◌∙◌}
use mathlib.Core.Bool.{Bool, true, false, cond, ◌&&◌, ◌||◌}
use mathlib.Core.List.{List, [], ◌∷◌, ◌++◌}
use Prim.Native.Nat.{ℕ, zero, suc, ◌+◌, ◌-◌, ◌*◌, ◌≤◌}
use native.Mathlib.Omega.{arith}
use lib.Dec.{ltb, leb, eqb}
use lib.ListN.{length, take, drop, get_or, set, length-take}
use borrow.Author.Tests.{eqb-true, eqb-false, ne_eqb, ltb-true, lt-ltb, le-ltb, leb-true, leb-false}
use Rattle.le.specs.Le.{Bytes, part, put}
use Rattle.le.proofs.Parts.{by-test, length_part}
use Rattle.config.specs.declared.negotiated.Negotiated.{Negotiated}
use Rattle.config.specs.declared.negotiated.RxPolicy.{RxPolicy}
use Rattle.config.specs.Config.{stores_fit}
use Rattle.config.specs.Negotiated.{negotiated_of, policy_of}
use Rattle.config.proofs.Laws.{and-true}
use Rattle.rx_store.proofs.Laws.{share-before}
use Rattle.incoming.specs.Incoming.{Incoming, queued_as, queued_opens, withdrawn, with_queued, offering, PushOutcome, next_share, pushed, withdrawal, popped, returned}
use Rattle.incoming.proofs.ListLaws.{push-waits, withdrawal-waits, popped-waits, popped-offers, returned-waits}
use Rattle.protocol.specs.declared.command.Command.{Command}
use Rattle.protocol.specs.declared.command.Command.TheVariants.{Sync, Connect, Open, Ready, Close, Write, Auth, StartTls}
use Rattle.protocol.specs.declared.packet.Packet.{Packet}
use Rattle.protocol.specs.Packet.{payload_limit}
use Rattle.protocol.specs.Command.{is_ready, is_close, is_write}
use Rattle.slot.specs.declared.ChannelSlot.{ChannelSlot}
use Rattle.slot.specs.declared.Spending.{Spending}
use Rattle.slot.specs.Ids.{closed_by}
use Rattle.slot.specs.Slot.{empty_slot, is_closed, is_failed, settled_of, spent_of, leave_of}
use Rattle.slot.specs.declared.ids.LocalId.{LocalId}
use Rattle.slot.specs.declared.ids.RemoteId.{RemoteId}
use Rattle.slot.proofs.Kept.{pick}
use Rattle.slot.proofs.Laws.{cond-true, cond-false}
use Rattle.slot.proofs.Stays.{Stays, settled-stays}
use Rattle.state.specs.declared.Header.{Header}
use Rattle.state.specs.declared.QueuedOpen.{QueuedOpen}
use Rattle.state.specs.Change.{Step, slot_to, header_to, queued_to, changed_all, Change}
use Rattle.state.specs.State.{is_ours, none_queued, state_len, Connection, state_of, with_slot, is_offer}
use Rattle.state_whole.specs.Whole.{queued_fine, queue_fine, is_whole}
use Rattle.le.proofs.RowLaws.{walk_here, never}
use Rattle.state.proofs.ChangeLaws.{changes-append}
use Rattle.state_whole.proofs.WholeLaws.{Live, Whole, whole-own}
use Rattle.state_whole.proofs.LiveLaws.{settled-live}
use Rattle.table.specs.declared.ChannelId.{ChannelId}
use Rattle.table_dispatch.specs.declared.DispatchOutcome.{DispatchOutcome}
use Rattle.table_dispatch.specs.declared.DispatchOutcome.TheVariants.{AckWrite, CreditGranted, SlotClosed, DataBuffered, IncomingOpen, CancelQueuedOpen, StrayReady, ChannelFault, Unmatched}
use Rattle.table.specs.declared.Want.TheVariants.{Local, Remote}
use Rattle.table.specs.Table.{first, wanted_by, place_of, slot_in, allocated}
use Rattle.slot.specs.Wrote.{Wrote}
use Rattle.table_dispatch.specs.Dispatch.{buffered_at, stored, named_place, remote_place, closed_at, close_of as table_close, granted, ready_at, stray_of, grant_of, Dispatched, wrote_by, wrote_at, write_of as table_write, route_of, dispatch_of as table_dispatch}
use Rattle.table_dispatch.proofs.DispatchLaws.{named-found}
use Rattle.table_dispatch.proofs.KeepLaws.{dispatch-keeps}
use Rattle.connection.specs.declared.Answer.{Answer}
use Rattle.connection.specs.declared.Answer.TheVariants.{Numbers as NumbersAre, Done, Waiting, Nothing, Opened, Settled, Read, Written, Front as FrontIs, Refused}
use Rattle.connection.specs.declared.Refusal.{Refusal}
use Rattle.connection.specs.Frames.{Frame, frames_bytes}
use Rattle.connection.specs.declared.Refusal.TheVariants.{StoreShort, OutShort, ChannelClosed, BrokenState}
use Rattle.connection.specs.Calls.{looked, numbers_for, numbers_outcome, Lent, Outcome, Work, begun, then, then_acted, ends, dropped, untouched, checked, checked_out, policy, ids_in, is_there, slot_for, ack_frames, unless_fault, received_of, body_of, frame_len, dispatch_by, dispatch_step, settled_as, settle_step, taken_by, take_step, reread, read_settled, read_acted, is_direct, read_direct, read_by, read_taken, read_first, read_step, send_len, send_some, send_by, send_again, write_readied, write_acted, write_act, write_by, write_first, write_on, write_step, close_step, take_front_by, take_front_step, open_on, still_pending, open_readied, open_acted, open_by, open_step, fresh, open_outcome, dispatch_outcome, settle_outcome, take_outcome, read_outcome, write_outcome, close_outcome, take_front_outcome, accept_outcome, reject_outcome, let_go_outcome, verdict_outcome, offer_in, is_offered, reject_on, accept_on, accept_step, reject_step, let_go_step, verdict_step}
use Rattle.connection.specs.Act.{Acted, pushed_by, acted_by, table_of, act_on, PacketFits}
use Rattle.history.specs.Queue.{QueueMove, stays, pushes, withdraws, pops, moved, command_move, used_move, queue_of, packet_move, Hands, takes_none, open_takes, read_takes, write_takes, move_of, queue_in, Queues, QueueIsRusts, back_move, offer_of, offered_in}
use Rattle.history.specs.Run.{look_outcome, bytes_in, Call, open_call, dispatch_call, settle_call, take_call, read_call, write_call, close_call, front_taken, look_call, numbers_look, accept_call, reject_call, let_go_call, verdict_call, World, lent, outcome, after, after_all, Start, begins, agreed_in}
use Rattle.connection.proofs.WholeWork.{negotiated, At, at-frames, at_slot, there-live, there-at, Long, long, drop-whole}
use Rattle.history.proofs.Bytes.{bytes-in}
use Rattle.connection.proofs.Decoding.{ReceivedFits, received-fits}
use Rattle.history.proofs.Never13.{Holds, holds-whole, holds_kept, holds-all, state-after, made-state, starts, holds_after}
use Rattle.history.proofs.Heads.{call-offer}
use Rattle.slot.specs.declared.ChannelFault.{ChannelFault as SlotFault}
use Rattle.std.specs.Prelude.{Option, Some, None, Result, Ok, Err}
use Rattle.credit.specs.declared.CreditFault.{CreditFault}
use Rattle.slot.specs.declared.ChannelError.{ChannelError}
use Rattle.table.specs.declared.NoFreeChannels.{NoFreeChannels}

length-waits : (payload : ℕ) (store : List ℕ) (qs : List QueuedOpen) → length (queued_opens payload store qs) ≡ length qs
unfolding queued_opens
length-waits payload store [] = refl
length-waits payload store (q ∷ qs) = ap suc (length-waits payload store qs)

length-queue : (payload : ℕ) (store : List ℕ) (n : ℕ) (qs : List QueuedOpen) → n ≤ length qs → length (queued_opens payload store (take n qs)) ≡ n
length-queue payload store n qs h = length-waits payload store (take n qs) ∙ simp length-take (omega arith)

-- ---- what the table answers, and what a packet does

-- an answer of the table's, as a move
unfoldable move_by : List ℕ → DispatchOutcome → QueueMove
move_by payload (AckWrite i ids len) = stays
move_by payload (CreditGranted i) = stays
move_by payload (SlotClosed i) = stays
move_by payload (DataBuffered i) = stays
move_by payload (IncomingOpen remote credit) = pushes (record { remote = remote; credit = credit; destination = payload })
move_by payload (CancelQueuedOpen remote) = withdraws remote
move_by payload (StrayReady ids) = stays
move_by payload (ChannelFault i ids opening f) = stays
move_by payload Unmatched = stays

module _ (p : RxPolicy) (n : ℕ) (ss : List ChannelSlot) (payload rx : List ℕ) where
  abbrev step_stays : Step DispatchOutcome → Type 0
  step_stays x = move_by payload x.result ≡ stays

  abbrev wrote_stays : Dispatched → Type 0
  wrote_stays x = step_stays x.step

  close-answer : (remote : RemoteId) (local : LocalId)
      → move_by payload (table_close n ss remote local).result ≡ cond (eqb local.0 0) (cond (ltb (remote_place n ss remote) n) stays (withdraws remote)) stays
  unfolding table_close closed_at move_by
  close-answer remote local =
      by-test (eqb local.0 0)
      (λ t. by-test (ltb (remote_place n ss remote) n) (λ u. rw (t, u)) (λ u. rw (t, u)))
      (λ t. by-test (ltb (place_of (Local local) n ss) n) (λ u. rw (t, u)) (λ u. rw (t, u)))

  granted-stays : (i : ℕ) (s : ChannelSlot) (remote : RemoteId) (r : Result ChannelSlot CreditFault) → step_stays (granted i s remote r)
  unfolding granted move_by
  granted-stays i s remote (Ok t) = refl
  granted-stays i s remote (Err b) = refl

  ready-stays : (remote : RemoteId) (local : LocalId) → step_stays (grant_of p n ss remote local payload)
  unfolding grant_of ready_at stray_of move_by
  ready-stays remote local =
      let f = place_of (Local local) n ss in
      pick step_stays (ltb f n) (λ t. pick step_stays (is_failed (slot_in ss f).failed) (λ u. refl) (λ u. granted-stays f (slot_in ss f) remote _))
      (λ t. pick (λ (o : DispatchOutcome). move_by payload o ≡ stays) (eqb remote.0 0) (λ u. refl)
      (λ u. pick (λ (o : DispatchOutcome). move_by payload o ≡ stays) (eqb local.0 0) (λ v. refl) (λ v. refl)))

  kept-stays : (i : ℕ) (s t : ChannelSlot) (due : Option ℕ) → step_stays (stored (buffered_at i s due) i t)
  unfolding move_by
  kept-stays i s t (Some len) = refl
  kept-stays i s t None = refl

  wrote-stays : (i : ℕ) (s : ChannelSlot) (remote : RemoteId) (r : Wrote) → wrote_stays (wrote_by p i s remote payload rx r)
  unfolding wrote_by move_by
  wrote-stays i s remote (Ok w) = kept-stays i s w.slot w.ack
  wrote-stays i s remote (Err why) = refl

  write-stays : (remote : RemoteId) (local : LocalId) → wrote_stays (table_write p n ss remote local payload rx)
  unfolding table_write wrote_at move_by
  write-stays remote local =
      let f = place_of (Local local) n ss in
      pick wrote_stays (ltb f n) (λ t. pick wrote_stays (is_failed (slot_in ss f).failed) (λ u. refl) (λ u. wrote-stays f (slot_in ss f) remote _)) (λ t. refl)

  route-answer : (c : Command) (a b : ℕ) → move_by payload (route_of p n ss c a b payload rx).step.result ≡ command_move n ss c a b payload
  unfolding route_of command_move move_by
  route-answer Connect a b = refl
  route-answer Auth a b = refl
  route-answer StartTls a b = refl
  route-answer Open a b = refl
  route-answer Close a b = close-answer (record { 0 = a }) (record { 0 = b })
  route-answer Write a b = write-stays (record { 0 = a }) (record { 0 = b })
  route-answer Ready a b = ready-stays (record { 0 = a }) (record { 0 = b })
  route-answer Sync a b = refl

table-answer : (h : Header) (ss : List ChannelSlot) (rx : List ℕ) (k : Packet) (payload : List ℕ)
    → move_by payload (table_of h ss rx k payload).step.result ≡ command_move h.negotiated.config.channels ss k.command k.arg0 k.arg1 payload
unfolding table_of table_dispatch
table-answer h ss rx k payload = route-answer (policy_of h.negotiated) h.negotiated.config.channels ss payload rx k.command k.arg0 k.arg1

-- a slot stored that is found as the one before it
first-set : {A : Type 0} (p : A → Bool) (n : ℕ) (ss : List A) (i : ℕ) (t d : A) → p t ≡ p (get_or ss i d) → first p (take n (set ss i t)) ≡ first p (take n ss)
unfolding first
first-set p zero ss i t d e = refl
first-set p (suc n) [] i t d e = refl
first-set p (suc n) (x ∷ xs) zero t d e = rw e
first-set p (suc n) (x ∷ xs) (suc i) t d e = rw (first-set p n xs i t d e)

-- settling a channel changes no packet's move
command-set : (n : ℕ) (ss : List ChannelSlot) (i : ℕ) (t : ChannelSlot) → Stays (slot_in ss i) t → (c : Command) (a b : ℕ) (payload : List ℕ)
    → command_move n (set ss i t) c a b payload ≡ command_move n ss c a b payload
unfolding command_move remote_place place_of wanted_by slot_in
command-set n ss i t k Sync a b payload = refl
command-set n ss i t k Connect a b payload = refl
command-set n ss i t k Open a b payload = refl
command-set n ss i t k Ready a b payload = refl
command-set n ss i t k Close a b payload =
    let s = get_or ss i empty_slot in
    let f : wanted_by (Remote (record { 0 = a })) t ≡ wanted_by (Remote (record { 0 = a })) s
    = ap (λ (x : Bool). x && t.has_remote && eqb t.remote.0 a) k.filled ∙ ap (λ (x : Bool). s.filled && x && eqb t.remote.0 a) k.known
    ∙ ap (λ (x : RemoteId). s.filled && s.has_remote && eqb x.0 a) k.remote in
    let e : ltb (cond (eqb a 0) n (named_place (record { 0 = a }) n (set ss i t))) n ≡ ltb (cond (eqb a 0) n (named_place (record { 0 = a }) n ss)) n
    = by-test (eqb a 0) (λ z. rw z)
    (λ z. rw z
    (named-found n (set ss i t) (record { 0 = a }) ∙ ap (λ (x : ℕ). ltb x n) (first-set (wanted_by (Remote (record { 0 = a }))) n ss i t empty_slot f)
    ∙ sym (named-found n ss (record { 0 = a })))) in
    ap (λ (x : Bool). cond (eqb b 0) (cond x stays (withdraws (record { 0 = a }))) stays) e
command-set n ss i t k Write a b payload = refl
command-set n ss i t k Auth a b payload = refl
command-set n ss i t k StartTls a b payload = refl

-- ---- what acting on a packet does to those that wait

module _ (h : Header) (c : Connection) (rx store : List ℕ) (g : Whole h.negotiated h c.slots c.queue) where
  abbrev most : ℕ
  most = h.negotiated.config.channels

  abbrev payload-max : ℕ
  payload-max = h.negotiated.config.max_payload

  abbrev queued-now : List Incoming
  queued-now = queued_opens payload-max store (take h.queued c.queue)

  abbrev ActMoves : QueueMove → Acted → Type 0
  ActMoves m a = queued_opens payload-max a.store (take a.header.queued (changed_all c a.changes).queue) ≡ moved most m queued-now

  queued-length : length queued-now ≡ h.queued
  queued-length =
      let k = g.header.queue-fits in
      let z = g.limits.within.most-channels in
      let full = g.queue.full in
      length-queue payload-max store h.queued c.queue (omega arith)

  module _ (d : Dispatched) (e : (changed_all c d.step.changes).queue ≡ c.queue) where
    still : queued_opens payload-max store (take h.queued (changed_all c d.step.changes).queue) ≡ queued-now
    still = ap (λ (x : List QueuedOpen). queued_opens payload-max store (take h.queued x)) e

    push-moves : (payload : List ℕ) → length payload ≤ payload-max → most * payload-max ≤ length store → (remote : RemoteId) (credit : ℕ)
        → ActMoves (pushes (record { remote = remote; credit = credit; destination = payload }))
        (pushed_by h store d remote (pushed h c.queue remote credit payload store) (pushed h c.queue remote credit payload store).result)
    unfolding pushed next_share pushed_by moved
    push-moves payload k long remote credit =
        let x : Incoming = record { remote = remote; credit = credit; destination = payload } in
        let new : QueuedOpen = record { remote = remote; credit = credit; share = next_share h c.queue; length = length payload } in
        let n = queued-length in
        let fit = g.header.queue-fits in
        let z = g.limits.within.most-channels in
        let full = g.queue.full in
        pick (λ (o : PushOutcome). ActMoves (pushes x) (pushed_by h store d remote o o.result)) (leb most h.queued)
        (λ t. let b = leb-true most h.queued t in
        let u : ltb (length queued-now) most ≡ false = le-ltb (length queued-now) most (omega arith) in
        still ∙ sym (ap (λ (v : Bool). cond v (queued-now ++ x ∷ []) queued-now) u))
        (λ t. let b = leb-false most h.queued t in
        let u : ltb (length queued-now) most ≡ true = lt-ltb (length queued-now) most (omega arith) in
        ap (λ (y : Connection). queued_opens payload-max (put store (next_share h c.queue * payload-max) payload) (take (h.queued + 1) y.queue)) (changes-append c d.step.changes (queued_to h.queued new ∷ []))
        ∙ ap (λ (y : List QueuedOpen). queued_opens payload-max (put store (next_share h c.queue * payload-max) payload) (take (h.queued + 1) (set y h.queued new))) e
        ∙ push-waits most payload-max h.queued c.queue store payload remote credit b long k (omega arith) g.queue.fine
        ∙ sym (ap (λ (v : Bool). cond v (queued-now ++ x ∷ []) queued-now) u))

    withdraw-moves : (remote : RemoteId)
        → queued_opens payload-max store (take (withdrawal h c.queue remote).result.queued (changed_all c (d.step.changes ++ (withdrawal h c.queue remote).changes)).queue)
        ≡ withdrawn remote queued-now
    withdraw-moves remote =
        let m = changed_all c d.step.changes in
        ap (λ (y : Connection). queued_opens payload-max store (take (withdrawal h c.queue remote).result.queued y.queue)) (changes-append c d.step.changes (withdrawal h c.queue remote).changes)
        ∙ subst (λ (os : List QueuedOpen). queued_opens payload-max store (take (withdrawal h os remote).result.queued (changed_all m (withdrawal h os remote).changes).queue) ≡ withdrawn remote (queued_opens payload-max store (take h.queued os))) e
        (withdrawal-waits m h store remote)

    acted-by-moves : (payload : List ℕ) → length payload ≤ payload-max → most * payload-max ≤ length store → (o : DispatchOutcome) → ActMoves (move_by payload o) (acted_by h c.queue payload store d o)
    unfolding acted_by move_by moved
    acted-by-moves payload k long (AckWrite i ids len) = still
    acted-by-moves payload k long (CreditGranted i) = still
    acted-by-moves payload k long (SlotClosed i) = still
    acted-by-moves payload k long (DataBuffered i) = still
    acted-by-moves payload k long (IncomingOpen remote credit) = push-moves payload k long remote credit
    acted-by-moves payload k long (CancelQueuedOpen remote) = withdraw-moves remote
    acted-by-moves payload k long (StrayReady ids) = still
    acted-by-moves payload k long (ChannelFault i ids opening f) = still
    acted-by-moves payload k long Unmatched = still

  -- the queue moves by what the table answers
  act-moves : most * (2 * (policy_of h.negotiated).rx_cap) ≤ length rx → most * payload-max ≤ length store
      → (p : Packet) (payload : List ℕ) → PacketFits h.negotiated p payload
      → ActMoves (move_by payload (table_of h c.slots rx p payload).step.result) (act_on h c.slots c.queue rx store p payload)
  unfolding act_on table_of
  act-moves rl sl p payload k =
      let t = dispatch-keeps h.negotiated h c rx g rl p payload k.arg0 k.arg1 in
      acted-by-moves (table_of h c.slots rx p payload) t.queue payload k.small sl (table_of h c.slots rx p payload).step.result

-- ---- what a call has done so far, and its end

module _ (l : Lent) where
  abbrev cap : ℕ
  cap = (negotiated l).config.max_payload

  abbrev count : ℕ
  count = (negotiated l).config.channels

  -- those that wait, once the header is stored
  abbrev queue_w : Work → List Incoming
  queue_w w = queued_opens cap w.store (take w.header.queued (changed_all l.state w.changes).queue)

  abbrev queue_o : Outcome → List Incoming
  queue_o o = queued_opens cap o.store (take (changed_all l.state o.changes).header.queued (changed_all l.state o.changes).queue)

  -- an outcome that moves the queue by m, where it uses received bytes
  abbrev Moves : QueueMove → Outcome → Type 0
  Moves m o = queue_o o ≡ moved count (used_move o.used m) (queue_of l)

  -- nothing is done to the queue
  abbrev Still : Work → Type 0
  Still w = queue_w w ≡ queue_of l

  ends-queue : (w : Work) (a : Answer) (used : ℕ) (handed : List ℕ) → queue_o (ends w a used handed) ≡ queue_w w
  unfolding ends
  ends-queue w a used handed =
      ap (λ (x : Connection). queued_opens cap w.store (take x.header.queued x.queue)) (changes-append l.state w.changes (header_to w.header ∷ []))

  used-stays : (used : ℕ) → used_move used stays ≡ stays
  unfolding used_move
  used-stays used = by-test (eqb used 0) (λ t. rw t) (λ t. rw t)

  used-frame : (m : QueueMove) (p : Packet) → used_move (frame_len p) m ≡ m
  unfolding used_move
  used-frame m p = cond-false (eqb (frame_len p) 0) stays m (ne_eqb (frame_len p) 0 (λ e. omega arith))

  -- what a call has done so far moves the queue by m, where it uses received bytes
  abbrev Left : QueueMove → ℕ → Work → Type 0
  Left m used w = queue_w w ≡ moved count (used_move used m) (queue_of l)

  ends-left : (m : QueueMove) (w : Work) (a : Answer) (used : ℕ) (handed : List ℕ) → Left m used w → Moves m (ends w a used handed)
  unfolding ends
  ends-left m w a used handed k = ends-queue w a used handed ∙ k

  -- it used nothing
  left-none : (m : QueueMove) (w : Work) → Still w → Left m 0 w
  unfolding used_move moved
  left-none m w k = k

  -- it took what it used for itself
  left-own : (m : QueueMove) (used : ℕ) (w : Work) → Still w → m ≡ stays → Left m used w
  unfolding moved
  left-own m used w k e = k ∙ ap (λ (x : QueueMove). moved count x (queue_of l)) (sym (used-stays used) ∙ ap (used_move used) (sym e))

  -- it dispatched a packet
  left-moved : (m : QueueMove) (p : Packet) (w : Work) → queue_w w ≡ moved count m (queue_of l) → Left m (frame_len p) w
  left-moved m p w k = k ∙ ap (λ (x : QueueMove). moved count x (queue_of l)) (sym (used-frame m p))

  -- frames, a slot
  queue-frames : (w : Work) → queue_w (then w [] []) ≡ queue_w w
  queue-frames w = ap (λ (x : Connection). queued_opens cap w.store (take w.header.queued x.queue)) (changes-append l.state w.changes [])

  queue-slot : (w : Work) (i : ℕ) (t : ChannelSlot) → queue_w (then w (slot_to i t ∷ []) []) ≡ queue_w w
  queue-slot w i t = ap (λ (x : Connection). queued_opens cap w.store (take w.header.queued x.queue)) (changes-append l.state w.changes (slot_to i t ∷ []))

  -- a packet acted on
  queue-act : (w : Work) (a : Acted) (q : List Incoming)
      → queued_opens cap a.store (take a.header.queued (changed_all (changed_all l.state w.changes) a.changes).queue) ≡ q → queue_w (then_acted w a) ≡ q
  queue-act w a q e = ap (λ (x : Connection). queued_opens cap a.store (take a.header.queued x.queue)) (changes-append l.state w.changes a.changes) ∙ e

  -- a header that keeps their count
  begun-still : (h : Header) → h.queued ≡ l.state.header.queued → Still (begun h l)
  unfolding queue_of
  begun-still h e = ap (λ (x : ℕ). queued_opens cap l.store (take x l.state.queue)) e

  looked-still : (m : QueueMove) (a : Answer) → Moves m (looked l a)
  unfolding used_move moved queue_of
  looked-still m a = refl

  untouched-still : (m : QueueMove) (r : Refusal) → Moves m (untouched l r)
  untouched-still m r = looked-still m (Refused r)

or_left : (a b : Bool) → a ≡ true → (a || b) ≡ true
or_left a b e = rw e

or_right : (a b : Bool) → a ≡ false → (a || b) ≡ b
or_right a b e = rw e

-- ---- the calls

module _ (l : Lent) (g : Whole (negotiated l) l.state.header l.state.slots l.state.queue) where
  abbrev b0 : Work
  b0 = begun (dropped l.state.header) l

  still0 : Still l b0
  still0 = begun-still l (dropped l.state.header) refl

  gone-moves : (m : QueueMove) → Moves l m (ends b0 (Refused ChannelClosed) 0 [])
  gone-moves m = ends-left l m b0 (Refused ChannelClosed) 0 [] (left-none l m b0 still0)

  -- ---- settle, take and close leave the queue

  settle-moves : (m : QueueMove) (ch : ChannelId) (want : ℕ) → Moves l m (settle_step l ch want)
  unfolding settle_step settled_as
  settle-moves m ch want = pick (Moves l m) (is_there l ch) (λ t. ends-left l m _ _ 0 [] (left-none l m b0 still0)) (λ t. gone-moves m)

  taken-moves : (m : QueueMove) (ch : ChannelId) (s : ChannelSlot) (r : Result (Option (ChannelSlot × ℕ)) ChannelError) → Moves l m (taken_by l ch s b0 r)
  unfolding taken_by
  taken-moves m ch s (Ok (Some (t, n))) = ends-left l m _ _ 0 _ (left-none l m b0 still0)
  taken-moves m ch s (Ok None) = ends-left l m b0 _ 0 [] (left-none l m b0 still0)
  taken-moves m ch s (Err e) = ends-left l m b0 _ 0 [] (left-none l m b0 still0)

  take-moves : (m : QueueMove) (ch : ChannelId) (room : ℕ) → Moves l m (take_step l ch room)
  unfolding take_step
  take-moves m ch room = pick (Moves l m) (is_there l ch) (λ t. taken-moves m ch (slot_for l ch) _) (λ t. gone-moves m)

  close-moves : (m : QueueMove) (ch : ChannelId) → Moves l m (close_step l ch)
  unfolding close_step
  close-moves m ch = pick (Moves l m) (is_there l ch && (slot_for l ch).has_remote) (λ t. ends-left l m _ _ 0 [] (left-none l m b0 still0)) (λ t. gone-moves m)

  -- ---- so do accept and reject

  reject-on : (m : QueueMove) (remote : RemoteId) (a : Answer) → Moves l m (reject_on l (dropped l.state.header) remote a)
  unfolding reject_on
  reject-on m remote a = ends-left l m _ a 0 [] (left-none l m b0 still0)

  none_moves : (m : QueueMove) → Moves l m (ends b0 Nothing 0 [])
  none_moves m = ends-left l m b0 Nothing 0 [] (left-none l m b0 still0)

  reject-moves : (m : QueueMove) → Moves l m (reject_step l)
  unfolding reject_step
  reject-moves m = pick (Moves l m) (is_offered l) (λ t. reject-on m (offer_in l).remote Done) (λ t. none_moves m)

  accept-on : (m : QueueMove) (remote : RemoteId) (credit : ℕ) (r : Result ChannelId NoFreeChannels) → Moves l m (accept_on l (dropped l.state.header) remote credit r)
  unfolding accept_on
  accept-on m remote credit (Err _) = reject-on m remote _
  accept-on m remote credit (Ok ch) = ends-left l m _ _ 0 [] (left-none l m b0 still0)

  accept-moves : (m : QueueMove) → Moves l m (accept_step l)
  unfolding accept_step
  accept-moves m = pick (Moves l m) (is_offered l) (λ t. accept-on m (offer_in l).remote (offer_in l).credit (allocated l.state.header l.state.slots)) (λ t. none_moves m)

  verdict-moves : (m : QueueMove) (take : Bool) (remote : RemoteId) (credit : ℕ) → Moves l m (verdict_step l take remote credit)
  unfolding verdict_step
  verdict-moves m take remote credit = pick (Moves l m) take (λ t. accept-on m remote credit (allocated l.state.header l.state.slots)) (λ t. reject-on m remote Done)

  -- ---- let go puts what is offered back

  let-go-moves : queue_o l (let_go_step l) ≡ moved (negotiated l).config.channels (back_move (offer_of l)) (queue_of l)
  unfolding let_go_step offer_of back_move moved queue_of
  let-go-moves =
      let hd = dropped l.state.header in
      let back = returned hd l.state.queue (offer_in l) in
      by-test (is_offered l)
      (λ t. let room = (g.offer t).room in
      let most = g.limits.within.most-channels in
      let full = g.queue.full in
      rw t (ends-queue l (then (begun back.result l) back.changes []) Done 0 [] ∙ returned-waits l.state hd l.store (offer_in l) (omega arith)))
      (λ t. rw t (ends-queue l b0 Nothing 0 []))

  -- ---- calls that look at a packet

  module _ (long : Long (negotiated l) (length l.rx) (length l.store)) (received : List ℕ) where
    abbrev lent_move : (Packet → Bool) → Result Packet (Answer × ℕ) → QueueMove
    lent_move takes r = packet_move l takes received r

    -- what is received, by what the call takes for itself
    module _ (takes : Packet → Bool) where
      stop-stays : (a : Answer) (used : ℕ) → lent_move takes (Err (a, used)) ≡ stays
      unfolding packet_move
      stop-stays a used = refl

      own-stays : (p : Packet) → takes p ≡ true → lent_move takes (Ok p) ≡ stays
      unfolding packet_move
      own-stays p e = cond-true (takes p) _ _ e

      other-moves : (p : Packet) → takes p ≡ false → lent_move takes (Ok p)
          ≡ command_move (negotiated l).config.channels l.state.slots p.command p.arg0 p.arg1 (body_of received p)
      unfolding packet_move
      other-moves p e = cond-false (takes p) _ _ e

    -- acting on it, with the state as it was lent, the pending open dropped or not
    gd : Whole (negotiated l) (dropped l.state.header) l.state.slots l.state.queue
    gd = drop-whole (negotiated l) l.state.header l.state g

    abbrev act_d : Packet → Acted
    act_d p = act_on (dropped l.state.header) l.state.slots l.state.queue l.rx l.store p (body_of received p)

    abbrev act_h : Packet → Acted
    act_h p = act_on l.state.header l.state.slots l.state.queue l.rx l.store p (body_of received p)

    acted-dropped : (takes : Packet → Bool) (p : Packet) → PacketFits (negotiated l) p (body_of received p) → takes p ≡ false
        → queue_w l (then_acted b0 (act_d p)) ≡ moved (negotiated l).config.channels (lent_move takes (Ok p)) (queue_of l)
    unfolding table_of queue_of
    acted-dropped takes p k e =
        queue-act l b0 (act_d p) _
        (act-moves (dropped l.state.header) l.state l.rx l.store gd long.rx-long long.store_long p (body_of received p) k
        ∙ ap (λ (m : QueueMove). moved (negotiated l).config.channels m (queue_of l)) (table-answer (dropped l.state.header) l.state.slots l.rx p (body_of received p) ∙ sym (other-moves takes p e)))

    acted-lent : (takes : Packet → Bool) (p : Packet) → PacketFits (negotiated l) p (body_of received p) → takes p ≡ false
        → queue_w l (then_acted (begun l.state.header l) (act_h p)) ≡ moved (negotiated l).config.channels (lent_move takes (Ok p)) (queue_of l)
    unfolding table_of queue_of
    acted-lent takes p k e =
        queue-act l (begun l.state.header l) (act_h p) _
        (act-moves l.state.header l.state l.rx l.store g long.rx-long long.store_long p (body_of received p) k
        ∙ ap (λ (m : QueueMove). moved (negotiated l).config.channels m (queue_of l)) (table-answer l.state.header l.state.slots l.rx p (body_of received p) ∙ sym (other-moves takes p e)))

    -- ---- dispatch

    dispatch-by : (r : Result Packet (Answer × ℕ)) → ReceivedFits (negotiated l) received r → Moves l (lent_move takes_none r) (dispatch_by l (dropped l.state.header) received r)
    unfolding dispatch_by takes_none
    dispatch-by (Err (a, used)) k = ends-left l _ b0 a used [] (left-own l _ used b0 still0 (stop-stays takes_none a used))
    dispatch-by (Ok p) k = ends-left l _ _ _ (frame_len p) [] (left-moved l _ p (then_acted b0 (act_d p)) (acted-dropped takes_none p k refl))

    dispatch-moves : Bytes received → Moves l (lent_move takes_none (received_of l received)) (dispatch_step l received)
    unfolding dispatch_step
    dispatch-moves y = dispatch-by (received_of l received) (received-fits l received y)

    -- ---- read

    module _ (ch : ChannelId) (room : ℕ) where
      module _ (m : QueueMove) where
        reread-moves : (used : ℕ) (fault : Option SlotFault) (w : Work) (s : ChannelSlot) → Left l m used w → (r : Result (Option (ChannelSlot × ℕ)) ChannelError) → Moves l m (reread ch (policy l).rx_cap used fault w s r)
        unfolding reread
        reread-moves used fault w s k (Ok (Some (t, n))) = ends-left l m _ _ used _ (queue-slot l w ch.slot t ∙ k)
        reread-moves used fault w s k (Ok None) = ends-left l m _ _ used [] (queue-slot l w ch.slot s ∙ k)
        reread-moves used fault w s k (Err x) = ends-left l m _ _ used [] (queue-slot l w ch.slot s ∙ k)

        read-acted : (used : ℕ) (w : Work) (a : Acted) → Left l m used (then_acted w a) → Moves l m (read_acted l ch room used w a)
        unfolding read_acted read_settled
        read-acted used w a k = reread-moves used a.fault _ _ (queue-frames l (then_acted w a) ∙ k) _

      -- what a read has done before it looks at a packet: an OKAY may be written
      module _ (fs : List Frame) (start : At l ch.slot (then b0 [] fs)) (s : ChannelSlot) (v : Live (negotiated l) ch.slot s) (like : Stays (slot_for l ch) s) where
        abbrev w1 : Work
        w1 = then b0 [] fs

        abbrev reads : Packet → Bool
        reads p = is_direct s room p || closed_by (ids_in s) p

        -- the settled slot has the channel's numbers
        reads_same : (p : Packet) → read_takes l ch room p ≡ reads p
        unfolding read_takes is_direct
        reads_same p =
            ap (λ (x : LocalId). (is_write p.command && eqb p.arg1 x.0 && leb p.data_length room) || closed_by (record { local = x; remote = (slot_for l ch).remote }) p) (sym like.local)
            ∙ ap (λ (x : RemoteId). is_direct s room p || closed_by (record { local = s.local; remote = x }) p) (sym like.remote)

        abbrev read-move : Result Packet (Answer × ℕ) → QueueMove
        read-move r = lent_move (read_takes l ch room) r

        abbrev act_s : Packet → Acted
        act_s p = act_on (dropped l.state.header) (set l.state.slots ch.slot s) l.state.queue l.rx l.store p (body_of received p)

        acted-stored : (p : Packet) → PacketFits (negotiated l) p (body_of received p) → reads p ≡ false
            → queue_w l (then_acted (then w1 (slot_to ch.slot s ∷ []) []) (act_s p)) ≡ moved (negotiated l).config.channels (read-move (Ok p)) (queue_of l)
        unfolding table_of queue_of slot_for
        acted-stored p k e =
            queue-act l (then w1 (slot_to ch.slot s ∷ []) []) (act_s p) _
            (act-moves (dropped l.state.header) (with_slot l.state ch.slot s) l.rx l.store (at_slot l ch.slot _ start s [] v).work.facts long.rx-long long.store_long p (body_of received p) k
            ∙ ap (λ (m : QueueMove). moved (negotiated l).config.channels m (queue_of l)) (table-answer (dropped l.state.header) (set l.state.slots ch.slot s) l.rx p (body_of received p)
            ∙ command-set (negotiated l).config.channels l.state.slots ch.slot s like p.command p.arg0 p.arg1 (body_of received p)
            ∙ sym (other-moves (read_takes l ch room) p (reads_same p ∙ e))))

        read-by : (r : Result Packet (Answer × ℕ)) → ReceivedFits (negotiated l) received r → Moves l (read-move r) (read_by l ch room w1 s received r)
        unfolding read_by read_direct
        read-by (Err (a, used)) k = ends-left l _ _ a used [] (left-own l _ used b0 still0 (stop-stays (read_takes l ch room) a used))
        read-by (Ok p) k =
            pick (Moves l (read-move (Ok p))) (is_direct s room p)
            (λ t. ends-left l _ _ _ (frame_len p) _ (left-own l _ (frame_len p) b0 still0 (own-stays (read_takes l ch room) p (reads_same p ∙ or_left _ _ t))))
            (λ t. pick (Moves l (read-move (Ok p))) (closed_by (ids_in s) p)
            (λ u. ends-left l _ _ _ (frame_len p) [] (left-own l _ (frame_len p) b0 still0 (own-stays (read_takes l ch room) p (reads_same p ∙ or_right (is_direct s room p) _ t ∙ u))))
            (λ u. read-acted _ (frame_len p) _ (act_s p)
            (left-moved l _ p (then_acted (then w1 (slot_to ch.slot s ∷ []) []) (act_s p)) (acted-stored p k (or_right (is_direct s room p) _ t ∙ u)))))

        read-taken : Bytes received → (r : Result (Option (ChannelSlot × ℕ)) ChannelError) → Moves l (read-move (received_of l received)) (read_taken l ch room w1 s received r)
        unfolding read_taken
        read-taken y (Ok (Some (t, n))) = ends-left l _ _ _ 0 _ (left-none l _ b0 still0)
        read-taken y (Ok None) =
            pick (Moves l (read-move (received_of l received))) s.has_remote (λ t. read-by (received_of l received) (received-fits l received y))
            (λ t. ends-left l _ _ _ 0 [] (left-none l _ b0 still0))
        read-taken y (Err e) = ends-left l _ _ _ 0 [] (left-none l _ b0 still0)

      read-moves : Bytes received → Moves l (lent_move (read_takes l ch room) (received_of l received)) (read_step l ch room received)
      unfolding read_step read_first
      read-moves y =
          pick (Moves l (lent_move (read_takes l ch room) (received_of l received))) (is_there l ch)
          (λ t. let r = settled_of (slot_for l ch) (policy l) room in
          let v = there-live l g ch t in
          read-taken (ack_frames r.slot r.ack) (at-frames l ch.slot _ (there-at l g ch t) _) r.slot (settled-live (negotiated l) ch.slot (slot_for l ch) v room)
          (settled-stays (slot_for l ch) (policy l) room) y _)
          (λ t. gone-moves _)

    -- ---- write

    module _ (spending : Spending) (ch : ChannelId) (out : ℕ) (bytes : List ℕ) where
      module _ (m : QueueMove) where
        send-some : (used : ℕ) (w : Work) (s : ChannelSlot) (n : ℕ) → Left l m used w → Moves l m (send_some l ch out bytes used w s n)
        unfolding send_some
        send-some used w s n k =
            pick (Moves l m) (ltb out (length (frames_bytes w.header.negotiated w.frames) + 24 + n)) (λ t. untouched-still l m OutShort)
            (λ t. ends-left l m _ _ used [] (queue-slot l w ch.slot (spent_of s (policy l) n) ∙ k))

        send-by : (used : ℕ) (w : Work) (s : ChannelSlot) → Left l m used w → (b : Option ℕ) → Moves l m (send_by l ch out bytes used w s b)
        unfolding send_by
        send-by used w s k (Some most) = send-some used w s (send_len l bytes most) k
        send-by used w s k None = ends-left l m _ _ used [] (queue-slot l w ch.slot s ∙ k)

        send-again : (used : ℕ) (w : Work) (s : ChannelSlot) → Left l m used w → Moves l m (send_again spending l ch out bytes used w s)
        unfolding send_again
        send-again used w s k =
            pick (Moves l m) (is_closed s.state) (λ t. ends-left l m _ _ used [] (queue-slot l w ch.slot s ∙ k)) (λ t. send-by used w s k (leave_of spending s (policy l)))

        write-readied : (used : ℕ) (w : Work) (s : ChannelSlot) → Left l m used w → (r : Result ChannelSlot CreditFault) → Moves l m (write_readied spending l ch out bytes used w s r)
        unfolding write_readied
        write-readied used w s k (Ok t) = send-again used w t k
        write-readied used w s k (Err b) = ends-left l m w _ used [] k

        write-acted : (used : ℕ) (w : Work) (a : Acted) → Left l m used (then_acted w a) → (f : Option SlotFault) → Moves l m (write_acted spending l ch out bytes used w a f)
        unfolding write_acted
        write-acted used w a k (Some f) = ends-left l m _ _ used [] k
        write-acted used w a k None = send-again used (then_acted w a) _ k

      abbrev write-move : Result Packet (Answer × ℕ) → QueueMove
      write-move r = lent_move (write_takes l ch) r

      write-by : (r : Result Packet (Answer × ℕ)) → ReceivedFits (negotiated l) received r → Moves l (write-move r) (write_by spending l ch out bytes b0 (slot_for l ch) received r)
      unfolding write_by write_act write_takes
      write-by (Err (a, used)) k = ends-left l _ b0 a used [] (left-own l _ used b0 still0 (stop-stays (write_takes l ch) a used))
      write-by (Ok p) k =
          let mine = is_ready p.command && eqb p.arg1 (slot_for l ch).local.0 in
          pick (Moves l (write-move (Ok p))) mine
          (λ t. write-readied _ (frame_len p) b0 (slot_for l ch) (left-own l _ (frame_len p) b0 still0 (own-stays (write_takes l ch) p (or_left _ _ t))) _)
          (λ t. pick (Moves l (write-move (Ok p))) (closed_by (ids_in (slot_for l ch)) p)
          (λ u. ends-left l _ _ _ (frame_len p) [] (left-own l _ (frame_len p) b0 still0 (own-stays (write_takes l ch) p (or_right mine _ t ∙ u))))
          (λ u. write-acted _ (frame_len p) b0 (act_d p) (left-moved l _ p (then_acted b0 (act_d p)) (acted-dropped (write_takes l ch) p k (or_right mine _ t ∙ u))) _))

      write-first : Bytes received → (b : Option ℕ) → Moves l (write-move (received_of l received)) (write_first spending l ch out bytes received b0 (slot_for l ch) b)
      unfolding write_first
      write-first y (Some most) = send-some _ 0 b0 (slot_for l ch) (send_len l bytes most) (left-none l _ b0 still0)
      write-first y None =
          pick (Moves l (write-move (received_of l received))) (slot_for l ch).has_remote (λ t. write-by (received_of l received) (received-fits l received y)) (λ t. gone-moves _)

      write_moves : Bytes received → Moves l (write-move (received_of l received)) (write_step spending l ch out bytes received)
      unfolding write_step write_on
      write_moves y =
          let P = Moves l (write-move (received_of l received)) in
          pick P (eqb (length bytes) 0) (λ z. ends-left l _ b0 _ 0 [] (left-none l _ b0 still0))
          (λ z. pick P (is_there l ch)
          (λ t. pick P (is_closed (slot_for l ch).state) (λ u. gone-moves _) (λ u. write-first y (leave_of spending (slot_for l ch) (policy l))))
          (λ t. gone-moves _))

    -- ---- open

    still-queued : (a : Answer) (h : Header) → (still_pending a h).queued ≡ h.queued
    unfolding still_pending
    still-queued Done h = refl
    still-queued Waiting h = refl
    still-queued Nothing h = refl
    still-queued (Opened ch) h = refl
    still-queued (Settled a) h = refl
    still-queued (Read n) h = refl
    still-queued (Written n) h = refl
    still-queued (FrontIs r credit place len) h = refl
    still-queued (NumbersAre c1 c2 c3 c4 c5) h = refl
    still-queued (Refused r) h = refl

    abbrev open-move : Result Packet (Answer × ℕ) → QueueMove
    open-move r = lent_move (open_takes l) r

    open-acted : (m : QueueMove) (used : ℕ) (a : Acted) → Left l m used (then_acted (begun l.state.header l) a) → Moves l m (open_acted l used a)
    unfolding open_acted
    open-acted m used a k =
        ends-left l m _ _ used []
        (ap (λ (n : ℕ). queued_opens (negotiated l).config.max_payload a.store (take n (changed_all l.state a.changes).queue)) (still-queued (unless_fault a.fault Waiting) a.header) ∙ k)

    open-readied : (m : QueueMove) (ch : ChannelId) (remote used : ℕ) (r : Result ChannelSlot CreditFault) → Left l m used b0 → Moves l m (open_readied l ch remote used r)
    unfolding open_readied
    open-readied m ch remote used (Ok t) k = ends-left l m _ _ used [] k
    open-readied m ch remote used (Err b) k = ends-left l m _ _ used [] k

    abbrev pending_id : ChannelId
    pending_id = record { slot = l.state.header.pending.slot; local = l.state.header.pending.local }

    open-by : (r : Result Packet (Answer × ℕ)) → ReceivedFits (negotiated l) received r → Moves l (open-move r) (open_by l pending_id received r)
    unfolding open_by open_takes
    open-by (Err (a, used)) k =
        ends-left l _ _ a used [] (left-own l _ used (begun (still_pending a l.state.header) l) (begun-still l (still_pending a l.state.header) (still-queued a l.state.header)) (stop-stays (open_takes l) a used))
    open-by (Ok p) k =
        let P = Moves l (open-move (Ok p)) in
        let mine = eqb p.arg1 l.state.header.pending.local.0 in
        let r = is_ready p.command && mine in
        let w = is_write p.command && mine in
        let c = is_close p.command && mine in
        pick P r
        (λ t. open-readied _ pending_id p.arg0 (frame_len p) _ (left-own l _ (frame_len p) b0 still0 (own-stays (open_takes l) p (or_left r (w || c) t))))
        (λ t. pick P w
        (λ u. ends-left l _ _ _ (frame_len p) [] (left-own l _ (frame_len p) b0 still0 (own-stays (open_takes l) p (or_right r (w || c) t ∙ or_left w c u))))
        (λ u. pick P c
        (λ v. ends-left l _ _ _ (frame_len p) [] (left-own l _ (frame_len p) b0 still0 (own-stays (open_takes l) p (or_right r (w || c) t ∙ or_right w c u ∙ v))))
        (λ v. open-acted _ (frame_len p) (act_h p)
        (left-moved l _ p (then_acted (begun l.state.header l) (act_h p)) (acted-lent (open_takes l) p k (or_right r (w || c) t ∙ or_right w c u ∙ v))))))

    open-on : (m : QueueMove) (out : ℕ) (destination : List ℕ) (r : Result ChannelId NoFreeChannels) → Moves l m (open_on l out destination r)
    unfolding open_on
    open-on m out destination (Err _) = ends-left l m _ _ 0 [] (left-none l m b0 still0)
    open-on m out destination (Ok ch) =
        pick (Moves l m) (ltb payload_limit (length destination)) (λ t. ends-left l m _ _ 0 [] (left-none l m b0 still0))
        (λ t. pick (Moves l m) (ltb out (24 + length destination)) (λ u. untouched-still l m OutShort) (λ u. ends-left l m _ _ 0 [] (left-none l m b0 still0)))

    open-moves : (out : ℕ) (destination : List ℕ) → Bytes received → Moves l (open-move (received_of l received)) (open_step l out destination received)
    unfolding open_step
    open-moves out destination y =
        pick (Moves l (open-move (received_of l received))) (is_ours l.state.header.pending.what) (λ t. open-by (received_of l received) (received-fits l received y))
        (λ t. open-on _ out destination _)

-- ---- take_front

module _ (l : Lent) (g : Whole (negotiated l) l.state.header l.state.slots l.state.queue) where
  abbrev hd : Header
  hd = dropped l.state.header

  -- none is answered where none is queued
  nothing-waits : (popped hd l.state.queue).result ≡ None → l.state.header.queued ≡ 0
  unfolding popped
  nothing-waits e =
      by-test (eqb l.state.header.queued 0) (λ t. eqb-true l.state.header.queued 0 t)
      (λ t. let x : (Some (get_or l.state.queue 0 none_queued, offering (with_queued hd (l.state.header.queued - 1)))) ≡ None = rw t at e in
      let z : true ≡ false = cc in never (sym z))

  places : l.state.header.queued ≤ length l.state.queue
  places =
      let k = g.header.queue-fits in
      let z = g.limits.within.most-channels in
      let full = g.queue.full in
      omega arith

  empty-queue : l.state.header.queued ≡ 0 → queue_of l ≡ []
  unfolding queue_of queued_opens
  empty-queue e = ap (λ (n : ℕ). queued_opens (negotiated l).config.max_payload l.store (take n l.state.queue)) e

  front-queue : (q : QueuedOpen) (less : Header) → (popped hd l.state.queue).result ≡ Some (q, less)
      → queue_of l ≡ queued_as (negotiated l).config.max_payload l.store q
      ∷ queued_opens (negotiated l).config.max_payload l.store (take less.queued (changed_all l.state (popped hd l.state.queue).changes).queue)
  unfolding queue_of
  front-queue q less e = popped-waits l.state hd l.store q less e places

  -- what is offered after an outcome
  abbrev offer_c : Connection → List Incoming
  offer_c d = cond (is_offer d.header.pending.what) (queued_as d.header.negotiated.config.max_payload l.store (get_or d.queue d.header.queued none_queued) ∷ []) []

  abbrev offer_o : Outcome → List Incoming
  offer_o o = offer_c (changed_all l.state o.changes)

  -- the header that a pop leaves
  less-offers : (q : QueuedOpen) (less : Header) → (popped hd l.state.queue).result ≡ Some (q, less)
      → (is_offer less.pending.what ≡ true) × (less.negotiated.config.max_payload ≡ (negotiated l).config.max_payload)
  unfolding popped
  less-offers q less e =
      by-test (eqb l.state.header.queued 0)
      (λ t. let x : None ≡ (Some (q, less)) = rw t at e in let z : true ≡ false = cc in never (sym z))
      (λ t. let x : (Some (get_or l.state.queue 0 none_queued, offering (with_queued hd (l.state.header.queued - 1)))) ≡ (Some (q, less)) = rw t at e in
      let pair : ◌≡◌ {A = QueuedOpen × Header} (get_or l.state.queue 0 none_queued, offering (with_queued hd (l.state.header.queued - 1))) (q, less) = cc in
      let a : offering (with_queued hd (l.state.header.queued - 1)) ≡ less = ap (λ (p : QueuedOpen × Header). p.1) pair in
      (sym (ap (λ (h : Header). is_offer h.pending.what) a), sym (ap (λ (h : Header). h.negotiated.config.max_payload) a)))

  front_by : (f : Option (QueuedOpen × Header)) → (popped hd l.state.queue).result ≡ f → queue_o l (take_front_by l hd (popped hd l.state.queue).changes f) ≡ drop 1 (queue_of l)
  unfolding take_front_by ends
  front_by (Some (q, less)) e =
      ends-queue l (then (begun less l) (popped hd l.state.queue).changes []) (FrontIs q.remote q.credit (q.share * hd.negotiated.config.max_payload) q.length) 0 []
      ∙ sym (ap (drop 1) (front-queue q less e))
  front_by None e =
      let z = empty-queue (nothing-waits e) in
      ends-queue l (begun hd l) Nothing 0 [] ∙ begun-still l hd refl ∙ z ∙ sym (ap (drop 1) z)

  -- it is offered
  offers-by : (f : Option (QueuedOpen × Header)) → (popped hd l.state.queue).result ≡ f → offer_o (take_front_by l hd (popped hd l.state.queue).changes f) ≡ take 1 (queue_of l)
  unfolding take_front_by ends
  offers-by (Some (q, less)) e =
      ap offer_c (changes-append l.state (popped hd l.state.queue).changes (header_to less ∷ []))
      ∙ ap (λ (x : Bool). cond x (queued_as less.negotiated.config.max_payload l.store (get_or (changed_all l.state (popped hd l.state.queue).changes).queue less.queued none_queued) ∷ []) []) (less-offers q less e).0
      ∙ ap (λ (x : ℕ). queued_as x l.store (get_or (changed_all l.state (popped hd l.state.queue).changes).queue less.queued none_queued) ∷ []) (less-offers q less e).1
      ∙ ap (λ (x : QueuedOpen). queued_as (negotiated l).config.max_payload l.store x ∷ []) (popped-offers l.state hd l.store q less e places)
      ∙ sym (ap (take 1) (front-queue q less e))
  offers-by None e = sym (ap (take 1) (empty-queue (nothing-waits e)))

  front-offers : offer_o (take_front_step l) ≡ take 1 (queue_of l)
  unfolding take_front_step
  front-offers = offers-by (popped hd l.state.queue).result refl

  front-moves : queue_o l (take_front_step l) ≡ drop 1 (queue_of l)
  unfolding take_front_step
  front-moves = front_by (popped hd l.state.queue).result refl

  -- the entry that is answered lies within its share
  front-fine : (q : QueuedOpen) (less : Header) → (popped hd l.state.queue).result ≡ Some (q, less)
      → queued_fine (negotiated l).config.channels (negotiated l).config.max_payload q ≡ true
  unfolding popped queue_fine
  front-fine q less e =
      by-test (eqb l.state.header.queued 0)
      (λ t. let x : None ≡ (Some (q, less)) = rw t at e in let z : true ≡ false = cc in never (sym z))
      (λ t. let d = eqb-false l.state.header.queued 0 t in
      let x : (Some (get_or l.state.queue 0 none_queued, offering (with_queued hd (l.state.header.queued - 1)))) ≡ (Some (q, less)) = rw t at e in
      let pair : ◌≡◌ {A = QueuedOpen × Header} (get_or l.state.queue 0 none_queued, offering (with_queued hd (l.state.header.queued - 1))) (q, less) = cc in
      let a : get_or l.state.queue 0 none_queued ≡ q = ap (λ (p : QueuedOpen × Header). p.0) pair in
      let f : queue_fine (negotiated l).config.channels (negotiated l).config.max_payload (q ∷ drop 1 (take l.state.header.queued l.state.queue)) ≡ true
      = ap (queue_fine (negotiated l).config.channels (negotiated l).config.max_payload) (sym (walk_here l.state.queue l.state.header.queued 0 none_queued q (omega arith) places a)) ∙ g.queue.fine in
      (and-true _ _ f).0)

  module _ (long : (negotiated l).config.channels * (negotiated l).config.max_payload ≤ length l.store) where
    hands-by : (f : Option (QueuedOpen × Header)) → (popped hd l.state.queue).result ≡ f → (x : Incoming) (xs : List Incoming) → queue_of l ≡ x ∷ xs
        → Hands x (take_front_by l hd (popped hd l.state.queue).changes f).store (take_front_by l hd (popped hd l.state.queue).changes f).answer
    unfolding take_front_by ends queued_as queued_fine
    hands-by (Some (q, less)) e x xs w =
        let payload = (negotiated l).config.max_payload in
        let f = and-true (leb q.length payload) (ltb q.share (negotiated l).config.channels) (front-fine q less e) in
        let a = leb-true q.length payload f.0 in
        let b = ltb-true q.share (negotiated l).config.channels f.1 in
        let s = share-before q.share (negotiated l).config.channels payload (omega arith) in
        let n : length (part l.store (q.share * payload) q.length) ≡ q.length = length_part l.store (q.share * payload) q.length (omega arith) in
        let y = sym (front-queue q less e) ∙ w in
        let z : queued_as payload l.store q ≡ x = cc in
        subst (λ (v : Incoming). Hands v l.store (FrontIs q.remote q.credit (q.share * payload) q.length)) z
        (record {
          place = q.share * payload;
          answer-is = ap (FrontIs q.remote q.credit (q.share * payload)) (sym n);
          destination-is = ap (part l.store (q.share * payload)) n;
        })
    hands-by None e x xs w = let z : [] ≡ x ∷ xs = sym (empty-queue (nothing-waits e)) ∙ w in let v : true ≡ false = cc in never (sym v)

    front-hands : (x : Incoming) (xs : List Incoming) → queue_of l ≡ x ∷ xs → Hands x (take_front_step l).store (take_front_step l).answer
    unfolding take_front_step
    front-hands x xs w = hands-by (popped hd l.state.queue).result refl x xs w

  none-by : (f : Option (QueuedOpen × Header)) → (popped hd l.state.queue).result ≡ f → queue_of l ≡ [] → (take_front_by l hd (popped hd l.state.queue).changes f).answer ≡ Nothing
  unfolding take_front_by ends
  none-by (Some (q, less)) e w = let z = sym (front-queue q less e) ∙ w in let v : true ≡ false = cc in never (sym v)
  none-by None e w = refl

  front-none : queue_of l ≡ [] → (take_front_step l).answer ≡ Nothing
  unfolding take_front_step
  front-none w = none-by (popped hd l.state.queue).result refl w

-- ---- one call

-- the refusals ahead of a call leave the queue
checked-moves : (l : Lent) (m : QueueMove) (t : Bool) (o : Outcome) → Moves l m o → Moves l m (checked t l o)
unfolding checked
checked-moves l m t o k =
    pick (Moves l m) t (λ e. pick (Moves l m) (stores_fit (negotiated l).config (length l.rx) (length l.store)) (λ f. k) (λ f. untouched-still l m StoreShort))
    (λ e. untouched-still l m BrokenState)

out-moves : (l : Lent) (m : QueueMove) (t : Bool) (out : ℕ) (o : Outcome) → Moves l m o → Moves l m (checked_out t l out o)
unfolding checked_out
out-moves l m t out o k = checked-moves l m t _ (pick (Moves l m) (ltb out 56) (λ e. untouched-still l m OutShort) (λ e. k))

module _ (w : World) (is : is_whole w.state ≡ true) (fit : stores_fit (negotiated (lent w)).config (length w.rx) (length w.store) ≡ true)
    (g : Whole (negotiated (lent w)) (lent w).state.header (lent w).state.slots (lent w).state.queue) where
  far : Long (negotiated (lent w)) (length w.rx) (length w.store)
  far = long (negotiated (lent w)) (length w.rx) (length w.store) fit

  leaves : (o : Outcome) → Moves (lent w) stays o → queue_o (lent w) o ≡ moved (negotiated (lent w)).config.channels stays (queue_in w)
  leaves o k = k ∙ ap (λ (m : QueueMove). moved (negotiated (lent w)).config.channels m (queue_in w)) (used-stays (lent w) o.used)

  front-is : outcome w front_taken ≡ take_front_step (lent w)
  unfolding outcome take_front_outcome look_outcome numbers_outcome accept_outcome reject_outcome let_go_outcome verdict_outcome checked
  front-is = cond-true (is_whole w.state) _ _ is ∙ cond-true (stores_fit (negotiated (lent w)).config (length w.rx) (length w.store)) _ _ fit

  let-go-is : outcome w let_go_call ≡ let_go_step (lent w)
  unfolding outcome let_go_outcome checked
  let-go-is = cond-true (is_whole w.state) _ _ is ∙ cond-true (stores_fit (negotiated (lent w)).config (length w.rx) (length w.store)) _ _ fit

  front-taken : queue_o (lent w) (take_front_step (lent w)) ≡ moved (negotiated (lent w)).config.channels pops (queue_in w)
  unfolding moved
  front-taken = front-moves (lent w) g

  call-moves : (x : Call) → queue_o (lent w) (outcome w x) ≡ moved (negotiated (lent w)).config.channels (move_of w x) (queue_in w)
  unfolding outcome open_outcome dispatch_outcome settle_outcome take_outcome read_outcome write_outcome close_outcome look_outcome numbers_outcome accept_outcome reject_outcome verdict_outcome move_of
  call-moves (open_call out destination received) =
      out-moves (lent w) _ (is_whole w.state) (length out) _ (open-moves (lent w) g far (bytes_in received) (length out) (bytes_in destination) (bytes-in received))
  call-moves (dispatch_call out received) = out-moves (lent w) _ (is_whole w.state) (length out) _ (dispatch-moves (lent w) g far (bytes_in received) (bytes-in received))
  call-moves (settle_call out ch want) = leaves (outcome w (settle_call out ch want)) (out-moves (lent w) stays (is_whole w.state) (length out) (settle_step (lent w) ch want) (settle-moves (lent w) g stays ch want))
  call-moves (take_call ch buf) = leaves (outcome w (take_call ch buf)) (checked-moves (lent w) stays (is_whole w.state) (take_step (lent w) ch (length buf)) (take-moves (lent w) g stays ch (length buf)))
  call-moves (read_call out ch buf received) =
      out-moves (lent w) _ (is_whole w.state) (length out) _ (read-moves (lent w) g far (bytes_in received) ch (length buf) (bytes-in received))
  call-moves (write_call spending out ch bytes received) =
      out-moves (lent w) _ (is_whole w.state) (length out) _ (write_moves (lent w) g far (bytes_in received) spending ch (length out) (bytes_in bytes) (bytes-in received))
  call-moves (close_call out ch) = leaves (outcome w (close_call out ch)) (out-moves (lent w) stays (is_whole w.state) (length out) (close_step (lent w) ch) (close-moves (lent w) g stays ch))
  call-moves front_taken = ap (queue_o (lent w)) front-is ∙ front-taken
  call-moves (look_call (numbers_look ch)) =
      leaves (outcome w (look_call (numbers_look ch))) (checked-moves (lent w) stays (is_whole w.state) (looked (lent w) (numbers_for (lent w) ch)) (looked-still (lent w) stays (numbers_for (lent w) ch)))
  call-moves (accept_call out) = leaves (outcome w (accept_call out)) (out-moves (lent w) stays (is_whole w.state) (length out) (accept_step (lent w)) (accept-moves (lent w) g stays))
  call-moves (reject_call out) = leaves (outcome w (reject_call out)) (out-moves (lent w) stays (is_whole w.state) (length out) (reject_step (lent w)) (reject-moves (lent w) g stays))
  call-moves let_go_call = ap (queue_o (lent w)) let-go-is ∙ let-go-moves (lent w) g
  call-moves (verdict_call out take remote credit) =
      leaves (outcome w (verdict_call out take remote credit)) (out-moves (lent w) stays (is_whole w.state) (length out) _ (verdict-moves (lent w) g stays take _ _))

-- what is offered in a state, with a store
abbrev offer_in-store : List ℕ → Connection → List Incoming
offer_in-store store d =
    cond (is_offer d.header.pending.what) (queued_as d.header.negotiated.config.max_payload store (get_or d.queue d.header.queued none_queued) ∷ []) []

-- taking the front leaves the open store
front-store-by : (l : Lent) (h : Header) (xs : List Change) (f : Option (QueuedOpen × Header)) → (take_front_by l h xs f).store ≡ l.store
unfolding take_front_by ends
front-store-by l h xs (Some (q, less)) = refl
front-store-by l h xs None = refl

front-store : (l : Lent) → (take_front_step l).store ≡ l.store
unfolding take_front_step
front-store l = front-store-by l _ _ _

-- ---- every list of calls

module _ (n : Negotiated) (r : List ℕ) (rx store : ℕ) (fit : stores_fit n.config rx store ≡ true) (w : World) (h : Holds n r rx store w) where
  same : negotiated (lent w) ≡ n
  same = h.facts.header.negotiated

  fit-here : stores_fit (negotiated (lent w)).config (length w.rx) (length w.store) ≡ true
  fit-here =
      ap (λ (m : Negotiated). stores_fit m.config (length w.rx) (length w.store)) same ∙ ap (λ (y : ℕ). stores_fit n.config y (length w.store)) h.rx-length
      ∙ ap (stores_fit n.config rx) h.store_length ∙ fit

  whole_here : Whole (negotiated (lent w)) (lent w).state.header (lent w).state.slots (lent w).state.queue
  whole_here = whole-own n (state_of w.state).header (state_of w.state).slots (state_of w.state).queue h.facts

  is-here : is_whole w.state ≡ true
  is-here = holds-whole n r rx store w h

  -- the next call finds the queue that this one left
  queue-after : (x : Call) → queue_in (after w x) ≡ queue_o (lent w) (outcome w x)
  unfolding queue_of after
  queue-after x =
      let o = outcome w x in
      let d = changed_all (state_of w.state) o.changes in
      let e : d.header.negotiated ≡ negotiated (lent w) = (holds_kept n r rx store w h x).facts.header.negotiated in
      ap (λ (y : Connection). queued_opens y.header.negotiated.config.max_payload o.store (take y.header.queued y.queue)) (state-after n r rx store w h x)
      ∙ ap (λ (m : Negotiated). queued_opens m.config.max_payload o.store (take d.header.queued d.queue)) e

  queue-length : length (queue_in w) ≤ n.config.channels
  unfolding queue_of
  queue-length =
      let k = h.facts.header.queue-fits in
      let z = h.facts.limits.within.most-channels in
      let full = h.facts.queue.full in
      let e = length-queue (negotiated (lent w)).config.max_payload w.store (lent w).state.header.queued (lent w).state.queue (omega arith) in
      omega arith

  hands : (x : Incoming) (xs : List Incoming) → queue_in w ≡ x ∷ xs → Hands x (after w front_taken).store (outcome w front_taken).answer
  unfolding after
  hands x xs e =
      subst (λ (o : Outcome). Hands x o.store o.answer) (sym (front-is w is-here fit-here whole_here))
      (front-hands (lent w) whole_here (long (negotiated (lent w)) (length w.rx) (length w.store) fit-here).store_long x xs e)

  queue-moves : (x : Call) → queue_in (after w x) ≡ moved n.config.channels (move_of w x) (queue_in w)
  queue-moves x = queue-after x ∙ call-moves w is-here fit-here whole_here x ∙ ap (λ (m : Negotiated). moved m.config.channels (move_of w x) (queue_in w)) same

  -- what taking the front leaves as an offer
  front-leaves : offered_in (after w front_taken) ≡ take 1 (queue_in w)
  unfolding offer_of after
  front-leaves =
      let o = outcome w front_taken in
      let s = front-is w is-here fit-here whole_here in
      ap (λ (y : Connection). offer_in-store o.store y) (state-after n r rx store w h front_taken)
      ∙ ap (λ (x : Outcome). offer_in-store x.store (changed_all (state_of w.state) x.changes)) s
      ∙ ap (λ (y : List ℕ). offer_in-store y (changed_all (state_of w.state) (take_front_step (lent w)).changes)) (front-store (lent w))
      ∙ front-offers (lent w) whole_here

-- taken and let go, what was the first is so again
back_is : (channels : ℕ) (q : List Incoming) → moved channels (back_move (take 1 q)) (drop 1 q) ≡ q
unfolding moved back_move
back_is channels [] = refl
back_is channels (x ∷ q) = refl

module _ (n : Negotiated) (r : List ℕ) (rx store : ℕ) (fit : stores_fit n.config rx store ≡ true) (w : World) (h : Holds n r rx store w) where
  goes_back : queue_in (after (after w front_taken) let_go_call) ≡ queue_in w
  unfolding move_of moved
  goes_back =
      let v = after w front_taken in
      queue-moves n r rx store fit v (holds_after n r rx store w h front_taken) let_go_call
      ∙ ap (λ (y : List Incoming). moved n.config.channels (back_move y) (queue_in v)) (front-leaves n r rx store fit w h)
      ∙ ap (moved n.config.channels (back_move (take 1 (queue_in w)))) (queue-moves n r rx store fit w h front_taken)
      ∙ back_is n.config.channels (queue_in w)

  pub queues : Queues n.config.channels w
  queues =
      record {
        moves = queue-moves n r rx store fit w h;
        fits = queue-length n r rx store fit w h;
        front = hands n r rx store fit w h;
        none = λ e.
            ap (λ (o : Outcome). o.answer) (front-is w (is-here n r rx store fit w h) (fit-here n r rx store fit w h) (whole_here n r rx store fit w h))
            ∙ front-none (lent w) (whole_here n r rx store fit w h) e;
        offered = front-leaves n r rx store fit w h;
        back = goes_back;
        ended = λ x f t. call-offer w x f (sym (ap (λ (d : Connection). is_offer d.header.pending.what) (state-after n r rx store w h x)) ∙ t);
      }

pub start-empty : (s : Start) → queue_in (begins s) ≡ []
unfolding queue_of fresh queued_opens
start-empty s =
    ap (λ (y : Connection). queued_opens y.header.negotiated.config.max_payload (begins s).store (take y.header.queued y.queue))
    (made-state s.config s.version s.most s.host s.device s.state s.rx s.store s.within)

pub queue-is-rusts : QueueIsRusts
unfolding negotiated_of
queue-is-rusts s fit =
    let n = agreed_in s in
    let r = drop state_len s.state in
    (start-empty s, λ cs. queues n r (length s.rx) (length s.store) fit (after_all (begins s) cs) (holds-all n r (length s.rx) (length s.store) (begins s) (starts s) cs))
