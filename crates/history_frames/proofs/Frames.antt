-- The frames that one call writes: an OKAY and a WRTE have the numbers of a channel that is in the table after it, and an OPEN
-- stands alone, for a new pending open. Assumes nothing.
use mathlib.Core.Path.{◌≡◌, refl, sym, ap, subst, ◌∙◌}
use mathlib.Core.Bool.{Bool, true, false, ◌&&◌, ◌||◌, true≢false}
use mathlib.Core.List.{List, [], ◌∷◌, ◌++◌}
use Prim.Native.Nat.{ℕ, ◌+◌, ◌<◌}
use native.Mathlib.Omega.{arith}
use lib.Dec.{eqb, ltb, leb}
use lib.ListN.{length, take, set}
use borrow.Author.Tests.{ltb-true}
use Rattle.le.proofs.RowLaws.{Every, every_append}
use Rattle.config.specs.declared.negotiated.RxPolicy.{RxPolicy}
use Rattle.config.specs.Config.{stores_fit}
use Rattle.config.specs.Negotiated.{policy_of, offered_credit}
use Rattle.credit.specs.declared.CreditFault.{CreditFault}
use Rattle.incoming.specs.Incoming.{PushOutcome, pushed, withdrawal, popped, returned}
use Rattle.protocol.specs.declared.command.Command.{Command}
use Rattle.protocol.specs.declared.command.UnknownCommand.{UnknownCommand}
use Rattle.protocol.specs.declared.packet.Packet.{Packet}
use Rattle.protocol.specs.Command.{is_ready, is_close, is_write, command_of}
use Rattle.protocol.specs.Message.{message_of}
use Rattle.protocol.specs.Packet.{payload_limit, packet_of}
use Rattle.protocol.proofs.CommandLaws.{word-names}
use Rattle.protocol.proofs.RoundTrip.{Says}
use Rattle.slot.specs.declared.ChannelError.{ChannelError}
use Rattle.slot.specs.declared.ChannelFault.{ChannelFault as SlotFault}
use Rattle.slot.specs.declared.ChannelSlot.{ChannelSlot}
use Rattle.slot.specs.declared.Settled.{Settled}
use Rattle.slot.specs.declared.Spending.{Spending}
use Rattle.slot.specs.declared.ids.ChannelIds.{ChannelIds}
use Rattle.slot.specs.declared.ids.LocalId.{LocalId}
use Rattle.slot.specs.declared.ids.RemoteId.{RemoteId}
use Rattle.slot.specs.Ids.{closed_by}
use Rattle.slot.specs.Slot.{opening_slot, accepted_slot, is_opening, is_failed, is_closed, has_data, settled_of, taken_of, take_len, delivered_of, closed_slot, spent_of, leave_of, ready_of, wrote_of}
use Rattle.slot.specs.Wrote.{Wrote, left_by}
use Rattle.slot.proofs.Kept.{pick}
use Rattle.slot.proofs.Laws.{cond-false}
use Rattle.slot.proofs.Stays.{ReadiedStays, Stays, closed-stays, delivered-stays, ready-stays, settled-stays, spent-stays, took-stays, wrote-stays}
use Rattle.state.specs.declared.Header.{Header}
use Rattle.state.specs.declared.QueuedOpen.{QueuedOpen}
use Rattle.state.specs.Change.{Step, Change, slot_to, header_to, queued_to, queue_to, changed_all}
use Rattle.state.specs.State.{is_ours}
use Rattle.table.specs.declared.ChannelId.{ChannelId}
use Rattle.table.specs.declared.NoFreeChannels.{NoFreeChannels as NoFree}
use Rattle.table.specs.declared.Want.TheVariants.{Local}
use Rattle.table.specs.Table.{place_of, slot_in, next_local_id, numbered, allocated}
use Rattle.table_dispatch.specs.declared.DispatchOutcome.{DispatchOutcome}
use Rattle.table_dispatch.specs.declared.DispatchOutcome.TheVariants.{AckWrite, CreditGranted, SlotClosed, DataBuffered, IncomingOpen, CancelQueuedOpen, StrayReady, ChannelFault, Unmatched}
use Rattle.table_dispatch.specs.Dispatch.{remote_place, closed_at, close_of, readied_of, granted, ready_at, stray_of, grant_of, Dispatched, buffered_at, wrote_by, wrote_at, write_of, route_of, dispatch_of}
use Rattle.table_dispatch.proofs.RouteLaws.{by-route}
use Rattle.connection.specs.declared.Answer.{Answer}
use Rattle.connection.specs.declared.Answer.TheVariants.{Done, Waiting, Written, Refused}
use Rattle.connection.specs.declared.Refusal.TheVariants.{StoreShort, OutShort, ChannelClosed, NoFreeChannels, BrokenState}
use Rattle.connection.specs.Act.{Acted, pushed_by, acted_by, table_of, act_on}
use Rattle.connection.specs.Answer.{answer_number}
use Rattle.connection.specs.Calls.{looked, numbers_for, numbers_outcome, Lent, Outcome, Work, begun, then, then_acted, storing, ends, checked, checked_out, open_outcome, dispatch_outcome, settle_outcome, take_outcome, read_outcome, write_outcome, close_outcome, take_front_outcome, accept_outcome, reject_outcome, let_go_outcome, verdict_outcome, dropped, policy, body_of, frame_len, ids_in, is_there, slot_for, ack_frames, received_of, unless_fault, still_pending, dispatch_by, dispatch_step, settled_as, settle_step, taken_by, take_step, reread, read_settled, read_acted, is_direct, read_direct, read_by, read_taken, read_first, read_step, send_some, send_by, send_again, write_readied, write_acted, write_act, write_by, write_first, write_on, write_step, close_step, take_front_by, take_front_step, open_on, open_readied, open_acted, open_by, open_step, offer_in, is_offered, reject_on, accept_on, accept_step, reject_step, let_go_step, verdict_step}
use Rattle.connection.specs.Frames.{Frame, okay_frame, close_frame, open_frame, write_frame, frames_bytes}
use Rattle.connection.proofs.Slots.{slots_by, slots-by, slot-set-same}
use Rattle.history.specs.Run.{look_outcome, bytes_in, received_in, Call, open_call, dispatch_call, settle_call, take_call, read_call, write_call, close_call, front_taken, look_call, numbers_look, accept_call, reject_call, let_go_call, verdict_call, World, lent, outcome}
use Rattle.history.proofs.Accepts.{allocated-inside, allocated-local}
use Rattle.history.proofs.Acts.{NoSlot, pushed-slots}
use Rattle.history.proofs.Heads.{still-waits, still-is}
use Rattle.history.proofs.Marks.{there-filled}
use Rattle.history.proofs.Packets.{Got, stopped, packet, got, set_same}
use Rattle.history.proofs.Places.{TableOk, found-filled}
use Rattle.history.proofs.Steps.{ends-header, table-settled, waiting-four}
use Rattle.std.specs.Prelude.{Option, Some, None, Result, Ok, Err}

-- ---- what is said of the frames of a call

-- a channel of the table has these numbers
pub record Named (ts : List ChannelSlot) (ids : ChannelIds) : Type 0 where
  pub place : ℕ
  pub filled : (slot_in ts place).filled ≡ true
  pub local : (slot_in ts place).local.0 ≡ ids.local.0
  pub remote : (slot_in ts place).remote.0 ≡ ids.remote.0

-- an OKAY and a WRTE have the numbers of a channel that is in the table; there is no OPEN
abbrev pub Own : List ChannelSlot → Frame → Type 0
Own ts (okay_frame ids n) = Named ts ids
Own ts (close_frame ids) = Unit {0}
Own ts (open_frame local credit destination) = ⊥
Own ts (write_frame ids bytes) = Named ts ids

-- the packet that a call used is not the pending open's OKAY, WRTE or CLSE
abbrev pub Unmet : Lent → List ℕ → Outcome → Type 0
Unmet l received o =
    (k : Packet) → Says received l.state.header.negotiated.config.max_payload k → o.used ≡ frame_len k
    → ((is_ready k.command || is_write k.command || is_close k.command) && eqb k.arg1 l.state.header.pending.local.0) ≡ false

-- what a call writes: an OPEN alone, for a new pending open; or frames of channels, and an open that pends after it pended before
pub data Writes (l : Lent) (received : List ℕ) (o : Outcome) : Type 0 where
  opens : (local : LocalId) (destination : List ℕ) → o.frames ≡ open_frame local (offered_credit l.state.header.negotiated) destination ∷ [] → o.used ≡ 0
      → local.0 ≡ l.state.header.next_local → slots_by l.state.slots o.changes ≡ l.state.slots
      → is_ours (changed_all l.state o.changes).header.pending.what ≡ true → (changed_all l.state o.changes).header.pending.local ≡ local
      → (changed_all l.state o.changes).header.next_local ≡ next_local_id l.state.header.next_local → Writes l received o
  keeps : Every (Own (slots_by l.state.slots o.changes)) o.frames
      → (is_ours (changed_all l.state o.changes).header.pending.what ≡ true
      → ((changed_all l.state o.changes).header.pending ≡ l.state.header.pending) × Unmet l received o)
      → Writes l received o

-- ---- slots that keep their numbers

-- whether a slot is filled, and its two numbers
record Mark : Type 0 where
  filled : Bool
  local : ℕ
  remote : ℕ

abbrev mark_of : ChannelSlot → Mark
mark_of s = record { filled = s.filled; local = s.local.0; remote = s.remote.0 }

-- changes of slots that keep their marks
abbrev Tame : List ChannelSlot → List Change → Type 0
Tame ss [] = Unit {0}
Tame ss (slot_to i t ∷ xs) = (mark_of t ≡ mark_of (slot_in ss i)) × Tame (set ss i t) xs
Tame ss (header_to h ∷ xs) = Tame ss xs
Tame ss (queued_to i q ∷ xs) = Tame ss xs
Tame ss (queue_to qs ∷ xs) = Tame ss xs

-- so each place keeps its mark
tame-at : (ss : List ChannelSlot) (xs : List Change) → Tame ss xs → (i : ℕ) → mark_of (slot_in (slots_by ss xs) i) ≡ mark_of (slot_in ss i)
tame-at ss [] t i = refl
tame-at ss (slot_to j s ∷ xs) t i = tame-at (set ss j s) xs t.1 i ∙ set_same mark_of ss j i s t.0
tame-at ss (header_to h ∷ xs) t i = tame-at ss xs t i
tame-at ss (queued_to j q ∷ xs) t i = tame-at ss xs t i
tame-at ss (queue_to qs ∷ xs) t i = tame-at ss xs t i

tame-append : (ss : List ChannelSlot) (xs ys : List Change) → Tame ss xs → Tame (slots_by ss xs) ys → Tame ss (xs ++ ys)
tame-append ss [] ys t u = u
tame-append ss (slot_to i s ∷ xs) ys t u = (t.0, tame-append (set ss i s) xs ys t.1 u)
tame-append ss (header_to h ∷ xs) ys t u = tame-append ss xs ys t u
tame-append ss (queued_to i q ∷ xs) ys t u = tame-append ss xs ys t u
tame-append ss (queue_to qs ∷ xs) ys t u = tame-append ss xs ys t u

tame-none : (ss : List ChannelSlot) (xs : List Change) → NoSlot xs → Tame ss xs
tame-none ss [] n = tt
tame-none ss (slot_to i s ∷ xs) n = absurd n
tame-none ss (header_to h ∷ xs) n = tame-none ss xs n
tame-none ss (queued_to i q ∷ xs) n = tame-none ss xs n
tame-none ss (queue_to qs ∷ xs) n = tame-none ss xs n

-- what a slot function leaves has its mark
stays-mark : (s t : ChannelSlot) → Stays s t → mark_of t ≡ mark_of s
stays-mark s t k = λ i. record { filled = k.filled i; local = (k.local i).0; remote = (k.remote i).0 }

-- numbers of a channel are numbers of it where the marks are the same
named-move : (ss ts : List ChannelSlot) → ((i : ℕ) → mark_of (slot_in ts i) ≡ mark_of (slot_in ss i)) → (ids : ChannelIds) → Named ss ids → Named ts ids
named-move ss ts e ids m =
    record {
      place = m.place;
      filled = ap (λ (x : Mark). x.filled) (e m.place) ∙ m.filled;
      local = ap (λ (x : Mark). x.local) (e m.place) ∙ m.local;
      remote = ap (λ (x : Mark). x.remote) (e m.place) ∙ m.remote;
    }

own-move : (ss ts : List ChannelSlot) → ((i : ℕ) → mark_of (slot_in ts i) ≡ mark_of (slot_in ss i)) → (fs : List Frame) → Every (Own ss) fs → Every (Own ts) fs
own-move ss ts e [] o = tt
own-move ss ts e (okay_frame ids n ∷ fs) o = (named-move ss ts e ids o.0, own-move ss ts e fs o.1)
own-move ss ts e (close_frame ids ∷ fs) o = (tt, own-move ss ts e fs o.1)
own-move ss ts e (open_frame local credit destination ∷ fs) o = absurd o.0
own-move ss ts e (write_frame ids bytes ∷ fs) o = (named-move ss ts e ids o.0, own-move ss ts e fs o.1)

-- ---- dispatching

-- an OKAY that the table asks for has the numbers of a channel
abbrev Due : List ChannelSlot → DispatchOutcome → Type 0
Due ss (AckWrite i ids len) = Named ss ids
Due ss (CreditGranted i) = Unit {0}
Due ss (SlotClosed i) = Unit {0}
Due ss (DataBuffered i) = Unit {0}
Due ss (IncomingOpen remote credit) = Unit {0}
Due ss (CancelQueuedOpen remote) = Unit {0}
Due ss (StrayReady ids) = Unit {0}
Due ss (ChannelFault i ids opening f) = Unit {0}
Due ss Unmatched = Unit {0}

module _ (p : RxPolicy) (n : ℕ) (ss : List ChannelSlot) (rx : List ℕ) (ok : TableOk p n ss rx) (payload : List ℕ) where
  abbrev turn : Step DispatchOutcome → Type 0
  turn x = Tame ss x.changes × Due ss x.result

  turn-closed : (f : ℕ) (other : DispatchOutcome) → Due ss other → turn (closed_at f n ss other)
  unfolding closed_at
  turn-closed f other d =
      let e = stays-mark (slot_in ss f) (closed_slot (slot_in ss f)) (closed-stays (slot_in ss f)) in
      pick turn (ltb f n) (λ t. ((e, tt), tt)) (λ t. (tt, d))

  turn-close : (remote : RemoteId) (local : LocalId) → turn (close_of n ss remote local)
  unfolding close_of
  turn-close remote local =
      pick turn (eqb local.0 0) (λ t. turn-closed (remote_place n ss remote) (CancelQueuedOpen remote) tt)
      (λ t. turn-closed (place_of (Local local) n ss) Unmatched tt)

  turn-granted : (f : ℕ) (remote : RemoteId) (r : Result ChannelSlot CreditFault) → ReadiedStays (slot_in ss f) r → turn (granted f (slot_in ss f) remote r)
  unfolding granted
  turn-granted f remote (Ok t) x = ((stays-mark (slot_in ss f) t x, tt), tt)
  turn-granted f remote (Err b) x = (tt, tt)

  due-stray : (remote : RemoteId) (local : LocalId) → Due ss (stray_of remote local)
  unfolding stray_of
  due-stray remote local = pick (Due ss) (eqb remote.0 0) (λ t. tt) (λ t. pick (Due ss) (eqb local.0 0) (λ u. tt) (λ u. tt))

  turn-ready : (remote : RemoteId) (local : LocalId) → turn (grant_of p n ss remote local payload)
  unfolding grant_of ready_at readied_of
  turn-ready remote local =
      let f = place_of (Local local) n ss in
      pick turn (ltb f n)
      (λ t. let fill = found-filled p n ss rx ok local (ltb-true f n t) in
      pick turn (is_failed (slot_in ss f).failed) (λ u. (tt, tt))
      (λ u. subst (λ (r : Result ChannelSlot CreditFault). turn (granted f (slot_in ss f) remote r)) (sym (cond-false (is_opening (slot_in ss f).state) _ _ (ok.opened f fill)))
      (turn-granted f remote (ready_of (slot_in ss f) payload p) (ready-stays (slot_in ss f) payload p))))
      (λ t. (tt, due-stray remote local))

  due-buffered : (f : ℕ) → (slot_in ss f).filled ≡ true → (a : Option ℕ) → Due ss (buffered_at f (slot_in ss f) a)
  due-buffered f fill (Some len) = record { place = f; filled = fill; local = refl; remote = refl }
  due-buffered f fill None = tt

  turn-wrote : (f : ℕ) (remote : RemoteId) → (slot_in ss f).filled ≡ true → (r : Wrote) → Stays (slot_in ss f) (left_by (slot_in ss f) r)
      → turn (wrote_by p f (slot_in ss f) remote payload rx r).step
  unfolding wrote_by
  turn-wrote f remote fill (Ok w) y = ((stays-mark (slot_in ss f) w.slot y, tt), due-buffered f fill w.ack)
  turn-wrote f remote fill (Err why) y = (tt, tt)

  turn-write : (remote : RemoteId) (local : LocalId) → turn (write_of p n ss remote local payload rx).step
  unfolding write_of wrote_at
  turn-write remote local =
      let f = place_of (Local local) n ss in
      let P : Dispatched → Type 0 = λ d. turn d.step in
      pick P (ltb f n)
      (λ t. let fill = found-filled p n ss rx ok local (ltb-true f n t) in
      pick P (is_failed (slot_in ss f).failed) (λ u. (tt, tt))
      (λ u. turn-wrote f remote fill (wrote_of (slot_in ss f) p (length payload)) (wrote-stays (slot_in ss f) p (length payload))))
      (λ t. (tt, tt))

  turn-route : (c : Command) (a l : ℕ) → turn (route_of p n ss c a l payload rx).step
  turn-route c a l =
      by-route p n ss a l payload rx (λ c d. turn d.step) (λ c h. (tt, tt)) (tt, tt) (turn-close (record { 0 = a }) (record { 0 = l }))
      (turn-write (record { 0 = a }) (record { 0 = l })) (turn-ready (record { 0 = a }) (record { 0 = l })) c

-- what `act_on` does: slots keep their marks, its frames are of channels, and what pends still does
record Does (ss : List ChannelSlot) (h : Header) (a : Acted) : Type 0 where
  tame : Tame ss a.changes
  own : Every (Own ss) a.frames
  pending-is : a.header.pending ≡ h.pending

abbrev PushWaits : Header → Option Header → Type 0
PushWaits h (Some more) = more.pending ≡ h.pending
PushWaits h None = Unit {0}

push-waits : (h : Header) (queue : List QueuedOpen) (remote : RemoteId) (credit : ℕ) (payload store : List ℕ)
    → PushWaits h (pushed h queue remote credit payload store).result
unfolding pushed
push-waits h queue remote credit payload store =
    pick (λ (o : PushOutcome). PushWaits h o.result) (leb h.negotiated.config.channels h.queued) (λ t. tt) (λ t. refl)

module _ (ss : List ChannelSlot) (h : Header) (queue : List QueuedOpen) (payload store : List ℕ) (d : Dispatched) (t : Tame ss d.step.changes) where
  does-pushed : (remote : RemoteId) (o : PushOutcome) (r : Option Header) → NoSlot o.changes → PushWaits h r → Does ss h (pushed_by h store d remote o r)
  unfolding pushed_by
  does-pushed remote o (Some more) e f = record { tame = tame-append ss d.step.changes o.changes t (tame-none _ o.changes e); own = tt; pending-is = f }
  does-pushed remote o None e f = record { tame = t; own = (tt, tt); pending-is = refl }

  does-by : (o : DispatchOutcome) → Due ss o → Does ss h (acted_by h queue payload store d o)
  unfolding acted_by withdrawal
  does-by (AckWrite i ids len) e = record { tame = t; own = (e, tt); pending-is = refl }
  does-by (CreditGranted i) e = record { tame = t; own = tt; pending-is = refl }
  does-by (SlotClosed i) e = record { tame = t; own = tt; pending-is = refl }
  does-by (DataBuffered i) e = record { tame = t; own = tt; pending-is = refl }
  does-by (IncomingOpen remote credit) e =
      let o = pushed h queue remote credit payload store in
      does-pushed remote o o.result (pushed-slots h queue remote credit payload store) (push-waits h queue remote credit payload store)
  does-by (CancelQueuedOpen remote) e = record { tame = tame-append ss d.step.changes (withdrawal h queue remote).changes t tt; own = tt; pending-is = refl }
  does-by (StrayReady ids) e = record { tame = t; own = (tt, tt); pending-is = refl }
  does-by (ChannelFault i ids opening f) e = record { tame = t; own = tt; pending-is = refl }
  does-by Unmatched e = record { tame = t; own = tt; pending-is = refl }

does-act : (h : Header) (ss : List ChannelSlot) (queue : List QueuedOpen) (rx store : List ℕ) (k : Packet) (payload : List ℕ)
    → TableOk (policy_of h.negotiated) h.negotiated.config.channels ss rx
    → Does ss h (act_on h ss queue rx store k payload)
unfolding act_on table_of dispatch_of
does-act h ss queue rx store k payload ok =
    let y = turn-route (policy_of h.negotiated) h.negotiated.config.channels ss rx ok payload k.command k.arg0 k.arg1 in
    does-by ss h queue payload store (table_of h ss rx k payload) y.0 (table_of h ss rx k payload).step.result y.1

-- what is taken keeps the mark
abbrev Took : ChannelSlot → Result (Option (ChannelSlot × ℕ)) ChannelError → Type 0
Took s (Ok (Some (t, n))) = mark_of t ≡ mark_of s
Took s (Ok None) = Unit {0}
Took s (Err e) = Unit {0}

took : (s : ChannelSlot) (room : ℕ) → Took s (taken_of s room)
unfolding taken_of
took s room = pick (Took s) (has_data s) (λ d. stays-mark s _ (took-stays s (take_len s room))) (λ d. pick (Took s) (is_closed s.state) (λ c. tt) (λ c. tt))

-- ---- received bytes begin with one packet

abbrev command_or : Command → Result Command UnknownCommand → Command
command_or d (Ok c) = c
command_or d (Err e) = d

says-one : (s : List ℕ) (limit : ℕ) (k q : Packet) → Says s limit k → Says s limit q → k ≡ q
says-one s limit k q a b =
    let e : k.command ≡ q.command = ap (command_or k.command) (sym (word-names k.command) ∙ ap command_of (sym a.word-is ∙ b.word-is) ∙ word-names q.command) in
    a.known.packet-is ∙ ap (λ (c : Command). packet_of c (message_of s)) e ∙ sym b.known.packet-is

-- and it uses bytes
no-frame : (k : Packet) (used : ℕ) → used ≡ 0 → used ≡ frame_len k → ⊥
no-frame k used e f = omega arith

unused : (l : Lent) (received : List ℕ) (o : Outcome) → o.used ≡ 0 → Unmet l received o
unused l received o e k s f = absurd (no-frame k o.used e f)

-- none of three tests passes
none-of : (a b c m : Bool) → (a && m) ≡ false → (b && m) ≡ false → (c && m) ≡ false → ((a || b || c) && m) ≡ false
none-of true b c m e f g = e
none-of false true c m e f g = f
none-of false false true m e f g = g
none-of false false false m e f g = refl

-- ---- the calls

module _ (l : Lent) (ok : TableOk (policy l) l.state.header.negotiated.config.channels l.state.slots l.rx) (received : List ℕ) where
  abbrev p : RxPolicy
  p = policy l

  abbrev ss : List ChannelSlot
  ss = l.state.slots

  abbrev h0 : Header
  h0 = dropped l.state.header

  abbrev fine : Outcome → Type 0
  fine o = Writes l received o

  -- what a call has done so far: slots keep their marks, its frames are of channels, no open of ours pends
  record Even (w : Work) : Type 0 where
    tame : Tame l.state.slots w.changes
    own : Every (Own l.state.slots) w.frames
    off : is_ours w.header.pending.what ≡ false

  even-begun : (h : Header) → is_ours h.pending.what ≡ false → Even (begun h l)
  even-begun h e = record { tame = tt; own = tt; off = e }

  even-then : (w : Work) → Even w → (xs : List Change) (fs : List Frame) → Tame (slots_by ss w.changes) xs → Every (Own ss) fs → Even (then w xs fs)
  even-then w v xs fs t o = record { tame = tame-append ss w.changes xs v.tame t; own = every_append (Own ss) w.frames fs v.own o; off = v.off }

  -- one slot stored that keeps its mark
  even-store : (w : Work) → Even w → (i : ℕ) (t : ChannelSlot) (fs : List Frame) → mark_of t ≡ mark_of (slot_in ss i) → Every (Own ss) fs
      → Even (then w (slot_to i t ∷ []) fs)
  even-store w v i t fs e o = even-then w v (slot_to i t ∷ []) fs (e ∙ sym (tame-at ss w.changes v.tame i), tt) o

  even-acted : (w : Work) → Even w → (h : Header) → is_ours h.pending.what ≡ false → (a : Acted) → Does (slots_by ss w.changes) h a → Even (then_acted w a)
  even-acted w v h e a d =
      record {
        tame = tame-append ss w.changes a.changes v.tame d.tame;
        own = every_append (Own ss) w.frames a.frames v.own (own-move (slots_by ss w.changes) ss (λ i. sym (tame-at ss w.changes v.tame i)) a.frames d.own);
        off = ap (λ x. is_ours x.what) d.pending-is ∙ e;
      }

  -- frames of channels are of channels at the call's end
  ends-own : (w : Work) (a : Answer) (used : ℕ) (bs : List ℕ) → Tame ss w.changes → Every (Own ss) w.frames
      → Every (Own (slots_by ss (ends w a used bs).changes)) (ends w a used bs).frames
  unfolding ends
  ends-own w a used bs t o =
      let xs = w.changes ++ header_to w.header ∷ [] in
      own-move ss (slots_by ss xs) (tame-at ss xs (tame-append ss w.changes (header_to w.header ∷ []) t tt)) w.frames o

  -- an open of ours that pends at a call's end pended before, and its packet was not met
  abbrev stands : Outcome → Type 0
  stands o =
      is_ours (changed_all l.state o.changes).header.pending.what ≡ true
      → ((changed_all l.state o.changes).header.pending ≡ l.state.header.pending) × Unmet l received o

  -- none pends
  ends-off : (w : Work) (a : Answer) (used : ℕ) (bs : List ℕ) → is_ours w.header.pending.what ≡ false → stands (ends w a used bs)
  ends-off w a used bs e t = absurd (true≢false (sym t ∙ ap (λ (h : Header). is_ours h.pending.what) (ends-header l.state w a used bs) ∙ e))

  fair : (w : Work) → Even w → (a : Answer) (used : ℕ) (bs : List ℕ) → fine (ends w a used bs)
  fair w v a used bs = keeps (ends-own w a used bs v.tame v.own) (ends-off w a used bs v.off)

  plain : (a : Answer) (used : ℕ) (bs : List ℕ) → fine (ends (begun h0 l) a used bs)
  plain a used bs = fair (begun h0 l) (even-begun h0 refl) a used bs

  -- nothing is done
  idle : (a : Answer) → fine (looked l a)
  idle a = keeps tt (λ t. (refl, unused l received (looked l a) refl))

  -- a slot that keeps the mark of a channel names it
  ids-named : (s : ChannelSlot) (j : ℕ) → (slot_in ss j).filled ≡ true → mark_of s ≡ mark_of (slot_in ss j) → Named ss (ids_in s)
  ids-named s j fill e =
      record { place = j; filled = fill; local = ap (λ (x : Mark). x.local) (sym e); remote = ap (λ (x : Mark). x.remote) (sym e) }

  ack-own : (s : ChannelSlot) (j : ℕ) → (slot_in ss j).filled ≡ true → mark_of s ≡ mark_of (slot_in ss j) → (a : Option ℕ) → Every (Own ss) (ack_frames s a)
  unfolding ack_frames
  ack-own s j fill e (Some n) = (ids-named s j fill e, tt)
  ack-own s j fill e None = tt

  -- ---- dispatch, settle, take

  dispatch-by : (r : Result Packet (Answer × ℕ)) → fine (dispatch_by l h0 received r)
  unfolding dispatch_by
  dispatch-by (Err (a, used)) = plain a used []
  dispatch-by (Ok k) =
      let b = act_on h0 ss l.state.queue l.rx l.store k (body_of received k) in
      fair (then_acted (begun h0 l) b)
      (even-acted (begun h0 l) (even-begun h0 refl) h0 refl b (does-act h0 ss l.state.queue l.rx l.store k (body_of received k) ok)) _ (frame_len k) []

  dispatch-fine : fine (dispatch_step l received)
  unfolding dispatch_step
  dispatch-fine = dispatch-by (received_of l received)

  settle-fine : (ch : ChannelId) (want : ℕ) → fine (settle_step l ch want)
  unfolding settle_step settled_as slot_for
  settle-fine ch want =
      pick fine (is_there l ch)
      (λ t. let r = settled_of (slot_in ss ch.slot) p want in
      let e = stays-mark (slot_in ss ch.slot) r.slot (settled-stays (slot_in ss ch.slot) p want) in
      fair (then (begun h0 l) (slot_to ch.slot r.slot ∷ []) (ack_frames r.slot r.ack))
      (even-store (begun h0 l) (even-begun h0 refl) ch.slot r.slot (ack_frames r.slot r.ack) e (ack-own r.slot ch.slot (there-filled l ok ch t) e r.ack)) _ 0 [])
      (λ t. plain _ 0 [])

  taken-fine : (ch : ChannelId) (s : ChannelSlot) (y : Result (Option (ChannelSlot × ℕ)) ChannelError) → mark_of s ≡ mark_of (slot_in ss ch.slot)
      → Took s y → fine (taken_by l ch s (begun h0 l) y)
  unfolding taken_by
  taken-fine ch s (Ok (Some (t, n))) e o =
      fair (then (begun h0 l) (slot_to ch.slot t ∷ []) []) (even-store (begun h0 l) (even-begun h0 refl) ch.slot t [] (o ∙ e) tt) _ 0 _
  taken-fine ch s (Ok None) e o = plain _ 0 []
  taken-fine ch s (Err x) e o = plain _ 0 []

  take-fine : (ch : ChannelId) (room : ℕ) → fine (take_step l ch room)
  unfolding take_step slot_for
  take-fine ch room =
      let s = slot_in ss ch.slot in
      pick fine (is_there l ch) (λ t. taken-fine ch s (taken_of s room) refl (took s room)) (λ t. plain _ 0 [])

  -- ---- close, take_front, reject, let go

  close-fine : (ch : ChannelId) → fine (close_step l ch)
  unfolding close_step ends
  close-fine ch = pick fine (is_there l ch && (slot_for l ch).has_remote) (λ t. keeps (tt, tt) (λ u. absurd (true≢false (sym u)))) (λ t. plain _ 0 [])

  abbrev Fronts : Option (QueuedOpen × Header) → Type 0
  Fronts (Some (q, less)) = is_ours less.pending.what ≡ false
  Fronts None = Unit {0}

  front-by : (xs : List Change) (f : Option (QueuedOpen × Header)) → Tame ss xs → Fronts f → fine (take_front_by l h0 xs f)
  unfolding take_front_by
  front-by xs (Some (q, less)) t e = fair (then (begun less l) xs []) (even-then (begun less l) (even-begun less e) xs [] t tt) _ 0 []
  front-by xs None t e = plain _ 0 []

  abbrev front-at : Step (Option (QueuedOpen × Header)) → Type 0
  front-at x = fine (take_front_by l h0 x.changes x.result)

  front-fine : fine (take_front_step l)
  unfolding take_front_step popped
  front-fine = pick front-at (eqb h0.queued 0) (λ t. front-by _ _ tt tt) (λ t. front-by _ _ tt refl)

  reject-on : (remote : RemoteId) (a : Answer) → fine (reject_on l h0 remote a)
  unfolding reject_on
  reject-on remote a =
      let fs = close_frame (record { local = record { 0 = 0 }; remote = remote }) ∷ [] in
      fair (then (begun h0 l) [] fs) (even-then (begun h0 l) (even-begun h0 refl) [] fs tt (tt, tt)) a 0 []

  reject-fine : fine (reject_step l)
  unfolding reject_step
  reject-fine = pick fine (is_offered l) (λ t. reject-on (offer_in l).remote Done) (λ t. plain _ 0 [])

  let-go-fine : fine (let_go_step l)
  unfolding let_go_step returned
  let-go-fine =
      let back = returned h0 l.state.queue (offer_in l) in
      pick fine (is_offered l)
      (λ t. fair (then (begun back.result l) back.changes []) (even-then (begun back.result l) (even-begun back.result refl) back.changes [] tt tt) Done 0 [])
      (λ t. plain _ 0 [])

  -- ---- accept

  -- the slot that is filled has the numbers of the OKAY
  accepted-named : (ids : ChannelIds) (credit j : ℕ) → j < length ss → Named (set ss j (accepted_slot ids credit p)) ids
  unfolding accepted_slot opening_slot
  accepted-named ids credit j inside =
      let e = slot-set-same ss j (accepted_slot ids credit p) inside in
      record {
        place = j;
        filled = ap (λ (s : ChannelSlot). s.filled) e;
        local = ap (λ (s : ChannelSlot). s.local.0) e;
        remote = ap (λ (s : ChannelSlot). s.remote.0) e;
      }

  accept-on : (remote : RemoteId) (credit : ℕ) (r : Result ChannelId NoFree) → allocated l.state.header ss ≡ r → fine (accept_on l h0 remote credit r)
  unfolding accept_on ends
  accept-on remote credit (Err _) e = reject-on remote (Refused NoFreeChannels)
  accept-on remote credit (Ok ch) e =
      keeps (accepted-named (record { local = ch.local; remote = remote }) credit ch.slot (allocated-inside p l.state.header ss l.rx ok ch e), tt) (λ u. absurd (true≢false (sym u)))

  accept-fine : fine (accept_step l)
  unfolding accept_step
  accept-fine = pick fine (is_offered l) (λ t. accept-on (offer_in l).remote (offer_in l).credit (allocated l.state.header ss) refl) (λ t. plain _ 0 [])

  verdict-fine : (take : Bool) (remote : RemoteId) (credit : ℕ) → fine (verdict_step l take remote credit)
  unfolding verdict_step
  verdict-fine take remote credit = pick fine take (λ t. accept-on remote credit (allocated l.state.header ss) refl) (λ t. reject-on remote Done)

  -- ---- read

  module _ (ch : ChannelId) (room : ℕ) (fill : (slot_in ss ch.slot).filled ≡ true) where
    abbrev j : ℕ
    j = ch.slot

    abbrev r1 : Settled
    r1 = settled_of (slot_in ss j) p room

    abbrev s1 : ChannelSlot
    s1 = r1.slot

    mark1 : mark_of s1 ≡ mark_of (slot_in ss j)
    mark1 = stays-mark (slot_in ss j) s1 (settled-stays (slot_in ss j) p room)

    abbrev w1 : Work
    w1 = then (begun h0 l) [] (ack_frames s1 r1.ack)

    even1 : Even w1
    even1 = even-then (begun h0 l) (even-begun h0 refl) [] (ack_frames s1 r1.ack) tt (ack-own s1 j fill mark1 r1.ack)

    -- a slot with the same mark stored at the end
    read-end : (t : ChannelSlot) (fs : List Frame) (a : Answer) (used : ℕ) (bs : List ℕ) → mark_of t ≡ mark_of (slot_in ss j) → Every (Own ss) fs
        → fine (ends (then w1 (slot_to j t ∷ []) fs) a used bs)
    read-end t fs a used bs e o = fair (then w1 (slot_to j t ∷ []) fs) (even-store w1 even1 j t fs e o) a used bs

    module _ (k : Packet) where
      abbrev ss1 : List ChannelSlot
      ss1 = set ss j s1

      ok1 : TableOk p l.state.header.negotiated.config.channels ss1 l.rx
      ok1 = table-settled p l.state.header.negotiated.config.channels ss l.rx j room ok fill

      abbrev act : Acted
      act = act_on h0 ss1 l.state.queue l.rx l.store k (body_of received k)

      abbrev stored1 : Work
      stored1 = then w1 (slot_to j s1 ∷ []) []

      abbrev w2 : Work
      w2 = then_acted stored1 act

      even2 : Even w2
      even2 = even-acted stored1 (even-store w1 even1 j s1 [] mark1 tt) h0 refl act (does-act h0 ss1 l.state.queue l.rx l.store k (body_of received k) ok1)

      abbrev s2 : ChannelSlot
      s2 = slot_in (slots_by ss1 act.changes) j

      abbrev r3 : Settled
      r3 = settled_of s2 p room

      mark3 : mark_of r3.slot ≡ mark_of (slot_in ss j)
      mark3 = stays-mark s2 r3.slot (settled-stays s2 p room) ∙ tame-at ss w2.changes even2.tame j

      abbrev w3 : Work
      w3 = then w2 [] (ack_frames r3.slot r3.ack)

      even3 : Even w3
      even3 = even-then w2 even2 [] (ack_frames r3.slot r3.ack) tt (ack-own r3.slot j fill mark3 r3.ack)

      end3 : (t : ChannelSlot) (a : Answer) (used : ℕ) (bs : List ℕ) → mark_of t ≡ mark_of (slot_in ss j)
          → fine (ends (then w3 (slot_to j t ∷ []) []) a used bs)
      end3 t a used bs e = fair (then w3 (slot_to j t ∷ []) []) (even-store w3 even3 j t [] e tt) a used bs

      reread-fine : (y : Result (Option (ChannelSlot × ℕ)) ChannelError) (used : ℕ) (fault : Option SlotFault) → Took r3.slot y
          → fine (reread ch p.rx_cap used fault w3 r3.slot y)
      unfolding reread
      reread-fine (Ok (Some (t, n))) used fault e = end3 t _ used _ (e ∙ mark3)
      reread-fine (Ok None) used fault e = end3 r3.slot _ used [] mark3
      reread-fine (Err x) used fault e = end3 r3.slot _ used [] mark3

      acted-fine : (used : ℕ) → fine (read_acted l ch room used stored1 act)
      unfolding read_acted read_settled
      acted-fine used =
          let e : slot_in (changed_all l.state (slot_to j s1 ∷ act.changes)).slots j ≡ s2 =
          ap (λ (x : List ChannelSlot). slot_in x j) (slots-by l.state (slot_to j s1 ∷ act.changes)) in
          subst (λ (x : ChannelSlot). fine (read_settled l ch room used act.fault (then_acted stored1 act) (settled_of x p room))) (sym e)
          (reread-fine (taken_of r3.slot room) used act.fault (took r3.slot room))

      packet-fine : fine (read_by l ch room w1 s1 received (Ok k))
      unfolding read_by read_direct
      packet-fine =
          let d = delivered_of s1 p k.data_length in
          let e = stays-mark s1 d.slot (delivered-stays s1 p k.data_length) ∙ mark1 in
          pick fine (is_direct s1 room k)
          (λ t. read-end d.slot (ack_frames d.slot d.ack) _ (frame_len k) _ e (ack-own d.slot j fill e d.ack))
          (λ t. pick fine (closed_by (ids_in s1) k)
          (λ u. read-end (closed_slot s1) [] _ (frame_len k) [] (stays-mark s1 (closed_slot s1) (closed-stays s1) ∙ mark1) tt)
          (λ u. acted-fine (frame_len k)))

    received-fine : (r : Result Packet (Answer × ℕ)) → fine (read_by l ch room w1 s1 received r)
    unfolding read_by
    received-fine (Err (a, used)) = read-end s1 [] a used [] mark1 tt
    received-fine (Ok k) = packet-fine k

    read-taken-fine : (y : Result (Option (ChannelSlot × ℕ)) ChannelError) → Took s1 y → fine (read_taken l ch room w1 s1 received y)
    unfolding read_taken
    read-taken-fine (Ok (Some (t, n))) e = read-end t [] _ 0 _ (e ∙ mark1) tt
    read-taken-fine (Ok None) e = pick fine s1.has_remote (λ t. received-fine (received_of l received)) (λ t. read-end s1 [] _ 0 [] mark1 tt)
    read-taken-fine (Err x) e = read-end s1 [] _ 0 [] mark1 tt

  read-fine : (ch : ChannelId) (room : ℕ) → fine (read_step l ch room received)
  unfolding read_step read_first slot_for
  read-fine ch room =
      let s = (settled_of (slot_in ss ch.slot) p room).slot in
      pick fine (is_there l ch) (λ t. read-taken-fine ch room (there-filled l ok ch t) (taken_of s room) (took s room)) (λ t. plain _ 0 [])

  -- ---- write

  module _ (spending : Spending) (ch : ChannelId) (out : ℕ) (bytes : List ℕ) (fill : (slot_in ss ch.slot).filled ≡ true) where
    abbrev jw : ℕ
    jw = ch.slot

    some-fine : (used : ℕ) (w : Work) (s : ChannelSlot) (n : ℕ) → Even w → mark_of s ≡ mark_of (slot_in ss jw) → fine (send_some l ch out bytes used w s n)
    unfolding send_some
    some-fine used w s n v e =
        let fs = write_frame (ids_in s) (take n bytes) ∷ [] in
        pick fine (ltb out (length (frames_bytes w.header.negotiated w.frames) + 24 + n)) (λ u. idle (Refused OutShort))
        (λ u. fair (then w (slot_to jw (spent_of s p n) ∷ []) fs)
        (even-store w v jw (spent_of s p n) fs (stays-mark s (spent_of s p n) (spent-stays s p n) ∙ e) (ids-named s jw fill e, tt)) (Written n) used [])

    -- the slot stored as it is
    waits : (used : ℕ) (w : Work) (s : ChannelSlot) (a : Answer) → Even w → mark_of s ≡ mark_of (slot_in ss jw)
        → fine (ends (then w (slot_to jw s ∷ []) []) a used [])
    waits used w s a v e = fair (then w (slot_to jw s ∷ []) []) (even-store w v jw s [] e tt) a used []

    send-fine : (used : ℕ) (w : Work) (s : ChannelSlot) (x : Option ℕ) → Even w → mark_of s ≡ mark_of (slot_in ss jw) → fine (send_by l ch out bytes used w s x)
    unfolding send_by
    send-fine used w s (Some most) v e = some-fine used w s _ v e
    send-fine used w s None v e = waits used w s _ v e

    again-fine : (used : ℕ) (w : Work) (s : ChannelSlot) → Even w → mark_of s ≡ mark_of (slot_in ss jw) → fine (send_again spending l ch out bytes used w s)
    unfolding send_again
    again-fine used w s v e = pick fine (is_closed s.state) (λ c. waits used w s _ v e) (λ c. send-fine used w s (leave_of spending s p) v e)

    abbrev w0 : Work
    w0 = begun h0 l

    abbrev s0 : ChannelSlot
    s0 = slot_in ss jw

    even0 : Even w0
    even0 = even-begun h0 refl

    readied-fine : (used : ℕ) (r : Result ChannelSlot CreditFault) → ReadiedStays s0 r → fine (write_readied spending l ch out bytes used w0 s0 r)
    unfolding write_readied
    readied-fine used (Ok t) x = again-fine used w0 t even0 (stays-mark s0 t x)
    readied-fine used (Err b) x = plain _ used []

    module _ (k : Packet) where
      abbrev acted : Acted
      acted = act_on h0 ss l.state.queue l.rx l.store k (body_of received k)

      even-after : Even (then_acted w0 acted)
      even-after = even-acted w0 even0 h0 refl acted (does-act h0 ss l.state.queue l.rx l.store k (body_of received k) ok)

      fault-fine : (used : ℕ) (f : Option SlotFault) → fine (write_acted spending l ch out bytes used w0 acted f)
      unfolding write_acted
      fault-fine used (Some f) = fair (then_acted w0 acted) even-after _ used []
      fault-fine used None =
          again-fine used (then_acted w0 acted) _ even-after
          (ap (λ (x : List ChannelSlot). mark_of (slot_in x jw)) (slots-by l.state acted.changes) ∙ tame-at ss acted.changes even-after.tame jw)

    write-received-fine : (r : Result Packet (Answer × ℕ)) → fine (write_by spending l ch out bytes w0 s0 received r)
    unfolding write_by write_act
    write-received-fine (Err (a, used)) = plain a used []
    write-received-fine (Ok k) =
        pick fine (is_ready k.command && eqb k.arg1 s0.local.0)
        (λ t. readied-fine (frame_len k) (ready_of s0 (body_of received k) p) (ready-stays s0 (body_of received k) p))
        (λ t. pick fine (closed_by (ids_in s0) k)
        (λ u. waits-closed (frame_len k))
        (λ u. fault-fine k (frame_len k) (act_on h0 ss l.state.queue l.rx l.store k (body_of received k)).fault))
      where
        waits-closed : (used : ℕ) → fine (ends (then w0 (slot_to jw (closed_slot s0) ∷ []) []) (Refused ChannelClosed) used [])
        waits-closed used = waits used w0 (closed_slot s0) _ even0 (stays-mark s0 (closed_slot s0) (closed-stays s0))

    first-fine : (x : Option ℕ) → fine (write_first spending l ch out bytes received w0 s0 x)
    unfolding write_first
    first-fine (Some most) = some-fine 0 w0 s0 _ even0 refl
    first-fine None = pick fine s0.has_remote (λ t. write-received-fine (received_of l received)) (λ t. plain _ 0 [])

  write-fine : (spending : Spending) (ch : ChannelId) (out : ℕ) (bytes : List ℕ) → fine (write_step spending l ch out bytes received)
  unfolding write_step write_on slot_for
  write-fine spending ch out bytes =
      pick fine (eqb (length bytes) 0) (λ z. plain _ 0 [])
      (λ z. pick fine (is_there l ch)
      (λ t. pick fine (is_closed (slot_in ss ch.slot).state) (λ c. plain _ 0 [])
      (λ c. first-fine spending ch out bytes (there-filled l ok ch t) (leave_of spending (slot_in ss ch.slot) p)))
      (λ t. plain _ 0 []))

  -- ---- open

  open-on : (out : ℕ) (destination : List ℕ) (r : Result ChannelId NoFree) → allocated l.state.header ss ≡ r → fine (open_on l out destination r)
  unfolding open_on ends
  open-on out destination (Err _) e = plain (Refused NoFreeChannels) 0 []
  open-on out destination (Ok ch) e =
      pick fine (ltb payload_limit (length destination)) (λ t. fair (begun (numbered h0) l) (even-begun (numbered h0) refl) _ 0 [])
      (λ t. pick fine (ltb out (24 + length destination)) (λ u. idle (Refused OutShort))
      (λ u. opens ch.local destination refl refl (allocated-local l.state.header ss ch e) refl refl refl refl))

  abbrev pch : ChannelId
  pch = record { slot = l.state.header.pending.slot; local = l.state.header.pending.local }

  abbrev closing : ℕ → Work
  closing remote = then (begun h0 l) [] (close_frame (record { local = pch.local; remote = record { 0 = remote } }) ∷ [])

  even-closing : (remote : ℕ) → Even (closing remote)
  even-closing remote = even-then (begun h0 l) (even-begun h0 refl) [] _ tt (tt, tt)

  open-readied-fine : (remote used : ℕ) (r : Result ChannelSlot CreditFault) → fine (open_readied l pch remote used r)
  unfolding open_readied ends
  open-readied-fine remote used (Ok t) = keeps tt (λ u. absurd (true≢false (sym u)))
  open-readied-fine remote used (Err f) = fair (closing remote) (even-closing remote) _ used []

  -- a packet that is not the open's
  abbrev Strange : Packet → Type 0
  Strange k = ((is_ready k.command || is_write k.command || is_close k.command) && eqb k.arg1 l.state.header.pending.local.0) ≡ false

  open-acted-fine : (k : Packet) → Says received l.state.header.negotiated.config.max_payload k → Strange k
      → fine (open_acted l (frame_len k) (act_on l.state.header ss l.state.queue l.rx l.store k (body_of received k)))
  unfolding open_acted
  open-acted-fine k sy e =
      let h = l.state.header in
      let b = act_on h ss l.state.queue l.rx l.store k (body_of received k) in
      let d = does-act h ss l.state.queue l.rx l.store k (body_of received k) ok in
      let a = unless_fault b.fault Waiting in
      let w = storing (then_acted (begun h l) b) (still_pending a b.header) in
      let z = ends-header l.state w a (frame_len k) [] in
      keeps (ends-own w a (frame_len k) [] d.tame d.own)
      (λ t. (
        ap (λ (x : Header). x.pending) z ∙ still-is a b.header (sym (ap (λ (x : Header). is_ours x.pending.what) z) ∙ t) ∙ d.pending-is,
        λ q s f. subst Strange (says-one received h.negotiated.config.max_payload k q sy s) e,
      ))

  open-stopped-fine : (a : Answer) (used : ℕ) → (eqb (answer_number a) 4 ≡ false → used ≡ 0) → fine (ends (begun (still_pending a l.state.header) l) a used [])
  unfolding ends
  open-stopped-fine a used st =
      let w = begun (still_pending a l.state.header) l in
      let z = ends-header l.state w a used [] in
      keeps tt
      (λ t. let y = sym (ap (λ (x : Header). is_ours x.pending.what) z) ∙ t in (
        ap (λ (x : Header). x.pending) z ∙ still-is a l.state.header y,
        unused l received (ends w a used []) (st (ap (λ (x : Answer). eqb (answer_number x) 4) (still-waits a l.state.header y) ∙ waiting-four)),
      ))

  open-by-fine : (r : Result Packet (Answer × ℕ)) → Got received l.state.header.negotiated.config.max_payload r → fine (open_by l pch received r)
  unfolding open_by
  open-by-fine r (stopped a used st) = open-stopped-fine a used st.quiet
  open-by-fine r (packet k sy) =
      let mine = eqb k.arg1 l.state.header.pending.local.0 in
      pick fine (is_ready k.command && mine) (λ t. open-readied-fine k.arg0 (frame_len k) _)
      (λ t. pick fine (is_write k.command && mine) (λ u. fair (closing k.arg0) (even-closing k.arg0) _ (frame_len k) [])
      (λ u. pick fine (is_close k.command && mine) (λ v. plain _ (frame_len k) [])
      (λ v. open-acted-fine k sy (none-of (is_ready k.command) (is_write k.command) (is_close k.command) mine t u v))))

  open-fine : (out : ℕ) (destination : List ℕ) → fine (open_step l out destination received)
  unfolding open_step
  open-fine out destination =
      pick fine (is_ours l.state.header.pending.what) (λ t. open-by-fine (received_of l received) (got l received))
      (λ t. open-on out destination (allocated l.state.header ss) refl)

  -- ---- the refusals ahead of every step

  fine-checked : (t : Bool) (o : Outcome) → fine o → fine (checked t l o)
  unfolding checked
  fine-checked t o f =
      pick fine t (λ a. pick fine (stores_fit l.state.header.negotiated.config (length l.rx) (length l.store)) (λ b. f) (λ b. idle (Refused StoreShort)))
      (λ a. idle (Refused BrokenState))

  fine-out : (t : Bool) (out : ℕ) (o : Outcome) → fine o → fine (checked_out t l out o)
  unfolding checked_out
  fine-out t out o f = fine-checked t _ (pick fine (ltb out 56) (λ a. idle (Refused OutShort)) (λ a. f))

-- ---- one call

module _ (w : World) (ok : TableOk (policy (lent w)) (lent w).state.header.negotiated.config.channels (lent w).state.slots (lent w).rx) where
  pub writes : (x : Call) → Writes (lent w) (received_in x) (outcome w x)
  unfolding received_in outcome open_outcome dispatch_outcome settle_outcome take_outcome read_outcome write_outcome close_outcome take_front_outcome look_outcome numbers_outcome accept_outcome reject_outcome let_go_outcome verdict_outcome
  writes (open_call out destination received) = fine-out (lent w) ok (bytes_in received) _ _ _
      (open-fine (lent w) ok (bytes_in received) (length out) (bytes_in destination))
  writes (dispatch_call out received) = fine-out (lent w) ok (bytes_in received) _ _ _ (dispatch-fine (lent w) ok (bytes_in received))
  writes (settle_call out ch want) = fine-out (lent w) ok [] _ _ _ (settle-fine (lent w) ok [] ch want)
  writes (take_call ch buf) = fine-checked (lent w) ok [] _ _ (take-fine (lent w) ok [] ch (length buf))
  writes (read_call out ch buf received) = fine-out (lent w) ok (bytes_in received) _ _ _ (read-fine (lent w) ok (bytes_in received) ch (length buf))
  writes (write_call spending out ch bytes received) = fine-out (lent w) ok (bytes_in received) _ _ _
      (write-fine (lent w) ok (bytes_in received) spending ch (length out) (bytes_in bytes))
  writes (close_call out ch) = fine-out (lent w) ok [] _ _ _ (close-fine (lent w) ok [] ch)
  writes front_taken = fine-checked (lent w) ok [] _ _ (front-fine (lent w) ok [])
  writes (look_call (numbers_look ch)) = fine-checked (lent w) ok [] _ _ (idle (lent w) ok [] (numbers_for (lent w) ch))
  writes (accept_call out) = fine-out (lent w) ok [] _ _ _ (accept-fine (lent w) ok [])
  writes (reject_call out) = fine-out (lent w) ok [] _ _ _ (reject-fine (lent w) ok [])
  writes let_go_call = fine-checked (lent w) ok [] _ _ (let-go-fine (lent w) ok [])
  writes (verdict_call out take remote credit) = fine-out (lent w) ok [] _ _ _ (verdict-fine (lent w) ok [] take _ _)
