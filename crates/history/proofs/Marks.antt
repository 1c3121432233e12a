-- Which places hold a channel, with what local number, changes only where an open fills a slot or a close empties it.
-- Assumes nothing.
use mathlib.Core.Path.{◌≡◌, refl, sym, ap, ap₂, subst, ◌∙◌}
use mathlib.Core.Bool.{Bool, true, cond, ◌&&◌}
use mathlib.Core.List.{List, [], ◌∷◌, ◌++◌, map, append-nil}
use Prim.Native.Nat.{ℕ, ◌+◌}
use lib.Dec.{eqb, ltb}
use lib.ListN.{length, take, set, get_or, get_or-map}
use lib.Seq.{map-set_same}
use borrow.Author.Tests.{ltb-true}
use Rattle.config.specs.declared.negotiated.RxPolicy.{RxPolicy}
use Rattle.config.specs.Negotiated.{policy_of}
use Rattle.config.proofs.Laws.{and-true}
use Rattle.incoming.specs.Incoming.{PushOutcome, pushed, withdrawal, popped, returned}
use Rattle.protocol.specs.declared.command.Command.{Command}
use Rattle.protocol.specs.declared.packet.Packet.{Packet}
use Rattle.protocol.specs.Command.{is_ready}
use Rattle.slot.specs.declared.ids.LocalId.{LocalId}
use Rattle.slot.specs.declared.ids.RemoteId.{RemoteId}
use Rattle.slot.specs.declared.ChannelSlot.{ChannelSlot}
use Rattle.slot.specs.declared.Spending.{Spending}
use Rattle.slot.specs.declared.Settled.{Settled}
use Rattle.slot.specs.Ids.{closed_by}
use Rattle.slot.specs.Slot.{empty_slot, is_opening, is_failed, is_closed, has_data, settled_of, taken_of, took_of, take_len, delivered_of, closed_slot, spent_of, leave_of, ready_of, wrote_of}
use Rattle.slot.proofs.Stays.{ReadiedStays, Stays, closed-stays, delivered-stays, ready-stays, settled-stays, spent-stays, took-stays, wrote-stays}
use Rattle.slot.proofs.Kept.{pick}
use Rattle.slot.proofs.Laws.{cond-false}
use Rattle.state.specs.declared.Header.{Header}
use Rattle.state.specs.declared.QueuedOpen.{QueuedOpen}
use Rattle.state.specs.Change.{Step, Change, slot_to, header_to, queued_to, queue_to, changed_all}
use Rattle.table.specs.declared.ChannelId.{ChannelId}
use Rattle.table_dispatch.specs.declared.DispatchOutcome.{DispatchOutcome}
use Rattle.table_dispatch.specs.declared.DispatchOutcome.TheVariants.{AckWrite, CreditGranted, SlotClosed, DataBuffered, IncomingOpen, CancelQueuedOpen, StrayReady, ChannelFault, Unmatched}
use Rattle.table.specs.declared.Want.TheVariants.{Local}
use Rattle.table.specs.Table.{wanted_by, place_of, slot_in}
use Rattle.slot.specs.Wrote.{Wrote, left_by}
use Rattle.table_dispatch.specs.Dispatch.{remote_place, closed_at, close_of, readied_of, granted, ready_at, grant_of, Dispatched, wrote_by, wrote_at, write_of, route_of, dispatch_of}
use Rattle.table_dispatch.proofs.RouteLaws.{by-route}
use Rattle.connection.specs.declared.Answer.{Answer}
use Rattle.connection.specs.declared.Answer.TheVariants.{Written, Done}
use Rattle.connection.specs.Act.{Acted, pushed_by, acted_by, table_of, act_on}
use Rattle.connection.specs.Calls.{Lent, Outcome, Work, begun, then, then_acted, ends, dropped, policy, body_of, frame_len, is_there, slot_for, ack_frames, received_of, dispatch_by, dispatch_step, settled_as, settle_step, taken_by, take_step, reread, read_settled, read_acted, is_direct, read_direct, read_by, read_taken, read_first, read_step, send_some, send_by, send_again, write_readied, write_acted, write_act, write_by, write_first, write_on, write_step, take_front_by, take_front_step, ids_in, offer_in, is_offered, reject_on, reject_step, let_go_step}
use Rattle.connection.specs.Frames.{Frame, write_frame, frames_bytes, close_frame}
use Rattle.history.proofs.Acts.{NoSlot, pushed-slots, withdrawn-slots}
use Rattle.connection.proofs.Slots.{slots_by, slots-by}
use Rattle.history.proofs.Places.{TableOk, found-filled}
use Rattle.history.proofs.Steps.{table-settled}
use Rattle.slot.specs.declared.ChannelFault.{ChannelFault as SlotFault}
use Rattle.std.specs.Prelude.{Option, Some, None, Result, Ok, Err}
use Rattle.credit.specs.declared.CreditFault.{CreditFault}
use Rattle.slot.specs.declared.ChannelError.{ChannelError}

-- whether a slot is filled, its local number, and of a place with no channel the total
pub record Mark : Type 0 where
  pub filled : Bool
  pub local : ℕ
  pub known : Bool
  pub left : ℕ

abbrev pub mark_of : ChannelSlot → Mark
mark_of s = record { filled = s.filled; local = s.local.0; known = s.has_remote; left = cond s.has_remote 0 s.acked_total }

-- changes of slots that keep their marks
abbrev pub Tame : List ChannelSlot → List Change → Type 0
Tame ss [] = Unit {0}
Tame ss (slot_to i t ∷ xs) = (mark_of t ≡ mark_of (slot_in ss i)) × Tame (set ss i t) xs
Tame ss (header_to h ∷ xs) = Tame ss xs
Tame ss (queued_to i q ∷ xs) = Tame ss xs
Tame ss (queue_to qs ∷ xs) = Tame ss xs

-- leave the marks
pub tame-marks : (ss : List ChannelSlot) (xs : List Change) → Tame ss xs → map mark_of (slots_by ss xs) ≡ map mark_of ss
unfolding slot_in
tame-marks ss [] t = refl
tame-marks ss (slot_to i s ∷ xs) t = tame-marks (set ss i s) xs t.1 ∙ map-set_same mark_of ss i s empty_slot t.0
tame-marks ss (header_to h ∷ xs) t = tame-marks ss xs t
tame-marks ss (queued_to i q ∷ xs) t = tame-marks ss xs t
tame-marks ss (queue_to qs ∷ xs) t = tame-marks ss xs t

pub tame-append : (ss : List ChannelSlot) (xs ys : List Change) → Tame ss xs → Tame (slots_by ss xs) ys → Tame ss (xs ++ ys)
tame-append ss [] ys t u = u
tame-append ss (slot_to i s ∷ xs) ys t u = (t.0, tame-append (set ss i s) xs ys t.1 u)
tame-append ss (header_to h ∷ xs) ys t u = tame-append ss xs ys t u
tame-append ss (queued_to i q ∷ xs) ys t u = tame-append ss xs ys t u
tame-append ss (queue_to qs ∷ xs) ys t u = tame-append ss xs ys t u

-- so each place is filled as it was, with the number that it had
pub tame-at : (ss : List ChannelSlot) (xs : List Change) → Tame ss xs → (i : ℕ) → mark_of (slot_in (slots_by ss xs) i) ≡ mark_of (slot_in ss i)
unfolding slot_in
tame-at ss xs t i =
    sym (get_or-map mark_of (slots_by ss xs) i empty_slot) ∙ ap (λ (z : List Mark). get_or z i (mark_of empty_slot)) (tame-marks ss xs t) ∙ get_or-map mark_of ss i empty_slot

-- a call's end
pub tame-ends : (ss : List ChannelSlot) (w : Work) (a : Answer) (used : ℕ) (handed : List ℕ) → Tame ss w.changes → Tame ss (ends w a used handed).changes
unfolding ends
tame-ends ss w a used handed t = tame-append ss w.changes (header_to w.header ∷ []) t tt

-- one slot stored at a call's end
pub tame-then : (ss : List ChannelSlot) (w : Work) (i : ℕ) (t : ChannelSlot) (fs : List Frame) → Tame ss w.changes → mark_of t ≡ mark_of (slot_in (slots_by ss w.changes) i) → Tame ss (then w (slot_to i t ∷ []) fs).changes
tame-then ss w i t fs x e = tame-append ss w.changes (slot_to i t ∷ []) x (e, tt)

-- what a slot function leaves has its mark
stays-mark : (s t : ChannelSlot) → Stays s t → mark_of t ≡ mark_of s
stays-mark s t k =
    ap₂ (λ (x : Bool) (y : ℕ). record { filled = x; local = y; known = t.has_remote; left = cond t.has_remote 0 t.acked_total }) k.filled (ap (λ z. z.0) k.local)
    ∙ ap₂ (λ (x : Bool) (y : ℕ). record { filled = s.filled; local = s.local.0; known = x; left = y }) k.known k.left

-- ---- dispatching

tame-none : (ss : List ChannelSlot) (xs : List Change) → NoSlot xs → Tame ss xs
tame-none ss [] n = tt
tame-none ss (slot_to i s ∷ xs) n = absurd n
tame-none ss (header_to h ∷ xs) n = tame-none ss xs n
tame-none ss (queued_to i q ∷ xs) n = tame-none ss xs n
tame-none ss (queue_to qs ∷ xs) n = tame-none ss xs n

module _ (p : RxPolicy) (n : ℕ) (ss : List ChannelSlot) (rx : List ℕ) (ok : TableOk p n ss rx) (payload : List ℕ) where
  abbrev tame-step : Step DispatchOutcome → Type 0
  tame-step x = Tame ss x.changes

  tame-closed : (f : ℕ) (other : DispatchOutcome) → tame-step (closed_at f n ss other)
  unfolding closed_at
  tame-closed f other = pick tame-step (ltb f n) (λ t. (stays-mark (slot_in ss f) (closed_slot (slot_in ss f)) (closed-stays (slot_in ss f)), tt)) (λ t. tt)

  tame-close : (remote : RemoteId) (local : LocalId) → tame-step (close_of n ss remote local)
  unfolding close_of
  tame-close remote local =
      pick tame-step (eqb local.0 0) (λ t. tame-closed (remote_place n ss remote) (CancelQueuedOpen remote)) (λ t. tame-closed (place_of (Local local) n ss) Unmatched)

  tame-granted : (f : ℕ) (remote : RemoteId) (r : Result ChannelSlot CreditFault) → ReadiedStays (slot_in ss f) r → tame-step (granted f (slot_in ss f) remote r)
  unfolding granted
  tame-granted f remote (Ok t) x = (stays-mark (slot_in ss f) t x, tt)
  tame-granted f remote (Err b) x = tt

  tame-ready : (remote : RemoteId) (local : LocalId) → tame-step (grant_of p n ss remote local payload)
  unfolding grant_of ready_at readied_of
  tame-ready remote local =
      let f = place_of (Local local) n ss in
      pick tame-step (ltb f n)
      (λ t. let fill = found-filled p n ss rx ok local (ltb-true f n t) in
      pick tame-step (is_failed (slot_in ss f).failed) (λ u. tt)
      (λ u. subst (λ (r : Result ChannelSlot CreditFault). tame-step (granted f (slot_in ss f) remote r)) (sym (cond-false (is_opening (slot_in ss f).state) _ _ (ok.opened f fill)))
      (tame-granted f remote (ready_of (slot_in ss f) payload p) (ready-stays (slot_in ss f) payload p))))
      (λ t. tt)

  tame-wrote : (f : ℕ) (remote : RemoteId) (r : Wrote) → Stays (slot_in ss f) (left_by (slot_in ss f) r) → Tame ss (wrote_by p f (slot_in ss f) remote payload rx r).step.changes
  unfolding wrote_by
  tame-wrote f remote (Ok w) y = (stays-mark (slot_in ss f) w.slot y, tt)
  tame-wrote f remote (Err why) y = tt

  tame-write : (remote : RemoteId) (local : LocalId) → Tame ss (write_of p n ss remote local payload rx).step.changes
  unfolding write_of wrote_at
  tame-write remote local =
      let f = place_of (Local local) n ss in
      let P : Dispatched → Type 0 = λ d. Tame ss d.step.changes in
      pick P (ltb f n) (λ t. pick P (is_failed (slot_in ss f).failed) (λ u. tt) (λ u. tame-wrote f remote (wrote_of (slot_in ss f) p (length payload)) (wrote-stays (slot_in ss f) p (length payload)))) (λ t. tt)

  tame-route : (c : Command) (a l : ℕ) → Tame ss (route_of p n ss c a l payload rx).step.changes
  tame-route c a l =
      by-route p n ss a l payload rx (λ c d. Tame ss d.step.changes) (λ c h. tt) tt (tame-close (record { 0 = a }) (record { 0 = l }))
      (tame-write (record { 0 = a }) (record { 0 = l })) (tame-ready (record { 0 = a }) (record { 0 = l })) c

module _ (ss : List ChannelSlot) (h : Header) (queue : List QueuedOpen) (payload store : List ℕ) (d : Dispatched) (t : Tame ss d.step.changes) where
  tame-pushed : (remote : RemoteId) (o : PushOutcome) (r : Option Header) → NoSlot o.changes → Tame ss (pushed_by h store d remote o r).changes
  unfolding pushed_by
  tame-pushed remote o (Some more) e = tame-append ss d.step.changes o.changes t (tame-none _ o.changes e)
  tame-pushed remote o None e = t

  tame-acted : (o : DispatchOutcome) → Tame ss (acted_by h queue payload store d o).changes
  unfolding acted_by
  tame-acted (AckWrite i ids len) = t
  tame-acted (CreditGranted i) = t
  tame-acted (SlotClosed i) = t
  tame-acted (DataBuffered i) = t
  tame-acted (IncomingOpen remote credit) =
      tame-pushed remote (pushed h queue remote credit payload store) (pushed h queue remote credit payload store).result (pushed-slots h queue remote credit payload store)
  tame-acted (CancelQueuedOpen remote) = tame-append ss d.step.changes (withdrawal h queue remote).changes t (tame-none _ (withdrawal h queue remote).changes (withdrawn-slots h queue remote))
  tame-acted (StrayReady ids) = t
  tame-acted (ChannelFault i ids opening f) = t
  tame-acted Unmatched = t

pub tame-act : (h : Header) (ss : List ChannelSlot) (queue : List QueuedOpen) (rx store : List ℕ) (k : Packet) (payload : List ℕ) → TableOk (policy_of h.negotiated) h.negotiated.config.channels ss rx
    → Tame ss (act_on h ss queue rx store k payload).changes
unfolding act_on table_of dispatch_of
tame-act h ss queue rx store k payload ok =
    tame-acted ss h queue payload store (table_of h ss rx k payload)
    (tame-route (policy_of h.negotiated) h.negotiated.config.channels ss rx ok payload k.command k.arg0 k.arg1) (table_of h ss rx k payload).step.result

-- what is taken keeps the mark
abbrev tame-taken : ChannelSlot → Result (Option (ChannelSlot × ℕ)) ChannelError → Type 0
tame-taken s (Ok (Some (t, n))) = mark_of t ≡ mark_of s
tame-taken s (Ok None) = Unit {0}
tame-taken s (Err e) = Unit {0}

taken-tame : (s : ChannelSlot) (room : ℕ) → tame-taken s (taken_of s room)
unfolding taken_of
taken-tame s room =
    pick (tame-taken s) (has_data s) (λ d. stays-mark s _ (took-stays s (take_len s room))) (λ d. pick (tame-taken s) (is_closed s.state) (λ c. tt) (λ c. tt))

-- ---- the calls

module _ (l : Lent) (ok : TableOk (policy l) l.state.header.negotiated.config.channels l.state.slots l.rx) where
  abbrev p : RxPolicy
  p = policy l

  abbrev ss : List ChannelSlot
  ss = l.state.slots

  abbrev h0 : Header
  h0 = dropped l.state.header

  abbrev tame : Outcome → Type 0
  tame x = Tame ss x.changes

  tame-plain : (h : Header) (a : Answer) (used : ℕ) (bs : List ℕ) → tame (ends (begun h l) a used bs)
  tame-plain h a used bs = tame-ends ss (begun h l) a used bs tt

  pub there-filled : (ch : ChannelId) → is_there l ch ≡ true → (slot_in ss ch.slot).filled ≡ true
  unfolding is_there wanted_by
  there-filled ch t =
      let s = slot_in ss ch.slot in
      (and-true s.filled (eqb s.local.0 ch.local.0) (and-true (ltb ch.slot l.state.header.negotiated.config.channels) (s.filled && eqb s.local.0 ch.local.0) t).1).0

  dispatch-tame-by : (h : Header) (received : List ℕ) (r : Result Packet (Answer × ℕ)) → h.negotiated ≡ l.state.header.negotiated → TableOk (policy_of h.negotiated) h.negotiated.config.channels ss l.rx → tame (dispatch_by l h received r)
  unfolding dispatch_by
  dispatch-tame-by h received (Err (a, used)) e o = tame-plain h a used []
  dispatch-tame-by h received (Ok k) e o =
      let act = act_on h ss l.state.queue l.rx l.store k (body_of received k) in
      tame-ends ss (then_acted (begun h l) act) _ (frame_len k) [] (tame-act h ss l.state.queue l.rx l.store k (body_of received k) o)

  pub dispatch-tame : (received : List ℕ) → tame (dispatch_step l received)
  unfolding dispatch_step
  dispatch-tame received = dispatch-tame-by h0 received (received_of l received) refl ok

  pub settle-tame : (ch : ChannelId) (want : ℕ) → tame (settle_step l ch want)
  unfolding settle_step settled_as slot_for
  settle-tame ch want =
      pick tame (is_there l ch)
      (λ t. let r = settled_of (slot_in ss ch.slot) p want in
      tame-ends ss (then (begun h0 l) (slot_to ch.slot r.slot ∷ []) (ack_frames r.slot r.ack)) _ 0 []
      (stays-mark (slot_in ss ch.slot) _ (settled-stays (slot_in ss ch.slot) p want), tt))
      (λ t. tame-plain h0 _ 0 [])

  pub take-tame : (ch : ChannelId) (room : ℕ) → tame (take_step l ch room)
  unfolding take_step taken_by taken_of slot_for
  take-tame ch room =
      let s = slot_in ss ch.slot in
      let P : Result (Option (ChannelSlot × ℕ)) ChannelError → Type 0 = λ y. tame (taken_by l ch s (begun h0 l) y) in
      pick tame (is_there l ch)
      (λ t. pick P (has_data s) (λ d. tame-ends ss (then (begun h0 l) (slot_to ch.slot (took_of s (take_len s room)) ∷ []) []) _ 0 _ (stays-mark s _ (took-stays s (take_len s room)), tt))
      (λ d. pick P (is_closed s.state) (λ c. tame-plain h0 _ 0 []) (λ c. tame-plain h0 _ 0 [])))
      (λ t. tame-plain h0 _ 0 [])

  front-tame-by : (h : Header) (xs : List Change) (f : Option (QueuedOpen × Header)) → Tame ss xs → tame (take_front_by l h xs f)
  unfolding take_front_by
  front-tame-by h xs (Some (q, less)) t = tame-ends ss (then (begun less l) xs []) _ 0 [] t
  front-tame-by h xs None t = tame-plain h _ 0 []

  pub front-tame : tame (take_front_step l)
  unfolding take_front_step popped
  front-tame =
      front-tame-by h0 (popped h0 l.state.queue).changes (popped h0 l.state.queue).result
      (pick (λ (x : Step (Option (QueuedOpen × Header))). Tame ss x.changes) (eqb h0.queued 0) (λ t. tt) (λ t. tt))

  -- ---- reject, let go

  pub reject-tame-on : (h : Header) (remote : RemoteId) (a : Answer) → tame (reject_on l h remote a)
  unfolding reject_on
  reject-tame-on h remote a = tame-ends ss (then (begun h l) [] (close_frame (record { local = record { 0 = 0 }; remote = remote }) ∷ [])) a 0 [] tt

  pub reject-tame : tame (reject_step l)
  unfolding reject_step
  reject-tame = pick tame (is_offered l) (λ t. reject-tame-on h0 (offer_in l).remote Done) (λ t. tame-plain h0 _ 0 [])

  pub let-go-tame : tame (let_go_step l)
  unfolding let_go_step returned
  let-go-tame =
      let back = returned h0 l.state.queue (offer_in l) in
      pick tame (is_offered l) (λ t. tame-ends ss (then (begun back.result l) back.changes []) Done 0 [] tt) (λ t. tame-plain h0 _ 0 [])

  -- ---- read

  module _ (ch : ChannelId) (room : ℕ) (received : List ℕ) (fill : (slot_in ss ch.slot).filled ≡ true) where
    abbrev j : ℕ
    j = ch.slot

    abbrev s1 : ChannelSlot
    s1 = (settled_of (slot_in ss j) p room).slot

    mark1 : mark_of s1 ≡ mark_of (slot_in ss j)
    mark1 = stays-mark (slot_in ss j) _ (settled-stays (slot_in ss j) p room)

    abbrev w1 : Work
    w1 = then (begun h0 l) [] (ack_frames s1 (settled_of (slot_in ss j) p room).ack)

    -- a slot with the same mark stored at the end
    read-end-tame : (t : ChannelSlot) (fs : List Frame) (a : Answer) (used : ℕ) (bs : List ℕ) → mark_of t ≡ mark_of (slot_in ss j) → tame (ends (then w1 (slot_to j t ∷ []) fs) a used bs)
    read-end-tame t fs a used bs e = tame-ends ss (then w1 (slot_to j t ∷ []) fs) a used bs (e, tt)

    module _ (k : Packet) where
      abbrev ss1 : List ChannelSlot
      ss1 = set ss j s1

      ok1 : TableOk p l.state.header.negotiated.config.channels ss1 l.rx
      ok1 = table-settled p l.state.header.negotiated.config.channels ss l.rx j room ok fill

      abbrev act : Acted
      act = act_on h0 ss1 l.state.queue l.rx l.store k (body_of received k)

      abbrev w2 : Work
      w2 = then_acted (then w1 (slot_to j s1 ∷ []) []) act

      tame2 : Tame ss w2.changes
      tame2 = (mark1, tame-act h0 ss1 l.state.queue l.rx l.store k (body_of received k) ok1)

      abbrev s2 : ChannelSlot
      s2 = slot_in (slots_by ss1 act.changes) j

      abbrev r3 : Settled
      r3 = settled_of s2 p room

      mark3 : mark_of r3.slot ≡ mark_of (slot_in (slots_by ss1 (act.changes ++ [])) j)
      mark3 = stays-mark s2 _ (settled-stays s2 p room) ∙ ap (λ (x : List Change). mark_of (slot_in (slots_by ss1 x) j)) (sym (append-nil act.changes))

      abbrev w3 : Work
      w3 = then w2 [] (ack_frames r3.slot r3.ack)

      tame3 : (t : ChannelSlot) (a : Answer) (used : ℕ) (bs : List ℕ) → mark_of t ≡ mark_of r3.slot → tame (ends (then w3 (slot_to j t ∷ []) []) a used bs)
      tame3 t a used bs e =
          tame-ends ss (then w3 (slot_to j t ∷ []) []) a used bs
          (tame-then ss w3 j t [] (tame-append ss w2.changes [] tame2 tt) (e ∙ mark3))

      reread-tame : (y : Result (Option (ChannelSlot × ℕ)) ChannelError) (used : ℕ) (fault : Option SlotFault) → tame-taken r3.slot y → tame (reread ch p.rx_cap used fault w3 r3.slot y)
      unfolding reread
      reread-tame (Ok (Some (t, n))) used fault e = tame3 t _ used _ e
      reread-tame (Ok None) used fault e = tame3 r3.slot _ used [] refl
      reread-tame (Err x) used fault e = tame3 r3.slot _ used [] refl

      acted-tame : (used : ℕ) → tame (read_acted l ch room used (then w1 (slot_to j s1 ∷ []) []) act)
      unfolding read_acted read_settled
      acted-tame used =
          let e : slot_in (changed_all l.state (slot_to j s1 ∷ act.changes)).slots j ≡ s2 = ap (λ (x : List ChannelSlot). slot_in x j) (slots-by l.state (slot_to j s1 ∷ act.changes)) in
          subst (λ (x : ChannelSlot). tame (read_settled l ch room used act.fault (then_acted (then w1 (slot_to j s1 ∷ []) []) act) (settled_of x p room))) (sym e)
          (reread-tame (taken_of r3.slot room) used act.fault (taken-tame r3.slot room))

      packet-tame : tame (read_by l ch room w1 s1 received (Ok k))
      unfolding read_by read_direct
      packet-tame =
          pick tame (is_direct s1 room k)
          (λ t. read-end-tame (delivered_of s1 p k.data_length).slot _ _ (frame_len k) _ (stays-mark s1 _ (delivered-stays s1 p k.data_length) ∙ mark1))
          (λ t. pick tame (closed_by (ids_in s1) k)
          (λ u. read-end-tame (closed_slot s1) [] _ (frame_len k) [] (stays-mark s1 (closed_slot s1) (closed-stays s1) ∙ mark1))
          (λ u. acted-tame (frame_len k)))

    received-tame : (r : Result Packet (Answer × ℕ)) → tame (read_by l ch room w1 s1 received r)
    unfolding read_by
    received-tame (Err (a, used)) = read-end-tame s1 [] a used [] mark1
    received-tame (Ok k) = packet-tame k

    taken-by-tame : (y : Result (Option (ChannelSlot × ℕ)) ChannelError) → tame-taken s1 y → tame (read_taken l ch room w1 s1 received y)
    unfolding read_taken
    taken-by-tame (Ok (Some (t, n))) e = read-end-tame t [] _ 0 _ (e ∙ mark1)
    taken-by-tame (Ok None) e = pick tame s1.has_remote (λ t. received-tame (received_of l received)) (λ t. read-end-tame s1 [] _ 0 [] mark1)
    taken-by-tame (Err x) e = read-end-tame s1 [] _ 0 [] mark1

  pub read-tame : (ch : ChannelId) (room : ℕ) (received : List ℕ) → tame (read_step l ch room received)
  unfolding read_step read_first slot_for
  read-tame ch room received =
      pick tame (is_there l ch)
      (λ t. taken-by-tame ch room received (there-filled ch t) (taken_of (settled_of (slot_in ss ch.slot) p room).slot room) (taken-tame (settled_of (slot_in ss ch.slot) p room).slot room))
      (λ t. tame-plain h0 _ 0 [])

  -- ---- write

  module _ (spending : Spending) (ch : ChannelId) (out : ℕ) (bytes received : List ℕ) (fill : (slot_in ss ch.slot).filled ≡ true) where
    abbrev jw : ℕ
    jw = ch.slot

    some-tame : (used : ℕ) (w : Work) (s : ChannelSlot) (n : ℕ) → Tame ss w.changes → mark_of s ≡ mark_of (slot_in (slots_by ss w.changes) jw) → tame (send_some l ch out bytes used w s n)
    unfolding send_some
    some-tame used w s n t e =
        pick tame (ltb out (length (frames_bytes w.header.negotiated w.frames) + 24 + n)) (λ u. tt)
        (λ u. tame-ends ss (then w (slot_to jw (spent_of s p n) ∷ []) (write_frame (ids_in s) (take n bytes) ∷ [])) (Written n) used []
        (tame-then ss w jw (spent_of s p n) (write_frame (ids_in s) (take n bytes) ∷ []) t (stays-mark s _ (spent-stays s p n) ∙ e)))

    by-tame : (used : ℕ) (w : Work) (s : ChannelSlot) (x : Option ℕ) → Tame ss w.changes → mark_of s ≡ mark_of (slot_in (slots_by ss w.changes) jw) → tame (send_by l ch out bytes used w s x)
    unfolding send_by
    by-tame used w s (Some most) t e = some-tame used w s _ t e
    by-tame used w s None t e = tame-ends ss (then w (slot_to jw s ∷ []) []) _ used [] (tame-then ss w jw s [] t e)

    again-tame : (used : ℕ) (w : Work) (s : ChannelSlot) → Tame ss w.changes → mark_of s ≡ mark_of (slot_in (slots_by ss w.changes) jw) → tame (send_again spending l ch out bytes used w s)
    unfolding send_again
    again-tame used w s t e =
        pick tame (is_closed s.state) (λ c. tame-ends ss (then w (slot_to jw s ∷ []) []) _ used [] (tame-then ss w jw s [] t e)) (λ c. by-tame used w s (leave_of spending s p) t e)

    abbrev w0 : Work
    w0 = begun h0 l

    abbrev s0 : ChannelSlot
    s0 = slot_in ss jw

    readied-tame : (used : ℕ) (r : Result ChannelSlot CreditFault) → ReadiedStays s0 r → tame (write_readied spending l ch out bytes used w0 s0 r)
    unfolding write_readied
    readied-tame used (Ok t) x = again-tame used w0 t tt (stays-mark s0 t x)
    readied-tame used (Err b) x = tame-plain h0 _ used []

    fault-tame : (used : ℕ) (k : Packet) (f : Option SlotFault) → tame (write_acted spending l ch out bytes used w0 (act_on h0 ss l.state.queue l.rx l.store k (body_of received k)) f)
    unfolding write_acted
    fault-tame used k (Some f) = tame-ends ss (then_acted w0 (act_on h0 ss l.state.queue l.rx l.store k (body_of received k))) _ used [] (tame-act h0 ss l.state.queue l.rx l.store k (body_of received k) ok)
    fault-tame used k None =
        let a = act_on h0 ss l.state.queue l.rx l.store k (body_of received k) in
        again-tame used (then_acted w0 a) _ (tame-act h0 ss l.state.queue l.rx l.store k (body_of received k) ok) (ap (λ (x : List ChannelSlot). mark_of (slot_in x jw)) (slots-by l.state a.changes))

    write-received-tame : (r : Result Packet (Answer × ℕ)) → tame (write_by spending l ch out bytes w0 s0 received r)
    unfolding write_by write_act
    write-received-tame (Err (a, used)) = tame-plain h0 a used []
    write-received-tame (Ok k) =
        pick tame (is_ready k.command && eqb k.arg1 s0.local.0) (λ t. readied-tame (frame_len k) (ready_of s0 (body_of received k) p) (ready-stays s0 (body_of received k) p))
        (λ t. pick tame (closed_by (ids_in s0) k)
        (λ u. tame-ends ss (then w0 (slot_to jw (closed_slot s0) ∷ []) []) _ (frame_len k) [] (stays-mark s0 (closed_slot s0) (closed-stays s0), tt))
        (λ u. fault-tame (frame_len k) k (act_on h0 ss l.state.queue l.rx l.store k (body_of received k)).fault))

    first-tame : (x : Option ℕ) → tame (write_first spending l ch out bytes received w0 s0 x)
    unfolding write_first
    first-tame (Some most) = some-tame 0 w0 s0 _ tt refl
    first-tame None = pick tame s0.has_remote (λ t. write-received-tame (received_of l received)) (λ t. tame-plain h0 _ 0 [])

  pub write-tame : (spending : Spending) (ch : ChannelId) (out : ℕ) (bytes received : List ℕ) → tame (write_step spending l ch out bytes received)
  unfolding write_step write_on slot_for
  write-tame spending ch out bytes received =
      pick tame (eqb (length bytes) 0) (λ z. tame-plain h0 _ 0 [])
      (λ z. pick tame (is_there l ch)
      (λ t. pick tame (is_closed (slot_in ss ch.slot).state) (λ c. tame-plain h0 _ 0 []) (λ c. first-tame spending ch out bytes received (there-filled ch t) (leave_of spending (slot_in ss ch.slot) p)))
      (λ t. tame-plain h0 _ 0 []))
