-- Only an open call gives out a number or leaves an open waiting that it did not find, and the OPEN that it writes carries our
-- credit. Assumes nothing.
use mathlib.Core.Path.{◌≡◌, refl, sym, ap, subst, ◌∙◌}
use mathlib.Core.Bool.{Bool, true, false, ◌&&◌, true≢false}
use mathlib.Core.List.{List, [], ◌∷◌}
use Prim.Native.Nat.{ℕ, ◌+◌, ◌<◌}
use lib.Dec.{eqb, ltb, leb}
use lib.ListN.{length, set, take}
use borrow.Author.Tests.{ltb-true}
use Rattle.config.specs.Config.{stores_fit}
use Rattle.config.specs.Negotiated.{offered_credit}
use Rattle.incoming.specs.Incoming.{PushOutcome, pushed, withdrawal, popped, returned}
use Rattle.protocol.specs.declared.packet.Packet.{Packet}
use Rattle.protocol.specs.Packet.{payload_limit}
use Rattle.protocol.specs.Command.{is_ready, is_close, is_write}
use Rattle.slot.specs.declared.ids.RemoteId.{RemoteId}
use Rattle.slot.specs.declared.ChannelSlot.{ChannelSlot}
use Rattle.slot.specs.declared.Spending.{Spending}
use Rattle.slot.specs.Ids.{closed_by}
use Rattle.slot.specs.Slot.{is_closed, taken_of, leave_of, spent_of, ready_of}
use Rattle.slot.proofs.Kept.{pick}
use Rattle.state.specs.declared.Header.{Header}
use Rattle.state.specs.declared.QueuedOpen.{QueuedOpen}
use Rattle.state.specs.Change.{Step, Change, slot_to, changed_all}
use Rattle.state.specs.State.{is_ours, is_offer}
use Rattle.state_whole.specs.Whole.{is_whole}
use Rattle.table.specs.declared.ChannelId.{ChannelId}
use Rattle.table_dispatch.specs.declared.DispatchOutcome.{DispatchOutcome}
use Rattle.table_dispatch.specs.declared.DispatchOutcome.TheVariants.{AckWrite, CreditGranted, SlotClosed, DataBuffered, IncomingOpen, CancelQueuedOpen, StrayReady, ChannelFault, Unmatched}
use Rattle.table.specs.Table.{allocated, numbered}
use Rattle.table_dispatch.specs.Dispatch.{Dispatched}
use Rattle.connection.specs.declared.Answer.{Answer}
use Rattle.connection.specs.declared.Answer.TheVariants.{Numbers as NumbersAre, Done, Waiting, Nothing, Opened, Settled as SettledIs, Read, Written, Front as FrontIs, Refused}
use Rattle.connection.specs.declared.Refusal.{Refusal}
use Rattle.connection.specs.declared.Refusal.TheVariants.{StoreShort, OutShort, NoFreeChannels, PayloadTooLarge, BrokenState}
use Rattle.connection.specs.Act.{Acted, pushed_by, acted_by, table_of, act_on}
use Rattle.connection.specs.Calls.{looked, numbers_for, numbers_outcome, Lent, Outcome, Work, begun, then, then_acted, storing, ends, untouched, checked, checked_out, open_outcome, dispatch_outcome, settle_outcome, take_outcome, read_outcome, write_outcome, close_outcome, take_front_outcome, accept_outcome, reject_outcome, let_go_outcome, verdict_outcome, dropped, pending_for, policy, body_of, frame_len, ids_in, is_there, slot_for, received_of, unless_fault, still_pending, dispatch_by, dispatch_step, settled_as, settle_step, taken_by, take_step, reread, read_settled, read_acted, is_direct, read_direct, read_by, read_taken, read_first, read_step, send_some, send_by, send_again, write_readied, write_acted, write_act, write_by, write_first, write_on, write_step, close_step, take_front_by, take_front_step, open_on, open_readied, open_acted, open_by, open_step, offer_in, is_offered, reject_on, accept_on, accept_step, reject_step, let_go_step, verdict_step}
use Rattle.connection.specs.Frames.{Frame, open_frame, write_frame, frames_bytes}
use Rattle.history.specs.Run.{look_outcome, bytes_in, Call, open_call, dispatch_call, settle_call, take_call, read_call, write_call, close_call, front_taken, look_call, numbers_look, accept_call, reject_call, let_go_call, verdict_call, World, lent, outcome}
use Rattle.history.proofs.Heard.{open_in}
use Rattle.history.proofs.Steps.{ends-header}
use Rattle.incoming.proofs.QueueLaws.{ours-alone}
use Rattle.history.specs.Queue.{NotFront}
use Rattle.slot.specs.declared.ChannelFault.{ChannelFault as SlotFault}
use Rattle.std.specs.Prelude.{Option, Some, None, Result, Ok, Err}
use Rattle.credit.specs.declared.CreditFault.{CreditFault}
use Rattle.slot.specs.declared.ChannelError.{ChannelError}
use Rattle.table.specs.declared.NoFreeChannels.{NoFreeChannels as NoFree}

-- ---- `act_on` leaves the pending open

abbrev PushWaits : Header → Option Header → Type 0
PushWaits h (Some more) = (more.pending ≡ h.pending) × (more.next_local ≡ h.next_local)
PushWaits h None = Unit {0}

-- and the next number, and writes no OPEN
record Calm (h : Header) (a : Acted) : Type 0 where
  pending-is : a.header.pending ≡ h.pending
  next : a.header.next_local ≡ h.next_local
  quiet-opens : (n : ℕ) → open_in a.frames n ≡ n

push-waits : (h : Header) (queue : List QueuedOpen) (remote : RemoteId) (credit : ℕ) (payload store : List ℕ) → PushWaits h (pushed h queue remote credit payload store).result
unfolding pushed
push-waits h queue remote credit payload store =
    pick (λ (o : PushOutcome). PushWaits h o.result) (leb h.negotiated.config.channels h.queued) (λ t. tt) (λ t. (refl, refl))

module _ (h : Header) (queue : List QueuedOpen) (payload store : List ℕ) (d : Dispatched) where
  calm-pushed : (remote : RemoteId) (o : PushOutcome) (r : Option Header) → PushWaits h r → Calm h (pushed_by h store d remote o r)
  unfolding pushed_by
  calm-pushed remote o (Some more) e = record { pending-is = e.0; next = e.1; quiet-opens = λ n. refl }
  calm-pushed remote o None e = record { pending-is = refl; next = refl; quiet-opens = λ n. refl }

  calm-acted : (o : DispatchOutcome) → Calm h (acted_by h queue payload store d o)
  unfolding acted_by withdrawal
  calm-acted (AckWrite i ids len) = record { pending-is = refl; next = refl; quiet-opens = λ n. refl }
  calm-acted (CreditGranted i) = record { pending-is = refl; next = refl; quiet-opens = λ n. refl }
  calm-acted (SlotClosed i) = record { pending-is = refl; next = refl; quiet-opens = λ n. refl }
  calm-acted (DataBuffered i) = record { pending-is = refl; next = refl; quiet-opens = λ n. refl }
  calm-acted (IncomingOpen remote credit) =
      calm-pushed remote (pushed h queue remote credit payload store) (pushed h queue remote credit payload store).result (push-waits h queue remote credit payload store)
  calm-acted (CancelQueuedOpen remote) = record { pending-is = refl; next = refl; quiet-opens = λ n. refl }
  calm-acted (StrayReady ids) = record { pending-is = refl; next = refl; quiet-opens = λ n. refl }
  calm-acted (ChannelFault i ids opening f) = record { pending-is = refl; next = refl; quiet-opens = λ n. refl }
  calm-acted Unmatched = record { pending-is = refl; next = refl; quiet-opens = λ n. refl }

calm : (h : Header) (ss : List ChannelSlot) (queue : List QueuedOpen) (rx store : List ℕ) (k : Packet) (payload : List ℕ) → Calm h (act_on h ss queue rx store k payload)
unfolding act_on
calm h ss queue rx store k payload = calm-acted h queue payload store (table_of h ss rx k payload) (table_of h ss rx k payload).step.result

abbrev FrontWaits : Header → Option (QueuedOpen × Header) → Type 0
FrontWaits h (Some (q, less)) = (is_ours less.pending.what ≡ false) × (less.next_local ≡ h.next_local)
FrontWaits h None = Unit {0}

-- ---- a pending open

-- a pending open stays where the answer is waiting alone
pub still-waits : (n : Answer) (h : Header) → is_ours (still_pending n h).pending.what ≡ true → n ≡ Waiting
unfolding still_pending
still-waits Waiting h t = refl
still-waits Done h t = absurd (true≢false (sym t))
still-waits Nothing h t = absurd (true≢false (sym t))
still-waits (Opened ch) h t = absurd (true≢false (sym t))
still-waits (SettledIs x) h t = absurd (true≢false (sym t))
still-waits (Read n) h t = absurd (true≢false (sym t))
still-waits (Written n) h t = absurd (true≢false (sym t))
still-waits (FrontIs r c p n) h t = absurd (true≢false (sym t))
still-waits (NumbersAre c1 c2 c3 c4 c5) h t = absurd (true≢false (sym t))
still-waits (Refused r) h t = absurd (true≢false (sym t))

pub still-is : (n : Answer) (h : Header) → is_ours (still_pending n h).pending.what ≡ true → (still_pending n h).pending ≡ h.pending
unfolding still_pending
still-is n h t = ap (λ (x : Answer). (still_pending x h).pending) (still-waits n h t)

-- ---- the calls

module _ (l : Lent) where
  abbrev h0 : Header
  h0 = dropped l.state.header

  abbrev after-header : Outcome → Header
  after-header x = (changed_all l.state x.changes).header

  -- no number is given out; a pending open was so before, and then no OPEN was written
  pub record Heads (x : Outcome) : Type 0 where
    pub next : (changed_all l.state x.changes).header.next_local ≡ l.state.header.next_local
    pub pending-is : is_ours (changed_all l.state x.changes).header.pending.what ≡ true → (changed_all l.state x.changes).header.pending ≡ l.state.header.pending
    pub quiet-opens : is_ours (changed_all l.state x.changes).header.pending.what ≡ true → (a : ℕ) → open_in x.frames a ≡ a

  -- and where an offer stands after it, nothing was done
  pub record Quits (x : Outcome) : Type 0 where
    pub heads : Heads x
    pub gone : is_offer (changed_all l.state x.changes).header.pending.what ≡ true → x.changes ≡ []

  -- a header with no open of ours pending
  abbrev Off : Header → Type 0
  Off h = (is_ours h.pending.what ≡ false) × (h.next_local ≡ l.state.header.next_local)

  -- and no offer
  abbrev Clear : Header → Type 0
  Clear h = Off h × (is_offer h.pending.what ≡ false)

  off-by : (h : Header) → h ≡ h0 → Clear h
  off-by h e = subst Clear (sym e) ((refl, refl), refl)

  front-off : (w : Work) (n : Answer) (used : ℕ) (bs : List ℕ) → Off w.header → Heads (ends w n used bs)
  front-off w n used bs e =
      let h = ends-header l.state w n used bs in
      record {
        next = ap (λ (x : Header). x.next_local) h ∙ e.1;
        pending-is = λ t. absurd (true≢false (sym t ∙ ap (λ (x : Header). is_ours x.pending.what) h ∙ e.0));
        quiet-opens = λ t. absurd (true≢false (sym t ∙ ap (λ (x : Header). is_ours x.pending.what) h ∙ e.0));
      }

  off : (w : Work) (n : Answer) (used : ℕ) (bs : List ℕ) → Clear w.header → Quits (ends w n used bs)
  off w n used bs e =
      let h = ends-header l.state w n used bs in
      record {
        heads = front-off w n used bs e.0;
        gone = λ t. absurd (true≢false (sym t ∙ ap (λ (x : Header). is_offer x.pending.what) h ∙ e.1));
      }

  -- the pending one still is, and no OPEN was written
  still : (w : Work) (n : Answer) (used : ℕ) (bs : List ℕ) → w.header.next_local ≡ l.state.header.next_local → (is_ours w.header.pending.what ≡ true → w.header.pending ≡ l.state.header.pending)
      → ((m : ℕ) → open_in w.frames m ≡ m) → is_offer w.header.pending.what ≡ false → Quits (ends w n used bs)
  unfolding ends
  still w n used bs e f o calm-offer =
      let h = ends-header l.state w n used bs in
      record {
        heads =
            record {
              next = ap (λ (x : Header). x.next_local) h ∙ e;
              pending-is = λ t. ap (λ (x : Header). x.pending) h ∙ f (sym (ap (λ (x : Header). is_ours x.pending.what) h) ∙ t);
              quiet-opens = λ t. o;
            };
        gone = λ t. absurd (true≢false (sym t ∙ ap (λ (x : Header). is_offer x.pending.what) h ∙ calm-offer));
      }

  pub looked-heads : (a : Answer) → Quits (looked l a)
  looked-heads a = record { heads = record { next = refl; pending-is = λ t. refl; quiet-opens = λ t n. refl }; gone = λ t. refl }

  pub untouched-heads : (r : Refusal) → Quits (untouched l r)
  untouched-heads r = looked-heads (Refused r)

  act-off : (ss : List ChannelSlot) (k : Packet) (payload : List ℕ) → Clear (act_on h0 ss l.state.queue l.rx l.store k payload).header
  act-off ss k payload = let c = calm h0 ss l.state.queue l.rx l.store k payload in ((ap (λ x. is_ours x.what) c.pending-is, c.next), ap (λ x. is_offer x.what) c.pending-is)

  dispatch-by : (received : List ℕ) (r : Result Packet (Answer × ℕ)) → Quits (dispatch_by l h0 received r)
  unfolding dispatch_by
  dispatch-by received (Err (n, used)) = off (begun h0 l) n used [] ((refl, refl), refl)
  dispatch-by received (Ok k) = off (then_acted (begun h0 l) (act_on h0 l.state.slots l.state.queue l.rx l.store k (body_of received k))) _ (frame_len k) [] (act-off l.state.slots k (body_of received k))

  pub dispatch-heads : (received : List ℕ) → Quits (dispatch_step l received)
  unfolding dispatch_step
  dispatch-heads received = dispatch-by received (received_of l received)

  pub settle-heads : (ch : ChannelId) (want : ℕ) → Quits (settle_step l ch want)
  unfolding settle_step settled_as
  settle-heads ch want = pick Quits (is_there l ch) (λ t. off _ _ 0 [] ((refl, refl), refl)) (λ t. off (begun h0 l) _ 0 [] ((refl, refl), refl))

  taken-heads : (ch : ChannelId) (s : ChannelSlot) (y : Result (Option (ChannelSlot × ℕ)) ChannelError) → Quits (taken_by l ch s (begun h0 l) y)
  unfolding taken_by
  taken-heads ch s (Ok (Some (t, n))) = off (then (begun h0 l) (slot_to ch.slot t ∷ []) []) _ 0 _ ((refl, refl), refl)
  taken-heads ch s (Ok None) = off (begun h0 l) _ 0 [] ((refl, refl), refl)
  taken-heads ch s (Err e) = off (begun h0 l) _ 0 [] ((refl, refl), refl)

  pub take-heads : (ch : ChannelId) (room : ℕ) → Quits (take_step l ch room)
  unfolding take_step
  take-heads ch room = pick Quits (is_there l ch) (λ t. taken-heads ch (slot_for l ch) (taken_of (slot_for l ch) room)) (λ t. off (begun h0 l) _ 0 [] ((refl, refl), refl))

  pub close-heads : (ch : ChannelId) → Quits (close_step l ch)
  unfolding close_step
  close-heads ch = pick Quits (is_there l ch && (slot_for l ch).has_remote) (λ t. off _ _ 0 [] ((refl, refl), refl)) (λ t. off (begun h0 l) _ 0 [] ((refl, refl), refl))

  front_by : (xs : List Change) (f : Option (QueuedOpen × Header)) → FrontWaits h0 f → Heads (take_front_by l h0 xs f)
  unfolding take_front_by
  front_by xs (Some (q, less)) e = front-off (then (begun less l) xs []) _ 0 [] (e.0, e.1)
  front_by xs None e = front-off (begun h0 l) _ 0 [] (refl, refl)

  pub front-heads : Heads (take_front_step l)
  unfolding take_front_step popped
  front-heads =
      front_by (popped h0 l.state.queue).changes (popped h0 l.state.queue).result
      (pick (λ (x : Step (Option (QueuedOpen × Header))). FrontWaits h0 x.result) (eqb h0.queued 0) (λ t. tt) (λ t. (refl, refl)))

  -- ---- reject, let go, accept

  reject-heads-on : (remote : RemoteId) (a : Answer) → Quits (reject_on l h0 remote a)
  unfolding reject_on
  reject-heads-on remote a = off _ a 0 [] ((refl, refl), refl)

  pub reject-heads : Quits (reject_step l)
  unfolding reject_step
  reject-heads = pick Quits (is_offered l) (λ t. reject-heads-on (offer_in l).remote Done) (λ t. off (begun h0 l) Nothing 0 [] ((refl, refl), refl))

  pub let-go-heads : Quits (let_go_step l)
  unfolding let_go_step returned
  let-go-heads = pick Quits (is_offered l) (λ t. off _ Done 0 [] ((refl, refl), refl)) (λ t. off (begun h0 l) Nothing 0 [] ((refl, refl), refl))

  -- an accept keeps the number, or gives it out with a slot
  pub data Grants (x : Outcome) : Type 0 where
    declines : Quits x → Grants x
    grants : (ch : ChannelId) → allocated l.state.header l.state.slots ≡ Ok ch → (changed_all l.state x.changes).header ≡ numbered h0 → x.answer ≡ Opened ch → Grants x

  grants-on : (remote : RemoteId) (credit : ℕ) (x : Result ChannelId NoFree) → allocated l.state.header l.state.slots ≡ x → Grants (accept_on l h0 remote credit x)
  unfolding accept_on ends
  grants-on remote credit (Err _) e = declines (reject-heads-on remote (Refused NoFreeChannels))
  grants-on remote credit (Ok ch) e = grants ch e refl refl

  pub accept-grants : Grants (accept_step l)
  unfolding accept_step
  accept-grants =
      pick Grants (is_offered l) (λ t. grants-on (offer_in l).remote (offer_in l).credit (allocated l.state.header l.state.slots) refl)
      (λ t. declines (off (begun h0 l) Nothing 0 [] ((refl, refl), refl)))

  pub taken-grants : (remote : RemoteId) (credit : ℕ) → Grants (verdict_step l true remote credit)
  unfolding verdict_step
  taken-grants remote credit = grants-on remote credit (allocated l.state.header l.state.slots) refl

  pub refused-heads : (remote : RemoteId) (credit : ℕ) → Quits (verdict_step l false remote credit)
  unfolding verdict_step
  refused-heads remote credit = reject-heads-on remote Done

  -- ---- read

  reread-heads : (ch : ChannelId) (cap used : ℕ) (fault : Option SlotFault) (w : Work) (s : ChannelSlot) (y : Result (Option (ChannelSlot × ℕ)) ChannelError) → Clear w.header → Quits (reread ch cap used fault w s y)
  unfolding reread
  reread-heads ch cap used fault w s (Ok (Some (t, n))) e = off (then w (slot_to ch.slot t ∷ []) []) _ used _ e
  reread-heads ch cap used fault w s (Ok None) e = off (then w (slot_to ch.slot s ∷ []) []) _ used [] e
  reread-heads ch cap used fault w s (Err x) e = off (then w (slot_to ch.slot s ∷ []) []) _ used [] e

  acted-heads : (ch : ChannelId) (room used : ℕ) (w : Work) (b : Acted) → Clear b.header → Quits (read_acted l ch room used w b)
  unfolding read_acted read_settled
  acted-heads ch room used w b e = reread-heads ch _ used b.fault _ _ _ e

  read-packet-heads : (ch : ChannelId) (room : ℕ) (w : Work) (s : ChannelSlot) (received : List ℕ) (r : Result Packet (Answer × ℕ)) → w.header ≡ h0 → Quits (read_by l ch room w s received r)
  unfolding read_by read_direct
  read-packet-heads ch room w s received (Err (n, used)) e = off (then w (slot_to ch.slot s ∷ []) []) n used [] (off-by _ e)
  read-packet-heads ch room w s received (Ok k) e =
      pick Quits (is_direct s room k) (λ t. off _ _ (frame_len k) _ (off-by _ e))
      (λ t. pick Quits (closed_by (ids_in s) k) (λ u. off _ _ (frame_len k) [] (off-by _ e))
      (λ u. acted-heads ch room (frame_len k) _ _
      (subst (λ (x : Header). Clear (act_on x (set l.state.slots ch.slot s) l.state.queue l.rx l.store k (body_of received k)).header) (sym e) (act-off (set l.state.slots ch.slot s) k (body_of received k)))))

  read-taken-heads : (ch : ChannelId) (room : ℕ) (w : Work) (s : ChannelSlot) (received : List ℕ) (y : Result (Option (ChannelSlot × ℕ)) ChannelError) → w.header ≡ h0 → Quits (read_taken l ch room w s received y)
  unfolding read_taken
  read-taken-heads ch room w s received (Ok (Some (t, n))) e = off _ _ 0 _ (off-by _ e)
  read-taken-heads ch room w s received (Ok None) e =
      pick Quits s.has_remote (λ t. read-packet-heads ch room w s received (received_of l received) e) (λ t. off _ _ 0 [] (off-by _ e))
  read-taken-heads ch room w s received (Err x) e = off _ _ 0 [] (off-by _ e)

  pub read-heads : (ch : ChannelId) (room : ℕ) (received : List ℕ) → Quits (read_step l ch room received)
  unfolding read_step read_first
  read-heads ch room received =
      pick Quits (is_there l ch) (λ t. read-taken-heads ch room _ _ received _ refl) (λ t. off (begun h0 l) _ 0 [] ((refl, refl), refl))

  -- ---- write

  module _ (spending : Spending) (ch : ChannelId) (out : ℕ) (bytes : List ℕ) (used : ℕ) where
    some-heads : (w : Work) (s : ChannelSlot) (n : ℕ) → Clear w.header → Quits (send_some l ch out bytes used w s n)
    unfolding send_some
    some-heads w s n e =
        pick Quits (ltb out (length (frames_bytes w.header.negotiated w.frames) + 24 + n)) (λ t. untouched-heads OutShort)
        (λ t. off (then w (slot_to ch.slot (spent_of s (policy l) n) ∷ []) (write_frame (ids_in s) (take n bytes) ∷ [])) (Written n) used [] e)

    send-heads : (w : Work) (s : ChannelSlot) (x : Option ℕ) → Clear w.header → Quits (send_by l ch out bytes used w s x)
    unfolding send_by
    send-heads w s (Some most) e = some-heads w s _ e
    send-heads w s None e = off (then w (slot_to ch.slot s ∷ []) []) _ used [] e

    again-heads : (w : Work) (s : ChannelSlot) → Clear w.header → Quits (send_again spending l ch out bytes used w s)
    unfolding send_again
    again-heads w s e = pick Quits (is_closed s.state) (λ t. off (then w (slot_to ch.slot s ∷ []) []) _ used [] e) (λ t. send-heads w s (leave_of spending s (policy l)) e)

    readied-heads : (s : ChannelSlot) (r : Result ChannelSlot CreditFault) → Quits (write_readied spending l ch out bytes used (begun h0 l) s r)
    unfolding write_readied
    readied-heads s (Ok t) = again-heads (begun h0 l) t ((refl, refl), refl)
    readied-heads s (Err b) = off (begun h0 l) _ used [] ((refl, refl), refl)

    write-acted-heads : (b : Acted) (f : Option SlotFault) → Clear b.header → Quits (write_acted spending l ch out bytes used (begun h0 l) b f)
    unfolding write_acted
    write-acted-heads b (Some f) e = off (then_acted (begun h0 l) b) _ used [] e
    write-acted-heads b None e = again-heads (then_acted (begun h0 l) b) _ e

  write-received-heads : (spending : Spending) (ch : ChannelId) (out : ℕ) (bytes : List ℕ) (s : ChannelSlot) (received : List ℕ) (r : Result Packet (Answer × ℕ)) → Quits (write_by spending l ch out bytes (begun h0 l) s received r)
  unfolding write_by write_act
  write-received-heads spending ch out bytes s received (Err (n, used)) = off (begun h0 l) n used [] ((refl, refl), refl)
  write-received-heads spending ch out bytes s received (Ok k) =
      pick Quits (is_ready k.command && eqb k.arg1 s.local.0) (λ t. readied-heads spending ch out bytes (frame_len k) s (ready_of s (body_of received k) (policy l)))
      (λ t. pick Quits (closed_by (ids_in s) k) (λ u. off _ _ (frame_len k) [] ((refl, refl), refl))
      (λ u. write-acted-heads spending ch out bytes (frame_len k) (act_on h0 l.state.slots l.state.queue l.rx l.store k (body_of received k)) _ (act-off l.state.slots k (body_of received k))))

  write-first-heads : (spending : Spending) (ch : ChannelId) (out : ℕ) (bytes : List ℕ) (s : ChannelSlot) (received : List ℕ) (x : Option ℕ) → Quits (write_first spending l ch out bytes received (begun h0 l) s x)
  unfolding write_first
  write-first-heads spending ch out bytes s received (Some most) = some-heads spending ch out bytes 0 (begun h0 l) s _ ((refl, refl), refl)
  write-first-heads spending ch out bytes s received None =
      pick Quits s.has_remote (λ t. write-received-heads spending ch out bytes s received (received_of l received)) (λ t. off (begun h0 l) _ 0 [] ((refl, refl), refl))

  pub write-heads : (spending : Spending) (ch : ChannelId) (out : ℕ) (bytes received : List ℕ) → Quits (write_step spending l ch out bytes received)
  unfolding write_step write_on
  write-heads spending ch out bytes received =
      pick Quits (eqb (length bytes) 0) (λ z. off (begun h0 l) _ 0 [] ((refl, refl), refl))
      (λ z. pick Quits (is_there l ch)
      (λ t. pick Quits (is_closed (slot_for l ch).state) (λ c. off (begun h0 l) _ 0 [] ((refl, refl), refl)) (λ c. write-first-heads spending ch out bytes (slot_for l ch) received (leave_of spending (slot_for l ch) (policy l))))
      (λ t. off (begun h0 l) _ 0 [] ((refl, refl), refl)))

  -- ---- open

  -- an open call keeps the number and the pending open; begins, with the number given out in its OPEN; or gives it out for nothing,
  -- refused by 3 for its destination
  pub data Numbers (destination : List ℕ) (x : Outcome) : Type 0 where
    keeps : Quits x → Numbers destination x
    asks : (ch : ChannelId) → is_ours l.state.header.pending.what ≡ false → allocated l.state.header l.state.slots ≡ Ok ch → (changed_all l.state x.changes).header ≡ pending_for (numbered h0) ch
        → x.frames ≡ open_frame ch.local (offered_credit l.state.header.negotiated) destination ∷ [] → Numbers destination x
    skips : is_ours l.state.header.pending.what ≡ false → (changed_all l.state x.changes).header ≡ numbered h0 → x.answer ≡ Refused PayloadTooLarge → payload_limit < length destination
        → Numbers destination x

  on-heads : (out : ℕ) (destination : List ℕ) (x : Result ChannelId NoFree) → is_ours l.state.header.pending.what ≡ false → allocated l.state.header l.state.slots ≡ x → Numbers destination (open_on l out destination x)
  unfolding open_on ends
  on-heads out destination (Err _) f e = keeps (off (begun h0 l) (Refused NoFreeChannels) 0 [] ((refl, refl), refl))
  on-heads out destination (Ok ch) f e =
      pick (Numbers destination) (ltb payload_limit (length destination))
      (λ t. skips f refl refl (ltb-true payload_limit (length destination) t))
      (λ t. pick (Numbers destination) (ltb out (24 + length destination)) (λ u. keeps (untouched-heads OutShort)) (λ u. asks ch f e refl refl))

  open-readied-heads : (ch : ChannelId) (remote used : ℕ) (r : Result ChannelSlot CreditFault) → Quits (open_readied l ch remote used r)
  unfolding open_readied
  open-readied-heads ch remote used (Ok t) = off _ _ used [] ((refl, refl), refl)
  open-readied-heads ch remote used (Err b) = off _ _ used [] ((refl, refl), refl)

  still-no : (n : Answer) (h : Header) → is_offer h.pending.what ≡ false → is_offer (still_pending n h).pending.what ≡ false
  unfolding still_pending
  still-no Waiting h e = e
  still-no Done h e = refl
  still-no Nothing h e = refl
  still-no (Opened ch) h e = refl
  still-no (SettledIs x) h e = refl
  still-no (Read n) h e = refl
  still-no (Written n) h e = refl
  still-no (FrontIs r c p n) h e = refl
  still-no (NumbersAre c1 c2 c3 c4 c5) h e = refl
  still-no (Refused r) h e = refl

  still-next : (n : Answer) (h : Header) → (still_pending n h).next_local ≡ h.next_local
  unfolding still_pending
  still-next Waiting h = refl
  still-next Done h = refl
  still-next Nothing h = refl
  still-next (Opened ch) h = refl
  still-next (SettledIs x) h = refl
  still-next (Read n) h = refl
  still-next (Written n) h = refl
  still-next (FrontIs r c p n) h = refl
  still-next (NumbersAre c1 c2 c3 c4 c5) h = refl
  still-next (Refused r) h = refl

  open-acted-heads : is_offer l.state.header.pending.what ≡ false → (used : ℕ) (k : Packet) (payload : List ℕ) → Quits (open_acted l used (act_on l.state.header l.state.slots l.state.queue l.rx l.store k payload))
  unfolding open_acted
  open-acted-heads calm-offer used k payload =
      let h = l.state.header in
      let b = act_on h l.state.slots l.state.queue l.rx l.store k payload in
      let c = calm h l.state.slots l.state.queue l.rx l.store k payload in
      let a = unless_fault b.fault Waiting in
      still (storing (then_acted (begun h l) b) (still_pending a b.header)) _ used []
      (still-next a b.header ∙ c.next) (λ t. still-is a b.header t ∙ c.pending-is) c.quiet-opens (still-no a b.header (ap (λ x. is_offer x.what) c.pending-is ∙ calm-offer))

  open-received-heads : is_offer l.state.header.pending.what ≡ false → (ch : ChannelId) (received : List ℕ) (r : Result Packet (Answer × ℕ)) → Quits (open_by l ch received r)
  unfolding open_by
  open-received-heads calm-offer ch received (Err (n, used)) = still (begun (still_pending n l.state.header) l) n used [] (still-next n l.state.header) (still-is n l.state.header) (λ m. refl) (still-no n l.state.header calm-offer)
  open-received-heads calm-offer ch received (Ok k) =
      let mine = eqb k.arg1 ch.local.0 in
      pick Quits (is_ready k.command && mine) (λ t. open-readied-heads ch k.arg0 (frame_len k) _)
      (λ t. pick Quits (is_write k.command && mine) (λ u. off _ _ (frame_len k) [] ((refl, refl), refl))
      (λ u. pick Quits (is_close k.command && mine) (λ v. off (begun h0 l) _ (frame_len k) [] ((refl, refl), refl)) (λ v. open-acted-heads calm-offer (frame_len k) k (body_of received k))))

  pub open-numbers : (out : ℕ) (destination received : List ℕ) → Numbers destination (open_step l out destination received)
  unfolding open_step
  open-numbers out destination received =
      pick (Numbers destination) (is_ours l.state.header.pending.what) (λ t. keeps (open-received-heads (ours-alone l.state.header.pending.what t) _ received (received_of l received)))
      (λ t. on-heads out destination (allocated l.state.header l.state.slots) t refl)

-- ---- the calls, with the refusals ahead of them

module _ (l : Lent) where
  heads-checked : (t : Bool) (o : Outcome) → Quits l o → Quits l (checked t l o)
  unfolding checked
  heads-checked t o h =
      pick (Quits l) t (λ a. pick (Quits l) (stores_fit l.state.header.negotiated.config (length l.rx) (length l.store)) (λ b. h) (λ b. untouched-heads l StoreShort)) (λ a. untouched-heads l BrokenState)

  front-checked : (t : Bool) (o : Outcome) → Heads l o → Heads l (checked t l o)
  unfolding checked
  front-checked t o h =
      pick (Heads l) t (λ a. pick (Heads l) (stores_fit l.state.header.negotiated.config (length l.rx) (length l.store)) (λ b. h) (λ b. (untouched-heads l StoreShort).heads)) (λ a. (untouched-heads l BrokenState).heads)

  heads-out : (t : Bool) (out : ℕ) (o : Outcome) → Quits l o → Quits l (checked_out t l out o)
  unfolding checked_out
  heads-out t out o h = heads-checked t _ (pick (Quits l) (ltb out 56) (λ b. untouched-heads l OutShort) (λ b. h))

  grants-out : (t : Bool) (out : ℕ) (o : Outcome) → Grants l o → Grants l (checked_out t l out o)
  unfolding checked_out checked
  grants-out t out o h =
      let G = Grants l in
      pick G t
      (λ a. pick G (stores_fit l.state.header.negotiated.config (length l.rx) (length l.store)) (λ b. pick G (ltb out 56) (λ c. declines (untouched-heads l OutShort)) (λ c. h)) (λ b. declines (untouched-heads l StoreShort)))
      (λ a. declines (untouched-heads l BrokenState))

  numbers-out : (destination : List ℕ) (t : Bool) (out : ℕ) (o : Outcome) → Numbers l destination o → Numbers l destination (checked_out t l out o)
  unfolding checked_out checked
  numbers-out destination t out o h =
      let N = Numbers l destination in
      pick N t
      (λ a. pick N (stores_fit l.state.header.negotiated.config (length l.rx) (length l.store)) (λ b. pick N (ltb out 56) (λ c. keeps (untouched-heads l OutShort)) (λ c. h)) (λ b. keeps (untouched-heads l StoreShort)))
      (λ a. keeps (untouched-heads l BrokenState))

-- what each call does with the next number and the pending open
abbrev pub Moves : World → Call → Type 0
Moves w (open_call out destination received) = Numbers (lent w) (bytes_in destination) (outcome w (open_call out destination received))
Moves w (dispatch_call out received) = Quits (lent w) (outcome w (dispatch_call out received))
Moves w (settle_call out ch want) = Quits (lent w) (outcome w (settle_call out ch want))
Moves w (take_call ch buf) = Quits (lent w) (outcome w (take_call ch buf))
Moves w (read_call out ch buf received) = Quits (lent w) (outcome w (read_call out ch buf received))
Moves w (write_call spending out ch bytes received) = Quits (lent w) (outcome w (write_call spending out ch bytes received))
Moves w (close_call out ch) = Quits (lent w) (outcome w (close_call out ch))
Moves w front_taken = Heads (lent w) (outcome w front_taken)
Moves w (look_call x) = Quits (lent w) (outcome w (look_call x))
Moves w (accept_call out) = Grants (lent w) (outcome w (accept_call out))
Moves w (reject_call out) = Quits (lent w) (outcome w (reject_call out))
Moves w let_go_call = Quits (lent w) (outcome w let_go_call)
Moves w (verdict_call out true remote credit) = Grants (lent w) (outcome w (verdict_call out true remote credit))
Moves w (verdict_call out false remote credit) = Quits (lent w) (outcome w (verdict_call out false remote credit))

pub moves : (w : World) (c : Call) → Moves w c
unfolding outcome open_outcome dispatch_outcome settle_outcome take_outcome read_outcome write_outcome close_outcome take_front_outcome look_outcome numbers_outcome accept_outcome reject_outcome let_go_outcome verdict_outcome
moves w (open_call out destination received) = numbers-out (lent w) (bytes_in destination) (is_whole w.state) (length out) _ (open-numbers (lent w) (length out) (bytes_in destination) (bytes_in received))
moves w (dispatch_call out received) = heads-out (lent w) (is_whole w.state) (length out) _ (dispatch-heads (lent w) (bytes_in received))
moves w (settle_call out ch want) = heads-out (lent w) (is_whole w.state) (length out) _ (settle-heads (lent w) ch want)
moves w (take_call ch buf) = heads-checked (lent w) (is_whole w.state) _ (take-heads (lent w) ch (length buf))
moves w (read_call out ch buf received) = heads-out (lent w) (is_whole w.state) (length out) _ (read-heads (lent w) ch (length buf) (bytes_in received))
moves w (write_call spending out ch bytes received) = heads-out (lent w) (is_whole w.state) (length out) _ (write-heads (lent w) spending ch (length out) (bytes_in bytes) (bytes_in received))
moves w (close_call out ch) = heads-out (lent w) (is_whole w.state) (length out) _ (close-heads (lent w) ch)
moves w front_taken = front-checked (lent w) (is_whole w.state) _ (front-heads (lent w))
moves w (accept_call out) = grants-out (lent w) (is_whole w.state) (length out) _ (accept-grants (lent w))
moves w (reject_call out) = heads-out (lent w) (is_whole w.state) (length out) _ (reject-heads (lent w))
moves w let_go_call = heads-checked (lent w) (is_whole w.state) _ (let-go-heads (lent w))
moves w (verdict_call out true remote credit) = grants-out (lent w) (is_whole w.state) (length out) _ (taken-grants (lent w) _ _)
moves w (verdict_call out false remote credit) = heads-out (lent w) (is_whole w.state) (length out) _ (refused-heads (lent w) _ _)
moves w (look_call (numbers_look ch)) = heads-checked (lent w) (is_whole w.state) _ (looked-heads (lent w) (numbers_for (lent w) ch))

-- the credit in the last OPEN written, where an open is pending: that of the one that was before, or ours
module _ (w : World) (a credit : ℕ) (is : credit ≡ offered_credit (lent w).state.header.negotiated) (ask : is_ours (lent w).state.header.pending.what ≡ true → a ≡ credit) where
  abbrev Asked : Outcome → Type 0
  Asked x = is_ours (changed_all (lent w).state x.changes).header.pending.what ≡ true → open_in x.frames a ≡ credit

  heads-asked : (x : Outcome) → Heads (lent w) x → Asked x
  heads-asked x h t = h.quiet-opens t a ∙ ask (sym (ap (λ y. is_ours y.what) (h.pending-is t)) ∙ t)

  numbers-asked : (destination : List ℕ) (x : Outcome) → Numbers (lent w) destination x → Asked x
  numbers-asked destination x (keeps h) t = heads-asked x h.heads t
  numbers-asked destination x (asks ch q e f g) t = ap (λ (fs : List Frame). open_in fs a) g ∙ sym is
  numbers-asked destination x (skips f e r d) t = absurd (true≢false (sym t ∙ ap (λ (h : Header). is_ours h.pending.what) e))

  grants-asked : (x : Outcome) → Grants (lent w) x → Asked x
  grants-asked x (declines h) t = heads-asked x h.heads t
  grants-asked x (grants ch e f a) t = absurd (true≢false (sym t ∙ ap (λ (h : Header). is_ours h.pending.what) f))

  moves-asked : (c : Call) → Moves w c → Asked (outcome w c)
  moves-asked (open_call out destination received) m = numbers-asked (bytes_in destination) _ m
  moves-asked (dispatch_call out received) m = heads-asked _ m.heads
  moves-asked (settle_call out ch want) m = heads-asked _ m.heads
  moves-asked (take_call ch buf) m = heads-asked _ m.heads
  moves-asked (read_call out ch buf received) m = heads-asked _ m.heads
  moves-asked (write_call spending out ch bytes received) m = heads-asked _ m.heads
  moves-asked (close_call out ch) m = heads-asked _ m.heads
  moves-asked front_taken m = heads-asked _ m
  moves-asked (look_call x) m = heads-asked _ m.heads
  moves-asked (accept_call out) m = grants-asked _ m
  moves-asked (reject_call out) m = heads-asked _ m.heads
  moves-asked let_go_call m = heads-asked _ m.heads
  moves-asked (verdict_call out true remote credit) m = grants-asked _ m
  moves-asked (verdict_call out false remote credit) m = heads-asked _ m.heads

  pub call-asked : (c : Call) → Asked (outcome w c)
  call-asked c = moves-asked c (moves w c)

-- ---- an offer that stands after a call but taking the front: that call changed nothing

module _ (w : World) where
  abbrev LeavesOffer : Outcome → Type 0
  LeavesOffer x = is_offer (changed_all (lent w).state x.changes).header.pending.what ≡ true → x.changes ≡ []

  numbers-offer : (destination : List ℕ) (x : Outcome) → Numbers (lent w) destination x → LeavesOffer x
  numbers-offer destination x (keeps q) t = q.gone t
  numbers-offer destination x (asks ch q e f g) t = absurd (true≢false (sym t ∙ ap (λ (h : Header). is_offer h.pending.what) f))
  numbers-offer destination x (skips f e r d) t = absurd (true≢false (sym t ∙ ap (λ (h : Header). is_offer h.pending.what) e))

  grants-offer : (x : Outcome) → Grants (lent w) x → LeavesOffer x
  grants-offer x (declines q) t = q.gone t
  grants-offer x (grants ch e f a) t = absurd (true≢false (sym t ∙ ap (λ (h : Header). is_offer h.pending.what) f))

  moves-offer : (c : Call) → NotFront c → Moves w c → LeavesOffer (outcome w c)
  moves-offer (open_call out destination received) n m = numbers-offer (bytes_in destination) _ m
  moves-offer (dispatch_call out received) n m = m.gone
  moves-offer (settle_call out ch want) n m = m.gone
  moves-offer (take_call ch buf) n m = m.gone
  moves-offer (read_call out ch buf received) n m = m.gone
  moves-offer (write_call spending out ch bytes received) n m = m.gone
  moves-offer (close_call out ch) n m = m.gone
  moves-offer front_taken n m = absurd n
  moves-offer (look_call x) n m = m.gone
  moves-offer (accept_call out) n m = grants-offer _ m
  moves-offer (reject_call out) n m = m.gone
  moves-offer let_go_call n m = m.gone
  moves-offer (verdict_call out true remote credit) n m = grants-offer _ m
  moves-offer (verdict_call out false remote credit) n m = m.gone

  pub call-offer : (c : Call) → NotFront c → LeavesOffer (outcome w c)
  call-offer c n = moves-offer c n (moves w c)
