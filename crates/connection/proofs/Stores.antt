-- What a dispatch answers, uses, writes and changes in the state is told by the state, the received bytes and the stores' lengths;
-- the stores' bytes are not looked at. Assumes nothing.
use mathlib.Core.Path.{◌≡◌, refl, sym, ap, subst, ◌∙◌}
use mathlib.Core.Bool.{Bool, true, false, cond}
use mathlib.Core.List.{List, ◌++◌}
use Prim.Native.Nat.{ℕ, ◌≤◌}
use native.Mathlib.Omega.{arith}
use lib.Dec.{ltb, leb}
use lib.ListN.{length, drop}
use Rattle.le.specs.Le.{Bytes}
use Rattle.config.proofs.Laws.{and-true}
use Rattle.config.specs.declared.negotiated.Negotiated.{Negotiated}
use Rattle.config.specs.declared.negotiated.RxPolicy.{RxPolicy}
use Rattle.config.specs.Config.{stores_fit}
use Rattle.incoming.specs.Incoming.{PushOutcome, pushed}
use Rattle.protocol.specs.declared.command.Command.{Command}
use Rattle.protocol.specs.declared.command.Command.TheVariants.{Sync, Connect, Open, Ready, Close, Write, Auth, StartTls}
use Rattle.protocol.specs.declared.packet.Packet.{Packet}
use Rattle.protocol.specs.Packet.{decode_of}
use Rattle.slot.specs.declared.ChannelSlot.{ChannelSlot}
use Rattle.slot.specs.declared.ids.LocalId.{LocalId}
use Rattle.slot.specs.declared.ids.RemoteId.{RemoteId}
use Rattle.slot.specs.Slot.{is_failed}
use Rattle.slot.proofs.Kept.{pick}
use Rattle.state.specs.declared.Header.{Header}
use Rattle.state.specs.declared.QueuedOpen.{QueuedOpen}
use Rattle.state.specs.Change.{Step, changed_all, put_all}
use Rattle.state.specs.State.{state_len, Connection, layout, state_of, is_state}
use Rattle.state.proofs.StateLaws.{state-split, state-forth, state-fits}
use Rattle.state.proofs.ChangeLaws.{changes-layout}
use Rattle.state_whole.specs.Whole.{whole, is_whole}
use Rattle.state_whole.proofs.WholeLaws.{Whole, whole-own, whole-full, whole-fits, whole-facts}
use Rattle.table.specs.declared.Want.TheVariants.{Local}
use Rattle.table.specs.Table.{place_of}
use Rattle.table_dispatch.specs.declared.DispatchOutcome.{DispatchOutcome}
use Rattle.table_dispatch.specs.declared.DispatchOutcome.TheVariants.{AckWrite, CreditGranted, SlotClosed, DataBuffered, IncomingOpen, CancelQueuedOpen, StrayReady, ChannelFault, Unmatched}
use Rattle.slot.specs.Wrote.{Wrote}
use Rattle.table_dispatch.specs.Dispatch.{Dispatched, wrote_by, wrote_at, write_of, route_of, dispatch_of}
use Rattle.connection.specs.declared.Refusal.{Refusal}
use Rattle.connection.specs.declared.Refusal.TheVariants.{StoreShort, OutShort, BrokenState}
use Rattle.connection.specs.Answer.{answer_number}
use Rattle.connection.specs.Act.{Acted, pushed_by, acted_by, table_of, act_on}
use Rattle.connection.specs.Calls.{Lent, Outcome, untouched, ends, checked, checked_out, dropped, received_by, received_of, body_of, frame_len, dispatch_by, dispatch_step, dispatch_outcome}
use Rattle.connection.proofs.Decoding.{packet-room}
use Rattle.connection.proofs.WholeWork.{checked-out-kept, long}
use Rattle.connection.proofs.WholeCalls.{dispatch-kept}
use Rattle.protocol.specs.declared.packet.DecodeError.TheVariants.{InvalidCommand as WordInvalid, InvalidMagic as MagicInvalid, PayloadTooLarge as LengthTooLarge, InvalidChecksum as SumInvalid}
use Rattle.protocol.specs.declared.packet.DecodeError.{DecodeError}
use Rattle.std.specs.Prelude.{Option, Some, None, Result, Ok, Err}
use Rattle.connection.specs.declared.Answer.{Answer}

-- two outcomes that a caller can tell apart by the stores' bytes alone
pub record Same (o p : Outcome) : Type 0 where
  pub answer : o.answer ≡ p.answer
  pub used : o.used ≡ p.used
  pub frames : o.frames ≡ p.frames
  pub handed : o.handed ≡ p.handed
  pub changes : o.changes ≡ p.changes

pub same_refl : (o : Outcome) → Same o o
same_refl o = record { answer = refl; used = refl; frames = refl; handed = refl; changes = refl }

-- ---- the table

module _ (rx rx₂ : List ℕ) where
  -- two tables' parts with the same step
  abbrev Alike : Dispatched → Dispatched → Type 0
  Alike d e = d.step ≡ e.step

  wrote-by : (p : RxPolicy) (i : ℕ) (s : ChannelSlot) (remote : RemoteId) (payload : List ℕ) (r : Wrote)
      → Alike (wrote_by p i s remote payload rx r) (wrote_by p i s remote payload rx₂ r)
  unfolding wrote_by
  wrote-by p i s remote payload (Ok w) = refl
  wrote-by p i s remote payload (Err why) = refl

  both : (t : Bool) (d d₂ e e₂ : Dispatched) → Alike d d₂ → Alike e e₂ → Alike (cond t d e) (cond t d₂ e₂)
  both true d d₂ e e₂ a b = a
  both false d d₂ e e₂ a b = b

  wrote-at : (p : RxPolicy) (i : ℕ) (s : ChannelSlot) (remote : RemoteId) (payload : List ℕ) → Alike (wrote_at p i s remote payload rx) (wrote_at p i s remote payload rx₂)
  unfolding wrote_at
  wrote-at p i s remote payload = both (is_failed s.failed) _ _ _ _ refl (wrote-by p i s remote payload _)

  write-of : (p : RxPolicy) (n : ℕ) (ss : List ChannelSlot) (remote : RemoteId) (local : LocalId) (payload : List ℕ)
      → Alike (write_of p n ss remote local payload rx) (write_of p n ss remote local payload rx₂)
  unfolding write_of
  write-of p n ss remote local payload = both (ltb (place_of (Local local) n ss) n) _ _ _ _ (wrote-at p _ _ remote payload) refl

  route-of : (p : RxPolicy) (n : ℕ) (ss : List ChannelSlot) (c : Command) (a b : ℕ) (payload : List ℕ)
      → Alike (route_of p n ss c a b payload rx) (route_of p n ss c a b payload rx₂)
  unfolding route_of
  route-of p n ss Connect a b payload = refl
  route-of p n ss Auth a b payload = refl
  route-of p n ss StartTls a b payload = refl
  route-of p n ss Open a b payload = refl
  route-of p n ss Close a b payload = refl
  route-of p n ss Write a b payload = write-of p n ss _ _ payload
  route-of p n ss Ready a b payload = refl
  route-of p n ss Sync a b payload = refl

  table-of : (h : Header) (ss : List ChannelSlot) (p : Packet) (payload : List ℕ) → Alike (table_of h ss rx p payload) (table_of h ss rx₂ p payload)
  unfolding table_of dispatch_of
  table-of h ss p payload = route-of _ _ ss p.command p.arg0 p.arg1 payload

-- ---- acting on a packet

-- the same but for the stores
pub record ActedSame (a b : Acted) : Type 0 where
  pub fault : a.fault ≡ b.fault
  pub header : a.header ≡ b.header
  pub changes : a.changes ≡ b.changes
  pub frames : a.frames ≡ b.frames

module _ (h : Header) (queue : List QueuedOpen) (payload store store₂ : List ℕ) (d d₂ : Dispatched) (e : d.step ≡ d₂.step) where
  -- a push decides by the queue alone
  pushes_same : (remote : RemoteId) (credit : ℕ)
      → ((pushed h queue remote credit payload store).result ≡ (pushed h queue remote credit payload store₂).result)
      × ((pushed h queue remote credit payload store).changes ≡ (pushed h queue remote credit payload store₂).changes)
  unfolding pushed
  pushes_same remote credit = either (leb h.negotiated.config.channels h.queued) _ _ _ _ (refl, refl) (refl, refl)
    where
      either : (t : Bool) (a a₂ b b₂ : PushOutcome) → (a.result ≡ a₂.result) × (a.changes ≡ a₂.changes) → (b.result ≡ b₂.result) × (b.changes ≡ b₂.changes)
          → ((cond t a b).result ≡ (cond t a₂ b₂).result) × ((cond t a b).changes ≡ (cond t a₂ b₂).changes)
      either true a a₂ b b₂ f g = f
      either false a a₂ b b₂ f g = g

  pushed-by : (remote : RemoteId) (o o₂ : PushOutcome) → o.changes ≡ o₂.changes → (r : Option Header) → ActedSame (pushed_by h store d remote o r) (pushed_by h store₂ d₂ remote o₂ r)
  unfolding pushed_by
  pushed-by remote o o₂ f (Some more) = record { fault = refl; header = refl; changes = rw (e, f) refl; frames = refl }
  pushed-by remote o o₂ f None = record { fault = refl; header = refl; changes = rw e refl; frames = refl }

  acted-by : (o : DispatchOutcome) → ActedSame (acted_by h queue payload store d o) (acted_by h queue payload store₂ d₂ o)
  unfolding acted_by
  acted-by (AckWrite i ids len) = record { fault = refl; header = refl; changes = rw e refl; frames = refl }
  acted-by (CreditGranted i) = record { fault = refl; header = refl; changes = rw e refl; frames = refl }
  acted-by (SlotClosed i) = record { fault = refl; header = refl; changes = rw e refl; frames = refl }
  acted-by (DataBuffered i) = record { fault = refl; header = refl; changes = rw e refl; frames = refl }
  acted-by (IncomingOpen remote credit) =
      let k = pushes_same remote credit in
      subst (λ (r : Option Header). ActedSame (pushed_by h store d remote (pushed h queue remote credit payload store) (pushed h queue remote credit payload store).result)
      (pushed_by h store₂ d₂ remote (pushed h queue remote credit payload store₂) r)) k.0
      (pushed-by remote _ _ k.1 (pushed h queue remote credit payload store).result)
  acted-by (CancelQueuedOpen remote) = record { fault = refl; header = refl; changes = rw e refl; frames = refl }
  acted-by (StrayReady ids) = record { fault = refl; header = refl; changes = rw e refl; frames = refl }
  acted-by (ChannelFault i ids opening f) = record { fault = refl; header = refl; changes = rw e refl; frames = refl }
  acted-by Unmatched = record { fault = refl; header = refl; changes = rw e refl; frames = refl }

pub act-same : (h : Header) (ss : List ChannelSlot) (queue : List QueuedOpen) (rx store rx₂ store₂ : List ℕ) (p : Packet) (payload : List ℕ)
    → ActedSame (act_on h ss queue rx store p payload) (act_on h ss queue rx₂ store₂ p payload)
unfolding act_on
act-same h ss queue rx store rx₂ store₂ p payload =
    let d = table_of h ss rx p payload in
    let d₂ = table_of h ss rx₂ p payload in
    let e = table-of rx rx₂ h ss p payload in
    subst (λ (o : DispatchOutcome). ActedSame (acted_by h queue payload store d d.step.result) (acted_by h queue payload store₂ d₂ o))
    (ap (λ (s : Step DispatchOutcome). s.result) e) (acted-by h queue payload store store₂ d d₂ e d.step.result)

-- ---- the call

-- the step's: of stores of any lengths
module _ (l l₂ : Lent) (e : l.state ≡ l₂.state) where
  dispatch-by : (h : Header) (received : List ℕ) (r : Result Packet (Answer × ℕ)) → Same (dispatch_by l h received r) (dispatch_by l₂ h received r)
  unfolding dispatch_by ends
  dispatch-by h received (Err (a, used)) = record { answer = refl; used = refl; frames = refl; handed = refl; changes = refl }
  dispatch-by h received (Ok p) =
      let k = acts in
      record {
        answer = rw k.fault refl;
        used = refl;
        frames = rw k.frames refl;
        handed = refl;
        changes = rw (k.changes, k.header) refl;
      }
    where
      acts : ActedSame (act_on h l.state.slots l.state.queue l.rx l.store p (body_of received p)) (act_on h l₂.state.slots l₂.state.queue l₂.rx l₂.store p (body_of received p))
      acts =
          subst (λ (c : Connection). ActedSame (act_on h l.state.slots l.state.queue l.rx l.store p (body_of received p)) (act_on h c.slots c.queue l₂.rx l₂.store p (body_of received p)))
          e (act-same h l.state.slots l.state.queue l.rx l.store l₂.rx l₂.store p (body_of received p))

  pub step_same : (received : List ℕ) → Same (dispatch_step l received) (dispatch_step l₂ received)
  unfolding dispatch_step received_of
  step_same received =
      subst (λ (c : Connection). Same (dispatch_step l received) (dispatch_by l₂ (dropped c.header) received (received_of (record { state = c; rx = l₂.rx; store = l₂.store }) received)))
      e (dispatch-by (dropped l.state.header) received (received_of l received))

same_cond : (t : Bool) (o o₂ p p₂ : Outcome) → Same o o₂ → Same p p₂ → Same (cond t o p) (cond t o₂ p₂)
same_cond true o o₂ p p₂ f g = f
same_cond false o o₂ p p₂ f g = g

-- the call's: of stores of the same lengths
module _ (l l₂ : Lent) (e : l.state ≡ l₂.state) (a : length l.rx ≡ length l₂.rx) (b : length l.store ≡ length l₂.store) where
  fits-same : stores_fit l.state.header.negotiated.config (length l.rx) (length l.store) ≡ stores_fit l₂.state.header.negotiated.config (length l₂.rx) (length l₂.store)
  fits-same =
      ap (λ (c : Connection). stores_fit c.header.negotiated.config (length l.rx) (length l.store)) e
      ∙ ap (λ (n : ℕ). stores_fit l₂.state.header.negotiated.config n (length l.store)) a
      ∙ ap (λ (n : ℕ). stores_fit l₂.state.header.negotiated.config (length l₂.rx) n) b

  refused-same : (r : Refusal) → Same (untouched l r) (untouched l₂ r)
  refused-same r = record { answer = refl; used = refl; frames = refl; handed = refl; changes = refl }

  pub dispatch-same : (whole : Bool) (out : ℕ) (received : List ℕ) → Same (dispatch_outcome whole l out received) (dispatch_outcome whole l₂ out received)
  unfolding dispatch_outcome checked_out checked
  dispatch-same whole out received =
      let t = stores_fit l.state.header.negotiated.config (length l.rx) (length l.store) in
      let inner = same_cond (ltb out 56) _ _ _ _ (refused-same OutShort) (step_same l l₂ e received) in
      same_cond whole _ _ _ _
      (subst (λ (u : Bool). Same (cond t (cond (ltb out 56) (untouched l OutShort) (dispatch_step l received)) (untouched l StoreShort))
      (cond u (cond (ltb out 56) (untouched l₂ OutShort) (dispatch_step l₂ received)) (untouched l₂ StoreShort))) fits-same
      (same_cond t _ _ _ _ inner (refused-same StoreShort)))
      (refused-same BrokenState)

-- ---- what lasts from dispatch to dispatch, whatever bytes are lent as a state

-- bytes that are the layout of a whole state, and some behind it
pub record Holds (b : List ℕ) : Type 0 where
  pub rest : List ℕ
  pub is-layout : b ≡ layout (state_of b) ++ rest
  pub facts : Whole (state_of b).header.negotiated (state_of b).header (state_of b).slots (state_of b).queue

-- bytes that pass for a whole state are one
abbrev pub Sound : List ℕ → Type 0
Sound b = is_whole b ≡ true → Holds b

pub bytes-sound : (b : List ℕ) → Bytes b → Sound b
unfolding is_whole
bytes-sound b y t =
    let k = and-true (is_state b) (whole (state_of b)) t in
    record { rest = drop state_len b; is-layout = sym (state-split b y k.0); facts = whole-facts (state_of b) (state-fits b y) k.1 }

holds-layout : (n : Negotiated) (d : Connection) (r : List ℕ) → Whole n d.header d.slots d.queue → Holds (layout d ++ r)
holds-layout n d r g =
    let z : state_of (layout d ++ r) ≡ d = state-forth d r (whole-fits n d g) in
    record {
      rest = r;
      is-layout = ap (λ (x : Connection). layout x ++ r) (sym z);
      facts = subst (λ (x : Connection). Whole x.header.negotiated x.header x.slots x.queue) (sym z) (whole-own n d.header d.slots d.queue g);
    }

-- both stores keep their lengths, and the next dispatch may go on from the state
pub record Lasting (state rx store : List ℕ) (o : Outcome) : Type 0 where
  pub rx-length : length o.rx ≡ length rx
  pub store_length : length o.store ≡ length store
  pub sound : Sound (put_all state o.changes)

module _ (state rx store : List ℕ) (out : ℕ) (received : List ℕ) (y : Sound state) (z : Bytes received) where
  abbrev lends : Lent
  lends = record { state = state_of state; rx = rx; store = store }

  by_whole : (t : Bool) → is_whole state ≡ t → Lasting state rx store (checked_out t lends out (dispatch_step lends received))
  unfolding checked_out checked
  by_whole true t =
      let h = y t in
      let g = h.facts in
      let n = (state_of state).header.negotiated in
      let o = checked_out true lends out (dispatch_step lends received) in
      let k = checked-out-kept lends g out (dispatch_step lends received) (λ u. dispatch-kept lends g (long _ _ _ u) received z) in
      let e : put_all state o.changes ≡ layout (changed_all (state_of state) o.changes) ++ h.rest =
      ap (λ (b : List ℕ). put_all b o.changes) h.is-layout ∙ changes-layout (state_of state) h.rest o.changes (whole-full n (state_of state) g) k.within in
      record {
        rx-length = k.rx-length;
        store_length = k.store_length;
        sound = λ u. subst Holds (sym e) (holds-layout n (changed_all (state_of state) o.changes) h.rest k.facts);
      }
  by_whole false t = record { rx-length = refl; store_length = refl; sound = y }

  pub dispatch-lasting : Lasting state rx store (dispatch_outcome (is_whole state) lends out received)
  unfolding dispatch_outcome
  dispatch-lasting = by_whole (is_whole state) refl

-- ---- a dispatch that is done uses no more than it was lent

module _ (l : Lent) (received : List ℕ) where
  abbrev Ends : Result Packet (Answer × ℕ) → Type 0
  Ends (Ok p) = frame_len p ≤ length received
  Ends (Err (a, used)) = answer_number a ≡ 0 → ⊥

  stops : (d : Result (Option Packet) DecodeError) → d ≡ decode_of received l.state.header.negotiated.config.max_payload → Ends (received_by d)
  unfolding received_by answer_number
  stops (Ok None) e = λ t. omega arith
  stops (Err (WordInvalid word)) e = λ t. omega arith
  stops (Err MagicInvalid) e = λ t. omega arith
  stops (Err LengthTooLarge) e = λ t. omega arith
  stops (Err (SumInvalid used)) e = λ t. omega arith
  stops (Ok (Some p)) e = (packet-room received _ (Ok p) p (ap received_by e) refl).whole

  used-by : (r : Result Packet (Answer × ℕ)) → Ends r → answer_number (dispatch_by l (dropped l.state.header) received r).answer ≡ 0 → (dispatch_by l (dropped l.state.header) received r).used ≤ length received
  unfolding dispatch_by ends
  used-by (Err (a, used)) f t = absurd (f t)
  used-by (Ok p) f t = f

  abbrev Within : Outcome → Type 0
  Within o = answer_number o.answer ≡ 0 → o.used ≤ length received

  pub used-within : (whole : Bool) (out : ℕ) → answer_number (dispatch_outcome whole l out received).answer ≡ 0 → (dispatch_outcome whole l out received).used ≤ length received
  unfolding dispatch_outcome checked_out checked dispatch_step received_of
  used-within whole out =
      pick Within whole
      (λ t. pick Within (stores_fit l.state.header.negotiated.config (length l.rx) (length l.store))
      (λ u. pick Within (ltb out 56) (λ v. λ e. omega arith) (λ v. used-by (received_of l received) (stops _ refl)))
      (λ u. λ e. omega arith)) (λ t. λ e. omega arith)
