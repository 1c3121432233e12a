-- What `act_on` promises, by what the table told of the packet. Assumes nothing.
use mathlib.Core.Path.{◌≡◌, refl, sym, ap, subst, ◌∙◌}
use mathlib.Core.Bool.{Bool, true, false, true≢false}
use mathlib.Core.List.{List, [], ◌∷◌, ◌++◌}
use Prim.Native.Nat.{ℕ, ◌+◌, ◌≤◌}
use native.Mathlib.Omega.{arith}
use lib.Dec.{eqb, ltb, leb}
use lib.ListN.{length}
use Rattle.config.specs.declared.negotiated.RxPolicy.{RxPolicy}
use Rattle.config.specs.Negotiated.{policy_of}
use Rattle.incoming.specs.Incoming.{PushOutcome, Pushes, pushed, withdrawal}
use Rattle.protocol.specs.declared.command.Command.{Command}
use Rattle.protocol.specs.declared.packet.Packet.{Packet}
use Rattle.protocol.specs.Packet.{Puts}
use Rattle.slot.specs.declared.ChannelSlot.{ChannelSlot}
use Rattle.slot.specs.declared.ChannelFault.{ChannelFault as Fault}
use Rattle.slot.specs.declared.ids.ChannelIds.{ChannelIds}
use Rattle.slot.specs.declared.ids.RemoteId.{RemoteId}
use Rattle.slot.specs.Slot.{is_failed}
use Rattle.slot.proofs.Kept.{pick}
use Rattle.state.specs.declared.Header.{Header}
use Rattle.state.specs.declared.QueuedOpen.{QueuedOpen}
use Rattle.state.specs.Change.{Change, put_all, Step, Steps}
use Rattle.le.specs.Rows.{flat}
use Rattle.state.specs.State.{state_of}
use Rattle.table_dispatch.specs.declared.DispatchOutcome.{DispatchOutcome}
use Rattle.table_dispatch.specs.declared.DispatchOutcome.TheVariants.{AckWrite, CreditGranted, SlotClosed, DataBuffered, IncomingOpen, CancelQueuedOpen, StrayReady, ChannelFault, Unmatched}
use Rattle.table.specs.declared.Want.TheVariants.{Local}
use Rattle.table.specs.Table.{place_of, slot_in}
use Rattle.slot.specs.Wrote.{Wrote}
use Rattle.table_dispatch.specs.Dispatch.{stored, buffered_at, remote_place, closed_at, close_of, granted, ready_at, grant_of, Dispatched, wrote_by, wrote_at, write_of, route_of, dispatch_of, Dispatches}
use Rattle.table_dispatch.proofs.RouteLaws.{by-route}
use Rattle.call.specs.declared.act.ActedOn.{ActedOn}
use Rattle.connection.specs.Act.{Acted, tabled, pushed_by, acted_by, table_of, act_on}
use Rattle.connection.specs.Frames.{Frame, okay_frame, close_frame, frames_bytes, frame_bytes}
use Rattle.call.specs.Promise.{ActsOn}
use Rattle.call.proofs.FrameLaws.{okay-short, close-short, puts_none, puts_one, one-frame}
use Rattle.std.specs.Prelude.{Option, Some, None, Result, Ok, Err}
use Rattle.credit.specs.declared.CreditFault.{CreditFault}

-- ---- what goes to the queue changes no slot

abbrev queues : DispatchOutcome → Bool
queues (AckWrite i ids len) = false
queues (CreditGranted i) = false
queues (SlotClosed i) = false
queues (DataBuffered i) = false
queues (IncomingOpen remote credit) = true
queues (CancelQueuedOpen remote) = true
queues (StrayReady ids) = false
queues (ChannelFault i ids opening f) = false
queues Unmatched = false

abbrev Quiet : Step DispatchOutcome → Type 0
Quiet x = queues x.result ≡ true → x.changes ≡ []

module _ (p : RxPolicy) (n : ℕ) (ss : List ChannelSlot) where
  quiet-closed : (i : ℕ) (other : DispatchOutcome) → Quiet (closed_at i n ss other)
  unfolding closed_at
  quiet-closed i other = pick Quiet (ltb i n) (λ t e. absurd (true≢false (sym e))) (λ t e. refl)

  quiet-granted : (i : ℕ) (s : ChannelSlot) (remote : RemoteId) (r : Result ChannelSlot CreditFault) → Quiet (granted i s remote r)
  unfolding granted
  quiet-granted i s remote (Ok t) e = absurd (true≢false (sym e))
  quiet-granted i s remote (Err f) e = refl

  quiet-kept : (i : ℕ) (s t : ChannelSlot) (due : Option ℕ) → Quiet (stored (buffered_at i s due) i t)
  quiet-kept i s t (Some len) e = absurd (true≢false (sym e))
  quiet-kept i s t None e = absurd (true≢false (sym e))

  quiet-wrote : (i : ℕ) (s : ChannelSlot) (remote : RemoteId) (payload rx : List ℕ) (r : Wrote) → Quiet (wrote_by p i s remote payload rx r).step
  unfolding wrote_by
  quiet-wrote i s remote payload rx (Ok w) e = quiet-kept i s w.slot w.ack e
  quiet-wrote i s remote payload rx (Err why) e = refl

  quiet-route : (c : Command) (a b : ℕ) (payload rx : List ℕ) → Quiet (route_of p n ss c a b payload rx).step
  unfolding close_of write_of wrote_at grant_of ready_at
  quiet-route c a b payload rx =
      let i = place_of (Local (record { 0 = b })) n ss in
      let Q : Dispatched → Type 0 = λ d. Quiet d.step in
      by-route p n ss a b payload rx (λ c d. Quiet d.step) (λ c h e. refl) (λ e. refl)
      (pick Quiet (eqb b 0) (λ t. quiet-closed (remote_place n ss (record { 0 = a })) _) (λ t. quiet-closed i _))
      (pick Q (ltb i n)
      (λ t. pick Q (is_failed (slot_in ss i).failed) (λ u e. refl) (λ u. quiet-wrote i (slot_in ss i) (record { 0 = a }) payload rx _))
      (λ t e. refl))
      (pick Quiet (ltb i n)
      (λ t. pick Quiet (is_failed (slot_in ss i).failed) (λ u e. refl) (λ u. quiet-granted i (slot_in ss i) (record { 0 = a }) _))
      (λ t e. refl)) c

-- ---- an OPEN that is refused

abbrev is_full : Option Header → Bool
is_full (Some more) = false
is_full None = true

full-leaves : (h : Header) (queue : List QueuedOpen) (remote : RemoteId) (credit : ℕ) (payload store : List ℕ) → is_full (pushed h queue remote credit payload store).result ≡ true
    → ((pushed h queue remote credit payload store).changes ≡ []) × ((pushed h queue remote credit payload store).store ≡ store)
unfolding pushed
full-leaves h queue remote credit payload store =
    pick (λ (x : PushOutcome). is_full x.result ≡ true → (x.changes ≡ []) × (x.store ≡ store)) (leb h.negotiated.config.channels h.queued)
    (λ t e. (refl, refl)) (λ t e. absurd (true≢false (sym e)))

-- ---- what is promised

module _ (h : Header) (b rx store payload out : List ℕ) (at : ℕ) (p : Packet) (pol : RxPolicy) (o : DispatchOutcome) (b₁ rx₁ : List ℕ) (same : pol ≡ policy_of h.negotiated)
    (told : Dispatches (dispatch_of pol h.negotiated.config.channels (state_of b).slots p payload rx) b o b₁ rx₁) where
  abbrev queue : List QueuedOpen
  queue = (state_of b).queue

  abbrev d : Dispatched
  d = table_of h (state_of b).slots rx p payload

  abbrev acted : Acted
  acted = act_on h (state_of b).slots queue rx store p payload

  table-told : Dispatches d b o b₁ rx₁
  unfolding table_of
  table-told = subst (λ (q : RxPolicy). Dispatches (dispatch_of q h.negotiated.config.channels (state_of b).slots p payload rx) b o b₁ rx₁) same told

  acted-is : acted ≡ acted_by h queue payload store d o
  unfolding act_on
  acted-is = ap (acted_by h queue payload store d) (sym table-told.steps.result-is)

  -- what the table changed, and these frames
  acts-tabled : (f : Option Fault) (fs : List Frame) (r : ActedOn) (end : ℕ) (out' : List ℕ) → acted_by h queue payload store d o ≡ tabled f h store d fs
      → r ≡ record { fault = f; header = h; end = end } → Puts out at (frames_bytes h.negotiated fs) end out' → at + length (frames_bytes h.negotiated fs) ≤ length out
      → ActsOn h.negotiated acted at b out r b₁ rx₁ store out'
  acts-tabled f fs r end out' e g q k =
      let s = table-told.steps.state-is in
      let x = table-told.rx-is in
      let z = q.end_is in
      let y = q.out-is in
      subst (λ (a : Acted). ActsOn h.negotiated a at b out r b₁ rx₁ store out') (sym (acted-is ∙ e))
      (record {
        fault-is = ap (λ (t : ActedOn). t.fault) g;
        header_is = ap (λ (t : ActedOn). t.header) g;
        end_is = ap (λ (t : ActedOn). t.end) g ∙ z;
        state-is = s;
        rx-is = x;
        store_is = refl;
        out-is = y;
        out-fits = k;
      })

  -- with one frame
  acts-frame : (frame : Frame) (r : ActedOn) (end : ℕ) (out' : List ℕ) → acted_by h queue payload store d o ≡ tabled None h store d (frame ∷ [])
      → r ≡ record { fault = None; header = h; end = end } → Puts out at (frame_bytes h.negotiated frame) end out' → at + length (frame_bytes h.negotiated frame) ≤ length out
      → ActsOn h.negotiated acted at b out r b₁ rx₁ store out'
  acts-frame frame r end out' e g q k =
      acts-tabled None (frame ∷ []) r end out' e g (puts_one h.negotiated frame out out' at end q)
      (subst (λ (x : List ℕ). at + length x ≤ length out) (sym (one-frame h.negotiated frame)) k)

  -- with none
  acts-silent : (f : Option Fault) (r : ActedOn) → acted_by h queue payload store d o ≡ tabled f h store d [] → r ≡ record { fault = f; header = h; end = at } → at ≤ length out
      → ActsOn h.negotiated acted at b out r b₁ rx₁ store out
  unfolding frames_bytes flat
  acts-silent f r e g k = acts-tabled f [] r at out e g (puts_none h.negotiated out at) (omega arith)

  -- a WRTE that is acknowledged at once
  pub acts-okay : (i : ℕ) (ids : ChannelIds) (len : ℕ) (r : ActedOn) (end : ℕ) (out' : List ℕ) → o ≡ AckWrite i ids len → r ≡ record { fault = None; header = h; end = end }
      → Puts out at (frame_bytes h.negotiated (okay_frame ids len)) end out' → at + 28 ≤ length out → ActsOn h.negotiated acted at b out r b₁ rx₁ store out'
  unfolding acted_by
  acts-okay i ids len r end out' e g q k =
      let l = okay-short h.negotiated ids len in
      acts-frame (okay_frame ids len) r end out' (ap (acted_by h queue payload store d) e) g q (omega arith)

  -- a stray OKAY
  pub acts-stray : (ids : ChannelIds) (r : ActedOn) (end : ℕ) (out' : List ℕ) → o ≡ StrayReady ids → r ≡ record { fault = None; header = h; end = end }
      → Puts out at (frame_bytes h.negotiated (close_frame ids)) end out' → at + 28 ≤ length out → ActsOn h.negotiated acted at b out r b₁ rx₁ store out'
  unfolding acted_by
  acts-stray ids r end out' e g q k =
      let l = close-short h.negotiated ids in
      acts-frame (close_frame ids) r end out' (ap (acted_by h queue payload store d) e) g q (omega arith)

  -- a fault
  pub acts-fault : (i : ℕ) (ids : ChannelIds) (opening : Bool) (f : Fault) (r : ActedOn) → o ≡ ChannelFault i ids opening f → r ≡ record { fault = Some f; header = h; end = at }
      → at + 28 ≤ length out → ActsOn h.negotiated acted at b out r b₁ rx₁ store out
  unfolding acted_by
  acts-fault i ids opening f r e g k = acts-silent (Some f) r (ap (acted_by h queue payload store d) e) g (omega arith)

  -- what the table did is all
  pub acts-none : (x : DispatchOutcome) (r : ActedOn) → o ≡ x → acted_by h queue payload store d x ≡ tabled None h store d [] → r ≡ record { fault = None; header = h; end = at }
      → at + 28 ≤ length out → ActsOn h.negotiated acted at b out r b₁ rx₁ store out
  acts-none x r e z g k = acts-silent None r (ap (acted_by h queue payload store d) e ∙ z) g (omega arith)

  no_slot : queues o ≡ true → b₁ ≡ b
  unfolding table_of dispatch_of
  no_slot q =
      let c = quiet-route (policy_of h.negotiated) h.negotiated.config.channels (state_of b).slots p.command p.arg0 p.arg1 payload rx in
      table-told.steps.state-is ∙ ap (put_all b) (c (ap queues (sym table-told.steps.result-is) ∙ q))

  none-changed : queues o ≡ true → d.step.changes ≡ []
  unfolding table_of dispatch_of
  none-changed q =
      quiet-route (policy_of h.negotiated) h.negotiated.config.channels (state_of b).slots p.command p.arg0 p.arg1 payload rx
      (ap queues (sym table-told.steps.result-is) ∙ q)

  -- an OPEN is queued
  pub acts-queued : (remote : RemoteId) (credit : ℕ) (res : Option Header) (more : Header) (r : ActedOn) (b₂ store₂ : List ℕ) → o ≡ IncomingOpen remote credit → res ≡ Some more
      → Pushes (pushed h (state_of b₁).queue remote credit payload store) b₁ res b₂ store₂ → r ≡ record { fault = None; header = more; end = at } → at + 28 ≤ length out
      → ActsOn h.negotiated acted at b out r b₂ rx₁ store₂ out
  unfolding acted_by pushed_by frames_bytes flat
  acts-queued remote credit res more r b₂ store₂ e f q g k =
      let z = no_slot (ap queues e) in
      let w : Pushes (pushed h queue remote credit payload store) b (Some more) b₂ store₂ =
      subst (λ (x : List ℕ). Pushes (pushed h (state_of x).queue remote credit payload store) x (Some more) b₂ store₂) z
      (subst (λ (x : Option Header). Pushes (pushed h (state_of b₁).queue remote credit payload store) b₁ x b₂ store₂) f q) in
      let c = none-changed (ap queues e) in
      let push = pushed h queue remote credit payload store in
      let x = table-told.rx-is in
      let n = puts_none h.negotiated out at in
      subst (λ (a : Acted). ActsOn h.negotiated a at b out r b₂ rx₁ store₂ out)
      (sym (acted-is ∙ ap (acted_by h queue payload store d) e ∙ ap (pushed_by h store d remote push) (sym w.result-is)))
      (record {
        fault-is = ap (λ (t : ActedOn). t.fault) g;
        header_is = ap (λ (t : ActedOn). t.header) g;
        end_is = ap (λ (t : ActedOn). t.end) g ∙ n.end_is;
        state-is = w.state-is ∙ ap (λ (xs : List Change). put_all b (xs ++ push.changes)) (sym c);
        rx-is = x;
        store_is = w.store_is;
        out-is = n.out-is;
        out-fits = omega arith;
      })

  -- an OPEN is refused by a CLSE
  pub acts-full : (remote : RemoteId) (credit : ℕ) (res : Option Header) (r : ActedOn) (b₂ store₂ : List ℕ) (end : ℕ) (out' : List ℕ) → o ≡ IncomingOpen remote credit → res ≡ None
      → Pushes (pushed h (state_of b₁).queue remote credit payload store) b₁ res b₂ store₂ → r ≡ record { fault = None; header = h; end = end }
      → Puts out at (frame_bytes h.negotiated (close_frame (record { local = record { 0 = 0 }; remote = remote }))) end out' → at + 28 ≤ length out
      → ActsOn h.negotiated acted at b out r b₂ rx₁ store₂ out'
  unfolding acted_by pushed_by
  acts-full remote credit res r b₂ store₂ end out' e f q₀ g p k =
      let q : Pushes (pushed h (state_of b₁).queue remote credit payload store) b₁ None b₂ store₂ =
      subst (λ (x : Option Header). Pushes (pushed h (state_of b₁).queue remote credit payload store) b₁ x b₂ store₂) f q₀ in
      let push = pushed h (state_of b₁).queue remote credit payload store in
      let none = full-leaves h (state_of b₁).queue remote credit payload store (ap is_full (sym q.result-is)) in
      let same-state : b₂ ≡ b₁ = q.state-is ∙ ap (put_all b₁) none.0 in
      let same_store : store₂ ≡ store = q.store_is ∙ none.1 in
      let z = no_slot (ap queues e) in
      let w = ap (λ (x : List ℕ). pushed h (state_of x).queue remote credit payload store) z in
      let l = close-short h.negotiated (record { local = record { 0 = 0 }; remote = remote }) in
      subst (λ (x : List ℕ). ActsOn h.negotiated acted at b out r x rx₁ store₂ out') (sym same-state)
      (subst (λ (x : List ℕ). ActsOn h.negotiated acted at b out r b₁ rx₁ x out') (sym same_store)
      (acts-frame (close_frame (record { local = record { 0 = 0 }; remote = remote })) r end out'
      (ap (acted_by h queue payload store d) e ∙ ap (pushed_by h store d remote (pushed h queue remote credit payload store)) (ap (λ (x : PushOutcome). x.result) (sym w) ∙ sym q.result-is))
      g p (omega arith)))

  -- those of a remote number are withdrawn
  pub acts-withdrawn : (remote : RemoteId) (r : ActedOn) (m : Header) (b₂ : List ℕ) → o ≡ CancelQueuedOpen remote
      → Steps (withdrawal h (state_of b₁).queue remote) b₁ m b₂ → r ≡ record { fault = None; header = m; end = at } → at + 28 ≤ length out
      → ActsOn h.negotiated acted at b out r b₂ rx₁ store out
  unfolding acted_by frames_bytes flat
  acts-withdrawn remote r m b₂ e q g k =
      let z = no_slot (ap queues e) in
      let w : Steps (withdrawal h queue remote) b m b₂ = subst (λ (x : List ℕ). Steps (withdrawal h (state_of x).queue remote) x m b₂) z q in
      let c = none-changed (ap queues e) in
      let x = table-told.rx-is in
      let n = puts_none h.negotiated out at in
      subst (λ (a : Acted). ActsOn h.negotiated a at b out r b₂ rx₁ store out) (sym (acted-is ∙ ap (acted_by h queue payload store d) e))
      (record {
        fault-is = ap (λ (t : ActedOn). t.fault) g;
        header_is = ap (λ (t : ActedOn). t.header) g ∙ w.result-is;
        end_is = ap (λ (t : ActedOn). t.end) g ∙ n.end_is;
        state-is = w.state-is ∙ ap (λ (xs : List Change). put_all b (xs ++ (withdrawal h queue remote).changes)) (sym c);
        rx-is = x;
        store_is = refl;
        out-is = n.out-is;
        out-fits = omega arith;
      })
