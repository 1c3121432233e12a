-- What a dispatch finds wrong with a packet, by the channel's slot. Assumes nothing.
use mathlib.Core.Path.{◌≡◌, refl, ◌∙◌}
use mathlib.Core.Bool.{true}
use mathlib.Core.List.{List}
use Prim.Native.Nat.{ℕ, ◌<◌}
use native.Mathlib.Omega.{arith}
use lib.Dec.{eqb, ltb}
use lib.ListN.{length}
use borrow.Author.Tests.{ltb-true}
use Rattle.le.proofs.Parts.{by-test}
use Rattle.config.specs.declared.negotiated.Negotiated.{Negotiated}
use Rattle.config.specs.declared.negotiated.RxPolicy.{RxPolicy}
use Rattle.config.specs.Negotiated.{policy_of}
use Rattle.credit.specs.declared.CreditFault.{CreditFault}
use Rattle.protocol.specs.declared.command.Command.{Command}
use Rattle.protocol.specs.declared.command.Command.TheVariants.{Sync, Connect, Open, Ready, Close, Write, Auth, StartTls}
use Rattle.protocol.specs.declared.packet.Packet.{Packet}
use Rattle.slot.specs.declared.ChannelFault.{ChannelFault as Fault}
use Rattle.slot.specs.declared.ChannelSlot.{ChannelSlot}
use Rattle.slot.specs.declared.ids.ChannelIds.{ChannelIds}
use Rattle.slot.specs.declared.ids.LocalId.{LocalId}
use Rattle.slot.specs.declared.ids.RemoteId.{RemoteId}
use Rattle.slot.specs.Slot.{ready_of, wrote_of}
use Rattle.slot.specs.Wrote.{Wrote}
use Rattle.slot.proofs.Kept.{pick}
use Rattle.state.specs.declared.Header.{Header}
use Rattle.state.specs.declared.QueuedOpen.{QueuedOpen}
use Rattle.state_whole.proofs.WholeLaws.{Live, Whole}
use Rattle.table.specs.declared.Want.{Want}
use Rattle.table.specs.declared.Want.TheVariants.{Local, Remote, Live as WantLive}
use Rattle.table.proofs.Laws.{live-remote as named-remote}
use Rattle.table.specs.Table.{wanted_by, place_of, below, slot_in}
use Rattle.table_dispatch.specs.declared.DispatchOutcome.{DispatchOutcome}
use Rattle.table_dispatch.specs.declared.DispatchOutcome.TheVariants.{AckWrite, CreditGranted, SlotClosed, DataBuffered, IncomingOpen, CancelQueuedOpen, StrayReady, ChannelFault, Unmatched}
use Rattle.table_dispatch.specs.Dispatch.{Dispatched, remote_place, closed_at, close_of, readied_of, granted, ready_at, stray_of, grant_of, buffered_at, wrote_by, wrote_at, write_of, route_of, dispatch_of}
use Rattle.table_dispatch.proofs.KeepLaws.{place_found, local-filled, remote-filled}
use Rattle.table_dispatch.proofs.DispatchLaws.{by-named}
use Rattle.connection.specs.Act.{pushed_by, acted_by, table_of, act_on}
use Rattle.incoming.specs.Incoming.{PushOutcome}
use Rattle.call_peek.specs.Parts.{credit_fault, write_fault, fault_of, fault_at}
use Rattle.call_peek.specs.Promise.{close_place, place_as, place_for}
use Rattle.std.specs.Prelude.{IfSome, Option, Some, None, Result, Ok, Err}

-- the fault of an outcome, if it is one
abbrev fault_in : DispatchOutcome → Option Fault
fault_in (AckWrite i ids len) = None
fault_in (CreditGranted i) = None
fault_in (SlotClosed i) = None
fault_in (DataBuffered i) = None
fault_in (IncomingOpen remote credit) = None
fault_in (CancelQueuedOpen remote) = None
fault_in (StrayReady ids) = None
fault_in (ChannelFault i ids opening f) = Some f
fault_in Unmatched = None

-- ---- acting on a packet gives its fault

module _ (h : Header) (queue : List QueuedOpen) (payload store : List ℕ) (d : Dispatched) where
  pushed-by : (remote : RemoteId) (o : PushOutcome) (r : Option Header) → (pushed_by h store d remote o r).fault ≡ None
  unfolding pushed_by
  pushed-by remote o (Some more) = refl
  pushed-by remote o None = refl

  acted-by : (o : DispatchOutcome) → (acted_by h queue payload store d o).fault ≡ fault_in o
  unfolding acted_by
  acted-by (AckWrite i ids len) = refl
  acted-by (CreditGranted i) = refl
  acted-by (SlotClosed i) = refl
  acted-by (DataBuffered i) = refl
  acted-by (IncomingOpen remote credit) = pushed-by remote _ _
  acted-by (CancelQueuedOpen remote) = refl
  acted-by (StrayReady ids) = refl
  acted-by (ChannelFault i ids opening f) = refl
  acted-by Unmatched = refl

-- ---- the slot that a packet is for

-- a slot that holds a channel
abbrev pub Found : Negotiated → List ChannelSlot → ℕ → Type 0
Found agreed ss i = Live agreed i (slot_in ss i)

module _ (h : Header) (ss : List ChannelSlot) (os : List QueuedOpen) (g : Whole h.negotiated h ss os) where
  abbrev n : ℕ
  n = h.negotiated.config.channels

  abbrev p : RxPolicy
  p = policy_of h.negotiated

  abbrev Here : ℕ → Type 0
  Here i = Found h.negotiated ss i

  -- a slot that was found holds a channel
  live-found : (w : Want) → ((s : ChannelSlot) → wanted_by w s ≡ true → s.filled ≡ true) → place_of w n ss < n → Here (place_of w n ss)
  unfolding slot_in
  live-found w f l =
      let k = g.limits.within.most-channels in
      let full = g.slots.full in
      (g.slots.each (place_of w n ss)).live (f _ (place_found w n ss (omega arith) l))

  live-local : (local : LocalId) → ltb (place_of (Local local) n ss) n ≡ true → Here (place_of (Local local) n ss)
  live-local local t = live-found (Local local) (local-filled local) (ltb-true _ n t)

  live-remote : (remote : RemoteId) → remote_place n ss remote < n → Here (remote_place n ss remote)
  unfolding remote_place
  live-remote remote =
      pick (λ (i : ℕ). i < n → Here i) (eqb remote.0 0) (λ t l. absurd (omega arith))
      (λ t. by-named n ss remote (λ (i : ℕ). i < n → Here i)
      (λ _. live-found (WantLive remote) (λ s e. remote-filled remote s (named-remote remote s e))) (live-found (Remote remote) (remote-filled remote)))

  below-live : (i : ℕ) → (i < n → Here i) → IfSome (below n i) Here
  unfolding below
  below-live i f = by-test (ltb i n) (λ t. rw t (f (ltb-true i n t))) (λ t. rw t tt)

  place-as : (ids : ChannelIds) (c : Command) → IfSome (place_as n ss ids c) Here
  unfolding place_as close_place
  place-as ids Ready = below-live _ (live-found (Local ids.local) (local-filled ids.local))
  place-as ids Write = below-live _ (live-found (Local ids.local) (local-filled ids.local))
  place-as ids Close =
      pick (λ (r : Option ℕ). IfSome r Here) (eqb ids.local.0 0) (λ t. below-live _ (live-remote ids.remote))
      (λ t. below-live _ (live-found (Local ids.local) (local-filled ids.local)))
  place-as ids Sync = tt
  place-as ids Connect = tt
  place-as ids Open = tt
  place-as ids Auth = tt
  place-as ids StartTls = tt

  -- so the one that a packet is for
  pub place-live : (q : Packet) → IfSome (place_for n ss q) (Found h.negotiated ss)
  unfolding place_for
  place-live q = place-as _ q.command

  -- ---- what is wrong with a packet

  -- CLSE
  closed-at : (i : ℕ) (other : DispatchOutcome) → fault_in other ≡ None → fault_in (closed_at i n ss other).result ≡ None
  unfolding closed_at
  closed-at i other e =
      by-test (ltb i n) (λ t. rw t refl) (λ t. rw t e)

  close-of : (remote : RemoteId) (local : LocalId) → fault_in (close_of n ss remote local).result ≡ None
  unfolding close_of
  close-of remote local =
      by-test (eqb local.0 0) (λ t. rw t (closed-at (remote_place n ss remote) (CancelQueuedOpen remote) refl))
      (λ t. rw t (closed-at (place_of (Local local) n ss) Unmatched refl))

  -- OKAY
  granted-of : (i : ℕ) (s : ChannelSlot) (remote : RemoteId) (r : Result ChannelSlot CreditFault) → fault_in (granted i s remote r).result ≡ credit_fault r
  unfolding granted credit_fault
  granted-of i s remote (Ok t) = refl
  granted-of i s remote (Err f) = refl

  ready-at : (i : ℕ) (s : ChannelSlot) (remote : RemoteId) (payload : List ℕ) → Live h.negotiated i s
      → fault_in (ready_at p i s remote payload).result ≡ credit_fault (ready_of s payload p)
  unfolding ready_at readied_of
  ready-at i s remote payload v = rw (v.failed, v.opening) (granted-of i s remote (ready_of s payload p))

  stray-of : (remote : RemoteId) (local : LocalId) → fault_in (stray_of remote local) ≡ None
  unfolding stray_of
  stray-of remote local = by-test (eqb remote.0 0) (λ t. rw t refl) (λ t. by-test (eqb local.0 0) (λ u. rw (t, u) refl) (λ u. rw (t, u) refl))

  grant-of : (remote : RemoteId) (local : LocalId) (payload : List ℕ)
      → fault_in (grant_of p n ss remote local payload).result ≡ fault_at p ss Ready payload (below n (place_of (Local local) n ss))
  unfolding grant_of below fault_at fault_of
  grant-of remote local payload =
      let i = place_of (Local local) n ss in
      by-test (ltb i n) (λ t. rw t (ready-at i (slot_in ss i) remote payload (live-local local t))) (λ t. rw t (stray-of remote local))

  -- WRTE
  buffered-at : (i : ℕ) (s : ChannelSlot) (a : Option ℕ) → fault_in (buffered_at i s a) ≡ None
  buffered-at i s (Some len) = refl
  buffered-at i s None = refl

  wrote-by : (i : ℕ) (s : ChannelSlot) (remote : RemoteId) (payload rx : List ℕ) (r : Wrote)
      → fault_in (wrote_by p i s remote payload rx r).step.result ≡ write_fault r
  unfolding wrote_by write_fault
  wrote-by i s remote payload rx (Ok w) = buffered-at i s w.ack
  wrote-by i s remote payload rx (Err f) = refl

  wrote-at : (i : ℕ) (s : ChannelSlot) (remote : RemoteId) (payload rx : List ℕ) → Live h.negotiated i s
      → fault_in (wrote_at p i s remote payload rx).step.result ≡ write_fault (wrote_of s p (length payload))
  unfolding wrote_at
  wrote-at i s remote payload rx v = rw v.failed (wrote-by i s remote payload rx (wrote_of s p (length payload)))

  write-of : (remote : RemoteId) (local : LocalId) (payload rx : List ℕ)
      → fault_in (write_of p n ss remote local payload rx).step.result ≡ fault_at p ss Write payload (below n (place_of (Local local) n ss))
  unfolding write_of below fault_at fault_of
  write-of remote local payload rx =
      let i = place_of (Local local) n ss in
      by-test (ltb i n) (λ t. rw t (wrote-at i (slot_in ss i) remote payload rx (live-local local t))) (λ t. rw t refl)

  -- the other kinds have none
  closes : (payload : List ℕ) (place : Option ℕ) → None ≡ fault_at p ss Close payload place
  unfolding fault_at fault_of
  closes payload (Some i) = refl
  closes payload None = refl

  route-of : (c : Command) (a b : ℕ) (payload rx : List ℕ)
      → fault_in (route_of p n ss c a b payload rx).step.result
      ≡ fault_at p ss c payload (place_as n ss (record { local = record { 0 = b }; remote = record { 0 = a } }) c)
  unfolding route_of place_as fault_at
  route-of Sync a b payload rx = refl
  route-of Connect a b payload rx = refl
  route-of Open a b payload rx = refl
  route-of Auth a b payload rx = refl
  route-of StartTls a b payload rx = refl
  route-of Ready a b payload rx = grant-of (record { 0 = a }) (record { 0 = b }) payload
  route-of Write a b payload rx = write-of (record { 0 = a }) (record { 0 = b }) payload rx
  route-of Close a b payload rx = close-of (record { 0 = a }) (record { 0 = b }) ∙ closes payload _

  -- what `act_on` finds wrong, whatever the stores and whatever is pending
  pub act-fault : (k : Header) → k.negotiated ≡ h.negotiated → (queue : List QueuedOpen) (rx store payload : List ℕ) (q : Packet)
      → (act_on k ss queue rx store q payload).fault ≡ fault_at p ss q.command payload (place_for n ss q)
  unfolding act_on table_of dispatch_of place_for
  act-fault k e queue rx store payload q =
      acted-by k queue payload store _ _ ∙ rw e (route-of q.command q.arg0 q.arg1 payload rx)
