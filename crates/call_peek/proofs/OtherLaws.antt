-- A dispatch changes no slot but that of the channel that its packet is for. Assumes nothing.
use mathlib.Core.Path.{◌≡◌, refl, sym, ap, ◌∙◌}
use mathlib.Core.Bool.{Bool, true, false, cond}
use mathlib.Core.List.{List, [], ◌∷◌}
use Prim.Native.Nat.{ℕ}
use lib.Dec.{eqb, ltb, leb}
use lib.ListN.{length, set}
use borrow.Author.Tests.{eq-eqb}
use Rattle.le.proofs.RowLaws.{Every, every_append, never}
use Rattle.config.specs.declared.negotiated.RxPolicy.{RxPolicy}
use Rattle.credit.specs.declared.CreditFault.{CreditFault}
use Rattle.incoming.specs.Incoming.{PushOutcome, pushed, withdrawal}
use Rattle.protocol.specs.declared.command.Command.{Command}
use Rattle.protocol.specs.declared.command.Command.TheVariants.{Sync, Connect, Open, Ready, Close, Write, Auth, StartTls}
use Rattle.protocol.specs.declared.packet.Packet.{Packet}
use Rattle.slot.specs.declared.ChannelSlot.{ChannelSlot}
use Rattle.slot.specs.declared.ids.ChannelIds.{ChannelIds}
use Rattle.slot.specs.declared.ids.LocalId.{LocalId}
use Rattle.slot.specs.declared.ids.RemoteId.{RemoteId}
use Rattle.slot.specs.Slot.{is_failed, wrote_of}
use Rattle.slot.specs.Wrote.{Wrote}
use Rattle.slot.proofs.Kept.{pick}
use Rattle.slot.proofs.Laws.{cond-true}
use Rattle.state.specs.Change.{Step, Change, slot_to, header_to, queued_to, queue_to, changed_all}
use Rattle.state.specs.State.{Connection}
use Rattle.state.specs.declared.Header.{Header}
use Rattle.state.specs.declared.PendingOpen.{PendingOpen}
use Rattle.state.specs.declared.QueuedOpen.{QueuedOpen}
use Rattle.table.specs.declared.Want.TheVariants.{Local}
use Rattle.table.specs.Table.{place_of, below, slot_in}
use Rattle.table_dispatch.specs.declared.DispatchOutcome.{DispatchOutcome}
use Rattle.table_dispatch.specs.declared.DispatchOutcome.TheVariants.{AckWrite, CreditGranted, SlotClosed, DataBuffered, IncomingOpen, CancelQueuedOpen, StrayReady, ChannelFault, Unmatched}
use Rattle.table_dispatch.specs.Dispatch.{Dispatched, remote_place, closed_at, close_of, readied_of, granted, ready_at, grant_of, wrote_by, wrote_at, write_of, route_of, dispatch_of}
use Rattle.connection.specs.Act.{pushed_by, acted_by, table_of, act_on}
use Rattle.connection.proofs.Slots.{slots_by, slots-by, slot-set-other}
use Rattle.call_peek.specs.Promise.{close_place, place_as, place_for, channel_or_open, is_at}
use Rattle.std.specs.Prelude.{Option, Some, None, Result, Ok, Err}

-- a change is of no slot, or of this one
abbrev pub Only : Option ℕ → Change → Type 0
Only place (slot_to i s) = place ≡ Some i
Only place (header_to h) = Unit {0}
Only place (queued_to i q) = Unit {0}
Only place (queue_to qs) = Unit {0}

-- ---- the table's changes

module _ (p : RxPolicy) (n : ℕ) (ss : List ChannelSlot) where
  below-is : (i : ℕ) → ltb i n ≡ true → below n i ≡ Some i
  unfolding below
  below-is i t = cond-true (ltb i n) _ _ t

  closed-at : (i : ℕ) (other : DispatchOutcome) → Every (Only (below n i)) (closed_at i n ss other).changes
  unfolding closed_at
  closed-at i other = pick (λ (s : Step DispatchOutcome). Every (Only (below n i)) s.changes) (ltb i n) (λ t. (below-is i t, tt)) (λ t. tt)

  close-of : (ids : ChannelIds) → Every (Only (close_place n ss ids)) (close_of n ss ids.remote ids.local).changes
  unfolding close_place close_of
  close-of ids = both (eqb ids.local.0 0)
    where
      both : (t : Bool) → Every (Only (cond t (below n (remote_place n ss ids.remote)) (below n (place_of (Local ids.local) n ss))))
          (cond t (closed_at (remote_place n ss ids.remote) n ss (CancelQueuedOpen ids.remote)) (closed_at (place_of (Local ids.local) n ss) n ss Unmatched)).changes
      both true = closed-at (remote_place n ss ids.remote) (CancelQueuedOpen ids.remote)
      both false = closed-at (place_of (Local ids.local) n ss) Unmatched

  granted-of : (place : Option ℕ) (i : ℕ) (s : ChannelSlot) (remote : RemoteId) → place ≡ Some i → (r : Result ChannelSlot CreditFault)
      → Every (Only place) (granted i s remote r).changes
  unfolding granted
  granted-of place i s remote e (Ok t) = (e, tt)
  granted-of place i s remote e (Err f) = tt

  grant-of : (remote : RemoteId) (local : LocalId) (payload : List ℕ)
      → Every (Only (below n (place_of (Local local) n ss))) (grant_of p n ss remote local payload).changes
  unfolding grant_of ready_at
  grant-of remote local payload =
      let i = place_of (Local local) n ss in
      pick (λ (s : Step DispatchOutcome). Every (Only (below n i)) s.changes) (ltb i n)
      (λ t. pick (λ (s : Step DispatchOutcome). Every (Only (below n i)) s.changes) (is_failed (slot_in ss i).failed) (λ u. tt)
      (λ u. granted-of (below n i) i (slot_in ss i) remote (below-is i t) (readied_of (slot_in ss i) remote payload p)))
      (λ t. tt)

  wrote-by : (place : Option ℕ) (i : ℕ) (s : ChannelSlot) (remote : RemoteId) (payload rx : List ℕ) → place ≡ Some i → (r : Wrote)
      → Every (Only place) (wrote_by p i s remote payload rx r).step.changes
  unfolding wrote_by
  wrote-by place i s remote payload rx e (Ok w) = (e, tt)
  wrote-by place i s remote payload rx e (Err f) = tt

  write-of : (remote : RemoteId) (local : LocalId) (payload rx : List ℕ)
      → Every (Only (below n (place_of (Local local) n ss))) (write_of p n ss remote local payload rx).step.changes
  unfolding write_of wrote_at
  write-of remote local payload rx =
      let i = place_of (Local local) n ss in
      pick (λ (d : Dispatched). Every (Only (below n i)) d.step.changes) (ltb i n)
      (λ t. pick (λ (d : Dispatched). Every (Only (below n i)) d.step.changes) (is_failed (slot_in ss i).failed) (λ u. tt)
      (λ u. wrote-by (below n i) i (slot_in ss i) remote payload rx (below-is i t) (wrote_of (slot_in ss i) p (length payload))))
      (λ t. tt)

  route-of : (c : Command) (a b : ℕ) (payload rx : List ℕ)
      → Every (Only (place_as n ss (record { local = record { 0 = b }; remote = record { 0 = a } }) c)) (route_of p n ss c a b payload rx).step.changes
  unfolding place_as route_of
  route-of Sync a b payload rx = tt
  route-of Connect a b payload rx = tt
  route-of Open a b payload rx = tt
  route-of Auth a b payload rx = tt
  route-of StartTls a b payload rx = tt
  route-of Ready a b payload rx = grant-of (record { 0 = a }) (record { 0 = b }) payload
  route-of Write a b payload rx = write-of (record { 0 = a }) (record { 0 = b }) payload rx
  route-of Close a b payload rx = close-of (record { local = record { 0 = b }; remote = record { 0 = a } })

-- ---- acting on a packet

module _ (h : Header) (queue : List QueuedOpen) (payload store : List ℕ) (d : Dispatched) (place : Option ℕ) (e : Every (Only place) d.step.changes) where
  pushes : (remote : RemoteId) (credit : ℕ) → Every (Only place) (pushed h queue remote credit payload store).changes
  unfolding pushed
  pushes remote credit = pick (λ (o : PushOutcome). Every (Only place) o.changes) (leb h.negotiated.config.channels h.queued) (λ t. tt) (λ t. (tt, tt))

  pushed-by : (remote : RemoteId) (o : PushOutcome) → Every (Only place) o.changes → (r : Option Header)
      → Every (Only place) (pushed_by h store d remote o r).changes
  unfolding pushed_by
  pushed-by remote o f (Some more) = every_append (Only place) d.step.changes o.changes e f
  pushed-by remote o f None = e

  acted-by : (o : DispatchOutcome) → Every (Only place) (acted_by h queue payload store d o).changes
  unfolding acted_by withdrawal
  acted-by (AckWrite i ids len) = e
  acted-by (CreditGranted i) = e
  acted-by (SlotClosed i) = e
  acted-by (DataBuffered i) = e
  acted-by (IncomingOpen remote credit) = pushed-by remote _ (pushes remote credit) _
  acted-by (CancelQueuedOpen remote) = every_append (Only place) d.step.changes (withdrawal h queue remote).changes e (tt, tt)
  acted-by (StrayReady ids) = e
  acted-by (ChannelFault i ids opening f) = e
  acted-by Unmatched = e

pub act-only : (h : Header) (ss : List ChannelSlot) (queue : List QueuedOpen) (rx store payload : List ℕ) (q : Packet)
    → Every (Only (place_for h.negotiated.config.channels ss q)) (act_on h ss queue rx store q payload).changes
unfolding act_on table_of dispatch_of place_for
act-only h ss queue rx store payload q = acted-by h queue payload store _ _ (route-of _ _ ss q.command q.arg0 q.arg1 payload rx) _

-- ---- what such changes leave

module _ (place : Option ℕ) (i : ℕ) (f : place ≡ Some i → ⊥) where
  slots-stay : (ss : List ChannelSlot) (xs : List Change) → Every (Only place) xs → slot_in (slots_by ss xs) i ≡ slot_in ss i
  slots-stay ss [] e = refl
  slots-stay ss (slot_to j s ∷ xs) e =
      slots-stay (set ss j s) xs e.1 ∙ slot-set-other ss j i s (λ z. f (e.0 ∙ ap (λ (x : ℕ). Some x) (sym z)))
  slots-stay ss (header_to h ∷ xs) e = slots-stay ss xs e.1
  slots-stay ss (queued_to j q ∷ xs) e = slots-stay ss xs e.1
  slots-stay ss (queue_to qs ∷ xs) e = slots-stay ss xs e.1

  stay : (d : Connection) (xs : List Change) → Every (Only place) xs → slot_in (changed_all d xs).slots i ≡ slot_in d.slots i
  stay d xs e = ap (λ (x : List ChannelSlot). slot_in x i) (slots-by d xs) ∙ slots-stay d.slots xs e

-- so the slot of any other channel than the one that the packet is for is left
pub others-stay : (d : Connection) (w : PendingOpen) (q : Packet) (place : Option ℕ) (xs : List Change) → Every (Only place) xs
    → (i : ℕ) → is_at (channel_or_open d.slots w q place) i ≡ false → slot_in (changed_all d xs).slots i ≡ slot_in d.slots i
unfolding channel_or_open is_at
others-stay d w q place xs e i f =
    stay place i (λ z. never (sym f ∙ ap (λ (x : Option ℕ). is_at (channel_or_open d.slots w q x) i) z ∙ eq-eqb i i refl)) d xs e
