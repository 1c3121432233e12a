-- What one packet from the device does to the table (channel_table.rs, `dispatch`). Assumes nothing.
use Rattle.std.specs.Prelude.{ℕ, ◌*◌, ◌≤◌, ◌<◌, true, cond, List, [], ◌∷◌, ◌≡◌, eqb, ltb, length, Option, Some, None, Result, Ok, Err}
use Rattle.config.specs.declared.negotiated.RxPolicy.{RxPolicy}
use Rattle.protocol.specs.declared.command.Command.{Command}
use Rattle.protocol.specs.declared.command.Command.TheVariants.{Sync, Connect, Open, Ready, Close, Write, Auth, StartTls}
use Rattle.protocol.specs.declared.packet.Packet.{Packet}
use Rattle.rx_store.specs.RxStore.{ShareFits, buffered_in}
use Rattle.slot.specs.declared.ids.LocalId.{LocalId}
use Rattle.slot.specs.declared.ids.RemoteId.{RemoteId}
use Rattle.slot.specs.declared.ChannelFault.{ChannelFault as Fault}
use Rattle.slot.specs.declared.ChannelFault.TheVariants.{BadCredit}
use Rattle.slot.specs.declared.ChannelSlot.{ChannelSlot}
use Rattle.slot.specs.declared.Settled.{Settled}
use Rattle.slot.specs.Numbers.{fault_number}
use Rattle.slot.specs.Slot.{is_opening, is_failed, closed_slot, opened_of, ready_of, wrote_of, SlotOk}
use Rattle.state.specs.Change.{slot_to, Step, Steps}
use Rattle.state.specs.State.{state_len, slot_at}
use Rattle.table_dispatch.specs.declared.DispatchOutcome.{DispatchOutcome}
use Rattle.table_dispatch.specs.declared.DispatchOutcome.TheVariants.{AckWrite, CreditGranted, SlotClosed, DataBuffered, IncomingOpen, CancelQueuedOpen, StrayReady, ChannelFault, Unmatched}
use Rattle.table.specs.declared.Want.TheVariants.{Local, Remote, Live}
use Rattle.table.specs.Table.{place_of, slot_in}
use Rattle.credit.specs.declared.CreditFault.{CreditFault}

-- nothing changes
abbrev pub left : DispatchOutcome → Step DispatchOutcome
left o = record { result = o; changes = [] }

-- the slot at place i becomes s
abbrev pub stored : DispatchOutcome → ℕ → ChannelSlot → Step DispatchOutcome
stored o i s = record { result = o; changes = slot_to i s ∷ [] }

-- `fault`
abbrev pub faulted : ℕ → ChannelSlot → RemoteId → Fault → DispatchOutcome
faulted i s remote f = ChannelFault i (record { local = s.local; remote = remote }) (is_opening s.state) f

-- ---- CLSE

-- the lowest slot with the device's number that is not closed; where all are, the lowest; or n
unfoldable pub named_place : RemoteId → ℕ → List ChannelSlot → ℕ
named_place remote n ss = cond (ltb (place_of (Live remote) n ss) n) (place_of (Live remote) n ss) (place_of (Remote remote) n ss)

-- the same, and a number of 0 names none
unfoldable pub remote_place : ℕ → List ChannelSlot → RemoteId → ℕ
remote_place n ss remote = cond (eqb remote.0 0) n (named_place remote n ss)

-- the slot at place i closed, or another answer where i is not below n
unfoldable pub closed_at : ℕ → ℕ → List ChannelSlot → DispatchOutcome → Step DispatchOutcome
closed_at i n ss other = cond (ltb i n) (stored (SlotClosed i) i (closed_slot (slot_in ss i))) (left other)

-- the same, of a place that may be none
abbrev pub closed_in : Option ℕ → List ChannelSlot → DispatchOutcome → Step DispatchOutcome
closed_in (Some i) ss other = stored (SlotClosed i) i (closed_slot (slot_in ss i))
closed_in None ss other = left other

-- by the device's number where ours is left out, and then a queued open is withdrawn where it names no slot; else by ours
unfoldable pub close_of : ℕ → List ChannelSlot → RemoteId → LocalId → Step DispatchOutcome
close_of n ss remote local =
    cond (eqb local.0 0) (closed_at (remote_place n ss remote) n ss (CancelQueuedOpen remote))
    (closed_at (place_of (Local local) n ss) n ss Unmatched)

-- ---- OKAY

-- the answer to our OPEN, or a later one
unfoldable pub readied_of : ChannelSlot → RemoteId → List ℕ → RxPolicy → Result ChannelSlot CreditFault
readied_of s remote payload p = cond (is_opening s.state) (opened_of s remote payload p) (ready_of s payload p)

-- the slot with its credit, or what is wrong with the credit: 5, 20, 21
unfoldable pub granted : ℕ → ChannelSlot → RemoteId → Result ChannelSlot CreditFault → Step DispatchOutcome
granted i s remote (Ok t) = stored (CreditGranted i) i t
granted i s remote (Err f) = left (faulted i s remote (BadCredit f))

-- for slot i, unless it failed
unfoldable pub ready_at : RxPolicy → ℕ → ChannelSlot → RemoteId → List ℕ → Step DispatchOutcome
ready_at p i s remote payload = cond (is_failed s.failed) (left Unmatched) (granted i s remote (readied_of s remote payload p))

-- for no slot: with neither number 0 it is to be closed
unfoldable pub stray_of : RemoteId → LocalId → DispatchOutcome
stray_of remote local = cond (eqb remote.0 0) Unmatched (cond (eqb local.0 0) Unmatched (StrayReady (record { local = local; remote = remote })))

-- for the lowest slot with our number, or for none
unfoldable pub grant_of : RxPolicy → ℕ → List ChannelSlot → RemoteId → LocalId → List ℕ → Step DispatchOutcome
grant_of p n ss remote local payload =
    cond (ltb (place_of (Local local) n ss) n)
    (ready_at p (place_of (Local local) n ss) (slot_in ss (place_of (Local local) n ss)) remote payload)
    (left (stray_of remote local))

-- ---- WRTE

-- the step, and the receive store after it
pub record Dispatched : Type 0 where
  pub step : Step DispatchOutcome
  pub rx : List ℕ

-- a step that leaves this receive store
abbrev pub with : Step DispatchOutcome → List ℕ → Dispatched
with s rx = record { step = s; rx = rx }

-- a WRTE that was buffered: with the length to acknowledge at once, if it is
abbrev pub buffered_at : ℕ → ChannelSlot → Option ℕ → DispatchOutcome
buffered_at i s (Some len) = AckWrite i (record { local = s.local; remote = s.remote }) len
buffered_at i s None = DataBuffered i

-- what the slot decided: acknowledged at once, held, over the cap (11), or too early (6)
unfoldable pub wrote_by : RxPolicy → ℕ → ChannelSlot → RemoteId → List ℕ → List ℕ → Result Settled Fault → Dispatched
wrote_by p i s remote payload rx (Ok w) =
    with (stored (buffered_at i s w.ack) i w.slot) (buffered_in rx p.rx_cap i s.head s.buffered payload)
wrote_by p i s remote payload rx (Err f) = with (left (faulted i s remote f)) rx

-- for slot i, unless it failed
unfoldable pub wrote_at : RxPolicy → ℕ → ChannelSlot → RemoteId → List ℕ → List ℕ → Dispatched
wrote_at p i s remote payload rx =
    cond (is_failed s.failed) (with (left Unmatched) rx)
    (wrote_by p i s remote payload rx (wrote_of s p (length payload)))

-- for the lowest slot with our number, or for none
unfoldable pub write_of : RxPolicy → ℕ → List ChannelSlot → RemoteId → LocalId → List ℕ → List ℕ → Dispatched
write_of p n ss remote local payload rx =
    cond (ltb (place_of (Local local) n ss) n)
    (wrote_at p (place_of (Local local) n ss) (slot_in ss (place_of (Local local) n ss)) remote payload rx)
    (with (left Unmatched) rx)

-- ---- any packet

-- CNXN, AUTH, STLS and SYNC do nothing; arg0 is the device's number, arg1 ours, but for OPEN, where it is the credit
unfoldable pub route_of : RxPolicy → ℕ → List ChannelSlot → Command → ℕ → ℕ → List ℕ → List ℕ → Dispatched
route_of p n ss Connect a b payload rx = with (left Unmatched) rx
route_of p n ss Auth a b payload rx = with (left Unmatched) rx
route_of p n ss StartTls a b payload rx = with (left Unmatched) rx
route_of p n ss Open a b payload rx = with (left (IncomingOpen (record { 0 = a }) b)) rx
route_of p n ss Close a b payload rx = with (close_of n ss (record { 0 = a }) (record { 0 = b })) rx
route_of p n ss Write a b payload rx = write_of p n ss (record { 0 = a }) (record { 0 = b }) payload rx
route_of p n ss Ready a b payload rx = with (grant_of p n ss (record { 0 = a }) (record { 0 = b }) payload) rx
route_of p n ss Sync a b payload rx = with (left Unmatched) rx

-- `dispatch`
unfoldable pub dispatch_of : RxPolicy → ℕ → List ChannelSlot → Packet → List ℕ → List ℕ → Dispatched
dispatch_of p n ss k payload rx = route_of p n ss k.command k.arg0 k.arg1 payload rx

-- ---- the answers' numbers (docs/SCOPE.md, 6): a refusal's own, 0 for none

-- 5, 6 and 11: what is wrong with a packet for a channel
unfoldable pub outcome_number : DispatchOutcome → ℕ
outcome_number (AckWrite i ids len) = 0
outcome_number (CreditGranted i) = 0
outcome_number (SlotClosed i) = 0
outcome_number (DataBuffered i) = 0
outcome_number (IncomingOpen remote credit) = 0
outcome_number (CancelQueuedOpen remote) = 0
outcome_number (StrayReady ids) = 0
outcome_number (ChannelFault i ids opening f) = fault_number f
outcome_number Unmatched = 0

-- ---- promises

-- a step's, and every byte of the receive store
pub record Dispatches (d : Dispatched) (before : List ℕ) (r : DispatchOutcome) (after rx : List ℕ) : Type 0 where
  pub steps : Steps d.step before r after
  pub rx-is : rx ≡ d.rx

-- slots below n can be walked
pub record Walks (b : List ℕ) (n : ℕ) : Type 0 where
  pub state-fits : state_len ≤ length b
  pub channels-fit : n ≤ 64

-- a slot's numbers are within its share, and it has one
pub record Share (b rx : List ℕ) (i cap : ℕ) : Type 0 where
  pub state-fits : state_len ≤ length b
  pub place-fits : i < 64
  pub share-fits : ShareFits i cap (length rx)
  pub sound : SlotOk (slot_at b i) cap

-- so for each filled slot
pub record Sound (b rx : List ℕ) (n cap : ℕ) : Type 0 where
  pub state-fits : state_len ≤ length b
  pub channels-fit : n ≤ 64
  pub rx-fits : n * (2 * cap) ≤ length rx
  pub slots-sound : (i : ℕ) → i < n → (slot_at b i).filled ≡ true → SlotOk (slot_at b i) cap
