-- What a packet does that a call does not take for itself (connection.rs, `dispatch` and `act_on`). Assumes nothing.
use Rattle.std.specs.Prelude.{ℕ, ◌^◌, ◌≤◌, ◌<◌, List, [], ◌∷◌, ◌++◌, length, Option, Some, None}
use Rattle.le.specs.Le.{Bytes}
use Rattle.config.specs.declared.negotiated.Negotiated.{Negotiated}
use Rattle.config.specs.Negotiated.{policy_of}
use Rattle.incoming.specs.Incoming.{PushOutcome, pushed, withdrawal}
use Rattle.protocol.specs.declared.packet.Packet.{Packet}
use Rattle.slot.specs.declared.ChannelSlot.{ChannelSlot}
use Rattle.slot.specs.declared.ids.RemoteId.{RemoteId}
use Rattle.state.specs.declared.Header.{Header}
use Rattle.state.specs.declared.QueuedOpen.{QueuedOpen}
use Rattle.state.specs.Change.{Change}
use Rattle.table_dispatch.specs.declared.DispatchOutcome.{DispatchOutcome}
use Rattle.table_dispatch.specs.declared.DispatchOutcome.TheVariants.{AckWrite, CreditGranted, SlotClosed, DataBuffered, IncomingOpen, CancelQueuedOpen, StrayReady, ChannelFault, Unmatched}
use Rattle.table_dispatch.specs.Dispatch.{Dispatched, dispatch_of}
use Rattle.connection.specs.Frames.{Frame, okay_frame, close_frame}
use Rattle.slot.specs.declared.ChannelFault.{ChannelFault as SlotFault}

-- the fault, if it was one; the header, which the call stores at its end; what else changed in the state; both stores;
-- what was written
pub record Acted : Type 0 where
  pub fault : Option SlotFault
  pub header : Header
  pub changes : List Change
  pub rx : List ℕ
  pub store : List ℕ
  pub frames : List Frame

-- the table's own changes, and these frames
abbrev pub tabled : Option SlotFault → Header → List ℕ → Dispatched → List Frame → Acted
tabled fault h store d fs = record { fault = fault; header = h; changes = d.step.changes; rx = d.rx; store = store; frames = fs }

-- an OPEN is queued, or is refused by a CLSE that leaves our number out
unfoldable pub pushed_by : Header → List ℕ → Dispatched → RemoteId → PushOutcome → Option Header → Acted
pushed_by h store d remote o (Some more) =
    record { fault = None; header = more; changes = d.step.changes ++ o.changes; rx = d.rx; store = o.store; frames = [] }
pushed_by h store d remote o None = tabled None h store d (close_frame (record { local = record { 0 = 0 }; remote = remote }) ∷ [])

-- `act_on`, once the table has told what the packet is
unfoldable pub acted_by : Header → List QueuedOpen → List ℕ → List ℕ → Dispatched → DispatchOutcome → Acted
acted_by h queue payload store d (AckWrite i ids len) = tabled None h store d (okay_frame ids len ∷ [])
acted_by h queue payload store d (CreditGranted i) = tabled None h store d []
acted_by h queue payload store d (SlotClosed i) = tabled None h store d []
acted_by h queue payload store d (DataBuffered i) = tabled None h store d []
acted_by h queue payload store d (IncomingOpen remote credit) =
    pushed_by h store d remote (pushed h queue remote credit payload store) (pushed h queue remote credit payload store).result
acted_by h queue payload store d (CancelQueuedOpen remote) =
    record {
      fault = None;
      header = (withdrawal h queue remote).result;
      changes = d.step.changes ++ (withdrawal h queue remote).changes;
      rx = d.rx;
      store = store;
      frames = [];
    }
acted_by h queue payload store d (StrayReady ids) = tabled None h store d (close_frame ids ∷ [])
acted_by h queue payload store d (ChannelFault i ids opening f) = tabled (Some f) h store d []
acted_by h queue payload store d Unmatched = tabled None h store d []

-- the table's part
unfoldable pub table_of : Header → List ChannelSlot → List ℕ → Packet → List ℕ → Dispatched
table_of h ss rx p payload = dispatch_of (policy_of h.negotiated) h.negotiated.config.channels ss p payload rx

-- `act_on`: the table's part, then what its answer asks for
unfoldable pub act_on : Header → List ChannelSlot → List QueuedOpen → List ℕ → List ℕ → Packet → List ℕ → Acted
act_on h ss queue rx store p payload =
    acted_by h queue payload store (table_of h ss rx p payload) (table_of h ss rx p payload).step.result

-- a packet that was decoded from bytes
pub record PacketFits (n : Negotiated) (p : Packet) (payload : List ℕ) : Type 0 where
  pub arg0 : p.arg0 < 2 ^ 32
  pub arg1 : p.arg1 < 2 ^ 32
  pub small : length payload ≤ n.config.max_payload
  pub bytes : Bytes payload
