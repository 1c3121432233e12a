-- What the functions of `peek` promise. Assumes nothing.
use Rattle.std.specs.Prelude.{ℕ, ◌≤◌, ◌<◌, ◌≡◌, List, length, Option, Some, None, IfSome, Result, Ok, Err}
use Rattle.config.specs.declared.negotiated.RxPolicy.{RxPolicy}
use Rattle.config.specs.Negotiated.{policy_of}
use Rattle.credit.specs.declared.CreditFault.{CreditFault}
use Rattle.protocol.specs.declared.command.Command.{Command}
use Rattle.protocol.specs.declared.command.Command.TheVariants.{Sync, Connect, Open, Ready, Close, Write, Auth, StartTls}
use Rattle.protocol.specs.declared.packet.Packet.{Packet}
use Rattle.protocol.specs.Packet.{decode_of}
use Rattle.slot.specs.declared.ChannelFault.{ChannelFault}
use Rattle.slot.specs.declared.ChannelFault.TheVariants.{BadCredit}
use Rattle.slot.specs.declared.ChannelSlot.{ChannelSlot}
use Rattle.slot.specs.declared.Settled.{Settled}
use Rattle.slot.specs.Slot.{ready_of, wrote_of, SlotOk}
use Rattle.state.specs.declared.Header.{Header}
use Rattle.state.specs.State.{state_len, Connection, state_of, slot_at}
use Rattle.table.specs.Table.{slot_in}
use Rattle.connection.specs.declared.Answer.{Answer}
use Rattle.connection.specs.declared.Answer.TheVariants.{Done}
use Rattle.connection.specs.Calls.{unless_fault, received_by, body_of, frame_len}
use Rattle.call.specs.Promise.{AdmitsState}
use Rattle.call_peek.specs.declared.Preview.{Preview}
use Rattle.call_peek.specs.Promise.{no_packet, place_for, channel_or_open}

-- what is wrong with a credit: 5, 20, 21
unfoldable pub credit_fault : Result ChannelSlot CreditFault → Option ChannelFault
credit_fault (Ok t) = None
credit_fault (Err f) = Some (BadCredit f)

-- with a WRTE: 11, or 6 of a channel that is opening
unfoldable pub write_fault : Result Settled ChannelFault → Option ChannelFault
write_fault (Ok w) = None
write_fault (Err f) = Some f

-- with a packet for a channel that is not opening and not failed
unfoldable pub fault_of : RxPolicy → ChannelSlot → Command → List ℕ → Option ChannelFault
fault_of p s Ready payload = credit_fault (ready_of s payload p)
fault_of p s Write payload = write_fault (wrote_of s p (length payload))
fault_of p s Close payload = None
fault_of p s Sync payload = None
fault_of p s Connect payload = None
fault_of p s Open payload = None
fault_of p s Auth payload = None
fault_of p s StartTls payload = None

-- the channel in a slot, if there is one
unfoldable pub fault_at : RxPolicy → List ChannelSlot → Command → List ℕ → Option ℕ → Option ChannelFault
fault_at p ss c payload (Some i) = fault_of p (slot_in ss i) c payload
fault_at p ss c payload None = None

-- once it is known what received bytes begin with
unfoldable pub peeked_as : Connection → List ℕ → Result Packet (Answer × ℕ) → Preview
peeked_as d received (Err (a, used)) = no_packet a used
peeked_as d received (Ok p) =
    let n = d.header.negotiated in
    let place = place_for n.config.channels d.slots p in
    record {
      answer = unless_fault (fault_at (policy_of n) d.slots p.command (body_of received p) place) Done;
      used = frame_len p;
      is_for = channel_or_open d.slots d.header.pending p place;
    }

-- the call, once it is admitted
unfoldable pub peeked_by : Connection → List ℕ → Preview
peeked_by d received = peeked_as d received (received_by (decode_of received d.header.negotiated.config.max_payload))

-- ---- what they ask

-- a slot that may be none: it is one of the 64, and its numbers are within its share
pub record Channels (state : List ℕ) (place : Option ℕ) (cap : ℕ) : Type 0 where
  pub state-fits : state_len ≤ length state
  pub place-fits : IfSome place (λ i. i < 64)
  pub sound : IfSome place (λ i. SlotOk (slot_at state i) cap)

-- a whole state, and its header
abbrev pub Peeking : List ℕ → Header → Type 0
Peeking state h = AdmitsState state 56 × (h ≡ (state_of state).header)
