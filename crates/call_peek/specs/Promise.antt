-- The call that tells what a dispatch would answer, and what the packet is for (docs/SCOPE.md, 5). Assumes nothing.
use Rattle.std.specs.Prelude.{ℕ, ◌≤◌, ◌≡◌, Bool, true, false, cond, ◌&&◌, List, eqb, length, replicate, Option, Some, None, Result, Ok, Err}
use Rattle.protocol.specs.declared.command.Command.{Command}
use Rattle.protocol.specs.declared.command.Command.TheVariants.{Sync, Connect, Open, Ready, Close, Write, Auth, StartTls}
use Rattle.protocol.specs.declared.packet.Packet.{Packet}
use Rattle.protocol.specs.Packet.{decode_of}
use Rattle.slot.specs.declared.ChannelSlot.{ChannelSlot}
use Rattle.slot.specs.declared.ids.ChannelIds.{ChannelIds}
use Rattle.state.specs.declared.Header.{Header}
use Rattle.state.specs.declared.PendingOpen.{PendingOpen}
use Rattle.state.specs.Change.{changed_all}
use Rattle.state.specs.State.{Connection, is_ours, state_of}
use Rattle.state_whole.specs.Whole.{is_whole}
use Rattle.table.specs.declared.Want.TheVariants.{Local}
use Rattle.table.specs.Table.{place_of, below, slot_in, there_in}
use Rattle.table_dispatch.specs.Dispatch.{remote_place}
use Rattle.connection.specs.declared.Answer.{Answer}
use Rattle.connection.specs.declared.Refusal.{Refusal}
use Rattle.connection.specs.Calls.{Outcome, received_by, dispatch_outcome}
use Rattle.call.specs.Promise.{lent_of, agreed_in, admitted}
use Rattle.call_peek.specs.declared.PacketFor.{PacketFor}
use Rattle.call_peek.specs.declared.PacketFor.TheVariants.{NoChannel, Channel, OurOpen}
use Rattle.call_peek.specs.declared.Preview.{Preview}

-- ---- what a packet is for

-- the slot, of the first n, that a CLSE would close: by our number, or by the device's where ours is left out
unfoldable pub close_place : ℕ → List ChannelSlot → ChannelIds → Option ℕ
close_place n ss ids = cond (eqb ids.local.0 0) (below n (remote_place n ss ids.remote)) (below n (place_of (Local ids.local) n ss))

-- the slot of the channel that a packet is for: an OKAY or a WRTE names it by our number; a CLSE is for the one that it would close
unfoldable pub place_as : ℕ → List ChannelSlot → ChannelIds → Command → Option ℕ
place_as n ss ids Ready = below n (place_of (Local ids.local) n ss)
place_as n ss ids Write = below n (place_of (Local ids.local) n ss)
place_as n ss ids Close = close_place n ss ids
place_as n ss ids Sync = None
place_as n ss ids Connect = None
place_as n ss ids Open = None
place_as n ss ids Auth = None
place_as n ss ids StartTls = None

-- of a packet: its second number is ours, its first the device's
unfoldable pub place_for : ℕ → List ChannelSlot → Packet → Option ℕ
place_for n ss p = place_as n ss (record { local = record { 0 = p.arg1 }; remote = record { 0 = p.arg0 } }) p.command

-- packets of these three kinds are for a channel of ours
unfoldable pub has_channel : Command → Bool
has_channel Ready = true
has_channel Write = true
has_channel Close = true
has_channel Sync = false
has_channel Connect = false
has_channel Open = false
has_channel Auth = false
has_channel StartTls = false

-- one of these whose second number is our pending open's
unfoldable pub is_for_open : PendingOpen → Packet → Bool
is_for_open w p = has_channel p.command && is_ours w.what && eqb p.arg1 w.local.0

-- the channel in the slot; with none, our pending open, or no channel
unfoldable pub channel_or_open : List ChannelSlot → PendingOpen → Packet → Option ℕ → PacketFor
channel_or_open ss w p (Some i) = Channel (record { slot = i; local = (slot_in ss i).local })
channel_or_open ss w p None = cond (is_for_open w p) OurOpen NoChannel

-- where there is no packet, no channel
unfoldable pub received_for : Connection → Result Packet (Answer × ℕ) → PacketFor
received_for d (Ok p) = channel_or_open d.slots d.header.pending p (place_for d.header.negotiated.config.channels d.slots p)
received_for d (Err e) = NoChannel

-- and none is looked at where the call is refused by 13 or 8
unfoldable pub admitted_for : Result Header Refusal → PacketFor → PacketFor
admitted_for (Ok h) is_for = is_for
admitted_for (Err refusal) is_for = NoChannel

-- what the packet that received bytes begin with is for; the stores' lengths
unfoldable pub peek_for : List ℕ → ℕ → ℕ → List ℕ → PacketFor
peek_for state rx store received =
    admitted_for (admitted state rx store)
    (received_for (state_of state) (received_by (decode_of received (state_of state).header.negotiated.config.max_payload)))

-- ---- the call

-- an answer where there is no packet
abbrev pub no_packet : Answer → ℕ → Preview
no_packet answer used = record { answer = answer; used = used; is_for = NoChannel }

-- dispatch's own definition, from this state, these stores, and an outgoing buffer of this length
abbrev pub dispatched : List ℕ → List ℕ → List ℕ → ℕ → List ℕ → Outcome
dispatched state rx store out received = dispatch_outcome (is_whole state) (lent_of state rx store) out received

-- a dispatch's answer and the bytes that it uses, from stores of these lengths, and what the packet is for
unfoldable pub peeked : List ℕ → ℕ → ℕ → List ℕ → Preview
peeked state rx store received =
    record {
      answer = (dispatched state (replicate rx 0) (replicate store 0) 56 received).answer;
      used = (dispatched state (replicate rx 0) (replicate store 0) 56 received).used;
      is_for = peek_for state rx store received;
    }

-- slot i is that of the channel
unfoldable pub is_at : PacketFor → ℕ → Bool
is_at (Channel ch) i = eqb ch.slot i
is_at NoChannel i = false
is_at OurOpen i = false

-- what is told of an outcome, from this state: its answer, the bytes that it uses, and that it leaves the slots of all other channels
pub record Tells (d : Connection) (o : Outcome) (r : Preview) : Type 0 where
  pub answer-is : r.answer ≡ o.answer
  pub used-is : r.used ≡ o.used
  pub others_stay : (i : ℕ) → is_at r.is_for i ≡ false → slot_in (changed_all d o.changes).slots i ≡ slot_in d.slots i

-- so of each dispatch from this state, whatever the bytes of stores of these lengths, with an outgoing buffer that is long enough
abbrev pub AsDispatch : List ℕ → ℕ → ℕ → List ℕ → Preview → Type 0
AsDispatch state rx store received r =
    (rx₀ store₀ : List ℕ) (out : ℕ) → length rx₀ ≡ rx → length store₀ ≡ store → 56 ≤ out
    → Tells (state_of state) (dispatched state rx₀ store₀ out received) r

-- a channel that is told is in the table
abbrev pub InTable : List ℕ → PacketFor → Type 0
InTable state (Channel ch) = there_in (agreed_in state).config.channels (state_of state).slots ch ≡ true
InTable state NoChannel = Unit {0}
InTable state OurOpen = Unit {0}
