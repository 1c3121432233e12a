-- What a packet is to a device's end that is connected (docs/SCOPE.md, 15; protocol.txt, "OPEN", "READY", "WRITE", "CLOSE"). Assumes
-- nothing.
use Rattle.std.specs.Prelude.{ℕ, ◌+◌, ◌≤◌, Bool, false, not, cond, List, eqb, length, Option, Some, None, Result, Ok, Err}
use Rattle.protocol.specs.declared.command.Command.TheVariants.{Sync, Connect, Open, Ready, Close, Write, Auth, StartTls}
use Rattle.protocol.specs.declared.command.Command.{Command}
use Rattle.protocol.specs.declared.packet.DecodeError.{DecodeError}
use Rattle.protocol.specs.declared.packet.Packet.{Packet}
use Rattle.protocol.specs.Message.{message_size}
use Rattle.protocol.specs.Packet.{payload_of, decode_of}
use Rattle.slot.specs.declared.ChannelSlot.{ChannelSlot}
use Rattle.slot.specs.declared.ids.LocalId.{LocalId}
use Rattle.slot.specs.declared.ids.RemoteId.{RemoteId}
use Rattle.slot.specs.Slot.{is_closed}
use Rattle.state.specs.declared.Header.{Header}
use Rattle.state.specs.State.{state_len}
use Rattle.table.specs.declared.Want.TheVariants.{Local}
use Rattle.table.specs.Table.{place_of, below, slot_in}
use Rattle.names.specs.Names.{find_name, asked_name}
use Rattle.device_meets.specs.declared.Met.{Met}
use Rattle.device_meets.specs.declared.Verdict.{Verdict}
use Rattle.device_meets.specs.declared.Verdict.TheVariants.{Ignore, Refuse, Take}

-- an OPEN's credit fits the mode: it is not 0 exactly where acknowledgement is delayed (delayed acknowledgement, fact 2)
unfoldable pub fits_mode : Bool → ℕ → Bool
fits_mode delayed credit = cond delayed (not (eqb credit 0)) (eqb credit 0)

-- taken where its name is in the table
unfoldable pub by_name : RemoteId → ℕ → Option ℕ → Verdict
by_name remote credit (Some place) = Take remote credit place
by_name remote credit None = Refuse remote

-- an OPEN: from number 0 it is ignored; one whose credit does not fit the mode, or whose name is not in the table, is refused
unfoldable pub open_verdict : List ℕ → Bool → RemoteId → ℕ → List ℕ → Verdict
open_verdict names delayed remote credit destination =
    cond (eqb remote.0 0) Ignore
    (cond (fits_mode delayed credit) (by_name remote credit (find_name names (asked_name destination))) (Refuse remote))

-- whether a channel was found, and is not closed
unfoldable pub is_live_at : List ChannelSlot → Option ℕ → Bool
is_live_at ss (Some i) = not (is_closed (slot_in ss i).state)
is_live_at ss None = false

-- a number of ours names an open stream; 0 names none
unfoldable pub is_stream : ℕ → List ChannelSlot → LocalId → Bool
is_stream channels ss local = cond (eqb local.0 0) false (is_live_at ss (below channels (place_of (Local local) channels ss)))

-- a packet that is used, and nothing else
abbrev pub ignored : ℕ → Option Met
ignored used = Some (record { used = used; verdict = Ignore })

-- a packet of an open stream passes; else it is ignored ("which does not map to an open stream on the recipient's side is ignored")
unfoldable pub unless_stream : ℕ → List ChannelSlot → Packet → Option Met
unless_stream channels ss p = cond (is_stream channels ss (record { 0 = p.arg1 })) None (ignored (message_size + p.data_length))

-- a packet by its command: OPEN, a later CNXN, what names a stream, and what passes
unfoldable pub met_as : Header → List ChannelSlot → List ℕ → Packet → List ℕ → Command → Option Met
met_as h ss names p payload Open =
    Some (record {
      used = message_size + p.data_length;
      verdict = open_verdict names h.negotiated.delayed_ack (record { 0 = p.arg0 }) p.arg1 payload;
    })
met_as h ss names p payload Connect = ignored (message_size + p.data_length)
met_as h ss names p payload Ready = unless_stream h.negotiated.config.channels ss p
met_as h ss names p payload Close = unless_stream h.negotiated.config.channels ss p
met_as h ss names p payload Write = unless_stream h.negotiated.config.channels ss p
met_as h ss names p payload Sync = None
met_as h ss names p payload Auth = None
met_as h ss names p payload StartTls = None

-- a packet
unfoldable pub by_command : Header → List ChannelSlot → List ℕ → Packet → List ℕ → Option Met
by_command h ss names p payload = met_as h ss names p payload p.command

-- what received bytes begin with; where that is no packet, they pass
unfoldable pub met_by : Header → List ChannelSlot → List ℕ → List ℕ → Result (Option Packet) DecodeError → Option Met
met_by h ss names received (Ok (Some p)) = by_command h ss names p (payload_of received p.data_length)
met_by h ss names received (Ok None) = None
met_by h ss names received (Err e) = None

-- the packet that received bytes begin with, and what a device's end does with it itself; none where they pass
unfoldable pub meets : Header → List ChannelSlot → List ℕ → List ℕ → Option Met
meets h ss names received = met_by h ss names received (decode_of received h.negotiated.config.max_payload)

-- what looking at it asks of the state
pub record MeetRoom (state : List ℕ) (h : Header) : Type 0 where
  pub channels : h.negotiated.config.channels ≤ 64
  pub state-fits : state_len ≤ length state
