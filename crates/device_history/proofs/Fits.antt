-- What the packets are that a device's end meets: their numbers are of 32 bits. Assumes nothing.
use Rattle.std.proofs.Common.{◌≡◌, refl, subst, Bool, List, ℕ, ◌<◌, ◌^◌, eqb, Option, Some, None, Result, Ok, Err}
use Rattle.le.specs.Le.{Bytes}
use Rattle.protocol.specs.declared.command.Command.{Command}
use Rattle.protocol.specs.declared.command.Command.TheVariants.{Sync, Connect, Open, Ready, Close, Write, Auth, StartTls}
use Rattle.protocol.specs.declared.packet.DecodeError.{DecodeError}
use Rattle.protocol.specs.declared.packet.Packet.{Packet}
use Rattle.protocol.specs.Packet.{payload_of, decode_of}
use Rattle.slot.specs.declared.ChannelSlot.{ChannelSlot}
use Rattle.slot.specs.declared.ids.RemoteId.{RemoteId}
use Rattle.slot.proofs.Kept.{pick}
use Rattle.state.specs.declared.Header.{Header}
use Rattle.state.specs.State.{state_of}
use Rattle.connection.specs.Calls.{Lent, received_by, received_of}
use Rattle.connection.proofs.Decoding.{received-fits, ReceivedFits}
use Rattle.device_meets.specs.declared.Met.{Met}
use Rattle.device_meets.specs.declared.Verdict.{Verdict}
use Rattle.device_meets.specs.declared.Verdict.TheVariants.{Ignore, Refuse, Take}
use Rattle.device_meets.specs.Meets.{fits_mode, by_name, open_verdict, is_stream, unless_stream, met_as, by_command, met_by, meets}
use Rattle.device.specs.Device.{is_connected, inner_of, met_in}

-- a verdict's numbers
abbrev pub VerdictFits : Verdict → Type 0
VerdictFits Ignore = Unit {0}
VerdictFits (Refuse remote) = remote.0 < 2 ^ 32
VerdictFits (Take remote credit place) = (remote.0 < 2 ^ 32) × (credit < 2 ^ 32)

abbrev pub MetFits : Option Met → Type 0
MetFits (Some m) = VerdictFits m.verdict
MetFits None = Unit {0}

name-fits : (remote : RemoteId) (credit : ℕ) (r : Option ℕ) → remote.0 < 2 ^ 32 → credit < 2 ^ 32 → VerdictFits (by_name remote credit r)
unfolding by_name
name-fits remote credit (Some i) a b = (a, b)
name-fits remote credit None a b = a

open-fits : (names : List ℕ) (delayed : Bool) (remote : RemoteId) (credit : ℕ) (destination : List ℕ) → remote.0 < 2 ^ 32 → credit < 2 ^ 32 → VerdictFits (open_verdict names delayed remote credit destination)
unfolding open_verdict
open-fits names delayed remote credit destination a b =
    pick VerdictFits (eqb remote.0 0) (λ t. tt) (λ t. pick VerdictFits (fits_mode delayed credit) (λ u. name-fits remote credit _ a b) (λ u. a))

module _ (h : Header) (ss : List ChannelSlot) (names received : List ℕ) where
  stream-fits : (p : Packet) → MetFits (unless_stream h.negotiated.config.channels ss p)
  unfolding unless_stream
  stream-fits p = pick MetFits (is_stream h.negotiated.config.channels ss (record { 0 = p.arg1 })) (λ t. tt) (λ t. tt)

  as-fits : (p : Packet) (payload : List ℕ) → p.arg0 < 2 ^ 32 → p.arg1 < 2 ^ 32 → (c : Command) → MetFits (met_as h ss names p payload c)
  unfolding met_as
  as-fits p payload a b Open = open-fits names h.negotiated.delayed_ack (record { 0 = p.arg0 }) p.arg1 payload a b
  as-fits p payload a b Connect = tt
  as-fits p payload a b Ready = stream-fits p
  as-fits p payload a b Close = stream-fits p
  as-fits p payload a b Write = stream-fits p
  as-fits p payload a b Sync = tt
  as-fits p payload a b Auth = tt
  as-fits p payload a b StartTls = tt

  by-fits : (d : Result (Option Packet) DecodeError) → ReceivedFits h.negotiated received (received_by d) → MetFits (met_by h ss names received d)
  unfolding met_by by_command received_by
  by-fits (Ok (Some p)) g = as-fits p (payload_of received p.data_length) g.arg0 g.arg1 p.command
  by-fits (Ok None) g = tt
  by-fits (Err e) g = tt

  pub meets-fits : (l : Lent) → l.state.header ≡ h → Bytes received → MetFits (meets h ss names received)
  unfolding meets received_of
  meets-fits l e y =
      by-fits (decode_of received h.negotiated.config.max_payload)
      (subst (λ (k : Header). ReceivedFits k.negotiated received (received_by (decode_of received k.negotiated.config.max_payload))) e (received-fits l received y))

-- what a call is handed
pub met-fits : (b names received rx store : List ℕ) → Bytes received → MetFits (met_in b names received (state_of (inner_of b)).header)
unfolding met_in
met-fits b names received rx store y =
    pick MetFits (is_connected b)
    (λ t. meets-fits (state_of (inner_of b)).header (state_of (inner_of b)).slots names received (record { state = state_of (inner_of b); rx = rx; store = store }) refl y)
    (λ t. tt)
