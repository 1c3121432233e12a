-- What decoding bytes says of a packet, and which answers are never refusal 13. Assumes nothing.
use mathlib.Core.Path.{◌≡◌, refl, sym, subst, ◌∙◌}
use mathlib.Core.Bool.{not}
use mathlib.Core.List.{List}
use Prim.Native.Nat.{ℕ, ◌+◌, ◌≤◌, min}
use native.Mathlib.Omega.{arith}
use lib.Dec.{eqb, ltb}
use lib.ListN.{length}
use borrow.Author.Tests.{ltb-false}
use Rattle.le.specs.Le.{num_of, part, Bytes}
use Rattle.le.proofs.Laws.{num_of-part, bytes-part}
use Rattle.le.proofs.Parts.{length_part}
use Rattle.config.specs.declared.negotiated.Negotiated.{Negotiated}
use Rattle.protocol.specs.declared.command.Command.{Command}
use Rattle.protocol.specs.declared.packet.Packet.{Packet}
use Rattle.protocol.specs.Command.{magic_of, command_of}
use Rattle.protocol.specs.Message.{message_of}
use Rattle.protocol.specs.Packet.{payload_of, check_passes, packet_of, known_of, named_of, decode_of}
use Rattle.slot.specs.declared.ChannelError.{ChannelError}
use Rattle.slot.specs.declared.ChannelError.TheVariants.{Closed as ErrorClosed, Fault}
use Rattle.slot.specs.declared.ChannelFault.{ChannelFault}
use Rattle.credit.proofs.CreditLaws.{by_number}
use Rattle.slot.specs.declared.ChannelFault.TheVariants.{RxOverflow, BadCredit as CreditBad, UnexpectedCommand as WriteEarly}
use Rattle.slot.specs.Numbers.{fault_number, error_number}
use Rattle.slot.proofs.Kept.{pick}
use Rattle.connection.specs.declared.Answer.{Answer}
use Rattle.connection.specs.declared.Answer.TheVariants.{Refused}
use Rattle.connection.specs.Answer.{refusal_number, answer_number}
use Rattle.connection.specs.Calls.{Lent, body_of, fault_refusal, error_refusal, unless_fault, received_by, received_of}
use Rattle.connection.specs.Act.{PacketFits}
use Rattle.protocol.specs.declared.packet.DecodeError.TheVariants.{InvalidCommand as WordInvalid, InvalidMagic as MagicInvalid, PayloadTooLarge as LengthTooLarge, InvalidChecksum as SumInvalid}
use Rattle.protocol.specs.declared.packet.DecodeError.{DecodeError}
use Rattle.std.specs.Prelude.{Option, Some, None, Result, Ok, Err}
use Rattle.protocol.specs.declared.command.UnknownCommand.{UnknownCommand}

-- ---- answers

-- neither refusal 13 nor 8
abbrev pub Admitted : Answer → Type 0
Admitted a = (answer_number a ≡ 13 → ⊥) × (answer_number a ≡ 8 → ⊥)

pub fault-fine : (f : ChannelFault) → Admitted (Refused (fault_refusal f))
unfolding answer_number
fault-fine RxOverflow = (λ e. omega arith, λ e. omega arith)
fault-fine (CreditBad f) =
    by_number (λ n. (n ≡ 13 → ⊥) × (n ≡ 8 → ⊥)) (λ e. omega arith, λ e. omega arith) (λ e. omega arith, λ e. omega arith) (λ e. omega arith, λ e. omega arith) f
fault-fine WriteEarly = (λ e. omega arith, λ e. omega arith)

pub error-fine : (x : ChannelError) → Admitted (Refused (error_refusal x))
unfolding answer_number
error-fine ErrorClosed = (λ e. omega arith, λ e. omega arith)
error-fine (Fault f) = fault-fine f

-- a fault's and an error's refusal have their numbers
pub fault-number : (f : ChannelFault) → refusal_number (fault_refusal f) ≡ fault_number f
fault-number RxOverflow = refl
fault-number (CreditBad f) = refl
fault-number WriteEarly = refl

pub error-number : (x : ChannelError) → refusal_number (error_refusal x) ≡ error_number x
error-number ErrorClosed = refl
error-number (Fault f) = fault-number f

pub unless-fine : (f : Option ChannelFault) (a : Answer) → Admitted a → Admitted (unless_fault f a)
unfolding unless_fault
unless-fine None a h = h
unless-fine (Some f) a h = fault-fine f

-- ---- packets

module _ (n : Negotiated) (received : List ℕ) where
  abbrev DecodedFits : Result (Option Packet) DecodeError → Type 0
  DecodedFits (Ok None) = Unit {0}
  DecodedFits (Err (WordInvalid word)) = Unit {0}
  DecodedFits (Err MagicInvalid) = Unit {0}
  DecodedFits (Err LengthTooLarge) = Unit {0}
  DecodedFits (Err (SumInvalid used)) = Unit {0}
  DecodedFits (Ok (Some p)) = PacketFits n p (body_of received p)

  abbrev pub ReceivedFits : Result Packet (Answer × ℕ) → Type 0
  ReceivedFits (Ok p) = PacketFits n p (body_of received p)
  ReceivedFits (Err (a, used)) = Admitted a

  module _ (y : Bytes received) where
    known-fits : (c : Command) → DecodedFits (known_of received n.config.max_payload c (message_of received))
    unfolding known_of packet_of message_of payload_of
    known-fits c =
        let k = num_of (part received 12 4) in
        let limit = min n.config.max_payload 1_048_576 in
        pick DecodedFits (not (eqb (num_of (part received 20 4)) (magic_of c))) (λ t. tt)
        (λ t. pick DecodedFits (ltb limit k) (λ u. tt)
        (λ u. pick DecodedFits (ltb (length received) (24 + k)) (λ v. tt)
        (λ v. pick DecodedFits (check_passes (num_of (part received 16 4)) (part received 24 k))
        (λ w. let a = ltb-false limit k u in
        let b = ltb-false (length received) (24 + k) v in
        let e = length_part received 24 k b in
        record { arg0 = num_of-part 4 received 4 y; arg1 = num_of-part 4 received 8 y; small = omega arith; bytes = bytes-part received 24 k y })
        (λ w. tt))))

    named-fits : (w : Result Command UnknownCommand) → DecodedFits (named_of received n.config.max_payload (message_of received) w)
    unfolding named_of
    named-fits (Ok c) = known-fits c
    named-fits (Err unknown) = tt

    decoded-fits : DecodedFits (decode_of received n.config.max_payload)
    unfolding decode_of
    decoded-fits = pick DecodedFits (ltb (length received) 24) (λ t. tt) (λ t. named-fits (command_of (message_of received).command))

    received-by : (d : Result (Option Packet) DecodeError) → DecodedFits d → ReceivedFits (received_by d)
    unfolding received_by answer_number
    received-by (Ok None) g = (λ e. omega arith, λ e. omega arith)
    received-by (Err (WordInvalid word)) g = (λ e. omega arith, λ e. omega arith)
    received-by (Err MagicInvalid) g = (λ e. omega arith, λ e. omega arith)
    received-by (Err LengthTooLarge) g = (λ e. omega arith, λ e. omega arith)
    received-by (Err (SumInvalid used)) g = (λ e. omega arith, λ e. omega arith)
    received-by (Ok (Some p)) g = g

pub received-fits : (l : Lent) (received : List ℕ) → Bytes received → ReceivedFits l.state.header.negotiated received (received_of l received)
unfolding received_of
received-fits l received y =
    received-by l.state.header.negotiated received y (decode_of received l.state.header.negotiated.config.max_payload)
    (decoded-fits l.state.header.negotiated received y)

-- ---- where a packet's payload lies

pub record PacketRoom (received : List ℕ) (limit : ℕ) (p : Packet) : Type 0 where
  pub whole : 24 + p.data_length ≤ length received
  pub body : length (body_of received p) ≡ p.data_length
  pub small : p.data_length ≤ limit
  pub most : p.data_length ≤ 1_048_576

module _ (received : List ℕ) (limit : ℕ) where
  abbrev RoomIn : Result Packet (Answer × ℕ) → Type 0
  RoomIn (Ok p) = PacketRoom received limit p
  RoomIn (Err (a, used)) = Unit {0}

  known-room : (c : Command) → RoomIn (received_by (known_of received limit c (message_of received)))
  unfolding known_of packet_of message_of payload_of received_by
  known-room c =
      let R : Result (Option Packet) DecodeError → Type 0 = λ d. RoomIn (received_by d) in
      let k = num_of (part received 12 4) in
      let most = min limit 1_048_576 in
      pick R (not (eqb (num_of (part received 20 4)) (magic_of c))) (λ t. tt)
      (λ t. pick R (ltb most k) (λ u. tt)
      (λ u. pick R (ltb (length received) (24 + k)) (λ v. tt)
      (λ v. pick R (check_passes (num_of (part received 16 4)) (part received 24 k))
      (λ w. let a = ltb-false most k u in
      let b = ltb-false (length received) (24 + k) v in
      let e = length_part received 24 k b in
      record { whole = b; body = e; small = omega arith; most = omega arith })
      (λ w. tt))))

  named-room : (w : Result Command UnknownCommand) → RoomIn (received_by (named_of received limit (message_of received) w))
  unfolding named_of received_by
  named-room (Ok c) = known-room c
  named-room (Err unknown) = tt

  room_in : RoomIn (received_by (decode_of received limit))
  unfolding decode_of received_by
  room_in = pick (λ (d : Result (Option Packet) DecodeError). RoomIn (received_by d)) (ltb (length received) 24) (λ t. tt) (λ t. named-room (command_of (message_of received).command))

  pub packet-room : (r : Result Packet (Answer × ℕ)) (p : Packet) → r ≡ received_by (decode_of received limit) → r ≡ Ok p → PacketRoom received limit p
  packet-room r p e f = subst RoomIn (sym e ∙ f) room_in
