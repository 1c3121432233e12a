-- Frames (docs/SCOPE.md, 2; packet.rs; protocol.txt, "protocol overview and basics"). Assumes nothing.
use Rattle.std.specs.Prelude.{ℕ, ◌+◌, ◌-◌, ◌≤◌, min, ◌≡◌, Bool, true, cond, not, List, ◌++◌, ltb, eqb, length}
use Rattle.le.specs.Le.{num_of, part, put}
use Rattle.checksum.specs.declared.Checksum.{Checksum}
use Rattle.protocol.specs.declared.command.Command.{Command}
use Rattle.protocol.specs.declared.message.Message.{Message}
use Rattle.protocol.specs.declared.packet.Packet.{Packet}
use Rattle.refusal.specs.Refusal.{number_of, read_number_of}
use Rattle.checksum.specs.Checksum.{sum_of, check_for}
use Rattle.protocol.specs.Command.{word_of, magic_of, command_of}
use Rattle.protocol.specs.Message.{message_size, message_of, header_bytes}
use Rattle.protocol.specs.declared.packet.DecodeError.TheVariants.{InvalidCommand, InvalidMagic, PayloadTooLarge, InvalidChecksum}
use Rattle.protocol.specs.declared.packet.DecodeError.{DecodeError}
use Rattle.std.specs.Prelude.{Option, Some, None, Result, Ok, Err}
use Rattle.protocol.specs.declared.packet.EncodeError.TheVariants.{OutShort, PayloadTooLarge as TooLarge}
use Rattle.protocol.specs.declared.packet.EncodeError.{EncodeError}
use Rattle.protocol.specs.declared.command.UnknownCommand.{UnknownCommand}

-- the longest payload of a frame
abbrev pub payload_limit : ℕ
payload_limit = 1_048_576

-- a frame with no payload
unfoldable pub empty_packet : Command → ℕ → ℕ → Packet
empty_packet c a b = record { command = c; arg0 = a; arg1 = b; data_length = 0 }

-- the payload of a frame: the n bytes from byte 24 on
unfoldable pub payload_of : List ℕ → ℕ → List ℕ
payload_of s n = part s message_size n

-- a check of 0 is not compared
unfoldable pub check_passes : ℕ → List ℕ → Bool
check_passes check payload = cond (eqb check 0) true (eqb (sum_of payload) check)

-- the frame that a header announces
unfoldable pub packet_of : Command → Message → Packet
packet_of c m = record { command = c; arg0 = m.arg0; arg1 = m.arg1; data_length = m.data_length }

-- once the command is known: 2, 3, waiting for the whole frame, 4
unfoldable pub known_of : List ℕ → ℕ → Command → Message → Result (Option Packet) DecodeError
known_of s limit c m =
    cond (not (eqb m.magic (magic_of c))) (Err InvalidMagic)
    (cond (ltb (min limit payload_limit) m.data_length) (Err PayloadTooLarge)
    (cond (ltb (length s) (message_size + m.data_length)) (Ok None)
    (cond (check_passes m.data_check (payload_of s m.data_length)) (Ok (Some (packet_of c m)))
    (Err (InvalidChecksum (message_size + m.data_length))))))

-- 1, with the word, or what the known command gives
unfoldable pub named_of : List ℕ → ℕ → Message → Result Command UnknownCommand → Result (Option Packet) DecodeError
named_of s limit m (Ok c) = known_of s limit c m
named_of s limit m (Err e) = Err (InvalidCommand e.0)

-- under 24 bytes: waiting; then the header decides
unfoldable pub decode_of : List ℕ → ℕ → Result (Option Packet) DecodeError
decode_of s limit =
    cond (ltb (length s) message_size) (Ok None) (named_of s limit (message_of s) (command_of (message_of s).command))

-- the number of a refusal (docs/SCOPE.md, 6)
abbrev pub decode_error_number : DecodeError → ℕ
decode_error_number (InvalidCommand word) = 1
decode_error_number InvalidMagic = 2
decode_error_number PayloadTooLarge = 3
decode_error_number (InvalidChecksum used) = 4

-- the number of an answer: a refusal's own, 100 for waiting, 0 for a frame
abbrev pub decoded_number : Result (Option Packet) DecodeError → ℕ
decoded_number = read_number_of decode_error_number

-- bytes used: the whole frame where it is accepted or refused by 4, none otherwise
unfoldable pub used_of : Result (Option Packet) DecodeError → ℕ
used_of (Ok None) = 0
used_of (Err (InvalidCommand word)) = 0
used_of (Err InvalidMagic) = 0
used_of (Err PayloadTooLarge) = 0
used_of (Err (InvalidChecksum used)) = used
used_of (Ok (Some p)) = message_size + p.data_length

-- bytes that are missing: the rest of the header, or of the payload that it declares
unfoldable pub missing_of : List ℕ → ℕ
missing_of s = cond (ltb (length s) message_size) (message_size - length s) (num_of (part s 12 4) - (length s - message_size))

-- the header of a frame with this payload and this check
unfoldable pub message_for : Command → ℕ → ℕ → List ℕ → ℕ → Message
message_for c a b payload check =
    record { command = word_of c; arg0 = a; arg1 = b; data_length = length payload; data_check = check; magic = magic_of c }

-- the bytes of a frame
unfoldable pub packet_bytes : Command → ℕ → ℕ → List ℕ → ℕ → List ℕ
packet_bytes c a b payload check = header_bytes (message_for c a b payload check) ++ payload

-- a frame whose check is the policy's
abbrev pub frame_for : Command → ℕ → ℕ → List ℕ → Checksum → List ℕ
frame_for c a b payload k = packet_bytes c a b payload (check_for k payload)

-- what a writer at a place asks: a payload within the maximum, and room for its frame
pub record FrameRoom (out : List ℕ) (at : ℕ) (payload : List ℕ) : Type 0 where
  pub small : length payload ≤ payload_limit
  pub fits : at + message_size + length payload ≤ length out

-- what it promises: the frame stands at the place, every other byte is as it was, and the answer is the place past it
pub record Puts (d : List ℕ) (at : ℕ) (frame : List ℕ) (r : ℕ) (out : List ℕ) : Type 0 where
  pub out-is : out ≡ put d at frame
  pub end_is : r ≡ at + length frame

-- what encoding gives: its answer, and the outgoing bytes after it
pub record Encoding : Type 0 where
  pub result : Result ℕ EncodeError
  pub out : List ℕ

-- a payload over the maximum is refused by 3, a short buffer by 9; else the frame stands at the start of out
unfoldable pub encode_of : Command → ℕ → ℕ → List ℕ → Checksum → List ℕ → Encoding
encode_of c a b payload k out =
    cond (ltb payload_limit (length payload)) (record { result = Err TooLarge; out = out })
    (cond (ltb (length out) (message_size + length payload)) (record { result = Err OutShort; out = out })
    (record { result = Ok (message_size + length payload); out = put out 0 (frame_for c a b payload k) }))

-- what `encode` promises: the definition's answer, and every byte of out
pub record Encodes (o : Encoding) (r : Result ℕ EncodeError) (out : List ℕ) : Type 0 where
  pub result-is : r ≡ o.result
  pub out-is : out ≡ o.out

-- the number of a refusal (docs/SCOPE.md, 6)
abbrev pub encode_error_number : EncodeError → ℕ
encode_error_number TooLarge = 3
encode_error_number OutShort = 9

-- the number of its answer: a refusal's own, 0 for a frame
abbrev pub encoded_number : Result ℕ EncodeError → ℕ
encoded_number = number_of encode_error_number
