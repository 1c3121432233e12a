-- The decoder of frames, as a reader of bytes that arrive in pieces. Assumes nothing.
use Rattle.std.specs.Prelude.{ℕ, ◌≤◌, ◌<◌, ◌^◌, min, ◌≡◌, List, length}
use Rattle.checksum.specs.declared.Checksum.{Checksum}
use Rattle.protocol.specs.declared.packet.Packet.{Packet}
use Rattle.protocol.specs.Packet.{payload_limit, payload_of, decode_of, decoded_number, used_of, frame_for}
use Rattle.stream.specs.Stream.{Answer, waiting, message, refused}
use Rattle.protocol.specs.declared.packet.DecodeError.TheVariants.{InvalidCommand, InvalidMagic, PayloadTooLarge, InvalidChecksum}
use Rattle.protocol.specs.declared.packet.DecodeError.{DecodeError}
use Rattle.std.specs.Prelude.{Option, Some, None, Result, Ok, Err}

-- a frame with its payload
pub record Got : Type 0 where
  pub packet : Packet
  pub payload : List ℕ

-- an answer that is no frame: a refusal's number, and the bytes that it uses
abbrev pub refusal : Result (Option Packet) DecodeError → Answer Got
refusal d = refused (decoded_number d) (used_of d)

unfoldable pub answer_of : List ℕ → Result (Option Packet) DecodeError → Answer Got
answer_of s (Ok None) = waiting
answer_of s (Err (InvalidCommand word)) = refusal (Err (InvalidCommand word))
answer_of s (Err InvalidMagic) = refusal (Err InvalidMagic)
answer_of s (Err PayloadTooLarge) = refusal (Err PayloadTooLarge)
answer_of s (Err (InvalidChecksum used)) = refusal (Err (InvalidChecksum used))
answer_of s (Ok (Some p)) = message (record { packet = p; payload = payload_of s p.data_length }) (used_of (Ok (Some p)))

unfoldable pub receives : ℕ → List ℕ → Answer Got
receives limit s = answer_of s (decode_of s limit)

-- the bytes of a frame with its payload, its check by a policy
unfoldable pub bytes_for : Checksum → Got → List ℕ
bytes_for k g = frame_for g.packet.command g.packet.arg0 g.packet.arg1 g.payload k

-- a frame that can be sent to a decoder with this limit
pub record Sendable (limit : ℕ) (g : Got) : Type 0 where
  pub arg0-fits : g.packet.arg0 < 2 ^ 32
  pub arg1-fits : g.packet.arg1 < 2 ^ 32
  pub length-is : g.packet.data_length ≡ length g.payload
  pub within : length g.payload ≤ min limit payload_limit
