-- Received frames to the records of a capture, and back (docs/SCOPE.md, 12). Assumes nothing.
use Rattle.std.specs.Prelude.{ℕ, ◌+◌, Bool, false, cond, List, ltb, Option, Some, None, Result, Ok, Err, length}
use Rattle.le.specs.Le.{num_of, part}
use Rattle.protocol.specs.declared.packet.Packet.{Packet}
use Rattle.protocol.specs.declared.packet.DecodeError.{DecodeError}
use Rattle.protocol.specs.declared.packet.DecodeError.TheVariants.{PayloadTooLarge}
use Rattle.protocol.specs.Message.{message_size}
use Rattle.protocol.specs.Packet.{payload_limit, decode_of}
use Rattle.pcap.specs.declared.Time.{Time}
use Rattle.pcap.specs.declared.ReadError.{ReadError}
use Rattle.pcap.specs.Record.{Read, Composed, read_record, write_head}

-- a header is here that announces a frame of more than `hold` bytes, with the header's own
unfoldable pub is_long : ℕ → List ℕ → Bool
is_long hold s = cond (ltb (length s) message_size) false (ltb hold (message_size + num_of (part s 12 4)))

-- what received bytes begin with: a frame of a length
abbrev pub Next : Type 0
Next = Result (Option ℕ) DecodeError

-- what decoding gave: a frame's length, or the refusal
unfoldable pub next_of : Result (Option Packet) DecodeError → Next
next_of (Ok None) = Ok None
next_of (Ok (Some p)) = Ok (Some (message_size + p.data_length))
next_of (Err e) = Err e

-- decoding at limit 1,048,576
unfoldable pub taken_of : List ℕ → Next
taken_of s = next_of (decode_of s payload_limit)

-- a longer frame than is held ends the capture, as a payload that is too large; else decoding decides
unfoldable pub next_frame : ℕ → List ℕ → Next
next_frame hold s = cond (is_long hold s) (Err PayloadTooLarge) (taken_of s)

-- time 0
abbrev pub zero_time : Time
zero_time = record { seconds = 0; micros = 0 }

-- a record's header at time 0: whether it was made, and the bytes that it is made in
unfoldable pub head_for : ℕ → List ℕ → Composed
head_for n head = write_head zero_time n head

-- what reading a record gave: the length of its frame, or the refusal
unfoldable pub read_of : Read → Result (Option ℕ) ReadError
read_of (Ok None) = Ok None
read_of (Ok (Some r)) = Ok (Some r.length)
read_of (Err e) = Err e

-- a record whose frame is longer than is held is refused
unfoldable pub next_record : ℕ → List ℕ → Result (Option ℕ) ReadError
next_record hold s = read_of (read_record hold s)
