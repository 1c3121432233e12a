-- The records of a pcap file (docs/SCOPE.md, 12). Assumes nothing.
use Rattle.std.specs.Prelude.{ℕ, ◌+◌, ◌≤◌, ◌<◌, ◌^◌, Bool, true, cond, not, List, ◌++◌, ltb, eqb, Option, Some, None, Result, Ok, Err, length}
use Rattle.refusal.specs.Refusal.{number_of, read_number_of}
use Rattle.refusal.specs.declared.WriteError.{WriteError}
use Rattle.refusal.specs.declared.WriteError.TheVariants.{Refused, OutShort}
use Rattle.refusal.specs.Written.{Composed as ComposedOf, write_refusal as refusal_of}
pub use Rattle.refusal.specs.Written.{Writes}
use Rattle.le.specs.Le.{num_of, bytes_of, part, put}
use Rattle.pcap.specs.declared.Time.{Time}
use Rattle.pcap.specs.declared.Record.{Record}
use Rattle.pcap.specs.declared.ReadError.{ReadError}
use Rattle.pcap.specs.declared.ReadError.TheVariants.{InvalidLength}

-- the longest frame of a record: a frame's header of 24 bytes and a payload of 1,048,576
abbrev pub snap_length : ℕ
snap_length = 1_048_600

-- ---- reading

-- seconds and microseconds, the first two numbers
unfoldable pub time_of : List ℕ → Time
time_of s = record { seconds = num_of (part s 0 4); micros = num_of (part s 4 4) }

-- the kept length, and the original one
unfoldable pub kept_of : List ℕ → ℕ
kept_of s = num_of (part s 8 4)

unfoldable pub original_of : List ℕ → ℕ
original_of s = num_of (part s 12 4)

-- lengths that are refused: kept is not original, or over the limit, or over the snap length
unfoldable pub is_refused : ℕ → ℕ → ℕ → Bool
is_refused limit kept original = cond (not (eqb kept original)) true (cond (ltb limit kept) true (ltb snap_length kept))

-- what received bytes begin with
abbrev pub Read : Type 0
Read = Result (Option Record) ReadError

-- a record with a frame of n bytes, and its header ahead of them
abbrev pub record_in : Time → ℕ → Record
record_in t n = record { time = t; length = n; used = 16 + n }

-- under 16 bytes: waiting; then 23; then waiting for the frame
unfoldable pub read_record : ℕ → List ℕ → Read
read_record limit s =
    cond (ltb (length s) 16) (Ok None)
    (cond (is_refused limit (kept_of s) (original_of s)) (Err InvalidLength)
    (cond (ltb (length s) (16 + kept_of s)) (Ok None)
    (Ok (Some (record_in (time_of s) (kept_of s))))))

-- a refusal's number
abbrev pub read_refusal : ReadError → ℕ
read_refusal InvalidLength = 23

-- the number of an answer: a refusal's own, 100 for waiting, 0 for a record
abbrev pub read_number : Read → ℕ
read_number = read_number_of read_refusal

-- bytes used: those of a record, none otherwise
unfoldable pub used_of : Read → ℕ
used_of (Ok None) = 0
used_of (Ok (Some r)) = r.used
used_of (Err e) = 0

-- ---- writing

-- the header of a record whose frame has n bytes: all of them are kept
unfoldable pub record_head : Time → ℕ → List ℕ
record_head t n = bytes_of 4 t.seconds ++ bytes_of 4 t.micros ++ bytes_of 4 n ++ bytes_of 4 n

-- the bytes of a record
unfoldable pub record_bytes : Time → List ℕ → List ℕ
record_bytes t frame = record_head t (length frame) ++ frame

-- the numbers of a time are of 32 bits
pub record Words (t : Time) : Type 0 where
  pub seconds-fits : t.seconds < 2 ^ 32
  pub micros-fits : t.micros < 2 ^ 32

-- what a writer asks: a frame within the snap length, and room for the record
pub record Room (out frame : List ℕ) : Type 0 where
  pub small : length frame ≤ snap_length
  pub fits : 16 + length frame ≤ length out

-- what became of what was to be written: its length, or why it was not
abbrev pub Written : Type 0
Written = Result ℕ (WriteError ReadError)

-- what writing gives: its answer, and the outgoing bytes after it
abbrev pub Composed : Type 0
Composed = ComposedOf (WriteError ReadError)

-- a record's header alone: a frame over the snap length is refused by 23, a short buffer by 9
unfoldable pub write_head : Time → ℕ → List ℕ → Composed
write_head t n out =
    cond (ltb snap_length n) (record { result = Err (Refused InvalidLength); out = out })
    (cond (ltb (length out) 16) (record { result = Err OutShort; out = out })
    (record { result = Ok 16; out = put out 0 (record_head t n) }))

-- a record: the same refusals, with room for the frame
unfoldable pub write_record : Time → List ℕ → List ℕ → Composed
write_record t frame out =
    cond (ltb snap_length (length frame)) (record { result = Err (Refused InvalidLength); out = out })
    (cond (ltb (length out) (16 + length frame)) (record { result = Err OutShort; out = out })
    (record { result = Ok (16 + length frame); out = put out 0 (record_bytes t frame) }))

-- a refusal's number
abbrev pub write_refusal : WriteError ReadError → ℕ
write_refusal = refusal_of read_refusal

-- the number of its answer: a refusal's own, 0 for what was written
abbrev pub written_number : Written → ℕ
written_number = number_of write_refusal
