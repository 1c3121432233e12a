-- The header of a pcap file (docs/SCOPE.md, 12). Assumes nothing.
use Rattle.std.specs.Prelude.{ℕ, Bool, true, cond, not, List, ◌++◌, ltb, eqb, Option, Some, None, Result, Ok, Err, length}
use Rattle.le.specs.Le.{num_of, bytes_of, part, put}
use Rattle.refusal.specs.Refusal.{read_number_of}
use Rattle.pcap.specs.declared.Header.{Header}
use Rattle.pcap.specs.declared.HeaderError.{HeaderError}
use Rattle.pcap.specs.declared.HeaderError.TheVariants.{Invalid}
use Rattle.refusal.specs.declared.WriteError.TheVariants.{OutShort}
use Rattle.pcap.specs.Record.{snap_length, Composed}

-- its 24 bytes: the magic number of microseconds, version 2.4, zone 0, accuracy 0, snap length, link type
unfoldable pub file_header : List ℕ
file_header =
    bytes_of 4 0xa1b2_c3d4 ++ bytes_of 2 2 ++ bytes_of 2 4 ++ bytes_of 4 0 ++ bytes_of 4 0 ++ bytes_of 4 snap_length ++ bytes_of 4 147

-- whether bytes have another 32-bit number at a place than this one
unfoldable pub has_other : List ℕ → ℕ → ℕ → Bool
has_other s at word = not (eqb (num_of (part s at 4)) word)

-- whether the first 24 bytes are another header, word by word; the version's two numbers are one word
unfoldable pub is_other : List ℕ → Bool
is_other s =
    cond (has_other s 0 0xa1b2_c3d4) true
    (cond (has_other s 4 0x0004_0002) true
    (cond (has_other s 8 0) true
    (cond (has_other s 12 0) true
    (cond (has_other s 16 snap_length) true
    (has_other s 20 147)))))

-- what a file's bytes begin with
abbrev pub HeaderRead : Type 0
HeaderRead = Result (Option Header) HeaderError

-- under 24 bytes: waiting; then 22 for another header
unfoldable pub read_header : List ℕ → HeaderRead
read_header s = cond (ltb (length s) 24) (Ok None) (cond (is_other s) (Err Invalid) (Ok (Some (record {}))))

-- a refusal's number
abbrev pub header_refusal : HeaderError → ℕ
header_refusal Invalid = 22

-- the number of an answer: a refusal's own, 100 for waiting, 0 for the header
abbrev pub header_number : HeaderRead → ℕ
header_number = read_number_of header_refusal

-- writing it to out: 9 for a short buffer
unfoldable pub write_header : List ℕ → Composed
write_header out =
    cond (ltb (length out) 24) (record { result = Err OutShort; out = out }) (record { result = Ok 24; out = put out 0 file_header })
