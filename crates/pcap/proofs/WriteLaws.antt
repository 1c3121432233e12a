-- Laws of what is put: words one behind the other are a header, a header and a frame are a record. Assumes nothing.
use mathlib.Core.Path.{◌≡◌, refl}
use Rattle.std.proofs.Common.{Ok}
use mathlib.Core.List.{List, [], ◌∷◌}
use Prim.Native.Nat.{ℕ, ◌+◌, ◌≤◌}
use native.Mathlib.Omega.{arith}
use lib.ListN.{length, length-append}
use borrow.Author.Tests.{le-ltb}
use Rattle.le.specs.Le.{bytes_of, put}
use Rattle.le.specs.Rows.{flat}
use Rattle.le.proofs.Parts.{put-put}
use Rattle.pcap.specs.declared.Time.{Time}
use Rattle.pcap.specs.Header.{file_header}
use Rattle.pcap.specs.Record.{snap_length, record_head, record_bytes, write_record, Writes}

pub length-header : length file_header ≡ 24
unfolding file_header bytes_of
length-header = refl

pub length-head : (t : Time) (n : ℕ) → length (record_head t n) ≡ 16
unfolding record_head bytes_of
length-head t n = refl

pub length-record : (t : Time) (frame : List ℕ) → length (record_bytes t frame) ≡ 16 + length frame
unfolding record_bytes
length-record t frame = rw (length-append, length-head)

-- four words are a record's header
pub four_words : (t : Time) (n : ℕ) → flat (bytes_of 4) (t.seconds ∷ t.micros ∷ n ∷ n ∷ []) ≡ record_head t n
unfolding flat record_head bytes_of
four_words t n = refl

-- a frame behind a record's header is a record
pub put_record : (d : List ℕ) (t : Time) (frame : List ℕ) → 16 + length frame ≤ length d
    → put (put d 0 (record_head t (length frame))) 16 frame ≡ put d 0 (record_bytes t frame)
unfolding record_bytes
put_record d t frame h = put-put d 0 (record_head t (length frame)) 16 frame (omega (arith, length-head t (length frame))) h

-- past its tests, what a writer put is what writing gives
pub record-written : (t : Time) (frame d out : List ℕ) → length frame ≤ snap_length → 16 + length frame ≤ length d → out ≡ put d 0 (record_bytes t frame)
    → Writes (write_record t frame d) (Ok (16 + length frame)) out
unfolding write_record
record-written t frame d out s h e =
    rw (le-ltb snap_length (length frame) s, le-ltb (length d) (16 + length frame) h) (record { result-is = refl; out-is = e })
