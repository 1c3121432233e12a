-- Laws of headers. Assumes nothing.
use mathlib.Core.Path.{◌≡◌, refl}
use mathlib.Core.List.{List, ◌++◌}
use Prim.Native.Nat.{ℕ, ◌≤◌, ◌<◌, ◌^◌}
use native.Mathlib.Omega.{arith}
use lib.ListN.{length}
use Rattle.le.specs.Le.{bytes_of, part, Bytes}
use Rattle.le.proofs.Laws.{write_read, read-write-part}
use Rattle.le.proofs.Parts.{part_join}
use Rattle.protocol.specs.declared.message.Message.{Message}
use Rattle.protocol.specs.Message.{message_of, header_bytes}

pub length-header : (m : Message) → length (header_bytes m) ≡ 24
unfolding header_bytes bytes_of
length-header m = refl

-- every word of a header is of 32 bits
pub record Words (m : Message) : Type 0 where
  pub command-fits : m.command < 2 ^ 32
  pub arg0-fits : m.arg0 < 2 ^ 32
  pub arg1-fits : m.arg1 < 2 ^ 32
  pub length-fits : m.data_length < 2 ^ 32
  pub check-fits : m.data_check < 2 ^ 32
  pub magic-fits : m.magic < 2 ^ 32

-- a header, written and read again
pub read-header : (m : Message) (rest : List ℕ) → Words m → message_of (header_bytes m ++ rest) ≡ m
unfolding message_of header_bytes bytes_of part
read-header m rest w =
    rw (
      write_read 4 m.command w.command-fits,
      write_read 4 m.arg0 w.arg0-fits,
      write_read 4 m.arg1 w.arg1-fits,
      write_read 4 m.data_length w.length-fits,
      write_read 4 m.data_check w.check-fits,
      write_read 4 m.magic w.magic-fits,
    )

-- 24 bytes, read and written again
pub write-header : (s : List ℕ) → Bytes s → 24 ≤ length s → header_bytes (message_of s) ≡ part s 0 24
unfolding message_of header_bytes
write-header s h n =
    rw (
      read-write-part s 0 4 h (omega arith),
      read-write-part s 4 4 h (omega arith),
      read-write-part s 8 4 h (omega arith),
      read-write-part s 12 4 h (omega arith),
      read-write-part s 16 4 h (omega arith),
      read-write-part s 20 4 h (omega arith),
      part_join s 0 4 4,
      part_join s 0 8 4,
      part_join s 0 12 4,
      part_join s 0 16 4,
      part_join s 0 20 4,
    )
