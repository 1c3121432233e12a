-- The header of a frame: six 32-bit words in little-endian order (protocol.txt, "protocol overview and basics").
-- Assumes nothing.
use Rattle.std.specs.Prelude.{ℕ, List, ◌++◌}
use Rattle.le.specs.Le.{num_of, bytes_of, part}
use Rattle.protocol.specs.declared.message.Message.{Message}

-- the length of a header
abbrev pub message_size : ℕ
message_size = 24

-- the header that bytes begin with
unfoldable pub message_of : List ℕ → Message
message_of s =
    record {
      command = num_of (part s 0 4);
      arg0 = num_of (part s 4 4);
      arg1 = num_of (part s 8 4);
      data_length = num_of (part s 12 4);
      data_check = num_of (part s 16 4);
      magic = num_of (part s 20 4);
    }

-- a header's bytes
unfoldable pub header_bytes : Message → List ℕ
header_bytes m =
    bytes_of 4 m.command ++ bytes_of 4 m.arg0 ++ bytes_of 4 m.arg1 ++ bytes_of 4 m.data_length
    ++ bytes_of 4 m.data_check ++ bytes_of 4 m.magic
