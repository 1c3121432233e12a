-- What a read said, handed to a write. Assumes nothing.
--     handed-back    the frame behind the record's header and the time, with room enough, give back the bytes used
use mathlib.Core.Path.{◌≡◌, refl}
use mathlib.Core.List.{List}
use Prim.Native.Nat.{ℕ, ◌≤◌}
use native.Mathlib.Omega.{arith}
use lib.ListN.{length, take}
use Rattle.le.specs.Le.{put, Bytes}
use Rattle.std.proofs.Common.{Some, None, Ok, Err}
use Rattle.pcap.specs.declared.ReadError.TheVariants.{InvalidLength}
use Rattle.pcap.specs.Record.{snap_length, Read, read_record, read_number}
use Rattle.pcap.proofs.RoundTrip.{read-write}
use Rattle.adb_pcap.specs.Export.{said_of, writes_said}

handed : (s out : List ℕ) (r : Read) → Bytes s → read_record snap_length s ≡ r → read_number r ≡ 0 → (said_of r).used ≤ length out
    → writes_said (said_of r) s out ≡ record { result = Ok (said_of r).used; out = put out 0 (take (said_of r).used s) }
unfolding said_of
handed s out (Ok None) h e z room = absurd (omega arith)
handed s out (Err InvalidLength) h e z room = absurd (omega arith)
handed s out (Ok (Some r)) h e z room = read-write snap_length s r out h e room

pub handed-back : (s out : List ℕ) → Bytes s → read_number (read_record snap_length s) ≡ 0 → (said_of (read_record snap_length s)).used ≤ length out
    → writes_said (said_of (read_record snap_length s)) s out
    ≡ record { result = Ok (said_of (read_record snap_length s)).used; out = put out 0 (take (said_of (read_record snap_length s)).used s) }
handed-back s out h z room = handed s out (read_record snap_length s) h refl z room
