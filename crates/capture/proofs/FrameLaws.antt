-- Laws of the next frame. Assumes nothing.
use mathlib.Core.Path.{◌≡◌, refl, ap}
use mathlib.Core.List.{List}
use Prim.Native.Nat.{ℕ, ◌+◌, ◌≤◌}
use native.Mathlib.Omega.{arith}
use lib.ListN.{length}
use Rattle.protocol.specs.declared.packet.Packet.{Packet}
use Rattle.protocol.specs.Packet.{payload_limit, packet_of, decode_of}
use Rattle.protocol.proofs.RoundTrip.{says}
use Rattle.std.specs.Prelude.{Some, None, Ok, Err}
use Rattle.pcap.specs.declared.Record.{Record}
use Rattle.pcap.specs.Record.{Read, read_record}
use Rattle.pcap.proofs.ReadLaws.{says as record-says}
use Rattle.capture.specs.Capture.{read_of, next_record}

-- an accepted frame's payload is within the maximum
pub accepted_small : (s : List ℕ) (limit : ℕ) (p : Packet) → decode_of s limit ≡ Ok (Some p) → p.data_length ≤ payload_limit
unfolding packet_of
accepted_small s limit p e =
    let y = says s limit p e in
    let q = ap (λ (k : Packet). k.data_length) y.known.packet-is in
    omega (arith, y.known.within)

-- a record's header and its frame are here
read_here : (hold : ℕ) (s : List ℕ) (n : ℕ) (d : Read) → read_record hold s ≡ d → read_of d ≡ Ok (Some n) → 16 + n ≤ length s
unfolding read_of
read_here hold s n (Ok None) e f = let z : ◌≡◌ {A = ℕ} 0 1 = cc in absurd (omega arith)
read_here hold s n (Err x) e f = let z : ◌≡◌ {A = ℕ} 0 1 = cc in absurd (omega arith)
read_here hold s n (Ok (Some r)) e f =
    let y = record-says hold s r e in
    let l = ap (λ (x : Record). x.length) y.record-is in
    let z : r.length ≡ n = cc in
    omega (arith, y.whole)

pub record-here : (hold : ℕ) (s : List ℕ) (n : ℕ) → next_record hold s ≡ Ok (Some n) → 16 + n ≤ length s
unfolding next_record
record-here hold s n e = read_here hold s n (read_record hold s) refl e
