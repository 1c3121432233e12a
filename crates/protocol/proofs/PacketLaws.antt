-- Laws that the frames' functions cite. Assumes nothing.
use mathlib.Core.Path.{◌≡◌, ap}
use mathlib.Core.Bool.{Bool}
use mathlib.Core.List.{List}
use Prim.Native.Nat.{ℕ, ◌+◌, ◌-◌, ◌≤◌}
use native.Mathlib.Omega.{arith}
use lib.ListN.{length, take, drop, length-append}
use borrow.Author.Tests.{le-ltb}
use Rattle.le.specs.Le.{put}
use Rattle.le.proofs.Parts.{lent-part, put-put}
use Rattle.checksum.specs.declared.Checksum.{Checksum}
use Rattle.protocol.specs.declared.command.Command.{Command}
use Rattle.protocol.specs.declared.message.Message.{Message}
use Rattle.checksum.specs.Checksum.{check_for}
use Rattle.protocol.specs.Command.{word_of, magic_of, command_of}
use Rattle.protocol.specs.Message.{message_of, header_bytes}
use Rattle.protocol.specs.Packet.{payload_limit, payload_of, check_passes, named_of, decode_of, message_for, packet_bytes, frame_for, Puts, encode_of, Encodes}
use Rattle.protocol.proofs.MessageLaws.{length-header}
use Rattle.std.specs.Prelude.{Result, Ok}
use Rattle.protocol.specs.declared.command.UnknownCommand.{UnknownCommand}

-- the check of the part that the code lends is the check of the payload
pub lent-check : (s : List ℕ) (n check : ℕ) (r t : Bool) → r ≡ check_passes check (take (24 + n - 24) (drop 24 s)) → r ≡ t
    → check_passes check (payload_of s n) ≡ t
unfolding payload_of
lent-check s n check r t e f = let p = ap (check_passes check) (lent-part s 24 n) in cc

-- a header at a place, and the payload behind it, are the frame
pub framed : (d d₁ d₂ payload : List ℕ) (at : ℕ) (c : Command) (a b : ℕ) (k : Checksum) (word check magic r : ℕ) → at + 24 + length payload ≤ length d
    → word ≡ word_of c → check ≡ check_for k payload → magic ≡ magic_of c
    → d₁ ≡ put d at (header_bytes (record { command = word; arg0 = a; arg1 = b; data_length = length payload; data_check = check; magic = magic }))
    → d₂ ≡ put d₁ (at + 24) payload → r ≡ at + 24 + length payload → Puts d at (frame_for c a b payload k) r d₂
unfolding packet_bytes message_for
framed d d₁ d₂ payload at c a b k word check magic r h ew ek em e₁ e₂ er =
    let w = message_for c a b payload (check_for k payload) in
    record {
      out-is = cc (put-put d at (header_bytes w) (at + 24) payload (omega (arith, length-header w)) h);
      end_is = omega (arith, length-header w, length-append (header_bytes w) payload);
    }

-- a frame is its header and its payload
pub frame-length : (c : Command) (a b : ℕ) (payload : List ℕ) (check : ℕ) → length (packet_bytes c a b payload check) ≡ 24 + length payload
unfolding packet_bytes
frame-length c a b payload check = rw (length-append, length-header)

-- with the header here, what its command gives is the answer
pub named-decode : (s : List ℕ) (limit : ℕ) (m : Message) (w : Result Command UnknownCommand) → 24 ≤ length s → m ≡ message_of s → w ≡ command_of m.command
    → named_of s limit m w ≡ decode_of s limit
unfolding decode_of
named-decode s limit m w h e f = rw (le-ltb (length s) 24 h) (cc)

-- a frame at the start of out, where it fits, is what encoding gives
pub encoded : (c : Command) (a b : ℕ) (payload : List ℕ) (k : Checksum) (d out : List ℕ) (r : ℕ) → length payload ≤ payload_limit
    → 24 + length payload ≤ length d → Puts d 0 (frame_for c a b payload k) r out → Encodes (encode_of c a b payload k d) (Ok r) out
unfolding encode_of
encoded c a b payload k d out r h g p =
    let n = frame-length c a b payload (check_for k payload) in
    let e : r ≡ 24 + length payload = omega (arith, p.end_is) in
    rw (le-ltb payload_limit (length payload) h, le-ltb (length d) (24 + length payload) g) (record { result-is = ap Ok e; out-is = p.out-is })
