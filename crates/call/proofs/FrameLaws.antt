-- Frames of a connection, as bytes in its outgoing buffer. Assumes nothing.
use mathlib.Core.Path.{◌≡◌, refl, sym, ap, subst, ◌∙◌}
use mathlib.Core.Bool.{true, cond}
use mathlib.Core.List.{List, [], ◌∷◌, ◌++◌, append_assoc, append-nil}
use Prim.Native.Nat.{ℕ, ◌+◌, ◌*◌, ◌/◌, ◌%◌, ◌≤◌, ◌<◌}
use native.Mathlib.Omega.{arith}
use lib.ListN.{length, length-append}
use Rattle.le.specs.Le.{bytes_of}
use Rattle.le.proofs.Parts.{by-test, put-none}
use Rattle.std.specs.Bool.{then_some}
use Rattle.config.specs.declared.negotiated.Negotiated.{Negotiated}
use Rattle.checksum.specs.declared.Checksum.{Checksum}
use Rattle.protocol.specs.Packet.{Puts}
use Rattle.checksum.specs.Checksum.{policy_for}
use Rattle.slot.specs.declared.ids.ChannelIds.{ChannelIds}
use Rattle.slot.specs.declared.ChannelSlot.{ChannelSlot}
use Rattle.slot.specs.Slot.{is_ack}
use Rattle.slot.proofs.Kept.{pick}
use Rattle.le.specs.Rows.{flat}
use Rattle.wire.specs.Wire.{okay_bytes, okay_with, credit_bytes}
use Rattle.wire.proofs.Laws.{okay-length, close-length}
use Rattle.connection.specs.Calls.{ack_frames, ids_in}
use Rattle.connection.specs.Frames.{Frame, okay_frame, close_frame, frame_bytes, frames_bytes}
use Rattle.std.specs.Prelude.{Option, Some, None}

-- ---- bytes

bytes_low : (r q : ℕ) → r < 4294967296 → bytes_of 4 r ≡ bytes_of 4 (r + 4294967296 * q)
unfolding bytes_of
bytes_low r q h =
    let x = r + 4294967296 * q in
    let d1 : x / 256 ≡ r / 256 + 16777216 * q = omega arith in
    let d2 : (r / 256 + 16777216 * q) / 256 ≡ r / 256 / 256 + 65536 * q = omega arith in
    let d3 : (r / 256 / 256 + 65536 * q) / 256 ≡ r / 256 / 256 / 256 + 256 * q = omega arith in
    let e0 : x % 256 ≡ r % 256 = omega arith in
    let e1 : (r / 256 + 16777216 * q) % 256 ≡ r / 256 % 256 = omega arith in
    let e2 : (r / 256 / 256 + 65536 * q) % 256 ≡ r / 256 / 256 % 256 = omega arith in
    let e3 : (r / 256 / 256 / 256 + 256 * q) % 256 ≡ r / 256 / 256 / 256 % 256 = omega arith in
    rw (d1, d2, d3, e0, e1, e2, e3)

-- four bytes hold the low 32 bits
low-bytes : (x : ℕ) → bytes_of 4 (x % 4294967296) ≡ bytes_of 4 x
low-bytes x =
    let e : x % 4294967296 + 4294967296 * (x / 4294967296) ≡ x = omega arith in
    bytes_low (x % 4294967296) (x / 4294967296) (omega arith) ∙ ap (bytes_of 4) e

-- ---- frames

pub okay-puts : (n : Negotiated) (ids : ChannelIds) (len x : ℕ) (credit : Option ℕ) (k : Checksum) (d out : List ℕ) (at r : ℕ)
    → x ≡ len % 0x1_0000_0000 → credit ≡ then_some n.delayed_ack x → k ≡ policy_for n.protocol_version
    → Puts d at (okay_with ids credit k) r out → Puts d at (frame_bytes n (okay_frame ids len)) r out
unfolding frame_bytes okay_bytes credit_bytes
okay-puts n ids len x credit k d out at r e f g p =
    let z : bytes_of 4 x ≡ bytes_of 4 len = ap (bytes_of 4) e ∙ low-bytes len in
    by-test n.delayed_ack
    (λ t. let c : credit ≡ Some x = rw t at f in rw (t, sym g, sym z) (rw c at p))
    (λ t. let c : credit ≡ None = rw t at f in rw (t, sym g) (rw c at p))

-- an OKAY is of at most 28 bytes, a CLSE of 24
pub okay-short : (n : Negotiated) (ids : ChannelIds) (len : ℕ) → length (frame_bytes n (okay_frame ids len)) ≤ 28
unfolding frame_bytes
okay-short n ids len =
    let e = okay-length ids n.delayed_ack len (policy_for n.protocol_version) in
    let s : cond n.delayed_ack 28 24 ≤ 28 = pick (λ (x : ℕ). x ≤ 28) n.delayed_ack (λ t. omega arith) (λ t. omega arith) in
    omega arith

pub close-short : (n : Negotiated) (ids : ChannelIds) → length (frame_bytes n (close_frame ids)) ≡ 24
unfolding frame_bytes
close-short n ids = close-length ids (policy_for n.protocol_version)

-- one frame, as a list of frames
pub one-frame : (n : Negotiated) (f : Frame) → frames_bytes n (f ∷ []) ≡ frame_bytes n f
unfolding frames_bytes flat
one-frame n f = append-nil (frame_bytes n f)

pub puts_one : (n : Negotiated) (f : Frame) (d out : List ℕ) (at r : ℕ) → Puts d at (frame_bytes n f) r out → Puts d at (frames_bytes n (f ∷ [])) r out
puts_one n f d out at r p = subst (λ (x : List ℕ). Puts d at x r out) (sym (one-frame n f)) p

pub puts_none : (n : Negotiated) (d : List ℕ) (at : ℕ) → Puts d at (frames_bytes n []) at d
unfolding frames_bytes flat
puts_none n d at = record { out-is = sym (put-none d at); end_is = omega arith }

-- frames behind others
pub frames-append : (n : Negotiated) (fs gs : List Frame) → frames_bytes n (fs ++ gs) ≡ frames_bytes n fs ++ frames_bytes n gs
unfolding frames_bytes flat
frames-append n [] gs = refl
frames-append n (f ∷ fs) gs = ap (λ (x : List ℕ). frame_bytes n f ++ x) (frames-append n fs gs) ∙ sym (append_assoc (frame_bytes n f) (frames_bytes n fs) (frames_bytes n gs))

-- ---- acknowledgements

pub ack-none : (n : Negotiated) (s : ChannelSlot) (d : List ℕ) (at : ℕ) (a : Option ℕ) → a ≡ None → Puts d at (frames_bytes n (ack_frames s a)) at d
unfolding ack_frames
ack-none n s d at a e = subst (λ (x : Option ℕ). Puts d at (frames_bytes n (ack_frames s x)) at d) (sym e) (puts_none n d at)

pub ack-some : (n : Negotiated) (s : ChannelSlot) (d out : List ℕ) (at r : ℕ) (a : Option ℕ) (len : ℕ) (ids : ChannelIds) → a ≡ Some len → ids ≡ ids_in s
    → Puts d at (frame_bytes n (okay_frame ids len)) r out → Puts d at (frames_bytes n (ack_frames s a)) r out
unfolding ack_frames
ack-some n s d out at r a len ids e f p =
    subst (λ (x : Option ℕ). Puts d at (frames_bytes n (ack_frames s x)) r out) (sym e)
    (puts_one n (okay_frame (ids_in s) len) d out at r (subst (λ (x : ChannelIds). Puts d at (frame_bytes n (okay_frame x len)) r out) f p))

-- room for the OKAY that is due
pub ack-room : (n : Negotiated) (s : ChannelSlot) (a : Option ℕ) (at out : ℕ) → at ≤ out → (is_ack a ≡ true → at + 28 ≤ out) → at + length (frames_bytes n (ack_frames s a)) ≤ out
unfolding ack_frames is_ack frames_bytes flat
ack-room n s None at out h f = omega arith
ack-room n s (Some k) at out h f =
    let g = f refl in
    let l = okay-short n (ids_in s) k in
    let e = length-append (frame_bytes n (okay_frame (ids_in s) k)) [] in
    omega arith

-- an acknowledgement is of at most 28 bytes
pub ack-short : (n : Negotiated) (s : ChannelSlot) (a : Option ℕ) → length (frames_bytes n (ack_frames s a)) ≤ 28
unfolding ack_frames frames_bytes flat
ack-short n s (Some k) = subst (λ (x : List ℕ). length x ≤ 28) (sym (one-frame n (okay_frame (ids_in s) k))) (okay-short n (ids_in s) k)
ack-short n s None = omega arith
