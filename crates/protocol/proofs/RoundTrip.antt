-- Frames from bytes and to bytes, both ways. Assumes nothing.
--     accepted-bytes   what `decode_of` accepts has the bytes of that frame
--     not-refused      a frame's bytes, within the limit and with check 0 or its own, are accepted, whatever follows them
--     encode-decode    what `encode_of` writes is accepted, and its payload is the one given
--     decode-encode    what is accepted with the policy's check is encoded to the same bytes
use mathlib.Core.Path.{◌≡◌, refl, sym, ap, subst, ◌∙◌}
use mathlib.Core.Bool.{true, not}
use mathlib.Core.List.{List, ◌++◌, append_assoc}
use Prim.Native.Nat.{ℕ, ◌+◌, ◌≤◌, ◌<◌, ◌^◌, min}
use native.Mathlib.Omega.{arith}
use lib.Dec.{eqb, ltb}
use lib.ListN.{length, take, drop, length-append, take-append-drop}
use lib.Seq.{take-add, drop_at, take_at, take-append_seam}
use borrow.Author.Tests.{ltb-false, le-ltb, eq-eqb, eqb-true, not-false}
use Rattle.le.specs.Le.{part, put, Bytes}
use Rattle.le.proofs.Parts.{by-test, length_part}
use Rattle.checksum.specs.declared.Checksum.{Checksum}
use Rattle.checksum.specs.declared.Checksum.TheVariants.{Compute, Skip}
use Rattle.protocol.specs.declared.command.Command.{Command}
use Rattle.protocol.specs.declared.message.Message.{Message}
use Rattle.protocol.specs.declared.packet.Packet.{Packet}
use Rattle.checksum.specs.Checksum.{sum_of, check_for}
use Rattle.protocol.specs.Command.{word_of, magic_of, command_of}
use Rattle.protocol.specs.Message.{message_of, header_bytes}
use Rattle.protocol.specs.Packet.{payload_limit, payload_of, check_passes, packet_of, known_of, named_of, decode_of, message_for, packet_bytes, encode_of}
use Rattle.checksum.proofs.ChecksumLaws.{check-small}
use Rattle.protocol.proofs.CommandLaws.{word-names, named-word, word_small, magic-small}
use Rattle.protocol.proofs.MessageLaws.{Words, length-header, read-header, write-header}
use Rattle.protocol.proofs.PacketLaws.{frame-length}
use Rattle.std.specs.Prelude.{Some, Result, Ok, Err}
use Rattle.protocol.specs.declared.command.UnknownCommand.{UnknownCommand}

-- ---- what an accepted frame's header says

pub record KnownSays (s : List ℕ) (limit : ℕ) (c : Command) (m : Message) (p : Packet) : Type 0 where
  pub magic-is : m.magic ≡ magic_of c
  pub within : m.data_length ≤ min limit payload_limit
  pub whole : 24 + m.data_length ≤ length s
  pub passes : check_passes m.data_check (payload_of s m.data_length) ≡ true
  pub packet-is : p ≡ packet_of c m

known-says : (s : List ℕ) (limit : ℕ) (c : Command) (m : Message) (p : Packet) → known_of s limit c m ≡ Ok (Some p) → KnownSays s limit c m p
unfolding known_of
known-says s limit c m p e =
    by-test (not (eqb m.magic (magic_of c)))
    (λ t. let f = rw t at e in let z : ◌≡◌ {A = ℕ} 0 1 = cc in absurd (omega arith))
    (λ t₁. by-test (ltb (min limit payload_limit) m.data_length)
    (λ t. let f = rw (t₁, t) at e in let z : ◌≡◌ {A = ℕ} 0 1 = cc in absurd (omega arith))
    (λ t₂. by-test (ltb (length s) (24 + m.data_length))
    (λ t. let f = rw (t₁, t₂, t) at e in let z : ◌≡◌ {A = ℕ} 0 1 = cc in absurd (omega arith))
    (λ t₃. by-test (check_passes m.data_check (payload_of s m.data_length))
    (λ t₄. let f = rw (t₁, t₂, t₃, t₄) at e in
    record {
      magic-is = eqb-true _ _ (not-false _ t₁);
      within = ltb-false _ _ t₂;
      whole = ltb-false _ _ t₃;
      passes = t₄;
      packet-is = cc;
    })
    (λ t. let f = rw (t₁, t₂, t₃, t) at e in let z : ◌≡◌ {A = ℕ} 0 1 = cc in absurd (omega arith)))))

-- the same of all the bytes: the header is there, and its word names the frame's command
pub record Says (s : List ℕ) (limit : ℕ) (p : Packet) : Type 0 where
  pub long : 24 ≤ length s
  pub word-is : (message_of s).command ≡ word_of p.command
  pub known : KnownSays s limit p.command (message_of s) p

named-says : (s : List ℕ) (limit : ℕ) (p : Packet) (w : Result Command UnknownCommand) → 24 ≤ length s → command_of (message_of s).command ≡ w
    → named_of s limit (message_of s) w ≡ Ok (Some p) → Says s limit p
unfolding named_of packet_of
named-says s limit p (Err unknown) h n e = let z : ◌≡◌ {A = ℕ} 0 1 = cc in absurd (omega arith)
named-says s limit p (Ok c) h n e =
    let k = known-says s limit c (message_of s) p e in
    let same : c ≡ p.command = sym (ap (λ (q : Packet). q.command) k.packet-is) in
    record {
      long = h;
      word-is = named-word (message_of s).command c n ∙ ap word_of same;
      known = rw same at k;
    }

pub says : (s : List ℕ) (limit : ℕ) (p : Packet) → decode_of s limit ≡ Ok (Some p) → Says s limit p
unfolding decode_of
says s limit p e =
    by-test (ltb (length s) 24)
    (λ t. let f = rw t at e in let z : ◌≡◌ {A = ℕ} 0 1 = cc in absurd (omega arith))
    (λ t. named-says s limit p (command_of (message_of s).command) (ltb-false _ _ t) refl (rw t at e))

-- ---- what is accepted has these bytes

message-is : (c : Command) (m : Message) (payload : List ℕ) → m.command ≡ word_of c → m.magic ≡ magic_of c → length payload ≡ m.data_length
    → message_for c m.arg0 m.arg1 payload m.data_check ≡ m
unfolding message_for
message-is c m payload e f g =
    λ i. record {
      command = sym e i;
      arg0 = m.arg0;
      arg1 = m.arg1;
      data_length = g i;
      data_check = m.data_check;
      magic = sym f i;
    }

-- a list is its first 24 elements, the n after them, and the rest
in_three : (s : List ℕ) (n : ℕ) → part s 0 24 ++ payload_of s n ++ drop (24 + n) s ≡ s
unfolding part payload_of
in_three s n = rw (← take-add 24 n s) (take-append-drop (24 + n) s)

pub record HasBytes (s : List ℕ) (limit : ℕ) (p : Packet) : Type 0 where
  pub check : ℕ
  pub check-is : check ≡ (message_of s).data_check
  pub whole : length (payload_of s p.data_length) ≡ p.data_length
  pub within : p.data_length ≤ min limit payload_limit
  pub passes : check_passes check (payload_of s p.data_length) ≡ true
  pub bytes-are : s ≡ packet_bytes p.command p.arg0 p.arg1 (payload_of s p.data_length) check ++ drop (24 + p.data_length) s

accepted-of : (s : List ℕ) (limit : ℕ) (c : Command) → Bytes s → 24 ≤ length s → (message_of s).command ≡ word_of c
    → KnownSays s limit c (message_of s) (packet_of c (message_of s)) → HasBytes s limit (packet_of c (message_of s))
unfolding packet_of payload_of packet_bytes
accepted-of s limit c h n w k =
    let m = message_of s in
    let l = length_part s 24 m.data_length k.whole in
    let e = message-is c m (payload_of s m.data_length) w k.magic-is l in
    record {
      check = m.data_check;
      check-is = refl;
      whole = l;
      within = k.within;
      passes = k.passes;
      bytes-are = rw (e, write-header s h n) (sym (in_three s m.data_length));
    }

pub accepted-bytes : (s : List ℕ) (limit : ℕ) (p : Packet) → Bytes s → decode_of s limit ≡ Ok (Some p) → HasBytes s limit p
unfolding packet_of
accepted-bytes s limit p h e =
    let f = says s limit p e in
    let q = f.known.packet-is in
    let k = subst (KnownSays s limit p.command (message_of s)) q f.known in
    subst (HasBytes s limit) (sym q) (accepted-of s limit p.command h f.long f.word-is k)

-- ---- what the definition accepts is not refused

module _ (c : Command) (a b : ℕ) (payload rest : List ℕ) (check : ℕ) where
  frame-rest : packet_bytes c a b payload check ++ rest ≡ header_bytes (message_for c a b payload check) ++ (payload ++ rest)
  unfolding packet_bytes
  frame-rest = append_assoc (header_bytes (message_for c a b payload check)) payload rest

  pub frame-payload : payload_of (packet_bytes c a b payload check ++ rest) (length payload) ≡ payload
  unfolding payload_of part
  frame-payload =
      let m = message_for c a b payload check in
      rw (frame-rest, drop_at (header_bytes m) (payload ++ rest) 24 (length-header m), take-append_seam)

  pub not-refused : (limit : ℕ) → a < 2 ^ 32 → b < 2 ^ 32 → check < 2 ^ 32 → length payload ≤ min limit payload_limit
      → check_passes check payload ≡ true
      → decode_of (packet_bytes c a b payload check ++ rest) limit ≡ Ok (Some (record { command = c; arg0 = a; arg1 = b; data_length = length payload }))
  unfolding decode_of named_of known_of packet_of message_for
  not-refused limit ha hb hk hl ok =
      let m = message_for c a b payload check in
      let s = packet_bytes c a b payload check ++ rest in
      let w : Words m = record {
        command-fits = word_small c;
        arg0-fits = ha;
        arg1-fits = hb;
        length-fits = omega arith;
        check-fits = hk;
        magic-fits = magic-small c;
      } in
      let e : message_of s ≡ m = rw frame-rest (read-header m (payload ++ rest) w) in
      let n : 24 + length payload ≤ length s = rw (length-append, frame-length) (omega arith) in
      let p : check_passes check (payload_of s (length payload)) ≡ true = rw frame-payload ok in
      rw (
        le-ltb (length s) 24 (omega arith),
        e,
        word-names c,
        eq-eqb (magic_of c) (magic_of c) refl,
        le-ltb (min limit payload_limit) (length payload) hl,
        le-ltb (length s) (24 + length payload) n,
        p,
      )

-- ---- encoding, then decoding

-- the check that a frame is sent with passes
pub own-check : (k : Checksum) (payload : List ℕ) → check_passes (check_for k payload) payload ≡ true
unfolding check_passes check_for
own-check Skip payload = refl
own-check Compute payload =
    by-test (eqb (sum_of payload) 0) (λ t. rw t) (λ t. rw (t, eq-eqb (sum_of payload) (sum_of payload) refl))

pub record FrameComesBack (c : Command) (a b : ℕ) (payload : List ℕ) (limit n : ℕ) (s : List ℕ) : Type 0 where
  pub length-is : n ≡ 24 + length payload
  pub frame_is : decode_of s limit ≡ Ok (Some (record { command = c; arg0 = a; arg1 = b; data_length = length payload }))
  pub payload-is : payload_of s (length payload) ≡ payload

pub encode-decode : (c : Command) (a b : ℕ) (payload : List ℕ) (k : Checksum) (out : List ℕ) (limit n : ℕ) → a < 2 ^ 32 → b < 2 ^ 32
    → length payload ≤ limit → (encode_of c a b payload k out).result ≡ Ok n → FrameComesBack c a b payload limit n (encode_of c a b payload k out).out
unfolding encode_of put
encode-decode c a b payload k out limit n ha hb hl e =
    by-test (ltb payload_limit (length payload))
    (λ t. let f = rw t at e in let z : ◌≡◌ {A = ℕ} 0 1 = cc in absurd (omega arith))
    (λ t₁. by-test (ltb (length out) (24 + length payload))
    (λ t. let f = rw (t₁, t) at e in let z : ◌≡◌ {A = ℕ} 0 1 = cc in absurd (omega arith))
    (λ t₂. let f = rw (t₁, t₂) at e in
    let check = check_for k payload in
    let rest = drop (0 + length (packet_bytes c a b payload check)) out in
    rw (t₁, t₂) (record {
      length-is = cc;
      frame_is = not-refused c a b payload rest check limit ha hb (check-small k payload) (omega (arith, ltb-false)) (own-check k payload);
      payload-is = frame-payload c a b payload rest check;
    })))

-- ---- decoding, then encoding

pub decode-encode : (s : List ℕ) (limit : ℕ) (p : Packet) (k : Checksum) (out : List ℕ) → Bytes s → decode_of s limit ≡ Ok (Some p)
    → (message_of s).data_check ≡ check_for k (payload_of s p.data_length) → 24 + p.data_length ≤ length out
    → encode_of p.command p.arg0 p.arg1 (payload_of s p.data_length) k out
    ≡ record { result = Ok (24 + p.data_length); out = put out 0 (take (24 + p.data_length) s) }
unfolding encode_of
decode-encode s limit p k out h e right room =
    let payload = payload_of s p.data_length in
    let check = check_for k payload in
    let x = accepted-bytes s limit p h e in
    let same : x.check ≡ check = x.check-is ∙ right in
    let fb = packet_bytes p.command p.arg0 p.arg1 payload check in
    let l : length fb ≡ 24 + p.data_length = frame-length p.command p.arg0 p.arg1 payload check ∙ ap (λ (j : ℕ). 24 + j) x.whole in
    let b : s ≡ fb ++ drop (24 + p.data_length) s = rw same at x.bytes-are in
    let t : take (24 + p.data_length) s ≡ fb =
    ap (take (24 + p.data_length)) b ∙ take_at fb (drop (24 + p.data_length) s) (24 + p.data_length) l in
    rw (x.whole, t, le-ltb payload_limit p.data_length (omega (arith, x.within)), le-ltb (length out) (24 + p.data_length) room)
