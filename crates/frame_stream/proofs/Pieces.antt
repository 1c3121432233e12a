-- However frames are cut, the frames and the unfinished rest, or the refusal and what is left, are the same. Assumes nothing.
--     stable         what the decoder answers, but waiting, it answers whatever arrives behind
--     pieces         pieces decoded one after the other give what the whole gives
--     sent-arrives   frames encoded one behind the other, in whatever pieces they arrive, are decoded as they were
use mathlib.Core.Path.{◌≡◌, refl, ap, subst, ◌∙◌}
use mathlib.Core.Bool.{false, not}
use mathlib.Core.List.{List, [], ◌++◌}
use Prim.Native.Nat.{ℕ, ◌+◌, ◌≤◌, ◌<◌, min}
use native.Mathlib.Omega.{arith}
use lib.Dec.{T, eqb, ltb}
use lib.ListN.{length, length-append}
use borrow.Author.Tests.{ltb-false, le-ltb}
use Rattle.le.proofs.Parts.{by-test, part-front}
use Rattle.checksum.specs.declared.Checksum.{Checksum}
use Rattle.protocol.specs.declared.command.Command.{Command}
use Rattle.protocol.specs.declared.message.Message.{Message}
use Rattle.checksum.specs.Checksum.{check_for}
use Rattle.protocol.specs.Command.{magic_of, command_of}
use Rattle.protocol.specs.Message.{message_of}
use Rattle.protocol.specs.Packet.{payload_limit, payload_of, check_passes, packet_of, known_of, named_of, decode_of, used_of}
use Rattle.checksum.proofs.ChecksumLaws.{check-small}
use Rattle.protocol.proofs.PacketLaws.{frame-length}
use Rattle.protocol.proofs.RoundTrip.{frame-payload, not-refused, own-check}
use Rattle.stream.specs.Stream.{message, refused, is_waiting, joined, read_all, begun, feed_all, Stable, more, Every, written, ReadsBack}
use Rattle.stream.proofs.Cut.{cut, arrives, every}
use Rattle.frame_stream.specs.Frames.{Got, answer_of, receives, bytes_for, Sendable}
use Rattle.protocol.specs.declared.packet.DecodeError.TheVariants.{InvalidCommand, InvalidMagic, PayloadTooLarge, InvalidChecksum}
use Rattle.protocol.specs.declared.packet.Packet.{Packet}
use Rattle.protocol.specs.declared.packet.DecodeError.{DecodeError}
use Rattle.std.specs.Prelude.{Option, Some, None, Result, Ok, Err}
use Rattle.protocol.specs.declared.command.UnknownCommand.{UnknownCommand}

-- what is used is here
module _ (s : List ℕ) (limit : ℕ) where
  known-used : (c : Command) (m : Message) → used_of (known_of s limit c m) ≤ length s
  unfolding known_of used_of packet_of
  known-used c m =
      by-test (not (eqb m.magic (magic_of c)))
      (λ t. rw t (omega arith))
      (λ t₁. by-test (ltb (min limit payload_limit) m.data_length)
      (λ t. rw (t₁, t) (omega arith))
      (λ t₂. by-test (ltb (length s) (24 + m.data_length))
      (λ t. rw (t₁, t₂, t) (omega arith))
      (λ t₃. by-test (check_passes m.data_check (payload_of s m.data_length))
      (λ t. rw (t₁, t₂, t₃, t) (ltb-false (length s) (24 + m.data_length) t₃))
      (λ t. rw (t₁, t₂, t₃, t) (ltb-false (length s) (24 + m.data_length) t₃)))))

  named-used : (m : Message) (w : Result Command UnknownCommand) → used_of (named_of s limit m w) ≤ length s
  unfolding named_of used_of
  named-used m (Ok c) = known-used c m
  named-used m (Err unknown) = omega arith

  decode-used : used_of (decode_of s limit) ≤ length s
  unfolding decode_of used_of
  decode-used =
      by-test (ltb (length s) 24) (λ t. rw t (omega arith)) (λ t. rw t (named-used (message_of s) (command_of (message_of s).command)))

message-front : (l m : List ℕ) → 24 ≤ length l → message_of (l ++ m) ≡ message_of l
unfolding message_of
message-front l m h =
    rw (
      part-front l m 0 4 (omega arith),
      part-front l m 4 4 (omega arith),
      part-front l m 8 4 (omega arith),
      part-front l m 12 4 (omega arith),
      part-front l m 16 4 (omega arith),
      part-front l m 20 4 (omega arith),
    )

payload-front : (l m : List ℕ) (n : ℕ) → 24 + n ≤ length l → payload_of (l ++ m) n ≡ payload_of l n
unfolding payload_of
payload-front l m n h = part-front l m 24 n h

module _ (l m : List ℕ) (limit : ℕ) where
  known-stays : (c : Command) (h : Message) → is_waiting (answer_of l (known_of l limit c h)) ≡ false → known_of (l ++ m) limit c h ≡ known_of l limit c h
  unfolding known_of answer_of is_waiting
  known-stays c h e =
      let la = length-append l m in
      let n = h.data_length in
      by-test (not (eqb h.magic (magic_of c)))
      (λ t. rw t)
      (λ t₁. by-test (ltb (min limit payload_limit) n)
      (λ t. rw (t₁, t))
      (λ t₂. by-test (ltb (length l) (24 + n))
      (λ t. let f = rw (t₁, t₂, t) at e in absurd (subst T f tt))
      (λ t₃. let w = ltb-false (length l) (24 + n) t₃ in
      rw (t₁, t₂, t₃, le-ltb (length (l ++ m)) (24 + n) (omega arith), payload-front l m n w))))

  named-stays : (h : Message) (w : Result Command UnknownCommand) → is_waiting (answer_of l (named_of l limit h w)) ≡ false → named_of (l ++ m) limit h w ≡ named_of l limit h w
  unfolding named_of
  named-stays h (Ok c) e = known-stays c h e
  named-stays h (Err unknown) e = refl

  decode-stays : is_waiting (answer_of l (decode_of l limit)) ≡ false → decode_of (l ++ m) limit ≡ decode_of l limit
  unfolding decode_of answer_of is_waiting
  decode-stays e =
      let la = length-append l m in
      by-test (ltb (length l) 24)
      (λ t. let f = rw t at e in absurd (subst T f tt))
      (λ t. let h = ltb-false (length l) 24 t in
      rw (le-ltb (length (l ++ m)) 24 (omega arith), t, message-front l m h) (named-stays (message_of l) (command_of (message_of l).command) (rw t at e)))

  answer-stays : (d : Result (Option Packet) DecodeError) → used_of d ≤ length l → answer_of (l ++ m) d ≡ answer_of l d
  unfolding answer_of used_of
  answer-stays (Ok None) h = refl
  answer-stays (Err (InvalidCommand word)) h = refl
  answer-stays (Err InvalidMagic) h = refl
  answer-stays (Err PayloadTooLarge) h = refl
  answer-stays (Err (InvalidChecksum used)) h = refl
  answer-stays (Ok (Some p)) h = rw (payload-front l m p.data_length h)

-- what an answer of the stream's says that it uses
used-by : (l : List ℕ) (g : Got) (n : ℕ) (d : Result (Option Packet) DecodeError) → answer_of l d ≡ message g n → (n ≡ used_of d) × (0 < n)
unfolding answer_of used_of
used-by l g n (Ok None) e = let z : ◌≡◌ {A = ℕ} 0 1 = cc in absurd (omega arith)
used-by l g n (Err (InvalidCommand word)) e = let z : ◌≡◌ {A = ℕ} 0 1 = cc in absurd (omega arith)
used-by l g n (Err InvalidMagic) e = let z : ◌≡◌ {A = ℕ} 0 1 = cc in absurd (omega arith)
used-by l g n (Err PayloadTooLarge) e = let z : ◌≡◌ {A = ℕ} 0 1 = cc in absurd (omega arith)
used-by l g n (Err (InvalidChecksum used)) e = let z : ◌≡◌ {A = ℕ} 0 1 = cc in absurd (omega arith)
used-by l g n (Ok (Some p)) e = let i : n ≡ 24 + p.data_length = cc in (i, omega arith)

used-refused : (l : List ℕ) (number n : ℕ) (d : Result (Option Packet) DecodeError) → answer_of l d ≡ refused number n → n ≡ used_of d
unfolding answer_of
used-refused l number n (Ok None) e = cc
used-refused l number n (Err (InvalidCommand word)) e = cc
used-refused l number n (Err InvalidMagic) e = cc
used-refused l number n (Err PayloadTooLarge) e = cc
used-refused l number n (Err (InvalidChecksum used)) e = cc
used-refused l number n (Ok (Some p)) e = cc

pub stable : (limit : ℕ) → Stable (receives limit)
unfolding receives decode_of answer_of
stable limit =
    record {
      none = refl;
      stays = λ l m e. ap (answer_of (l ++ m)) (decode-stays l m limit e) ∙ answer-stays l m limit (decode_of l limit) (decode-used l limit);
      moves = λ l g n e. (used-by l g n (decode_of l limit) e).1;
      within = λ l g n e. omega (arith, (used-by l g n (decode_of l limit) e).0, decode-used l limit);
      refused-within = λ l number n e. omega (arith, used-refused l number n (decode_of l limit) e, decode-used l limit);
    }

pub pieces : (limit : ℕ) (cs : List (List ℕ)) → feed_all (receives limit) begun cs ≡ read_all (receives limit) (joined cs)
pieces limit cs = cut (receives limit) (stable limit) cs

-- a frame that was sent is decoded, whatever is behind it
reads-back : (limit : ℕ) (k : Checksum) (g : Got) → Sendable limit g → ReadsBack (receives limit) (bytes_for k) g
unfolding receives answer_of used_of bytes_for
reads-back limit k g s rest =
    let p = g.packet in
    let check = check_for k g.payload in
    let d = not-refused p.command p.arg0 p.arg1 g.payload rest check limit s.arg0-fits s.arg1-fits (check-small k g.payload) s.within (own-check k g.payload) in
    rw (
      d,
      frame-payload p.command p.arg0 p.arg1 g.payload rest check,
      frame-length p.command p.arg0 p.arg1 g.payload check,
      ← s.length-is,
    )

pub sent-arrives : (limit : ℕ) (k : Checksum) (gs : List Got) (cs : List (List ℕ)) → Every (Sendable limit) gs → joined cs ≡ written (bytes_for k) gs
    → feed_all (receives limit) begun cs ≡ record { messages = gs; ending = more; rest = [] }
sent-arrives limit k gs cs e j = arrives (receives limit) (stable limit) (bytes_for k) gs cs (every (reads-back limit k) gs e) j
