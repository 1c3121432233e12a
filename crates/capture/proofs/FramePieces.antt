-- The reader of whole frames: what it took, and that its answer does not change by what arrives behind. Assumes nothing.
--     frame-says   a frame that was taken is one that decoding accepts, not longer than is held
--     alone        its bytes alone are accepted as the same frame
--     stable       what the reader answers, but waiting, it answers whatever arrives behind
use mathlib.Core.Path.{◌≡◌, refl, sym, ap, subst, ◌∙◌}
use mathlib.Core.Bool.{true, false}
use mathlib.Core.List.{List, [], ◌++◌, append-nil}
use Prim.Native.Nat.{ℕ, ◌+◌, ◌≤◌, ◌<◌, ◌^◌}
use native.Mathlib.Omega.{arith}
use lib.Dec.{T, ltb}
use lib.ListN.{length, take, drop, length-append}
use lib.Seq.{take-append-le, take_at}
use borrow.Author.Tests.{ltb-false, le-ltb}
use Rattle.le.specs.Le.{num_of, part, Bytes}
use Rattle.le.proofs.Laws.{num_of-part}
use Rattle.le.proofs.Parts.{by-test, part-front}
use Rattle.protocol.specs.declared.packet.Packet.{Packet}
use Rattle.protocol.specs.Message.{message_of}
use Rattle.protocol.specs.Packet.{payload_limit, payload_of, packet_of, packet_bytes, decode_of, used_of, decode_error_number}
use Rattle.protocol.proofs.PacketLaws.{frame-length}
use Rattle.protocol.proofs.RoundTrip.{says, accepted-bytes, not-refused}
use Rattle.stream.specs.Stream.{Answer, waiting, message, refused, is_waiting, Stable}
use Rattle.frame_stream.specs.Frames.{Got, answer_of as frames_answer, receives}
use Rattle.frame_stream.proofs.Pieces.{stable as frames-stable}
use Rattle.capture.specs.Capture.{Next, is_long, next_of, taken_of, next_frame}
use Rattle.capture.specs.Converts.{answer_of, frames}
use Rattle.protocol.specs.declared.packet.DecodeError.TheVariants.{InvalidCommand, InvalidMagic, PayloadTooLarge, InvalidChecksum}
use Rattle.protocol.specs.declared.packet.DecodeError.{DecodeError}
use Rattle.std.specs.Prelude.{Option, Some, None, Result, Ok, Err}

-- ---- a frame that was taken

pub record FrameSays (hold : ℕ) (s : List ℕ) (n : ℕ) : Type 0 where
  pub packet : Packet
  pub accepted : decode_of s payload_limit ≡ Ok (Some packet)
  pub length-is : n ≡ 24 + packet.data_length
  pub here : n ≤ length s
  pub held : n ≤ hold

taken-says : (d : Result (Option Packet) DecodeError) (n : ℕ) → next_of d ≡ Ok (Some n) → (p : Packet) × ((d ≡ (Ok (Some p))) × (n ≡ 24 + p.data_length))
unfolding next_of
taken-says (Ok None) n e = let z : ◌≡◌ {A = ℕ} 0 1 = cc in absurd (omega arith)
taken-says (Err x) n e = let z : ◌≡◌ {A = ℕ} 0 1 = cc in absurd (omega arith)
taken-says (Ok (Some p)) n e = (p, (refl, cc))

-- a header that is here, and that is not long
not-long : (hold : ℕ) (s : List ℕ) → 24 ≤ length s → is_long hold s ≡ false → 24 + (message_of s).data_length ≤ hold
unfolding is_long message_of
not-long hold s h e = ltb-false hold (24 + num_of (part s 12 4)) (rw (le-ltb (length s) 24 h) at e)

pub frame-says : (hold : ℕ) (s : List ℕ) (n : ℕ) → next_frame hold s ≡ Ok (Some n) → FrameSays hold s n
unfolding next_frame taken_of packet_of
frame-says hold s n e =
    by-test (is_long hold s)
    (λ t. let f = rw t at e in let z : ◌≡◌ {A = ℕ} 0 1 = cc in absurd (omega arith))
    (λ t. let y = taken-says (decode_of s payload_limit) n (rw t at e) in
    let p = y.0 in
    let g = says s payload_limit p y.1.0 in
    let q = ap (λ (k : Packet). k.data_length) g.known.packet-is in
    let l = not-long hold s g.long t in
    record {
      packet = p;
      accepted = y.1.0;
      length-is = y.1.1;
      here = omega (arith, y.1.1, g.known.whole);
      held = omega (arith, y.1.1);
    })

-- the bytes of an accepted frame alone are accepted as it
pub alone : (s : List ℕ) (limit : ℕ) (p : Packet) → Bytes s → decode_of s limit ≡ Ok (Some p) → decode_of (take (24 + p.data_length) s) limit ≡ Ok (Some p)
unfolding packet_of message_of
alone s limit p b e =
    let x = accepted-bytes s limit p b e in
    let y = says s limit p e in
    let payload = payload_of s p.data_length in
    let frame = packet_bytes p.command p.arg0 p.arg1 payload x.check in
    let l : length frame ≡ 24 + p.data_length = frame-length p.command p.arg0 p.arg1 payload x.check ∙ ap (λ (j : ℕ). 24 + j) x.whole in
    let t : take (24 + p.data_length) s ≡ frame ++ [] =
    ap (take (24 + p.data_length)) x.bytes-are ∙ take_at frame (drop (24 + p.data_length) s) (24 + p.data_length) l ∙ sym (append-nil frame) in
    let a0 : p.arg0 < 2 ^ 32 = rw (ap (λ (k : Packet). k.arg0) y.known.packet-is) (num_of-part 4 s 4 b) in
    let a1 : p.arg1 < 2 ^ 32 = rw (ap (λ (k : Packet). k.arg1) y.known.packet-is) (num_of-part 4 s 8 b) in
    let ck : x.check < 2 ^ 32 = rw x.check-is (num_of-part 4 s 16 b) in
    let d = not-refused p.command p.arg0 p.arg1 payload [] x.check limit a0 a1 ck (omega (arith, x.within, x.whole)) x.passes in
    ap (λ (k : List ℕ). decode_of k limit) t ∙ d ∙ ap (λ (n : ℕ). (Ok (Some (record { command = p.command; arg0 = p.arg0; arg1 = p.arg1; data_length = n })))) x.whole

-- ---- with more behind

-- what a stream of frames answers, as frames of bytes
to_frame : List ℕ → Answer Got → Answer (List ℕ)
to_frame s waiting = waiting
to_frame s (message g n) = message (take n s) n
to_frame s (refused number n) = refused number 0

decoded-receives : (s : List ℕ) (d : Result (Option Packet) DecodeError) → answer_of s (next_of d) ≡ to_frame s (frames_answer s d)
unfolding next_of answer_of frames_answer used_of to_frame
decoded-receives s (Ok None) = refl
decoded-receives s (Err (InvalidCommand word)) = refl
decoded-receives s (Err InvalidMagic) = refl
decoded-receives s (Err PayloadTooLarge) = refl
decoded-receives s (Err (InvalidChecksum used)) = refl
decoded-receives s (Ok (Some p)) = refl

taken-receives : (s : List ℕ) → answer_of s (taken_of s) ≡ to_frame s (receives payload_limit s)
unfolding taken_of receives
taken-receives s = decoded-receives s (decode_of s payload_limit)

waits-as : (s : List ℕ) (a : Answer Got) → is_waiting (to_frame s a) ≡ is_waiting a
unfolding is_waiting to_frame
waits-as s waiting = refl
waits-as s (message g n) = refl
waits-as s (refused number n) = refl

front-stays : (l m : List ℕ) (a : Answer Got) → receives payload_limit l ≡ a → to_frame (l ++ m) a ≡ to_frame l a
unfolding to_frame
front-stays l m waiting e = refl
front-stays l m (message g n) e = ap (λ (f : List ℕ). message f n) (take-append-le n l m ((frames-stable payload_limit).within l g n e))
front-stays l m (refused number n) e = refl

module _ (hold : ℕ) (l m : List ℕ) where
  taken-stays : is_waiting (answer_of l (taken_of l)) ≡ false → answer_of (l ++ m) (taken_of (l ++ m)) ≡ answer_of l (taken_of l)
  taken-stays f =
      let r = receives payload_limit l in
      let w : is_waiting r ≡ false = sym (waits-as l r) ∙ sym (ap is_waiting (taken-receives l)) ∙ f in
      taken-receives (l ++ m)
      ∙ ap (to_frame (l ++ m)) ((frames-stable payload_limit).stays l m w)
      ∙ front-stays l m r refl
      ∙ sym (taken-receives l)

  taken_here : is_waiting (answer_of l (taken_of l)) ≡ false → 24 ≤ length l
  unfolding taken_of decode_of next_of answer_of is_waiting
  taken_here f = by-test (ltb (length l) 24) (λ t. let g = rw t at f in absurd (subst T g tt)) (λ t. ltb-false (length l) 24 t)

  long-stays : 24 ≤ length l → is_long hold (l ++ m) ≡ is_long hold l
  unfolding is_long
  long-stays h =
      let la = length-append l m in
      rw (le-ltb (length (l ++ m)) 24 (omega arith), le-ltb (length l) 24 h, part-front l m 12 4 (omega arith))

  long-here : is_long hold l ≡ true → 24 ≤ length l
  unfolding is_long
  long-here e =
      by-test (ltb (length l) 24)
      (λ t. let f = rw t at e in absurd (subst T (sym f) tt))
      (λ t. ltb-false (length l) 24 t)

  frames-stay : is_waiting (frames hold l) ≡ false → frames hold (l ++ m) ≡ frames hold l
  unfolding frames next_frame answer_of
  frames-stay f =
      by-test (is_long hold l)
      (λ t. rw (long-stays (long-here t), t))
      (λ t. let g = rw t at f in
      rw (long-stays (taken_here g), t) (taken-stays g))

-- what an answer says that it uses
pub taken-frame : (s f : List ℕ) (n : ℕ) (x : Next) → answer_of s x ≡ message f n → (x ≡ Ok (Some n)) × (f ≡ take n s)
unfolding answer_of
taken-frame s f n (Ok None) e = let z : ◌≡◌ {A = ℕ} 0 1 = cc in absurd (omega arith)
taken-frame s f n (Ok (Some k)) e = let z : k ≡ n = cc in (ap (λ (j : ℕ). Ok (Some j)) z, cc)
taken-frame s f n (Err x) e = let z : ◌≡◌ {A = ℕ} 0 1 = cc in absurd (omega arith)

-- a refusal that a reader's answer is, with its error
pub record Refuses (number n : ℕ) (x : Next) : Type 0 where
  pub error : DecodeError
  pub error-is : x ≡ Err error
  pub number_is : number ≡ decode_error_number error
  pub unused : n ≡ 0

refuses-at : (s : List ℕ) (number n : ℕ) (x : Next) → answer_of s x ≡ refused number n → Refuses number n x
unfolding answer_of
refuses-at s number n (Ok None) e = let z : ◌≡◌ {A = ℕ} 0 1 = cc in absurd (omega arith)
refuses-at s number n (Ok (Some k)) e = let z : ◌≡◌ {A = ℕ} 0 1 = cc in absurd (omega arith)
refuses-at s number n (Err x) e = record { error = x; error-is = refl; number_is = cc; unused = cc }

module _ (hold : ℕ) where
  pub taken_as : (s f : List ℕ) (n : ℕ) → frames hold s ≡ message f n → (next_frame hold s ≡ Ok (Some n)) × (f ≡ take n s)
  unfolding frames
  taken_as s f n e = taken-frame s f n (next_frame hold s) e

  pub ended-as : (s : List ℕ) (number n : ℕ) → frames hold s ≡ refused number n → Refuses number n (next_frame hold s)
  unfolding frames
  ended-as s number n e = refuses-at s number n (next_frame hold s) e

  none-at : answer_of [] (next_frame hold []) ≡ waiting
  unfolding answer_of next_frame is_long taken_of decode_of next_of
  none-at = refl

  pub stable : Stable (frames hold)
  unfolding frames
  stable =
      record {
        none = none-at;
        stays = λ l m e. frames-stay hold l m e;
        moves = λ l f n e. let y = frame-says hold l n (taken_as l f n e).0 in omega (arith, y.length-is);
        within = λ l f n e. (frame-says hold l n (taken_as l f n e).0).here;
        refused-within = λ l number n e. omega (arith, (ended-as l number n e).unused);
      }
