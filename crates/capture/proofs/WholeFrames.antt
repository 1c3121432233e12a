-- Whole frames that are held, with anything behind them that is none, in whatever pieces they arrive. Assumes nothing.
--     file-of-frames   the file has their records, and nothing of what is behind
--     frames-back      they come back from it, unchanged and in their order
use mathlib.Core.Path.{◌≡◌, refl, sym, ap, ◌∙◌}
use mathlib.Core.Bool.{false}
use mathlib.Core.List.{List, [], ◌∷◌, ◌++◌, append_assoc}
use Prim.Native.Nat.{ℕ, zero, suc, ◌+◌, ◌<◌}
use native.Mathlib.Omega.{arith}
use lib.ListN.{length, drop, length-append}
use lib.Seq.{take-length, drop_at}
use borrow.Author.Tests.{le-ltb}
use Rattle.le.specs.Le.{num_of, part}
use Rattle.le.proofs.Parts.{by-test}
use Rattle.stream.specs.Stream.{Answer, waiting, message, refused, Reading, joined, is_waiting, ahead, go_on, run, read_all, Every, none_left, each, written}
use Rattle.stream.proofs.Cut.{cut}
use Rattle.protocol.specs.declared.packet.Packet.{Packet}
use Rattle.protocol.specs.Message.{message_of}
use Rattle.protocol.specs.Packet.{payload_limit, packet_of}
use Rattle.protocol.proofs.RoundTrip.{says}
use Rattle.pcap.specs.Header.{file_header}
use Rattle.std.proofs.Common.{Some, Ok}
use Rattle.capture.specs.Capture.{is_long, next_of, taken_of, next_frame}
use Rattle.capture.specs.Converts.{answer_of, frames, record_of, captured, IsFrame, Ended, incomplete, refusing, too_long, given}
use Rattle.capture.proofs.FramePieces.{frame-says, taken_as, stable}
use Rattle.capture.proofs.Converts.{comes_back}

module _ (hold : ℕ) where
  -- a whole frame that is held is taken
  not-long : (f : List ℕ) (y : IsFrame hold f) → is_long hold f ≡ false
  unfolding is_long packet_of message_of
  not-long f y =
      let s = says f payload_limit y.packet y.accepted in
      let q = ap (λ (k : Packet). k.data_length) s.known.packet-is in
      rw (le-ltb (length f) 24 s.long) (le-ltb hold (24 + num_of (part f 12 4)) (omega (arith, y.length-is, y.held)))

  frame-next : (f : List ℕ) (y : IsFrame hold f) → next_frame hold f ≡ Ok (Some (length f))
  unfolding next_frame taken_of next_of
  frame-next f y = rw (not-long f y, y.accepted, y.length-is)

  frame-alone : (f : List ℕ) → IsFrame hold f → frames hold f ≡ message f (length f)
  unfolding frames answer_of
  frame-alone f y = rw (frame-next f y, take-length f)

  frame-first : (f rest : List ℕ) → IsFrame hold f → frames hold (f ++ rest) ≡ message f (length f)
  unfolding is_waiting
  frame-first f rest y = (stable hold).stays f rest (ap is_waiting (frame-alone f y)) ∙ frame-alone f y

  -- what is behind is not taken
  not_taken : (tail : List ℕ) (n : ℕ) → Ended hold tail → next_frame hold tail ≡ Ok (Some n) → ⊥
  unfolding next_frame
  not_taken tail n (incomplete w) e =
      let y = frame-says hold tail n e in
      let z : ◌≡◌ {A = ℕ} 0 1 = cc y.accepted in
      omega arith
  not_taken tail n (refusing number r) e =
      by-test (is_long hold tail)
      (λ t. let f = rw t at e in let z : ◌≡◌ {A = ℕ} 0 1 = cc in absurd (omega arith))
      (λ t. let f = rw t at e in let z : ◌≡◌ {A = ℕ} 0 1 = cc in absurd (omega arith))
  not_taken tail n (too_long t) e = let f = rw t at e in let z : ◌≡◌ {A = ℕ} 0 1 = cc in omega arith

  none_of : (next : List ℕ → Reading (List ℕ)) (tail : List ℕ) (a : Answer (List ℕ)) → frames hold tail ≡ a → Ended hold tail → (go_on next tail a).messages ≡ []
  unfolding go_on
  none_of next tail waiting e d = refl
  none_of next tail (message f n) e d = absurd (not_taken tail n d (taken_as hold tail f n e).0)
  none_of next tail (refused number n) e d = refl

  frames-read : (k : ℕ) (fs : List (List ℕ)) (tail : List ℕ) → Every (IsFrame hold) fs → Ended hold tail → length (joined fs ++ tail) < k
      → (run (frames hold) k (joined fs ++ tail)).messages ≡ fs
  unfolding run joined go_on ahead
  frames-read zero fs tail w d h = absurd (omega arith)
  frames-read (suc k) [] tail none_left d h = none_of (run (frames hold) k) tail (frames hold tail) refl d
  frames-read (suc k) (f ∷ fs) tail (each y w) d h =
      let rest = joined fs ++ tail in
      let a : (f ++ joined fs) ++ tail ≡ f ++ rest = append_assoc f (joined fs) tail in
      let r = frame-first f rest y in
      let m = (stable hold).moves (f ++ rest) f (length f) r in
      let x : drop (length f) (f ++ rest) ≡ rest = drop_at f rest (length f) refl in
      let g : length rest < k = omega (arith, ap length a, length-append f rest) in
      rw (a, r, x) (ap (λ (l : List (List ℕ)). f ∷ l) (frames-read k fs tail w d g))

  pub file-of-frames : (fs : List (List ℕ)) (tail : List ℕ) (cs : List (List ℕ)) → Every (IsFrame hold) fs → Ended hold tail → joined cs ≡ joined fs ++ tail
      → captured hold cs ≡ file_header ++ written record_of fs
  unfolding captured read_all
  file-of-frames fs tail cs w d e =
      let l = joined fs ++ tail in
      let q = frames-read (suc (length l)) fs tail w d (omega arith) in
      rw (cut (frames hold) (stable hold) cs, e) (ap (λ (ms : List (List ℕ)). file_header ++ written record_of ms) q)

  pub frames-back : (fs : List (List ℕ)) (tail : List ℕ) (cs ds : List (List ℕ)) → Every (IsFrame hold) fs → Ended hold tail → joined cs ≡ joined fs ++ tail
      → joined ds ≡ captured hold cs → given hold ds ≡ joined fs
  frames-back fs tail cs ds w d e b =
      comes_back hold (joined cs) (captured hold cs)
      (record { taken = fs; rest = tail; all = sym e; whole = w; ended = d; file-is = file-of-frames fs tail cs w d e }) ds b
