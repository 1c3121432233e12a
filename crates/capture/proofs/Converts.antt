-- What the two programs do with all that arrives, in whatever pieces. Assumes nothing.
--     converts     received bytes are whole frames, each with its record in the file, and a rest that has none: an incomplete frame, one
--                  that decoding refuses, or one that is too long
--     gives        a file is records, whose frames are given, and a rest: an incomplete record, or one that is refused
--     comes_back   what the second program gives of the first's file is those frames, unchanged and in their order
--     there_and_back   so it is the first part of what was received, up to what the file ends before
use mathlib.Core.Path.{◌≡◌, refl, sym, ap, ◌∙◌}
use mathlib.Core.List.{List, [], ◌∷◌, ◌++◌, append_assoc}
use Prim.Native.Nat.{ℕ, ◌+◌}
use native.Mathlib.Omega.{arith}
use lib.ListN.{length, take, drop, length-take, take-append-drop}
use Rattle.le.specs.Le.{part, put, Bytes}
use Rattle.le.proofs.Laws.{bytes_drop}
use Rattle.le.proofs.Parts.{by-test, length_part}
use Rattle.stream.specs.Stream.{waiting, message, refused, End, more, stopped, Reading, joined, read_all, Every, none_left, each, written}
use Rattle.stream.proofs.Cut.{cut}
use Rattle.protocol.specs.Packet.{payload_limit, decode_of}
use Rattle.pcap.specs.declared.Record.{Record}
use Rattle.pcap.specs.declared.ReadError.TheVariants.{InvalidLength}
use Rattle.pcap.specs.Header.{file_header, HeaderRead, read_header}
use Rattle.pcap.specs.Record.{Read, read_record, used_of, record_bytes}
use Rattle.pcap.specs.File.{Got, answer_of as record_answer, receives, head_on, read_file, bytes_for, file_of, Sent}
use Rattle.pcap.proofs.ReadLaws.{says as record-says}
use Rattle.pcap.proofs.WriteLaws.{length-record, record-written}
use Rattle.pcap.proofs.RoundTrip.{read-header, accepted-bytes}
use Rattle.pcap.proofs.Pieces.{stable as records-stable, file-pieces, file-arrives}
use Rattle.capture.specs.Capture.{Next, is_long, next_of, taken_of, next_frame, zero_time}
use Rattle.capture.specs.Converts.{answer_of, frames, record_of, captured, IsFrame, Ended, incomplete, refusing, too_long, Converts, frames_of, given, RecordsEnded, cut_off, refusing as record-refusing, Held, Gives, no_header, records, ComesBack}
use Rattle.capture.proofs.FrameLaws.{accepted_small}
use Rattle.capture.proofs.Parts.{Stops, parted}
use Rattle.capture.proofs.FramePieces.{frame-says, alone, taken_as, ended-as, stable}
use Rattle.protocol.specs.declared.packet.Packet.{Packet}
use Rattle.protocol.specs.declared.packet.DecodeError.{DecodeError}
use Rattle.std.specs.Prelude.{Option, Some, None, Result, Ok, Err}

-- ---- frames to a capture

module _ (hold : ℕ) where
  frame-bytes : (l f : List ℕ) (n : ℕ) → Bytes l → frames hold l ≡ message f n → take n l ≡ f
  frame-bytes l f n b e = sym (taken_as hold l f n e).1

  frame-known : (l f : List ℕ) (n : ℕ) → Bytes l → frames hold l ≡ message f n → IsFrame hold f
  frame-known l f n b e =
      let t = taken_as hold l f n e in
      let y = frame-says hold l n t.0 in
      let k : length (take n l) ≡ n = rw length-take (omega (arith, y.here)) in
      let same : take n l ≡ take (24 + y.packet.data_length) l = ap (λ (j : ℕ). take j l) y.length-is in
      rw t.1 (record {
        packet = y.packet;
        accepted = ap (λ (j : List ℕ). decode_of j payload_limit) same ∙ alone l payload_limit y.packet b y.accepted;
        length-is = k ∙ y.length-is;
        held = omega (arith, y.held);
      })

  -- what is not taken
  waits : (d : Result (Option Packet) DecodeError) → next_of d ≡ Ok None → d ≡ Ok None
  unfolding next_of
  waits (Ok None) e = refl
  waits (Err x) e = cc
  waits (Ok (Some p)) e = cc

  more-at : (s : List ℕ) (x : Next) → answer_of s x ≡ waiting → x ≡ Ok None
  unfolding answer_of
  more-at s (Ok None) e = refl
  more-at s (Ok (Some n)) e = cc
  more-at s (Err x) e = cc

  ends-waiting : (rest : List ℕ) → next_frame hold rest ≡ Ok None → Ended hold rest
  unfolding next_frame taken_of
  ends-waiting rest e =
      by-test (is_long hold rest) (λ t. too_long t) (λ t. incomplete (waits (decode_of rest payload_limit) (rw t at e)))

  ends-refused : (rest : List ℕ) (x : DecodeError) → next_frame hold rest ≡ Err x → Ended hold rest
  unfolding next_frame
  ends-refused rest x e = by-test (is_long hold rest) (λ t. too_long t) (λ t. refusing x (rw t at e))

  ends : (rest : List ℕ) (e : End) → Stops (frames hold) rest e → Ended hold rest
  unfolding Stops frames
  ends rest more s = ends-waiting rest (more-at rest (next_frame hold rest) s)
  ends rest (stopped number) s = let r = ended-as hold rest number 0 s in ends-refused rest r.error r.error-is

  as-they-are : (fs : List (List ℕ)) → written (λ f. f) fs ≡ joined fs
  unfolding written joined
  as-they-are [] = refl
  as-they-are (f ∷ fs) = ap (λ (l : List ℕ). f ++ l) (as-they-are fs)

  pub converts : (cs : List (List ℕ)) → Bytes (joined cs) → Converts hold (joined cs) (captured hold cs)
  unfolding captured
  converts cs b =
      let r = read_all (frames hold) (joined cs) in
      let p = parted (frames hold) (stable hold) (λ f. f) (IsFrame hold) frame-bytes frame-known (λ l number n e. (ended-as hold l number n e).unused) (joined cs) b in
      record {
        taken = r.messages;
        rest = r.rest;
        all = ap (λ (l : List ℕ). l ++ r.rest) (sym (as-they-are r.messages)) ∙ p.all;
        whole = p.each-is;
        ended = ends r.rest r.ending p.stops;
        file-is = ap (λ (q : Reading (List ℕ)). file_header ++ written record_of q.messages) (cut (frames hold) (stable hold) cs);
      }

  -- ---- a capture to frames

  -- what a record's answer says
  record-as : (l : List ℕ) (g : Got) (n : ℕ) (r : Read) → Bytes l → read_record hold l ≡ r → record_answer l r ≡ message g n → take n l ≡ bytes_for g
  unfolding record_answer used_of bytes_for
  record-as l g n (Ok None) b e f = let z : ◌≡◌ {A = ℕ} 0 1 = cc in absurd (omega arith)
  record-as l g n (Err x) b e f = let z : ◌≡◌ {A = ℕ} 0 1 = cc in absurd (omega arith)
  record-as l g n (Ok (Some r)) b e f =
      let en : n ≡ r.used = cc in
      let eg : record { time = r.time; frame = part l 16 r.length } ≡ g = cc in
      ap (λ (j : ℕ). take j l) en ∙ accepted-bytes hold l r b e ∙ ap bytes_for eg

  record-bytes : (l : List ℕ) (g : Got) (n : ℕ) → Bytes l → receives hold l ≡ message g n → take n l ≡ bytes_for g
  unfolding receives
  record-bytes l g n b e = record-as l g n (read_record hold l) b refl e

  held-as : (l : List ℕ) (g : Got) (n : ℕ) (r : Read) → read_record hold l ≡ r → record_answer l r ≡ message g n → Held hold g
  unfolding record_answer used_of
  held-as l g n (Ok None) e f = let z : ◌≡◌ {A = ℕ} 0 1 = cc in absurd (omega arith)
  held-as l g n (Err x) e f = let z : ◌≡◌ {A = ℕ} 0 1 = cc in absurd (omega arith)
  held-as l g n (Ok (Some r)) e f =
      let y = record-says hold l r e in
      let k = ap (λ (x : Record). x.length) y.record-is in
      let eg : record { time = r.time; frame = part l 16 r.length } ≡ g = cc in
      let le = ap (λ (q : Got). length q.frame) eg in
      let lp = length_part l 16 r.length (omega (arith, y.whole)) in
      omega (arith, y.within)

  record-held : (l : List ℕ) (g : Got) (n : ℕ) → Bytes l → receives hold l ≡ message g n → Held hold g
  unfolding receives
  record-held l g n b e = held-as l g n (read_record hold l) refl e

  refused_as : (l : List ℕ) (number n : ℕ) (r : Read) → record_answer l r ≡ refused number n → (r ≡ Err InvalidLength) × (n ≡ 0)
  unfolding record_answer used_of
  refused_as l number n (Ok None) f = let z : ◌≡◌ {A = ℕ} 0 1 = cc in absurd (omega arith)
  refused_as l number n (Err InvalidLength) f = (refl, cc)
  refused_as l number n (Ok (Some r)) f = let z : ◌≡◌ {A = ℕ} 0 1 = cc in absurd (omega arith)

  record-refused : (l : List ℕ) (number n : ℕ) → receives hold l ≡ refused number n → (read_record hold l ≡ Err InvalidLength) × (n ≡ 0)
  unfolding receives
  record-refused l number n e = refused_as l number n (read_record hold l) e

  record-waits : (l : List ℕ) (r : Read) → record_answer l r ≡ waiting → r ≡ Ok None
  unfolding record_answer
  record-waits l (Ok None) e = refl
  record-waits l (Err x) e = cc
  record-waits l (Ok (Some r)) e = cc

  records-end : (rest : List ℕ) (e : End) → Stops (receives hold) rest e → RecordsEnded hold rest
  unfolding Stops receives
  records-end rest more s = cut_off (record-waits rest (read_record hold rest) s)
  records-end rest (stopped number) s = record-refusing (record-refused rest number 0 s).0

  gives_at : (l : List ℕ) (h : HeaderRead) → Bytes l → read_header l ≡ h → Gives hold l (joined (frames_of (head_on hold l h).reading.messages))
  unfolding head_on frames_of joined file_of
  gives_at l (Ok None) b e = no_header (λ f. let z : ◌≡◌ {A = ℕ} 0 1 = cc in omega arith) refl
  gives_at l (Err x) b e = no_header (λ f. let z : ◌≡◌ {A = ℕ} 0 1 = cc in omega arith) refl
  gives_at l (Ok (Some h)) b e =
      let d = drop 24 l in
      let r = read_all (receives hold) d in
      let p = parted (receives hold) (records-stable hold) bytes_for (Held hold) record-bytes record-held (λ l number n e. (record-refused l number n e).1) d (bytes_drop 24 l b) in
      let all : (file_header ++ written bytes_for r.messages) ++ r.rest ≡ l =
      append_assoc file_header (written bytes_for r.messages) r.rest ∙ rw (p.all, ← read-header l b e) (take-append-drop 24 l) in
      records r.messages r.rest all p.each-is (records-end r.rest r.ending p.stops) refl

  pub gives : (cs : List (List ℕ)) → Bytes (joined cs) → Gives hold (joined cs) (given hold cs)
  unfolding given read_file
  gives cs b = rw (file-pieces hold cs) (gives_at (joined cs) (read_header (joined cs)) b refl)

  -- ---- there and back

  at_zero : List ℕ → Got
  at_zero f = record { time = zero_time; frame = f }

  all_at_zero : List (List ℕ) → List Got
  all_at_zero [] = []
  all_at_zero (f ∷ fs) = at_zero f ∷ all_at_zero fs

  same-file : (fs : List (List ℕ)) → written record_of fs ≡ written bytes_for (all_at_zero fs)
  unfolding written record_of bytes_for all_at_zero at_zero
  same-file [] = refl
  same-file (f ∷ fs) = ap (λ (l : List ℕ). record_bytes zero_time f ++ l) (same-file fs)

  same-frames : (fs : List (List ℕ)) → frames_of (all_at_zero fs) ≡ fs
  unfolding frames_of all_at_zero at_zero
  same-frames [] = refl
  same-frames (f ∷ fs) = ap (λ (l : List (List ℕ)). f ∷ l) (same-frames fs)

  -- a frame's record is written, into a buffer of its length
  sent : (f : List ℕ) → IsFrame hold f → Sent hold (at_zero f)
  unfolding at_zero
  sent f y =
      let small = accepted_small f payload_limit y.packet y.accepted in
      let d = record_bytes zero_time f in
      let w = record-written zero_time f d (put d 0 (record_bytes zero_time f)) (omega (arith, y.length-is)) (omega (arith, length-record zero_time f)) refl in
      record {
        within = y.held;
        words = record { seconds-fits = omega arith; micros-fits = omega arith };
        buffer = d;
        count = 16 + length f;
        was-written = sym w.result-is;
      }

  all-sent : (fs : List (List ℕ)) → Every (IsFrame hold) fs → Every (Sent hold) (all_at_zero fs)
  unfolding all_at_zero
  all-sent [] none_left = none_left
  all-sent (f ∷ fs) (each y e) = each (sent f y) (all-sent fs e)

  pub comes_back : (l file : List ℕ) (c : Converts hold l file) (ds : List (List ℕ)) → joined ds ≡ file → given hold ds ≡ joined c.taken
  unfolding given file_of
  comes_back l file c ds e =
      let gs = all_at_zero c.taken in
      let j : joined ds ≡ file_of gs = e ∙ c.file-is ∙ ap (λ (w : List ℕ). file_header ++ w) (same-file c.taken) in
      rw (file-arrives hold gs ds (all-sent c.taken c.whole) j) (ap joined (same-frames c.taken))

  pub there_and_back : (cs ds : List (List ℕ)) → Bytes (joined cs) → joined ds ≡ captured hold cs → ComesBack hold (joined cs) (given hold ds)
  there_and_back cs ds b e =
      let c = converts cs b in
      record {
        lost = c.rest;
        all = ap (λ (l : List ℕ). l ++ c.rest) (comes_back (joined cs) (captured hold cs) c ds e) ∙ c.all;
        ended = c.ended;
      }
