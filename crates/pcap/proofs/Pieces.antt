-- However a file's bytes are cut, the frames with their times and the unfinished rest, or the refusal and what is left, are the same.
-- Assumes nothing.
--     stable         what the reader of records answers, but waiting, it answers whatever arrives behind
--     pieces         so records read in pieces are those of the whole
--     file-pieces    and so is a file, its header with it
--     file-arrives   a file that was written is read as its frames, in whatever pieces it arrives
use Rattle.std.proofs.Common.{Some, None, Ok, Err}
use mathlib.Core.Path.{◌≡◌, refl, sym, ap, subst, ◌∙◌}
use mathlib.Core.Bool.{true, false}
use mathlib.Core.List.{List, [], ◌∷◌, ◌++◌, append_assoc, append-nil}
use Prim.Native.Nat.{ℕ, ◌+◌, ◌≤◌, ◌<◌}
use native.Mathlib.Omega.{arith}
use lib.Dec.{T, ltb}
use lib.ListN.{length, drop, length-append}
use lib.Seq.{drop-append-le, drop_at}
use borrow.Author.Tests.{ltb-false, le-ltb}
use Rattle.le.proofs.Parts.{by-test, part-front}
use Rattle.stream.specs.Stream.{message, refused, more, is_waiting, joined, Reading, read_all, begun, feed, feed_all, Stable, Every, none_left, each, written, ReadsBack}
use Rattle.stream.proofs.Cut.{cut, arrives}
use Rattle.pcap.specs.declared.Record.{Record}
use Rattle.pcap.specs.Header.{file_header, HeaderRead, read_header}
use Rattle.pcap.specs.Record.{Read, kept_of, original_of, is_refused, read_record, used_of}
use Rattle.pcap.specs.File.{Got, answer_of, receives, FileReading, head_on, read_file, file_begun, head_fed, feed_file, feed_files, bytes_for, file_of, Sent}
use Rattle.pcap.proofs.WriteLaws.{length-header, length-record}
use Rattle.pcap.proofs.ReadLaws.{says, used-within, time-front, kept-front, original-front, header-stays}
use Rattle.pcap.proofs.RoundTrip.{header_read, frame_here, not-refused, written-says}

-- ---- records

module _ (limit : ℕ) (l m : List ℕ) where
  read_stays : is_waiting (answer_of l (read_record limit l)) ≡ false → read_record limit (l ++ m) ≡ read_record limit l
  unfolding read_record answer_of is_waiting
  read_stays e =
      let la = length-append l m in
      by-test (ltb (length l) 16)
      (λ t. let f = rw t at e in absurd (subst T f tt))
      (λ t₁. let h = ltb-false (length l) 16 t₁ in
      let g = le-ltb (length (l ++ m)) 16 (omega arith) in
      let k = kept-front l m h in
      let o = original-front l m h in
      by-test (is_refused limit (kept_of l) (original_of l))
      (λ t. rw (g, t₁, k, o, t))
      (λ t₂. by-test (ltb (length l) (16 + kept_of l))
      (λ t. let f = rw (t₁, t₂, t) at e in absurd (subst T f tt))
      (λ t₃. let w = ltb-false (length l) (16 + kept_of l) t₃ in
      rw (g, t₁, k, o, t₂, t₃, le-ltb (length (l ++ m)) (16 + kept_of l) (omega arith), time-front l m h))))

  answer-stays : (r : Read) → read_record limit l ≡ r → answer_of (l ++ m) r ≡ answer_of l r
  unfolding answer_of
  answer-stays (Ok None) e = refl
  answer-stays (Err x) e = refl
  answer-stays (Ok (Some r)) e =
      let a = says limit l r e in
      rw (a.record-is, part-front l m 16 (kept_of l) a.whole)

-- a record uses its header at least
whole-used : (limit : ℕ) (l : List ℕ) (g : Got) (n : ℕ) (r : Read) → read_record limit l ≡ r → answer_of l r ≡ message g n → (n ≡ used_of r) × (0 < n)
unfolding answer_of used_of
whole-used limit l g n (Ok None) e f = let z : ◌≡◌ {A = ℕ} 0 1 = cc in absurd (omega arith)
whole-used limit l g n (Err x) e f = let z : ◌≡◌ {A = ℕ} 0 1 = cc in absurd (omega arith)
whole-used limit l g n (Ok (Some r)) e f =
    let s = says limit l r e in
    let u = ap (λ (x : Record). x.used) s.record-is in
    let i : n ≡ r.used = cc in
    (i, omega arith)

refusal-used : (l : List ℕ) (number n : ℕ) (r : Read) → answer_of l r ≡ refused number n → n ≡ used_of r
unfolding answer_of
refusal-used l number n (Ok None) f = cc
refusal-used l number n (Err x) f = cc
refusal-used l number n (Ok (Some r)) f = cc

pub stable : (limit : ℕ) → Stable (receives limit)
unfolding receives read_record answer_of
stable limit =
    record {
      none = refl;
      stays = λ l m e. ap (answer_of (l ++ m)) (read_stays limit l m e) ∙ answer-stays limit l m (read_record limit l) refl;
      moves = λ l g n e. (whole-used limit l g n (read_record limit l) refl e).1;
      within = λ l g n e. omega (arith, (whole-used limit l g n (read_record limit l) refl e).0, used-within limit l);
      refused-within = λ l number n e. omega (arith, refusal-used l number n (read_record limit l) e, used-within limit l);
    }

pub pieces : (limit : ℕ) (cs : List (List ℕ)) → feed_all (receives limit) begun cs ≡ read_all (receives limit) (joined cs)
pieces limit cs = cut (receives limit) (stable limit) cs

-- ---- a file

-- a piece behind records that were read
records-behind : (limit : ℕ) (l c : List ℕ) → feed (receives limit) (read_all (receives limit) l) c ≡ read_all (receives limit) (l ++ c)
unfolding feed_all joined
records-behind limit l c =
    let one : feed (receives limit) begun l ≡ read_all (receives limit) l = rw append-nil at (pieces limit (l ∷ [])) in
    let two : feed (receives limit) (feed (receives limit) begun l) c ≡ read_all (receives limit) (l ++ c) = rw append-nil at (pieces limit (l ∷ c ∷ [])) in
    ap (λ (r : Reading Got). feed (receives limit) r c) (sym one) ∙ two

-- a header that is here or another
header-long : (l : List ℕ) (h : HeaderRead) → read_header l ≡ h → (h ≡ Ok None → ⊥) → 24 ≤ length l
unfolding read_header
header-long l h e f =
    by-test (ltb (length l) 24) (λ t. absurd (f (sym e ∙ rw t))) (λ t. ltb-false (length l) 24 t)

behind-at : (limit : ℕ) (l c : List ℕ) (h : HeaderRead) → read_header l ≡ h → feed_file limit (head_on limit l h) c ≡ read_file limit (l ++ c)
unfolding feed_file head_on head_fed read_file
behind-at limit l c (Ok None) e = refl
behind-at limit l c (Err x) e =
    let n = header-long l (Err x) e (λ f. let z : ◌≡◌ {A = ℕ} 0 1 = cc in omega arith) in
    rw (header-stays l c n, e)
behind-at limit l c (Ok (Some h)) e =
    let n = header-long l (Ok (Some h)) e (λ f. let z : ◌≡◌ {A = ℕ} 0 1 = cc in omega arith) in
    rw (header-stays l c n, e, drop-append-le 24 l c n) (ap (λ (r : Reading Got). record { headed = true; reading = r }) (records-behind limit (drop 24 l) c))

behind : (limit : ℕ) (l c : List ℕ) → feed_file limit (read_file limit l) c ≡ read_file limit (l ++ c)
unfolding read_file
behind limit l c = behind-at limit l c (read_header l) refl

all-behind : (limit : ℕ) (l : List ℕ) (cs : List (List ℕ)) → feed_files limit (read_file limit l) cs ≡ read_file limit (l ++ joined cs)
unfolding feed_files joined
all-behind limit l [] = rw append-nil
all-behind limit l (c ∷ cs) =
    ap (λ (f : FileReading). feed_files limit f cs) (behind limit l c)
    ∙ all-behind limit (l ++ c) cs
    ∙ ap (read_file limit) (append_assoc l c (joined cs))

begins : (limit : ℕ) → read_file limit [] ≡ file_begun
unfolding read_file head_on read_header file_begun begun
begins limit = refl

pub file-pieces : (limit : ℕ) (cs : List (List ℕ)) → feed_files limit file_begun cs ≡ read_file limit (joined cs)
file-pieces limit cs = ap (λ (f : FileReading). feed_files limit f cs) (sym (begins limit)) ∙ all-behind limit [] cs

-- ---- what was written arrives

reads-back : (limit : ℕ) (g : Got) → Sent limit g → ReadsBack (receives limit) bytes_for g
unfolding receives answer_of used_of bytes_for
reads-back limit g s rest =
    let w = written-says g.time g.frame s.buffer s.count s.was-written in
    rw (
      not-refused g.time g.frame rest limit s.words s.within w.small,
      frame_here g.time g.frame rest,
      length-record g.time g.frame,
    )

all-read-back : (limit : ℕ) (gs : List Got) → Every (Sent limit) gs → Every (ReadsBack (receives limit) bytes_for) gs
all-read-back limit [] none_left = none_left
all-read-back limit (g ∷ gs) (each s e) = each (reads-back limit g s) (all-read-back limit gs e)

records-read : (limit : ℕ) (gs : List Got) → Every (Sent limit) gs → read_all (receives limit) (written bytes_for gs) ≡ record { messages = gs; ending = more; rest = [] }
unfolding joined
records-read limit gs e =
    let cs = written bytes_for gs ∷ [] in
    let j : joined cs ≡ written bytes_for gs = append-nil (written bytes_for gs) in
    ap (read_all (receives limit)) (sym j) ∙ sym (pieces limit cs) ∙ arrives (receives limit) (stable limit) bytes_for gs cs (all-read-back limit gs e) j

pub file-arrives : (limit : ℕ) (gs : List Got) (cs : List (List ℕ)) → Every (Sent limit) gs → joined cs ≡ file_of gs
    → feed_files limit file_begun cs ≡ record { headed = true; reading = record { messages = gs; ending = more; rest = [] } }
unfolding read_file head_on file_of
file-arrives limit gs cs e j =
    let w = written bytes_for gs in
    file-pieces limit cs
    ∙ ap (read_file limit) j
    ∙ rw (header_read w, drop_at file_header w 24 length-header) (ap (λ (r : Reading Got). record { headed = true; reading = r }) (records-read limit gs e))
