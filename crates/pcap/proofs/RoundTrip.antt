-- Captures from bytes and to bytes, both ways. Assumes nothing.
--     header_read, read-header   the file's header, whatever follows, is read as it; what is read as it has its bytes
--     accepted-bytes             what `read_record` accepts has the bytes of that record
--     write_read                 what `write_record` makes, `read_record` gives back, whatever follows
--     read-write                 what `read_record` accepts, `write_record` makes byte for byte
--     over-read                  what the writer refuses by 23, the reader does
use Rattle.std.proofs.Common.{Some, Ok, Err, Bool, cond}
use Rattle.std.specs.List.{starts_with}
use Rattle.std.proofs.lemmas.Slice.Eq.{starts_is}
use Rattle.std.proofs.lemmas.Bool.Decides.{Decides-eqb}
use mathlib.Core.Path.{◌≡◌, refl, sym, ap, subst, ◌∙◌}
use mathlib.Core.Bool.{false}
use mathlib.Core.List.{List, ◌++◌, append_assoc}
use Prim.Native.Nat.{ℕ, ◌+◌, ◌≤◌, ◌<◌, ◌^◌}
use native.Mathlib.Omega.{arith}
use lib.Dec.{T, ltb, eqb}
use lib.ListN.{length, take, drop, length-append, take-append-drop}
use lib.Seq.{drop_at, take-append_seam}
use borrow.Author.Tests.{ltb-false, lt-ltb, le-ltb, eq-eqb, eqb-true, not-false}
use Rattle.le.specs.Le.{num_of, bytes_of, part, put, Bytes}
use Rattle.le.proofs.Laws.{write_read as bytes_back, read-write-part}
use Rattle.le.proofs.Parts.{by-test, part_join, length_part}
use Rattle.pcap.specs.declared.Time.{Time}
use Rattle.pcap.specs.declared.Record.{Record}
use Rattle.pcap.specs.declared.HeaderError.TheVariants.{Invalid}
use Rattle.pcap.specs.declared.ReadError.TheVariants.{InvalidLength}
use Rattle.pcap.specs.Header.{file_header, has_other, is_other, read_header}
use Rattle.pcap.specs.Record.{snap_length, time_of, kept_of, original_of, is_refused, record_in, read_record, record_head, record_bytes, Words, write_record}
use Rattle.pcap.proofs.WriteLaws.{length-head, length-record}
use Rattle.pcap.proofs.ReadLaws.{says}

-- ---- the file's header

pub header_read : (rest : List ℕ) → read_header (file_header ++ rest) ≡ Ok (Some (record {}))
unfolding read_header is_other has_other file_header bytes_of part num_of
header_read rest = rw (le-ltb (length (file_header ++ rest)) 24 (omega (arith, length-append file_header rest)))

word-is : (s : List ℕ) (at word : ℕ) → Bytes s → at + 4 ≤ length s → has_other s at word ≡ false → part s at 4 ≡ bytes_of 4 word
unfolding has_other
word-is s at word h f e = sym (read-write-part s at 4 h f) ∙ ap (bytes_of 4) (eqb-true _ word (not-false _ e))

own-bytes : (s : List ℕ) → Bytes s → 24 ≤ length s → is_other s ≡ false → part s 0 24 ≡ file_header
unfolding is_other file_header bytes_of
own-bytes s h n e =
    by-test (has_other s 0 0xa1b2_c3d4)
    (λ t. let f = rw t at e in absurd (subst T f tt))
    (λ t₀. by-test (has_other s 4 0x0004_0002)
    (λ t. let f = rw (t₀, t) at e in absurd (subst T f tt))
    (λ t₁. by-test (has_other s 8 0)
    (λ t. let f = rw (t₀, t₁, t) at e in absurd (subst T f tt))
    (λ t₂. by-test (has_other s 12 0)
    (λ t. let f = rw (t₀, t₁, t₂, t) at e in absurd (subst T f tt))
    (λ t₃. by-test (has_other s 16 snap_length)
    (λ t. let f = rw (t₀, t₁, t₂, t₃, t) at e in absurd (subst T f tt))
    (λ t₄. let t₅ = rw (t₀, t₁, t₂, t₃, t₄) at e in
    rw (
      ← part_join s 0 20 4,
      ← part_join s 0 16 4,
      ← part_join s 0 12 4,
      ← part_join s 0 8 4,
      ← part_join s 0 4 4,
      word-is s 0 0xa1b2_c3d4 h (omega arith) t₀,
      word-is s 4 0x0004_0002 h (omega arith) t₁,
      word-is s 8 0 h (omega arith) t₂,
      word-is s 12 0 h (omega arith) t₃,
      word-is s 16 snap_length h (omega arith) t₄,
      word-is s 20 147 h (omega arith) t₅,
    ))))))

pub read-header : (s : List ℕ) → Bytes s → read_header s ≡ Ok (Some (record {})) → take 24 s ≡ file_header
unfolding read_header part
read-header s h e =
    by-test (ltb (length s) 24)
    (λ t. let f = rw t at e in let z : ◌≡◌ {A = ℕ} 0 1 = cc in absurd (omega arith))
    (λ t₁. by-test (is_other s)
    (λ t. let f = rw (t₁, t) at e in let z : ◌≡◌ {A = ℕ} 0 1 = cc in absurd (omega arith))
    (λ t₂. own-bytes s h (ltb-false _ _ t₁) t₂))

-- bytes are that header exactly where they begin with its bytes
pub header-compared : (s : List ℕ) (r : Bool) → Bytes s → 24 ≤ length s → r ≡ starts_with eqb s file_header
    → cond r (Ok (Some (record {}))) (Err Invalid) ≡ read_header s
unfolding read_header part
header-compared s r b h e =
    let p = starts_is Decides-eqb s file_header r e in
    by-test r
    (λ t. rw t (sym (ap read_header (p.0 t) ∙ header_read (drop (length file_header) s))))
    (λ t. by-test (is_other s)
    (λ o. rw (t, le-ltb (length s) 24 h, o))
    (λ o. let is : file_header ++ drop 24 s ≡ s = ap (λ (l : List ℕ). l ++ drop 24 s) (sym (own-bytes s b h o)) ∙ take-append-drop 24 s in
    absurd (subst T (sym (p.1 (drop 24 s) (sym is)) ∙ t) tt)))

-- ---- writing, then reading

-- a record's header is read as its numbers
module _ (t : Time) (n : ℕ) (rest : List ℕ) where
  time-read : Words t → time_of (record_head t n ++ rest) ≡ t
  unfolding time_of record_head bytes_of part
  time-read w = rw (bytes_back 4 t.seconds w.seconds-fits, bytes_back 4 t.micros w.micros-fits)

  kept_read : n < 2 ^ 32 → kept_of (record_head t n ++ rest) ≡ n
  unfolding kept_of record_head bytes_of part
  kept_read h = bytes_back 4 n h

  original-read : n < 2 ^ 32 → original_of (record_head t n ++ rest) ≡ n
  unfolding original_of record_head bytes_of part
  original-read h = bytes_back 4 n h

taken : (limit n : ℕ) → n ≤ limit → n ≤ snap_length → is_refused limit n n ≡ false
unfolding is_refused
taken limit n h g = rw (eq-eqb n n refl, le-ltb limit n h, le-ltb snap_length n g)

-- a record's bytes, with anything behind them
module _ (t : Time) (frame rest : List ℕ) where
  head-rest : record_bytes t frame ++ rest ≡ record_head t (length frame) ++ (frame ++ rest)
  unfolding record_bytes
  head-rest = append_assoc (record_head t (length frame)) frame rest

  all_here : length (record_bytes t frame ++ rest) ≡ 16 + length frame + length rest
  all_here = rw (length-append, length-record)

  pub frame_here : part (record_bytes t frame ++ rest) 16 (length frame) ≡ frame
  unfolding part
  frame_here =
      rw (head-rest, drop_at (record_head t (length frame)) (frame ++ rest) 16 (length-head t (length frame)), take-append_seam)

  -- they are read as that record
  pub not-refused : (limit : ℕ) → Words t → length frame ≤ limit → length frame ≤ snap_length
      → read_record limit (record_bytes t frame ++ rest) ≡ Ok (Some (record_in t (length frame)))
  unfolding read_record
  not-refused limit w h g =
      let s = record_bytes t frame ++ rest in
      let a = all_here in
      let ek : kept_of s ≡ length frame = rw head-rest (kept_read t (length frame) (frame ++ rest) (omega arith)) in
      let eo : original_of s ≡ length frame = rw head-rest (original-read t (length frame) (frame ++ rest) (omega arith)) in
      let et : time_of s ≡ t = rw head-rest (time-read t (length frame) (frame ++ rest) w) in
      rw (le-ltb (length s) 16 (omega arith), ek, eo, taken limit (length frame) h g, le-ltb (length s) (16 + length frame) (omega arith), et)

  -- what the writer refuses by 23, the reader does
  pub over-read : (limit : ℕ) → snap_length < length frame → length frame < 2 ^ 32 → read_record limit (record_bytes t frame ++ rest) ≡ Err InvalidLength
  unfolding read_record is_refused
  over-read limit h g =
      let s = record_bytes t frame ++ rest in
      let a = all_here in
      let ek : kept_of s ≡ length frame = rw head-rest (kept_read t (length frame) (frame ++ rest) g) in
      let eo : original_of s ≡ length frame = rw head-rest (original-read t (length frame) (frame ++ rest) g) in
      by-test (ltb limit (length frame))
      (λ u. rw (le-ltb (length s) 16 (omega arith), ek, eo, eq-eqb (length frame) (length frame) refl, u))
      (λ u. rw (le-ltb (length s) 16 (omega arith), ek, eo, eq-eqb (length frame) (length frame) refl, u, lt-ltb snap_length (length frame) h))

-- what a writer that was not refused says
pub record WrittenSays (t : Time) (frame out : List ℕ) (n : ℕ) : Type 0 where
  pub small : length frame ≤ snap_length
  pub count-is : n ≡ 16 + length frame
  pub out-is : (write_record t frame out).out ≡ put out 0 (record_bytes t frame)

pub written-says : (t : Time) (frame out : List ℕ) (n : ℕ) → (write_record t frame out).result ≡ Ok n → WrittenSays t frame out n
unfolding write_record
written-says t frame out n e =
    by-test (ltb snap_length (length frame))
    (λ u. let f = rw u at e in let z : ◌≡◌ {A = ℕ} 0 1 = cc in absurd (omega arith))
    (λ u₁. by-test (ltb (length out) (16 + length frame))
    (λ u. let f = rw (u₁, u) at e in let z : ◌≡◌ {A = ℕ} 0 1 = cc in absurd (omega arith))
    (λ u₂. let f = rw (u₁, u₂) at e in record { small = ltb-false _ _ u₁; count-is = cc; out-is = rw (u₁, u₂) }))

pub record FrameComesBack (t : Time) (frame : List ℕ) (limit n : ℕ) (s : List ℕ) : Type 0 where
  pub read_is : read_record limit s ≡ Ok (Some (record { time = t; length = length frame; used = n }))
  pub frame_is : part s 16 (length frame) ≡ frame

pub write_read : (t : Time) (frame out rest : List ℕ) (limit n : ℕ) → Words t → length frame ≤ limit → (write_record t frame out).result ≡ Ok n
    → FrameComesBack t frame limit n ((write_record t frame out).out ++ rest)
unfolding put
write_read t frame out rest limit n w h e =
    let y = written-says t frame out n e in
    let more = drop (0 + length (record_bytes t frame)) out ++ rest in
    let o : (write_record t frame out).out ++ rest ≡ record_bytes t frame ++ more =
    ap (λ (l : List ℕ). l ++ rest) y.out-is ∙ append_assoc (record_bytes t frame) (drop (0 + length (record_bytes t frame)) out) rest in
    rw o (record {
      read_is = not-refused t frame more limit w h y.small ∙ ap (λ (k : ℕ). Ok (Some (record { time = t; length = length frame; used = k }))) (sym y.count-is);
      frame_is = frame_here t frame more;
    })

-- ---- reading, then writing

head-again : (s : List ℕ) → Bytes s → 16 ≤ length s → original_of s ≡ kept_of s → record_head (time_of s) (kept_of s) ≡ part s 0 16
unfolding record_head time_of kept_of original_of
head-again s h n e =
    let o : bytes_of 4 (num_of (part s 8 4)) ≡ part s 12 4 = ap (bytes_of 4) (sym e) ∙ read-write-part s 12 4 h n in
    ap (λ (l : List ℕ). bytes_of 4 (num_of (part s 0 4)) ++ bytes_of 4 (num_of (part s 4 4)) ++ bytes_of 4 (num_of (part s 8 4)) ++ l) o
    ∙ rw (
      read-write-part s 0 4 h (omega arith),
      read-write-part s 4 4 h (omega arith),
      read-write-part s 8 4 h (omega arith),
      part_join s 0 4 4,
      part_join s 0 8 4,
      part_join s 0 12 4,
    )

-- a part from the start
front-part : (s : List ℕ) (n : ℕ) → part s 0 n ≡ take n s
unfolding part
front-part s n = refl

-- what is accepted has the bytes of that record
pub accepted-bytes : (limit : ℕ) (s : List ℕ) (r : Record) → Bytes s → read_record limit s ≡ Ok (Some r) → take r.used s ≡ record_bytes r.time (part s 16 r.length)
unfolding record_bytes
accepted-bytes limit s r h e =
    let y = says limit s r e in
    let n = kept_of s in
    let l : length (part s 16 n) ≡ n = length_part s 16 n (omega (arith, y.whole)) in
    let d : record_head (time_of s) n ≡ part s 0 16 = head-again s h (omega (arith, y.whole)) y.same in
    rw (y.record-is, l, d, part_join s 0 16 n) (sym (front-part s (16 + n)))

pub read-write : (limit : ℕ) (s : List ℕ) (r : Record) (out : List ℕ) → Bytes s → read_record limit s ≡ Ok (Some r) → r.used ≤ length out
    → write_record r.time (part s 16 r.length) out ≡ record { result = Ok r.used; out = put out 0 (take r.used s) }
unfolding write_record
read-write limit s r out h e room =
    let y = says limit s r e in
    let b = accepted-bytes limit s r h e in
    let n = ap (λ (x : Record). x.length) y.record-is in
    let u = ap (λ (x : Record). x.used) y.record-is in
    let u' : 16 + r.length ≡ r.used = omega (arith, n, u) in
    let l : length (part s 16 r.length) ≡ r.length = length_part s 16 r.length (omega (arith, n, y.whole)) in
    rw (l, le-ltb snap_length r.length (omega (arith, y.small, n)), le-ltb (length out) (16 + r.length) (omega arith), ← b, u')
