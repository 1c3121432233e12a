-- Fields read from what was written, and written from what was read, one layout at a time. Assumes nothing.
use mathlib.Core.Path.{◌≡◌, refl, ap, ◌∙◌}
use mathlib.Core.List.{List, ◌++◌}
use Prim.Native.Nat.{ℕ, ◌+◌, ◌≤◌, ◌<◌, ◌^◌}
use native.Mathlib.Omega.{arith}
use lib.IntN.{ℤ}
use lib.Signed.{mag}
use lib.ListN.{length}
use Rattle.le.specs.Le.{num_of, bytes_of, signed, unsigned, part, Bytes}
use Rattle.le.proofs.Laws.{write_read, read-write-part, signed-unsigned, unsigned_signed, unsigned_small, num_of-part}
use Rattle.le.proofs.Parts.{part_join}
use Rattle.exchange.specs.declared.StatLayout.{StatLayout}
use Rattle.exchange.specs.declared.StatLayout.TheVariants.{V1, V2}
use Rattle.exchange.specs.declared.Layout.{Layout}
use Rattle.exchange.specs.declared.Layout.TheVariants.{Text, Number, Stat, Entry, End}
use Rattle.sync.specs.declared.StatV2.{StatV2}
use Rattle.sync.specs.declared.Stat.TheVariants.{V1 as First, V2 as Second}
use Rattle.sync.specs.declared.Fields.{Fields}
use Rattle.sync.specs.declared.Fields.TheVariants.{Text as TextFields, Number as NumberFields, Stat as StatFields, Entry as EntryFields, End as EndFields}
use Rattle.sync.specs.declared.Message.{Message}
use Rattle.exchange.specs.Exchange.{word_of, stat_length, head_of, longest_of}
use Rattle.sync.specs.Message.{stat_layout, stat_of, stat_v2_of, either_of, fields_of, length_of}
use Rattle.sync_write.specs.Write.{layout_of, stat_bytes, about_bytes, times_bytes, stat_v2_bytes, either_bytes, field_bytes, head_bytes, numbers_of, stat_v2_in, StatFits, Fits}
use Rattle.exchange.proofs.ExchangeLaws.{word_small, heads}

-- ---- written, then read

pub read_word : (m : Message) (n : ℕ) (rest : List ℕ) → num_of (part (head_bytes m n ++ rest) 0 4) ≡ word_of m.id
unfolding head_bytes bytes_of part
read_word m n rest = write_read 4 (word_of m.id) (word_small m.id)

-- a time
time-back : (z : ℤ) → mag z < 2 ^ 63 → signed 63 (num_of (bytes_of 8 (unsigned 63 z))) ≡ z
time-back z h = ap (signed 63) (write_read 8 (unsigned 63 z) (unsigned_small 63 z h)) ∙ signed-unsigned 63 z h

-- a stat of the second layout, with anything behind it
wide_back : (w : ℕ) (s : StatV2) (rest : List ℕ) → StatFits s → stat_v2_of (bytes_of 4 w ++ stat_v2_bytes s ++ rest) ≡ s
unfolding stat_v2_of stat_v2_bytes about_bytes times_bytes bytes_of part
wide_back w s rest h =
    rw (
      write_read 4 s.error h.error-fits,
      write_read 8 s.dev h.dev-fits,
      write_read 8 s.ino h.ino-fits,
      write_read 4 s.mode.0 h.mode-fits,
      write_read 4 s.nlink h.nlink-fits,
      write_read 4 s.uid h.uid-fits,
      write_read 4 s.gid h.gid-fits,
      write_read 8 s.size h.size_fits,
      time-back s.atime h.atime-fits,
      time-back s.mtime h.mtime-fits,
      time-back s.ctime h.ctime-fits,
    )

fields_back : (w : ℕ) (f : Fields) (n : ℕ) (rest : List ℕ) → Fits f → fields_of (layout_of f) (bytes_of 4 w ++ field_bytes f n ++ rest) ≡ f
unfolding fields_of field_bytes either_of either_bytes stat_of stat_bytes stat_v2_bytes about_bytes times_bytes numbers_of stat_v2_in bytes_of part
fields_back w TextFields n rest h = refl
fields_back w (NumberFields a) n rest h = rw (write_read 4 a (h.words 0))
fields_back w (StatFields (First s)) n rest h =
    rw (write_read 4 s.mode.0 (h.words 0), write_read 4 s.size (h.words 1), write_read 4 s.mtime (h.words 2))
fields_back w (EntryFields (First s)) n rest h =
    rw (write_read 4 s.mode.0 (h.words 0), write_read 4 s.size (h.words 1), write_read 4 s.mtime (h.words 2))
fields_back w (EndFields (First s) a) n rest h =
    rw (write_read 4 s.mode.0 (h.words 0), write_read 4 s.size (h.words 1), write_read 4 s.mtime (h.words 2), write_read 4 a (h.words 3))
fields_back w (StatFields (Second s)) n rest h = ap (λ (z : StatV2). StatFields (Second z)) (wide_back w s rest h.stat-fits)
fields_back w (EntryFields (Second s)) n rest h = ap (λ (z : StatV2). EntryFields (Second z)) (wide_back w s (bytes_of 4 n ++ rest) h.stat-fits)
fields_back w (EndFields (Second s) a) n rest h =
    rw (wide_back w s (bytes_of 4 a ++ rest) h.stat-fits, write_read 4 a (h.words 0))

pub read-fields : (m : Message) (n : ℕ) (rest : List ℕ) → Fits m.fields → fields_of (layout_of m.fields) (head_bytes m n ++ rest) ≡ m.fields
unfolding head_bytes
read-fields m n rest h = fields_back (word_of m.id) m.fields n rest h

length_back : (w : ℕ) (f : Fields) (n : ℕ) (rest : List ℕ) → n ≤ longest_of (layout_of f) → length_of (layout_of f) (bytes_of 4 w ++ field_bytes f n ++ rest) ≡ n
unfolding length_of longest_of field_bytes either_bytes stat_bytes stat_v2_bytes about_bytes times_bytes bytes_of part
length_back w TextFields n rest h = write_read 4 n (omega arith)
length_back w (NumberFields a) n rest h = omega arith
length_back w (StatFields s) n rest h = omega arith
length_back w (EntryFields (First s)) n rest h = write_read 4 n (omega arith)
length_back w (EntryFields (Second s)) n rest h = write_read 4 n (omega arith)
length_back w (EndFields s a) n rest h = omega arith

pub read_length : (m : Message) (n : ℕ) (rest : List ℕ) → n ≤ longest_of (layout_of m.fields) → length_of (layout_of m.fields) (head_bytes m n ++ rest) ≡ n
unfolding head_bytes
read_length m n rest h = length_back (word_of m.id) m.fields n rest h

-- ---- read, then written

same_stat_layout : (v : StatLayout) (s : List ℕ) → stat_layout (either_of v s) ≡ v
unfolding either_of
same_stat_layout V1 s = refl
same_stat_layout V2 s = refl

pub same_layout : (k : Layout) (s : List ℕ) → layout_of (fields_of k s) ≡ k
unfolding fields_of
same_layout Text s = refl
same_layout Number s = refl
same_layout (Stat v) s = ap Stat (same_stat_layout v s)
same_layout (Entry v) s = ap Entry (same_stat_layout v s)
same_layout (End v) s = ap End (same_stat_layout v s)

stat-written : (s : List ℕ) → Bytes s → 16 ≤ length s → stat_bytes (stat_of s) ≡ part s 4 12
unfolding stat_bytes stat_of
stat-written s h n =
    rw (read-write-part s 4 4 h (omega arith), read-write-part s 8 4 h (omega arith), read-write-part s 12 4 h (omega arith), part_join s 4 4 4, part_join s 4 8 4)

-- a time
time-written : (s : List ℕ) (at : ℕ) → Bytes s → at + 8 ≤ length s → bytes_of 8 (unsigned 63 (signed 63 (num_of (part s at 8)))) ≡ part s at 8
time-written s at h n = ap (bytes_of 8) (unsigned_signed 63 (num_of (part s at 8)) (num_of-part 8 s at h)) ∙ read-write-part s at 8 h n

about-written : (s : List ℕ) → Bytes s → 72 ≤ length s → about_bytes (stat_v2_of s) ≡ part s 4 36
unfolding about_bytes stat_v2_of
about-written s h n =
    rw (
      read-write-part s 4 4 h (omega arith),
      read-write-part s 8 8 h (omega arith),
      read-write-part s 16 8 h (omega arith),
      read-write-part s 24 4 h (omega arith),
      read-write-part s 28 4 h (omega arith),
      read-write-part s 32 4 h (omega arith),
      read-write-part s 36 4 h (omega arith),
      part_join s 4 4 8,
      part_join s 4 12 8,
      part_join s 4 20 4,
      part_join s 4 24 4,
      part_join s 4 28 4,
      part_join s 4 32 4,
    )

times-written : (s : List ℕ) → Bytes s → 72 ≤ length s → times_bytes (stat_v2_of s) ≡ part s 40 32
unfolding times_bytes stat_v2_of
times-written s h n =
    rw (
      read-write-part s 40 8 h (omega arith),
      time-written s 48 h (omega arith),
      time-written s 56 h (omega arith),
      time-written s 64 h (omega arith),
      part_join s 40 8 8,
      part_join s 40 16 8,
      part_join s 40 24 8,
    )

wide-written : (s : List ℕ) → Bytes s → 72 ≤ length s → stat_v2_bytes (stat_v2_of s) ≡ part s 4 68
unfolding stat_v2_bytes
wide-written s h n = rw (about-written s h n, times-written s h n) (part_join s 4 36 32)

either-written : (v : StatLayout) (s : List ℕ) → Bytes s → 4 + stat_length v ≤ length s → either_bytes (either_of v s) ≡ part s 4 (stat_length v)
unfolding either_bytes either_of
either-written V1 s h n = stat-written s h n
either-written V2 s h n = wide-written s h n

-- a stat and a word behind it
behind-written : (v : StatLayout) (s : List ℕ) → Bytes s → 8 + stat_length v ≤ length s
    → part s 0 4 ++ (either_bytes (either_of v s) ++ bytes_of 4 (num_of (part s (4 + stat_length v) 4))) ≡ part s 0 (8 + stat_length v)
behind-written v s h n =
    let e : 4 + (stat_length v + 4) ≡ 8 + stat_length v = omega arith in
    rw (either-written v s h (omega arith), read-write-part s (4 + stat_length v) 4 h (omega arith), part_join s 4 (stat_length v) 4, part_join s 0 4 (stat_length v + 4), e)

fields-written : (k : Layout) (s : List ℕ) → Bytes s → head_of k ≤ length s → part s 0 4 ++ field_bytes (fields_of k s) (length_of k s) ≡ part s 0 (head_of k)
unfolding field_bytes fields_of length_of head_of
fields-written Text s h n = rw (read-write-part s 4 4 h n) (part_join s 0 4 4)
fields-written Number s h n = rw (read-write-part s 4 4 h n) (part_join s 0 4 4)
fields-written (Stat v) s h n = rw (either-written v s h n) (part_join s 0 4 (stat_length v))
fields-written (Entry v) s h n = behind-written v s h n
fields-written (End v) s h n = behind-written v s h n

pub head-written : (k : Layout) (m : Message) (s : List ℕ) → Bytes s → head_of k ≤ length s → num_of (part s 0 4) ≡ word_of m.id → m.fields ≡ fields_of k s
    → head_bytes m (length_of k s) ≡ part s 0 (head_of k)
unfolding head_bytes
head-written k m s h n e f =
    let l = heads k in
    rw (f, ← e, read-write-part s 0 4 h (omega arith)) (fields-written k s h n)
