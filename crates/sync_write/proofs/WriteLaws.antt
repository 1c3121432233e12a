-- Laws of the sync messages' fields, one layout at a time. Assumes nothing.
use mathlib.Core.Path.{◌≡◌, refl, ap}
use mathlib.Core.Bool.{false}
use mathlib.Core.List.{List, [], ◌∷◌, ◌++◌, append_assoc, append-nil}
use Prim.Native.Nat.{ℕ, ◌+◌, ◌≤◌}
use native.Mathlib.Omega.{arith}
use lib.ListN.{length, length-append}
use borrow.Author.Tests.{eqb-true, not-false}
use Rattle.le.specs.Le.{bytes_of, unsigned, put}
use Rattle.le.specs.Rows.{flat}
use Rattle.le.proofs.Laws.{length-bytes_of}
use Rattle.le.proofs.Parts.{put-put, put-seq}
use Rattle.exchange.specs.declared.Layout.{Layout}
use Rattle.sync.specs.declared.StatV1.{StatV1}
use Rattle.sync.specs.declared.StatV2.{StatV2}
use Rattle.sync.specs.declared.Stat.{Stat as EitherStat}
use Rattle.sync.specs.declared.Stat.TheVariants.{V1, V2}
use Rattle.sync.specs.declared.Fields.{Fields}
use Rattle.sync.specs.declared.Fields.TheVariants.{Text, Number, Stat, Entry, End}
use Rattle.sync.specs.declared.Message.{Message}
use Rattle.exchange.proofs.ExchangeLaws.{heads, same-layout-number, same_by_number}
use Rattle.exchange.specs.Exchange.{word_of, stat_length, head_of, longest_of, layout_number}
use Rattle.sync.specs.Message.{stat_layout}
use Rattle.sync_write.specs.Write.{layout_of, is_other, stat_bytes, about_bytes, times_bytes, stat_v2_bytes, either_bytes, field_bytes, head_bytes, message_bytes, Room}

-- three words are a stat
pub flat_three : (s : StatV1) → flat (bytes_of 4) (s.mode.0 ∷ s.size ∷ s.mtime ∷ []) ≡ stat_bytes s
unfolding flat stat_bytes
flat_three s = simp (append_assoc, append-nil)

-- all eleven
pub put_eleven : (d : List ℕ) (s : StatV2) → 72 ≤ length d
    → put (put (put (put (put (put (put (put (put (put (put d 4 (bytes_of 4 s.error)) 8 (bytes_of 8 s.dev)) 16 (bytes_of 8 s.ino)) 24 (bytes_of 4 s.mode.0)) 28 (bytes_of 4 s.nlink)) 32 (bytes_of 4 s.uid)) 36 (bytes_of 4 s.gid)) 40 (bytes_of 8 s.size)) 48 (bytes_of 8 (unsigned 63 s.atime))) 56 (bytes_of 8 (unsigned 63 s.mtime))) 64 (bytes_of 8 (unsigned 63 s.ctime)) ≡ put d 4 (stat_v2_bytes s)
unfolding stat_v2_bytes about_bytes times_bytes bytes_of
put_eleven d s h =
    put-seq d 4 (bytes_of 4 s.error)
    (bytes_of 8 s.dev ∷ bytes_of 8 s.ino ∷ bytes_of 4 s.mode.0 ∷ bytes_of 4 s.nlink ∷ bytes_of 4 s.uid ∷ bytes_of 4 s.gid ∷ bytes_of 8 s.size ∷ bytes_of 8 (unsigned 63 s.atime) ∷ bytes_of 8 (unsigned 63 s.mtime) ∷ bytes_of 8 (unsigned 63 s.ctime) ∷ [])
    (omega arith)

length_either : (s : EitherStat) → length (either_bytes s) ≡ stat_length (stat_layout s)
unfolding either_bytes stat_bytes stat_v2_bytes about_bytes times_bytes bytes_of
length_either (V1 s) = refl
length_either (V2 s) = refl

-- a word behind a stat
pub put_behind : (d : List ℕ) (s : EitherStat) (n : ℕ) → 8 + stat_length (stat_layout s) ≤ length d
    → put (put d 4 (either_bytes s)) (4 + stat_length (stat_layout s)) (bytes_of 4 n) ≡ put d 4 (either_bytes s ++ bytes_of 4 n)
put_behind d s n h =
    let w = length-bytes_of 4 n in
    put-put d 4 (either_bytes s) (4 + stat_length (stat_layout s)) (bytes_of 4 n) (omega (arith, length_either s)) (omega arith)

-- the fields fill the head behind the id
pub length_fields : (f : Fields) (n : ℕ) → 4 + length (field_bytes f n) ≡ head_of (layout_of f)
unfolding field_bytes bytes_of head_of
length_fields Text n = refl
length_fields (Number a) n = refl
length_fields (Stat s) n = omega (arith, length_either s)
length_fields (Entry s) n = rw (length-append (either_bytes s) (bytes_of 4 n)) (omega (arith, length_either s, length-bytes_of 4 n))
length_fields (End s a) n = rw (length-append (either_bytes s) (bytes_of 4 a)) (omega (arith, length_either s, length-bytes_of 4 a))

pub length-head : (m : Message) (n : ℕ) → length (head_bytes m n) ≡ head_of (layout_of m.fields)
unfolding head_bytes
length-head m n = rw (length-append, length-bytes_of) (length_fields m.fields n)

-- fields that are not another layout's are this one's
pub own-layout : (k : Layout) (f : Fields) → is_other k f ≡ false → k ≡ layout_of f
unfolding is_other
own-layout k f e =
    same-layout-number k (layout_of f) (eqb-true (layout_number k) (layout_number (layout_of f)) (not-false _ e))

-- id, fields and text, put one behind the other, are the message
pub put_parts : (d : List ℕ) (m : Message) (text : List ℕ) → Room d m text
    → put (put (put d 0 (bytes_of 4 (word_of m.id))) 4 (field_bytes m.fields (length text))) (head_of (layout_of m.fields)) text ≡ put d 0 (message_bytes m text)
unfolding message_bytes head_bytes
put_parts d m text h =
    let a = bytes_of 4 (word_of m.id) in
    let b = field_bytes m.fields (length text) in
    let la = length-bytes_of 4 (word_of m.id) in
    let lb = length_fields m.fields (length text) in
    let lab = length-append a b in
    let f = h.fits in
    rw (put-put d 0 a 4 b (omega arith) (omega arith)) (put-put d 0 (a ++ b) (head_of (layout_of m.fields)) text (omega arith) (omega arith))

-- what writing a message cites
pub ruleset message_rules = (put_parts, heads)

-- the room that a writer's tests leave
pub room : (k : Layout) (m : Message) (text out : List ℕ) → is_other k m.fields ≡ false → length text ≤ longest_of k
    → head_of k + length text ≤ length out → Room out m text
room k m text out e h g =
    let own = ap head_of (own-layout k m.fields e) in
    let s = heads k in
    record { small = omega arith; fits = omega arith }

-- what a writer's tests cite
pub ruleset write_rules = (same_by_number, heads, room)
