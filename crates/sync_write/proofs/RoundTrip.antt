-- Sync messages from bytes and to bytes, both ways. Assumes nothing.
--     write_read                what `write_message` makes, `read_message` gives back, whatever follows
--     read-write                what `read_message` accepts, `write_message` makes byte for byte
--     foreign-read, over-read   what the writer refuses by 14 or 15, the reader does
use mathlib.Core.Path.{◌≡◌, refl, sym, ap, ◌∙◌}
use mathlib.Core.Bool.{true, false}
use mathlib.Core.List.{List, ◌++◌, append_assoc}
use Prim.Native.Nat.{ℕ, ◌+◌, ◌≤◌}
use native.Mathlib.Omega.{arith}
use lib.Dec.{ltb}
use lib.ListN.{length, take, length-append}
use lib.Seq.{take-add, drop_at, take-append_seam}
use borrow.Author.Tests.{ltb-false, le-ltb, eq-eqb}
use Rattle.le.specs.Le.{num_of, part, put, Bytes}
use Rattle.le.proofs.Laws.{num_of-part}
use Rattle.le.proofs.Parts.{by-test, length_part, part-put-same}
use Rattle.exchange.specs.declared.Layout.{Layout}
use Rattle.exchange.specs.declared.Layout.TheVariants.{Text, Number, Stat, Entry, End}
use Rattle.exchange.specs.declared.SyncId.{SyncId}
use Rattle.std.specs.Prelude.{Option, Some, None, Ok, Err}
use Rattle.exchange.specs.declared.Exchange.{Exchange}
use Rattle.sync.specs.declared.Message.{Message}
use Rattle.sync.specs.declared.Whole.{Whole}
use Rattle.sync.specs.declared.ReadError.TheVariants.{InvalidId, DataTooLarge}
use Rattle.exchange.specs.Exchange.{Row, word_of, found_of, stat_length, head_of, longest_of, layout_number, is_over}
use Rattle.sync.specs.Message.{fields_of, length_of, known_of, named_of, read_message}
use Rattle.sync_write.specs.Write.{layout_of, is_other, head_bytes, message_bytes, Fits, Composed, write_known, write_named, write_message}
use Rattle.sync.proofs.ReadLaws.{KnownSays, says}
use Rattle.exchange.proofs.ExchangeLaws.{found_word, found-id, heads}
use Rattle.sync_write.proofs.WriteLaws.{own-layout, length-head}
use Rattle.sync_write.proofs.FieldLaws.{read_word, read-fields, read_length, same_layout, head-written}

-- ---- writing, then reading

pub record WrittenSays (x : Exchange) (m : Message) (text out : List ℕ) (n : ℕ) : Type 0 where
  pub found : found_of x (word_of m.id) ≡ Some (m.id, layout_of m.fields)
  pub small : is_over m.id (length text) ≡ false
  pub long : length text ≤ longest_of (layout_of m.fields)
  pub room : head_of (layout_of m.fields) + length text ≤ length out
  pub count-is : n ≡ head_of (layout_of m.fields) + length text
  pub out-is : (write_message x m text out).out ≡ put out 0 (message_bytes m text)

known_written : (x : Exchange) (m : Message) (text out : List ℕ) (n : ℕ) (id : SyncId) (k : Layout) → found_of x (word_of m.id) ≡ Some (id, k)
    → (write_known k m text out).result ≡ Ok n → write_message x m text out ≡ write_known k m text out → WrittenSays x m text out n
unfolding write_known
known_written x m text out n id k g e w =
    by-test (is_other k m.fields)
    (λ t. let f = rw t at e in cc)
    (λ t₁. by-test (is_over m.id (length text))
    (λ t. let f = rw (t₁, t) at e in cc)
    (λ t₂. by-test (ltb (longest_of k) (length text))
    (λ t. let f = rw (t₁, t₂, t) at e in cc)
    (λ t₃. by-test (ltb (length out) (head_of k + length text))
    (λ t. let f = rw (t₁, t₂, t₃, t) at e in cc)
    (λ t₄. let f = rw (t₁, t₂, t₃, t₄) at e in
    let o = rw (t₁, t₂, t₃, t₄) at w in
    let own = sym (own-layout k m.fields t₁) in
    record {
      found = rw own (found-id x m.id id k g);
      small = t₂;
      long = rw own (ltb-false _ _ t₃);
      room = rw own (ltb-false _ _ t₄);
      count-is = rw own (cc);
      out-is = ap (λ (q : Composed). q.out) o;
    }))))

named-written : (x : Exchange) (m : Message) (text out : List ℕ) (n : ℕ) (f : Option Row) → found_of x (word_of m.id) ≡ f
    → (write_named m text out f).result ≡ Ok n → write_message x m text out ≡ write_named m text out f → WrittenSays x m text out n
unfolding write_named
named-written x m text out n None g e w = cc
named-written x m text out n (Some (id, k)) g e w = known_written x m text out n id k g e w

pub written-says : (x : Exchange) (m : Message) (text out : List ℕ) (n : ℕ) → (write_message x m text out).result ≡ Ok n → WrittenSays x m text out n
unfolding write_message
written-says x m text out n e = named-written x m text out n (found_of x (word_of m.id)) refl e refl

pub record FrameComesBack (x : Exchange) (m : Message) (text : List ℕ) (n : ℕ) (s : List ℕ) : Type 0 where
  pub at : ℕ
  pub read_is : read_message x s ≡ Ok (Some (record { message = m; at = at; length = length text; used = n }))
  pub text-is : part s at (length text) ≡ text

pub message-length : (m : Message) (text : List ℕ) → length (message_bytes m text) ≡ head_of (layout_of m.fields) + length text
unfolding message_bytes
message-length m text = rw (length-append, length-head)

-- the bytes of a message, with anything behind them
module _ (m : Message) (text rest : List ℕ) where
  head-rest : message_bytes m text ++ rest ≡ head_bytes m (length text) ++ (text ++ rest)
  unfolding message_bytes
  head-rest = append_assoc (head_bytes m (length text)) text rest

  all_here : length (message_bytes m text ++ rest) ≡ head_of (layout_of m.fields) + length text + length rest
  all_here = rw (length-append, message-length)

  word-here : num_of (part (message_bytes m text ++ rest) 0 4) ≡ word_of m.id
  word-here = rw head-rest (read_word m (length text) (text ++ rest))

  length-here : length text ≤ longest_of (layout_of m.fields) → length_of (layout_of m.fields) (message_bytes m text ++ rest) ≡ length text
  length-here long = rw head-rest (read_length m (length text) (text ++ rest) long)

  fields-here : Fits m.fields → fields_of (layout_of m.fields) (message_bytes m text ++ rest) ≡ m.fields
  fields-here h = rw head-rest (read-fields m (length text) (text ++ rest) h)

  pub text-here : part (message_bytes m text ++ rest) (head_of (layout_of m.fields)) (length text) ≡ text
  unfolding part
  text-here =
      rw (
        head-rest,
        drop_at (head_bytes m (length text)) (text ++ rest) (head_of (layout_of m.fields)) (length-head m (length text)),
        take-append_seam,
      )

  -- they are read as that message
  pub not-refused : (x : Exchange) → Fits m.fields → found_of x (word_of m.id) ≡ Some (m.id, layout_of m.fields)
      → is_over m.id (length text) ≡ false → length text ≤ longest_of (layout_of m.fields)
      → read_message x (message_bytes m text ++ rest) ≡ Ok (Some (record {
        message = m;
        at = head_of (layout_of m.fields);
        length = length text;
        used = head_of (layout_of m.fields) + length text;
      }))
  unfolding read_message named_of known_of
  not-refused x h found small long =
      let k = layout_of m.fields in
      let s = message_bytes m text ++ rest in
      let a = all_here in
      let b = heads k in
      rw (
        le-ltb (length s) 4 (omega arith),
        word-here,
        found,
        le-ltb (length s) (head_of k) (omega arith),
        length-here long,
        small,
        le-ltb (length s) (head_of k + length text) (omega arith),
        fields-here h,
      )

  -- what the writer refuses by 14, the reader does
  pub foreign-read : (x : Exchange) → found_of x (word_of m.id) ≡ None → read_message x (message_bytes m text ++ rest) ≡ Err InvalidId
  unfolding read_message named_of
  foreign-read x unknown =
      let a = all_here in
      let b = heads (layout_of m.fields) in
      rw (le-ltb (length (message_bytes m text ++ rest)) 4 (omega arith), word-here, unknown)

  -- and so by 15
  pub over-read : (x : Exchange) → found_of x (word_of m.id) ≡ Some (m.id, layout_of m.fields) → is_over m.id (length text) ≡ true
      → length text ≤ longest_of (layout_of m.fields) → read_message x (message_bytes m text ++ rest) ≡ Err DataTooLarge
  unfolding read_message named_of known_of
  over-read x found over long =
      let k = layout_of m.fields in
      let s = message_bytes m text ++ rest in
      let a = all_here in
      let b = heads k in
      rw (le-ltb (length s) 4 (omega arith), word-here, found, le-ltb (length s) (head_of k) (omega arith), length-here long, over)

-- what the writer made, with anything behind it, is read as the message that was written, its text with it
pub write_read : (x : Exchange) (m : Message) (text out : List ℕ) (n : ℕ) (rest : List ℕ) → Fits m.fields → (write_message x m text out).result ≡ Ok n
    → FrameComesBack x m text n (take n (write_message x m text out).out ++ rest)
unfolding part
write_read x m text out n rest h e =
    let w = written-says x m text out n e in
    let b = message_bytes m text in
    let l : length b ≡ n = message-length m text ∙ sym w.count-is in
    let r = w.room in
    let t : take n (write_message x m text out).out ≡ b =
    ap (take n) w.out-is ∙ ap (λ (j : ℕ). take j (put out 0 b)) (sym l) ∙ part-put-same out 0 b (omega (arith, w.count-is)) in
    let i = not-refused m text rest x h w.found w.small w.long in
    rw t (record {
      at = head_of (layout_of m.fields);
      read_is = rw w.count-is i;
      text-is = text-here m text rest;
    })

-- ---- reading, then writing

-- a length that was read has its field
length-fits : (k : Layout) (s : List ℕ) → Bytes s → length_of k s ≤ longest_of k
unfolding length_of longest_of
length-fits Text s h = omega (arith, num_of-part 4 s 4 h)
length-fits Number s h = omega arith
length-fits (Stat v) s h = omega arith
length-fits (Entry v) s h = omega (arith, num_of-part 4 s (4 + stat_length v) h)
length-fits (End v) s h = omega arith

not-other : (k : Layout) (s : List ℕ) → is_other k (fields_of k s) ≡ false
unfolding is_other
not-other k s = rw (same_layout k s, eq-eqb (layout_number k) (layout_number k) refl)

joined-parts : (s : List ℕ) (at n : ℕ) → part s 0 at ++ part s at n ≡ take (at + n) s
unfolding part
joined-parts s at n = rw (take-add at n s)

known-back : (x : Exchange) (s : List ℕ) (w : Whole) (out : List ℕ) (k : Layout) → Bytes s → found_of x (num_of (part s 0 4)) ≡ Some (w.message.id, k)
    → KnownSays s w.message.id k w → w.used ≤ length out
    → write_message x w.message (part s w.at w.length) out ≡ record { result = Ok w.used; out = put out 0 (take w.used s) }
unfolding write_message write_named write_known message_bytes
known-back x s w out k h f a room =
    let m = w.message in
    let u : w.at + w.length ≡ w.used = omega (arith, a.at-is, a.length-is, a.used-is) in
    let word = found_word x (num_of (part s 0 4)) m.id k f in
    let found : found_of x (word_of m.id) ≡ Some (m.id, k) = rw (← word) f in
    let other : is_other k m.fields ≡ false = rw a.fields-are (not-other k s) in
    let fit = length-fits k s h in
    let l : length (part s w.at w.length) ≡ w.length = length_part s w.at w.length (omega (arith, a.at-is, a.length-is, a.whole)) in
    let small : is_over m.id w.length ≡ false = rw a.length-is a.small in
    let head : head_bytes m w.length ≡ part s 0 w.at = rw (a.length-is, a.at-is) (head-written k m s h (omega (arith, a.whole)) word a.fields-are) in
    rw (
      found,
      other,
      l,
      small,
      le-ltb (longest_of k) w.length (omega (arith, a.length-is)),
      ← a.at-is,
      u,
      le-ltb (length out) w.used room,
      head,
      joined-parts s w.at w.length,
      u,
    )

pub read-write : (x : Exchange) (s : List ℕ) (w : Whole) (out : List ℕ) → Bytes s → read_message x s ≡ Ok (Some w) → w.used ≤ length out
    → write_message x w.message (part s w.at w.length) out ≡ record { result = Ok w.used; out = put out 0 (take w.used s) }
read-write x s w out h e room =
    let y = says x s w e in
    known-back x s w out y.layout h y.found y.known room
