-- Laws of the reader: what an accepted message's bytes say, that what is used is here, and that fields do not change by what
-- arrives behind them. Assumes nothing.
use mathlib.Core.Path.{◌≡◌, refl, sym, ap}
use mathlib.Core.Bool.{false}
use mathlib.Core.List.{List, ◌++◌}
use Prim.Native.Nat.{ℕ, ◌+◌, ◌≤◌}
use native.Mathlib.Omega.{arith}
use lib.Dec.{ltb}
use lib.ListN.{length}
use borrow.Author.Tests.{ltb-false}
use Rattle.le.specs.Le.{num_of, part}
use Rattle.le.proofs.Parts.{by-test, part-front}
use Rattle.exchange.specs.declared.SyncId.{SyncId}
use Rattle.exchange.specs.declared.StatLayout.{StatLayout}
use Rattle.exchange.specs.declared.StatLayout.TheVariants.{V1, V2}
use Rattle.exchange.specs.declared.Layout.{Layout}
use Rattle.exchange.specs.declared.Layout.TheVariants.{Text, Number, Stat, Entry, End}
use Rattle.std.specs.Prelude.{Option, Some, None, Ok, Err}
use Rattle.stream.specs.Here.{ReadHere}
use Rattle.exchange.specs.declared.Exchange.{Exchange}
use Rattle.sync.specs.declared.Whole.{Whole}
use Rattle.exchange.specs.Exchange.{Row, stat_length, head_of, found_of, is_over}
use Rattle.sync.specs.Message.{stat_of, stat_v2_of, either_of, fields_of, length_of, Answer, whole_of, known_of, named_of, read_message, TextHere, used_of}

-- ---- with more behind

stat-front : (s t : List ℕ) → 16 ≤ length s → stat_of (s ++ t) ≡ stat_of s
unfolding stat_of
stat-front s t h =
    rw (part-front s t 4 4 (omega arith), part-front s t 8 4 (omega arith), part-front s t 12 4 (omega arith))

wide-front : (s t : List ℕ) → 72 ≤ length s → stat_v2_of (s ++ t) ≡ stat_v2_of s
unfolding stat_v2_of
wide-front s t h =
    rw (
      part-front s t 4 4 (omega arith),
      part-front s t 8 8 (omega arith),
      part-front s t 16 8 (omega arith),
      part-front s t 24 4 (omega arith),
      part-front s t 28 4 (omega arith),
      part-front s t 32 4 (omega arith),
      part-front s t 36 4 (omega arith),
      part-front s t 40 8 (omega arith),
      part-front s t 48 8 (omega arith),
      part-front s t 56 8 (omega arith),
      part-front s t 64 8 (omega arith),
    )

either-front : (v : StatLayout) (s t : List ℕ) → 4 + stat_length v ≤ length s → either_of v (s ++ t) ≡ either_of v s
unfolding either_of
either-front V1 s t h = rw (stat-front s t h)
either-front V2 s t h = rw (wide-front s t h)

pub fields-front : (k : Layout) (s t : List ℕ) → head_of k ≤ length s → fields_of k (s ++ t) ≡ fields_of k s
unfolding fields_of head_of
fields-front Text s t h = refl
fields-front Number s t h = rw (part-front s t 4 4 h)
fields-front (Stat v) s t h = rw (either-front v s t h)
fields-front (Entry v) s t h = rw (either-front v s t (omega arith))
fields-front (End v) s t h = rw (either-front v s t (omega arith), part-front s t (4 + stat_length v) 4 (omega arith))

pub length_front : (k : Layout) (s t : List ℕ) → head_of k ≤ length s → length_of k (s ++ t) ≡ length_of k s
unfolding length_of head_of
length_front Text s t h = rw (part-front s t 4 4 h)
length_front Number s t h = refl
length_front (Stat v) s t h = refl
length_front (Entry v) s t h = rw (part-front s t (4 + stat_length v) 4 (omega arith))
length_front (End v) s t h = refl

-- ---- what an accepted message's bytes say

pub record KnownSays (s : List ℕ) (id : SyncId) (k : Layout) (w : Whole) : Type 0 where
  pub id-is : w.message.id ≡ id
  pub fields-are : w.message.fields ≡ fields_of k s
  pub at-is : w.at ≡ head_of k
  pub length-is : w.length ≡ length_of k s
  pub used-is : w.used ≡ head_of k + length_of k s
  pub small : is_over id (length_of k s) ≡ false
  pub whole : head_of k + length_of k s ≤ length s

known-says : (s : List ℕ) (id : SyncId) (k : Layout) (w : Whole) → known_of s id k ≡ Ok (Some w) → KnownSays s id k w
unfolding known_of
known-says s id k w e =
    by-test (ltb (length s) (head_of k))
    (λ t. let f = rw t at e in cc)
    (λ t₁. by-test (is_over id (length_of k s))
    (λ t. let f = rw (t₁, t) at e in cc)
    (λ t₂. by-test (ltb (length s) (head_of k + length_of k s))
    (λ t. let f = rw (t₁, t₂, t) at e in cc)
    (λ t₃. let f = rw (t₁, t₂, t₃) at e in
    let v : w ≡ whole_of s id k = cc in
    record {
      id-is = ap (λ (u : Whole). u.message.id) v;
      fields-are = ap (λ (u : Whole). u.message.fields) v;
      at-is = ap (λ (u : Whole). u.at) v;
      length-is = ap (λ (u : Whole). u.length) v;
      used-is = ap (λ (u : Whole). u.used) v;
      small = t₂;
      whole = ltb-false _ _ t₃;
    })))

pub record Says (x : Exchange) (s : List ℕ) (w : Whole) : Type 0 where
  pub layout : Layout
  pub found : found_of x (num_of (part s 0 4)) ≡ Some (w.message.id, layout)
  pub known : KnownSays s w.message.id layout w

named-says : (x : Exchange) (s : List ℕ) (w : Whole) (f : Option Row) → found_of x (num_of (part s 0 4)) ≡ f → named_of s f ≡ Ok (Some w) → Says x s w
unfolding named_of
named-says x s w None e g = cc
named-says x s w (Some (id, k)) e g =
    let a = known-says s id k w g in
    let i = sym a.id-is in
    record { layout = k; found = rw a.id-is e; known = rw i at a }

pub says : (x : Exchange) (s : List ℕ) (w : Whole) → read_message x s ≡ Ok (Some w) → Says x s w
unfolding read_message
says x s w e =
    by-test (ltb (length s) 4)
    (λ t. let f = rw t at e in cc)
    (λ t. named-says x s w (found_of x (num_of (part s 0 4))) refl (rw t at e))

-- what is used is here
used-of : (x : Exchange) (s : List ℕ) (r : Answer) → read_message x s ≡ r → used_of r ≤ length s
unfolding used_of
used-of x s (Ok None) e = omega arith
used-of x s (Err r) e = omega arith
used-of x s (Ok (Some w)) e = let a = (says x s w e).known in omega (arith, a.used-is, a.whole)

-- and so is its text
pub is_here : (s : List ℕ) (id : SyncId) (k : Layout) (r : Answer) → r ≡ known_of s id k → ReadHere TextHere (length s) r
is_here s id k (Ok None) e = tt
is_here s id k (Err r) e = tt
is_here s id k (Ok (Some w)) e =
    let a = known-says s id k w (sym e) in
    record { ends = omega (arith, a.at-is, a.length-is, a.used-is); within = omega (arith, a.used-is, a.whole) }

pub used-within : (x : Exchange) (s : List ℕ) → used_of (read_message x s) ≤ length s
used-within x s = used-of x s (read_message x s) refl
