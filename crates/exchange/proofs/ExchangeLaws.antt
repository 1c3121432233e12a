-- Laws of the ids' words. Assumes nothing.
use mathlib.Core.Path.{◌≡◌, refl, sym, ap, ◌∙◌}
use mathlib.Core.Bool.{Bool, true, false, cond, not}
use mathlib.Core.List.{List, [], ◌∷◌}
use Prim.Native.Nat.{ℕ, ◌≤◌, ◌<◌, ◌^◌}
use native.Mathlib.Omega.{arith}
use lib.Dec.{eqb, ltb, lit<}
use borrow.Author.Tests.{eqb-true, ltb-true, ltb-false, not-true}
use Rattle.le.specs.Le.{num_of}
use Rattle.le.proofs.Parts.{by-test}
use Rattle.le.proofs.RowLaws.{never}
use Rattle.exchange.specs.declared.SyncId.{SyncId}
use Rattle.exchange.specs.declared.SyncId.TheVariants.{List as LIST, Recv as RECV, Send as SEND, Stat as STAT, Data as DATA, Done as DONE, Quit as QUIT, Dent as DENT, Okay as OKAY, Fail as FAIL, Lis2 as LIS2, Sta2 as STA2, Dnt2 as DNT2}
use Rattle.exchange.specs.declared.StatLayout.TheVariants.{V1, V2}
use Rattle.exchange.specs.declared.Layout.{Layout}
use Rattle.exchange.specs.declared.Layout.TheVariants.{Text, Number, Stat, Entry, End}
use Rattle.exchange.specs.declared.Exchange.{Exchange}
use Rattle.exchange.specs.Exchange.{letters_of, word_of, head_of, longest_of, layout_number, Row, rows_of, found_of, exchange_of, exchange_v2_of}
use Rattle.exchange.specs.contracts.LayoutPartialEq.TheImpl.{ghosts}
use Rattle.std.specs.Int.{from_le_bytes, w32}
use Rattle.std.specs.List.{find}
use Rattle.std.specs.Prelude.{◌==◌, Option, Some}

-- words are of 32 bits
pub word_small : (id : SyncId) → word_of id < 2 ^ 32
unfolding word_of letters_of num_of
word_small LIST = lit< tt
word_small RECV = lit< tt
word_small SEND = lit< tt
word_small STAT = lit< tt
word_small DATA = lit< tt
word_small DONE = lit< tt
word_small QUIT = lit< tt
word_small DENT = lit< tt
word_small OKAY = lit< tt
word_small FAIL = lit< tt
word_small LIS2 = lit< tt
word_small STA2 = lit< tt
word_small DNT2 = lit< tt

-- the library's number of an id's letters is its word
pub letters_word : (id : SyncId) → from_le_bytes w32 (letters_of id) ≡ word_of id
unfolding letters_of word_of num_of
letters_word LIST = refl
letters_word RECV = refl
letters_word SEND = refl
letters_word STAT = refl
letters_word DATA = refl
letters_word DONE = refl
letters_word QUIT = refl
letters_word DENT = refl
letters_word OKAY = refl
letters_word FAIL = refl
letters_word LIS2 = refl
letters_word STA2 = refl
letters_word DNT2 = refl

-- the id that has a word
abbrev id_of : ℕ → SyncId
id_of w =
    cond (eqb w 0x5453_494c) LIST
    (cond (eqb w 0x5643_4552) RECV
    (cond (eqb w 0x444e_4553) SEND
    (cond (eqb w 0x5441_5453) STAT
    (cond (eqb w 0x4154_4144) DATA
    (cond (eqb w 0x454e_4f44) DONE
    (cond (eqb w 0x5449_5551) QUIT
    (cond (eqb w 0x544e_4544) DENT
    (cond (eqb w 0x5941_4b4f) OKAY
    (cond (eqb w 0x4c49_4146) FAIL
    (cond (eqb w 0x3253_494c) LIS2
    (cond (eqb w 0x3241_5453) STA2 DNT2)))))))))))

id-of-word : (id : SyncId) → id_of (word_of id) ≡ id
unfolding word_of letters_of num_of
id-of-word LIST = refl
id-of-word RECV = refl
id-of-word SEND = refl
id-of-word STAT = refl
id-of-word DATA = refl
id-of-word DONE = refl
id-of-word QUIT = refl
id-of-word DENT = refl
id-of-word OKAY = refl
id-of-word FAIL = refl
id-of-word LIS2 = refl
id-of-word STA2 = refl
id-of-word DNT2 = refl

-- two ids with one word are the same
pub same_id : (a b : SyncId) → word_of a ≡ word_of b → a ≡ b
same_id a b e = sym (id-of-word a) ∙ ap id_of e ∙ id-of-word b

-- the first of some messages whose id has this word
abbrev among : List Row → ℕ → Option Row
among ms w = find (λ (m : Row). word_of m.0 == w) ms

-- a word under which a message is found is its id's
found_among : (ms : List Row) (w : ℕ) (id : SyncId) (k : Layout) → among ms w ≡ Some (id, k) → w ≡ word_of id
found_among [] w id k e = cc
found_among (m ∷ ms) w id k e =
    by-test (word_of m.0 == w)
    (λ t. let n = eqb-true (word_of m.0) w t in let f = rw t at e in cc)
    (λ t. found_among ms w id k (rw t at e))

pub found_word : (x : Exchange) (w : ℕ) (id : SyncId) (k : Layout) → found_of x w ≡ Some (id, k) → w ≡ word_of id
unfolding found_of
found_word x w id k e = found_among (rows_of x) w id k e

-- what an id's word finds has that id
pub found-id : (x : Exchange) (a id : SyncId) (k : Layout) → found_of x (word_of a) ≡ Some (id, k) → found_of x (word_of a) ≡ Some (a, k)
found-id x a id k e = let s = same_id a id (found_word x (word_of a) id k e) in cc

-- what is found has a layout of the messages
abbrev all_rows : (Layout → Bool) → List Row → Bool
all_rows p [] = true
all_rows p (m ∷ ms) = cond (p m.1) (all_rows p ms) false

layout-among : (p : Layout → Bool) (ms : List Row) (w : ℕ) (id : SyncId) (k : Layout) → all_rows p ms ≡ true → among ms w ≡ Some (id, k) → p k ≡ true
layout-among p [] w id k h e = cc
layout-among p (m ∷ ms) w id k h e =
    by-test (p m.1)
    (λ v. by-test (word_of m.0 == w)
    (λ t. let f = rw t at e in let g : m.1 ≡ k = cc in sym (ap p g) ∙ v)
    (λ t. layout-among p ms w id k (rw v at h) (rw t at e)))
    (λ v. never (rw v at h))

-- the exchanges of the first stat layout have none of the second, and the other way round
abbrev is_first : Layout → Bool
is_first k = ltb (layout_number k) 5

first_rows : (n : ℕ) → all_rows is_first (rows_of (exchange_of n)) ≡ true
unfolding exchange_of rows_of layout_number
first_rows n =
    by-test (eqb n 0) (λ t. rw t refl)
    (λ t₀. by-test (eqb n 1) (λ t. rw (t₀, t) refl)
    (λ t₁. by-test (eqb n 2) (λ t. rw (t₀, t₁, t) refl)
    (λ t₂. by-test (eqb n 3) (λ t. rw (t₀, t₁, t₂, t) refl)
    (λ t₃. by-test (eqb n 4) (λ t. rw (t₀, t₁, t₂, t₃, t) refl) (λ t. rw (t₀, t₁, t₂, t₃, t) refl)))))

second-rows : (n : ℕ) → all_rows (λ (k : Layout). not (is_first k)) (rows_of (exchange_v2_of n)) ≡ true
unfolding exchange_v2_of rows_of layout_number
second-rows n =
    by-test (eqb n 5) (λ t. rw t refl) (λ t₀. by-test (eqb n 6) (λ t. rw (t₀, t) refl) (λ t. rw (t₀, t) refl))

pub first-layout : (n w : ℕ) (id : SyncId) (k : Layout) → found_of (exchange_of n) w ≡ Some (id, k) → layout_number k < 5
unfolding found_of
first-layout n w id k e = ltb-true _ _ (layout-among is_first (rows_of (exchange_of n)) w id k (first_rows n) e)

pub second-layout : (n w : ℕ) (id : SyncId) (k : Layout) → found_of (exchange_v2_of n) w ≡ Some (id, k) → 5 ≤ layout_number k
unfolding found_of
second-layout n w id k e =
    ltb-false _ _ (not-true _ (layout-among (λ (j : Layout). not (is_first j)) (rows_of (exchange_v2_of n)) w id k (second-rows n) e))

-- a head is the id and a word at least, and the second stat layout and a word at most
pub record Heads (k : Layout) : Type 0 where
  pub least : 8 ≤ head_of k
  pub most : head_of k ≤ 76
  pub short : longest_of k ≤ 0xffff_ffff

pub heads : (k : Layout) → Heads k
unfolding head_of longest_of
heads Text = record { least = omega arith; most = omega arith; short = omega arith }
heads Number = record { least = omega arith; most = omega arith; short = omega arith }
heads (Stat V1) = record { least = omega arith; most = omega arith; short = omega arith }
heads (Entry V1) = record { least = omega arith; most = omega arith; short = omega arith }
heads (End V1) = record { least = omega arith; most = omega arith; short = omega arith }
heads (Stat V2) = record { least = omega arith; most = omega arith; short = omega arith }
heads (Entry V2) = record { least = omega arith; most = omega arith; short = omega arith }
heads (End V2) = record { least = omega arith; most = omega arith; short = omega arith }

-- a layout's number is its own
abbrev layout_at : ℕ → Layout
layout_at n =
    cond (eqb n 0) Text (cond (eqb n 1) Number (cond (eqb n 2) (Stat V1) (cond (eqb n 3) (Entry V1) (cond (eqb n 4) (End V1) (cond (eqb n 5) (Stat V2) (cond (eqb n 6) (Entry V2) (End V2)))))))

layout-at : (k : Layout) → layout_at (layout_number k) ≡ k
unfolding layout_number
layout-at Text = refl
layout-at Number = refl
layout-at (Stat V1) = refl
layout-at (Entry V1) = refl
layout-at (End V1) = refl
layout-at (Stat V2) = refl
layout-at (Entry V2) = refl
layout-at (End V2) = refl

pub same-layout-number : (a b : Layout) → layout_number a ≡ layout_number b → a ≡ b
same-layout-number a b e = sym (layout-at a) ∙ ap layout_at e ∙ layout-at b

-- the derived test of two layouts is that of their numbers
by-layout : (P : Layout → Type 0) → P Text → P Number → P (Stat V1) → P (Entry V1) → P (End V1) → P (Stat V2) → P (Entry V2) → P (End V2) → (k : Layout) → P k
by-layout P a b c d e f g h Text = a
by-layout P a b c d e f g h Number = b
by-layout P a b c d e f g h (Stat V1) = c
by-layout P a b c d e f g h (Entry V1) = d
by-layout P a b c d e f g h (End V1) = e
by-layout P a b c d e f g h (Stat V2) = f
by-layout P a b c d e f g h (Entry V2) = g
by-layout P a b c d e f g h (End V2) = h

abbrev Tests : Layout → Layout → Type 0
Tests a b = ghosts.eq a b ≡ eqb (layout_number a) (layout_number b)

with-each : (a : Layout) → Tests a Text → Tests a Number → Tests a (Stat V1) → Tests a (Entry V1) → Tests a (End V1) → Tests a (Stat V2) → Tests a (Entry V2) → Tests a (End V2) → (b : Layout) → Tests a b
with-each a = by-layout (Tests a)

pub same_by_number : (a b : Layout) → ghosts.eq a b ≡ eqb (layout_number a) (layout_number b)
unfolding layout_number
same_by_number a b =
    by-layout (λ (k : Layout). Tests k b)
    (with-each Text refl refl refl refl refl refl refl refl b)
    (with-each Number refl refl refl refl refl refl refl refl b)
    (with-each (Stat V1) refl refl refl refl refl refl refl refl b)
    (with-each (Entry V1) refl refl refl refl refl refl refl refl b)
    (with-each (End V1) refl refl refl refl refl refl refl refl b)
    (with-each (Stat V2) refl refl refl refl refl refl refl refl b)
    (with-each (Entry V2) refl refl refl refl refl refl refl refl b)
    (with-each (End V2) refl refl refl refl refl refl refl refl b)
    a
