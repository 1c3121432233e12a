-- However an exchange's bytes are cut, the messages and the unfinished rest, or the refusal and what is left, are the same.
-- Assumes nothing.
--     stable   what the reader answers, but waiting, it answers whatever arrives behind
--     pieces   pieces read one after the other give what the whole gives
use mathlib.Core.Path.{◌≡◌, refl, ap, subst, ◌∙◌}
use mathlib.Core.Bool.{false}
use mathlib.Core.List.{List, ◌++◌}
use Prim.Native.Nat.{ℕ, ◌+◌, ◌<◌}
use native.Mathlib.Omega.{arith}
use lib.Dec.{T, ltb}
use lib.ListN.{length, length-append}
use borrow.Author.Tests.{ltb-false, le-ltb}
use Rattle.le.specs.Le.{num_of, part}
use Rattle.le.proofs.Parts.{by-test, part-front}
use Rattle.stream.specs.Stream.{message, refused, is_waiting, joined, read_all, begun, feed_all, Stable}
use Rattle.stream.proofs.Cut.{cut}
use Rattle.exchange.specs.declared.SyncId.{SyncId}
use Rattle.exchange.specs.declared.Layout.{Layout}
use Rattle.std.specs.Prelude.{Option, Some, None, Ok, Err}
use Rattle.exchange.specs.declared.Exchange.{Exchange}
use Rattle.exchange.specs.Exchange.{Row, found_of, head_of, is_over}
use Rattle.sync.specs.Message.{length_of, Answer, known_of, named_of, read_message, used_of}
use Rattle.sync.specs.Pieces.{Got, answer_of, receives}
use Rattle.exchange.proofs.ExchangeLaws.{heads}
use Rattle.sync.proofs.ReadLaws.{fields-front, length_front, says, used-within}

module _ (l m : List ℕ) where
  known-stays : (id : SyncId) (k : Layout) → is_waiting (answer_of l (known_of l id k)) ≡ false → known_of (l ++ m) id k ≡ known_of l id k
  unfolding known_of answer_of is_waiting
  known-stays id k e =
      let la = length-append l m in
      by-test (ltb (length l) (head_of k))
      (λ t. let f = rw t at e in absurd (subst T f tt))
      (λ t₁. let h = ltb-false (length l) (head_of k) t₁ in
      let fl = length_front k l m h in
      let g = le-ltb (length (l ++ m)) (head_of k) (omega arith) in
      by-test (is_over id (length_of k l))
      (λ t. rw (g, t₁, fl, t))
      (λ t₂. by-test (ltb (length l) (head_of k + length_of k l))
      (λ t. let f = rw (t₁, t₂, t) at e in absurd (subst T f tt))
      (λ t₃. let w = ltb-false (length l) (head_of k + length_of k l) t₃ in
      rw (g, t₁, fl, t₂, t₃, le-ltb (length (l ++ m)) (head_of k + length_of k l) (omega arith), fields-front k l m h))))

  named-stays : (f : Option Row) → is_waiting (answer_of l (named_of l f)) ≡ false → named_of (l ++ m) f ≡ named_of l f
  unfolding named_of
  named-stays None e = refl
  named-stays (Some (id, k)) e = known-stays id k e

  read_stays : (x : Exchange) → is_waiting (answer_of l (read_message x l)) ≡ false → read_message x (l ++ m) ≡ read_message x l
  unfolding read_message answer_of is_waiting
  read_stays x e =
      let la = length-append l m in
      by-test (ltb (length l) 4)
      (λ t. let f = rw t at e in absurd (subst T f tt))
      (λ t. let h = ltb-false (length l) 4 t in
      rw (le-ltb (length (l ++ m)) 4 (omega arith), t, part-front l m 0 4 h) (named-stays (found_of x (num_of (part l 0 4))) (rw t at e)))

  answer-stays : (x : Exchange) (r : Answer) → read_message x l ≡ r → answer_of (l ++ m) r ≡ answer_of l r
  unfolding answer_of
  answer-stays x (Ok None) e = refl
  answer-stays x (Err r) e = refl
  answer-stays x (Ok (Some w)) e =
      let a = (says x l w e).known in
      rw (part-front l m w.at w.length (omega (arith, a.at-is, a.length-is, a.whole)))

-- a message uses its head at least
whole-used : (x : Exchange) (l : List ℕ) (g : Got) (n : ℕ) (r : Answer) → read_message x l ≡ r → answer_of l r ≡ message g n → (n ≡ used_of r) × (0 < n)
unfolding answer_of used_of
whole-used x l g n (Ok None) e f = cc
whole-used x l g n (Err r) e f = cc
whole-used x l g n (Ok (Some w)) e f =
    let s = says x l w e in
    let h = heads s.layout in
    let i : n ≡ w.used = cc in
    (i, omega (arith, s.known.used-is))

refusal-used : (l : List ℕ) (number n : ℕ) (r : Answer) → answer_of l r ≡ refused number n → n ≡ used_of r
unfolding answer_of used_of
refusal-used l number n (Ok None) f = cc
refusal-used l number n (Err r) f = cc
refusal-used l number n (Ok (Some w)) f = cc

pub stable : (x : Exchange) → Stable (receives x)
unfolding receives read_message answer_of
stable x =
    record {
      none = refl;
      stays = λ l m e. ap (answer_of (l ++ m)) (read_stays l m x e) ∙ answer-stays l m x (read_message x l) refl;
      moves = λ l g n e. (whole-used x l g n (read_message x l) refl e).1;
      within = λ l g n e. omega (arith, (whole-used x l g n (read_message x l) refl e).0, used-within x l);
      refused-within = λ l number n e. omega (arith, refusal-used l number n (read_message x l) e, used-within x l);
    }

pub pieces : (x : Exchange) (cs : List (List ℕ)) → feed_all (receives x) begun cs ≡ read_all (receives x) (joined cs)
pieces x cs = cut (receives x) (stable x) cs
