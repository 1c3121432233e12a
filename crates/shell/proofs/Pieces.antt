-- However the bytes of shell frames are cut, the frames and the unfinished rest, or the refusal and what is left, are the same.
-- Assumes nothing.
--     stable        what the reader answers, but waiting, it answers whatever arrives behind
--     pieces        pieces read one after the other give what the whole gives
--     same-pieces   so two lists of pieces that make up the same bytes give the same
use Rattle.std.proofs.Common.{◌≡◌, refl, ap, subst, ◌∙◌, false, List, ◌++◌, ℕ, ◌+◌, ◌≤◌, ◌<◌, length, length-append, arith, Some, None, Ok, Err}
use lib.Dec.{T, ltb}
use borrow.Author.Tests.{ltb-false, le-ltb}
use Rattle.le.proofs.Parts.{by-test, part-front}
use Rattle.stream.specs.Stream.{message, refused, is_waiting, joined, read_all, begun, feed_all, Stable}
use Rattle.stream.proofs.Cut.{cut, same-cut}
use Rattle.shell.specs.declared.Kind.{Kind}
use Rattle.shell.specs.declared.Frame.{Frame as Found}
use Rattle.shell.specs.Kind.{kind_number, kind_from, is_empty_exit}
use Rattle.shell.specs.Frame.{Read, kind_of, length_of, headed_of, kinded, read_frame, used_of}
use Rattle.shell.specs.Pieces.{Frame, answer_of, receives}
use Rattle.shell.proofs.ReadLaws.{by-kind, kind-front, length_front, payload-front, says, used-within}

module _ (l m : List ℕ) where
  headed-stays : (kind : Kind) → 5 ≤ length l → is_waiting (answer_of l (headed_of kind l)) ≡ false → headed_of kind (l ++ m) ≡ headed_of kind l
  unfolding headed_of answer_of is_waiting
  headed-stays kind h e =
      let la = length-append l m in
      let fl = length_front l m h in
      by-test (is_empty_exit (kind_number kind) (length_of l))
      (λ t. rw (fl, t))
      (λ t₁. by-test (ltb (length l) (5 + length_of l))
      (λ t. let f = rw (t₁, t) at e in absurd (subst T f tt))
      (λ t₂. let w = ltb-false (length l) (5 + length_of l) t₂ in
      rw (fl, t₁, t₂, le-ltb (length (l ++ m)) (5 + length_of l) (omega arith), payload-front l m w)))

  read_stays : is_waiting (answer_of l (read_frame l)) ≡ false → read_frame (l ++ m) ≡ read_frame l
  unfolding read_frame kinded answer_of is_waiting
  read_stays e =
      let la = length-append l m in
      by-test (ltb (length l) 1)
      (λ t. let f = rw t at e in absurd (subst T f tt))
      (λ t₁. let h = ltb-false (length l) 1 t₁ in
      let fk = kind-front l m h in
      let g = le-ltb (length (l ++ m)) 1 (omega arith) in
      by-kind (kind_from (kind_of l))
      (λ kind t₂. by-test (ltb (length l) 5)
      (λ t. let f = rw (t₁, t₂, t) at e in absurd (subst T f tt))
      (λ t₃. let i = ltb-false (length l) 5 t₃ in
      rw (g, t₁, fk, t₂, le-ltb (length (l ++ m)) 5 (omega arith), t₃) (headed-stays kind i (rw (t₁, t₂, t₃) at e))))
      (λ u t. rw (g, t₁, fk, t)))

  answer-stays : (r : Read) → read_frame l ≡ r → answer_of (l ++ m) r ≡ answer_of l r
  unfolding answer_of
  answer-stays (Ok None) e = refl
  answer-stays (Err x) e = refl
  answer-stays (Ok (Some f)) e =
      let y = says l f e in
      rw (y.frame-is, part-front l m 5 (length_of l) y.whole)

-- a frame uses its header at least
whole-used : (l : List ℕ) (g : Frame) (n : ℕ) (r : Read) → read_frame l ≡ r → answer_of l r ≡ message g n → (n ≡ used_of r) × (0 < n)
unfolding answer_of used_of
whole-used l g n (Ok None) e f = let z : ◌≡◌ {A = ℕ} 0 1 = cc in absurd (omega arith)
whole-used l g n (Err x) e f = let z : ◌≡◌ {A = ℕ} 0 1 = cc in absurd (omega arith)
whole-used l g n (Ok (Some x)) e f =
    let y = says l x e in
    let u = ap (λ (k : Found). k.used) y.frame-is in
    let i : n ≡ x.used = cc in
    (i, omega arith)

refusal-used : (l : List ℕ) (number n : ℕ) (r : Read) → answer_of l r ≡ refused number n → n ≡ used_of r
unfolding answer_of
refusal-used l number n (Ok None) f = cc
refusal-used l number n (Err x) f = cc
refusal-used l number n (Ok (Some x)) f = cc

pub stable : Stable receives
unfolding receives read_frame answer_of
stable =
    record {
      none = refl;
      stays = λ l m e. ap (answer_of (l ++ m)) (read_stays l m e) ∙ answer-stays l m (read_frame l) refl;
      moves = λ l g n e. (whole-used l g n (read_frame l) refl e).1;
      within = λ l g n e. omega (arith, (whole-used l g n (read_frame l) refl e).0, used-within l);
      refused-within = λ l number n e. omega (arith, refusal-used l number n (read_frame l) e, used-within l);
    }

pub pieces : (cs : List (List ℕ)) → feed_all receives begun cs ≡ read_all receives (joined cs)
pieces cs = cut receives stable cs

pub same-pieces : (cs ds : List (List ℕ)) → joined cs ≡ joined ds → feed_all receives begun cs ≡ feed_all receives begun ds
same-pieces cs ds e = same-cut receives stable cs ds e
