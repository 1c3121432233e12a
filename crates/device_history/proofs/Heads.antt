-- The bytes ahead of a device's connection, between calls. Assumes nothing.
use Rattle.std.proofs.Common.{◌≡◌, refl, sym, ap, ◌∙◌, Bool, true, ◌&&◌, List, [], ◌∷◌, ◌++◌, ℕ, leb, eqb, length, set, get_or, length-append, take-append-drop, arith}
use lib.ListN.{length-set, get_or-append}
use lib.Seq.{take_at, drop_at}
use Rattle.std.proofs.lemmas.List.{length-take-le}
use borrow.Author.Tests.{le-leb}
use Rattle.le.specs.Le.{num_of, part}
use Rattle.le.proofs.Parts.{part-front}
use Rattle.config.proofs.Laws.{and-true}
use Rattle.device.specs.Device.{inner_at, most_text, is_connected, text_len, head_fine, inner_of, head_of}
use Rattle.device.proofs.HeadLaws.{head-long}
use Rattle.device_connect.specs.Connect.{flagged}

-- bytes ahead of a connection that are fine by themselves
abbrev pub fine_head : List ℕ → Bool
fine_head h = leb (get_or h 0 0) 1 && leb (num_of (part h 1 4)) most_text

module _ (h x : List ℕ) (e : length h ≡ inner_at) where
  -- they and the connection are told apart again
  pub inner-back : inner_of (h ++ x) ≡ x
  unfolding inner_of
  inner-back = drop_at h x inner_at e

  pub head-back : head_of (h ++ x) ≡ h
  unfolding head_of
  head-back = take_at h x inner_at e

  pub fine-back : head_fine (h ++ x) ≡ fine_head h
  unfolding head_fine text_len
  fine-back =
      let n = length-append h x in
      let l : leb inner_at (length (h ++ x)) ≡ true = le-leb inner_at (length (h ++ x)) (omega arith) in
      rw (l, get_or-append h x 0 0 (omega arith), part-front h x 1 4 (omega arith)) refl

  pub flag-back : is_connected (h ++ x) ≡ eqb (get_or h 0 0) 1
  unfolding is_connected
  flag-back = ap (λ (y : ℕ). eqb y 1) (get_or-append h x 0 0 (omega arith))

module _ (b : List ℕ) (e : head_fine b ≡ true) where
  pub head-size : length (head_of b) ≡ inner_at
  unfolding head_of
  head-size = length-take-le inner_at b (head-long b e)

  -- a state is its two parts
  pub halves : head_of b ++ inner_of b ≡ b
  unfolding head_of inner_of
  halves = take-append-drop inner_at b

  pub own-fine : fine_head (head_of b) ≡ true
  own-fine = sym (fine-back (head_of b) (inner_of b) head-size) ∙ ap head_fine halves ∙ e

  pub own-flag : is_connected b ≡ eqb (get_or (head_of b) 0 0) 1
  own-flag = ap is_connected (sym halves) ∙ flag-back (head_of b) (inner_of b) head-size

  -- with another connection behind them they stay fine, and say the same
  pub stays-fine : (x : List ℕ) → head_fine (head_of b ++ x) ≡ true
  stays-fine x = fine-back (head_of b) x head-size ∙ own-fine

  pub stays-flag : (x : List ℕ) → is_connected (head_of b ++ x) ≡ is_connected b
  stays-flag x = flag-back (head_of b) x head-size ∙ sym own-flag

  -- so they do with the flag set
  pub flagged-size : length (flagged (head_of b)) ≡ inner_at
  unfolding flagged
  flagged-size = length-set (head_of b) 0 1 ∙ head-size

  set-first : (h : List ℕ) → length h ≡ inner_at → get_or (set h 0 1) 0 0 ≡ 1
  set-first [] z = absurd (omega arith)
  set-first (y ∷ h) z = refl

  set-rest : (h : List ℕ) → part (set h 0 1) 1 4 ≡ part h 1 4
  unfolding part
  set-rest [] = refl
  set-rest (y ∷ h) = refl

  pub flagged-fine : (x : List ℕ) → head_fine (flagged (head_of b) ++ x) ≡ true
  unfolding flagged
  flagged-fine x =
      let f = (and-true (leb (get_or (head_of b) 0 0) 1) (leb (num_of (part (head_of b) 1 4)) most_text) own-fine).1 in
      fine-back (flagged (head_of b)) x flagged-size ∙ rw (set-first (head_of b) head-size, set-rest (head_of b)) f

  pub flagged-flag : (x : List ℕ) → is_connected (flagged (head_of b) ++ x) ≡ true
  unfolding flagged
  flagged-flag x = flag-back (flagged (head_of b)) x flagged-size ∙ ap (λ (y : ℕ). eqb y 1) (set-first (head_of b) head-size)
