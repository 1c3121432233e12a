-- What making a device's end leaves ahead of its connection. Assumes nothing.
use Rattle.std.proofs.Common.{◌≡◌, refl, sym, ap, ◌∙◌, true, false, List, ◌++◌, ℕ, ◌+◌, ◌≤◌, length, get_or, length-append, arith}
use lib.Seq.{drop_at}
use borrow.Author.Tests.{le-leb}
use native.Mathlib.Nat.{zero-add}
use Rattle.le.specs.Le.{num_of, bytes_of, part, put}
use Rattle.le.proofs.Laws.{length-bytes_of, write_read}
use Rattle.le.proofs.Parts.{part-part, part-front, part-back, part-all, part-put-same, length-put}
use Rattle.device.specs.Device.{most_text, inner_at, is_connected, text_len, text_in, head_fine, inner_of}
use Rattle.device_make.specs.Make.{head_made}

-- ---- the bytes ahead of the connection: h before, i behind them

module _ (h text i : List ℕ) (e : length h ≡ inner_at) (s : length text ≤ most_text) where
  abbrev start : List ℕ
  start = bytes_of 1 0 ++ bytes_of 4 (length text)

  start-long : length start ≡ 5
  start-long = let a = length-bytes_of 1 0 in let b = length-bytes_of 4 (length text) in let c = length-append (bytes_of 1 0) (bytes_of 4 (length text)) in omega arith

  all-long : length (start ++ text) ≡ 5 + length text
  all-long = let a = start-long in let b = length-append start text in omega arith

  abbrev left : List ℕ
  left = head_made text h ++ i

  head-long : length (head_made text h) ≡ inner_at
  unfolding head_made
  head-long = let a = all-long in length-put h 0 (start ++ text) (omega arith) ∙ e

  -- a part of what was put
  laid : (at n : ℕ) → at + n ≤ length (start ++ text) → part left at n ≡ part (start ++ text) at n
  unfolding head_made
  laid at n f =
      let a = all-long in
      let b = head-long in
      part-front (head_made text h) i at n (omega arith)
      ∙ ap (λ (k : ℕ). part (put h 0 (start ++ text)) k n) (sym (zero-add at))
      ∙ sym (part-part (put h 0 (start ++ text)) 0 (length (start ++ text)) at n f)
      ∙ ap (λ (x : List ℕ). part x at n) (part-put-same h 0 (start ++ text) (omega arith))

  flag-is : get_or left 0 0 ≡ 0
  unfolding head_made put bytes_of
  flag-is = refl

  text_len-is : text_len left ≡ length text
  unfolding text_len
  text_len-is =
      let a = all-long in
      let b = start-long in
      let c = length-bytes_of 1 0 in
      let d = length-bytes_of 4 (length text) in
      let front : part (start ++ text) 1 4 ≡ part start 1 4 = part-front start text 1 4 (omega arith) in
      let back : part start 1 4 ≡ part (bytes_of 4 (length text)) 0 4 =
      ap (λ (k : ℕ). part start k 4) (omega arith) ∙ part-back (bytes_of 1 0) (bytes_of 4 (length text)) 0 4 in
      let whole : part (bytes_of 4 (length text)) 0 4 ≡ bytes_of 4 (length text) = ap (part (bytes_of 4 (length text)) 0) (sym d) ∙ part-all (bytes_of 4 (length text)) in
      ap num_of (laid 1 4 (omega arith) ∙ front ∙ back ∙ whole) ∙ write_read 4 (length text) (omega arith)

  pub made-text : text_in left ≡ text
  unfolding text_in
  made-text =
      let a = all-long in
      let b = start-long in
      ap (part left 5) text_len-is
      ∙ laid 5 (length text) (omega arith)
      ∙ ap (λ (k : ℕ). part (start ++ text) k (length text)) (omega arith)
      ∙ part-back start text 0 (length text)
      ∙ part-all text

  pub made-fine : head_fine left ≡ true
  unfolding head_fine
  made-fine =
      let a = head-long in
      let b = length-append (head_made text h) i in
      rw (flag-is, text_len-is, le-leb inner_at (length left) (omega arith), le-leb (length text) most_text s)

  pub made-alone : is_connected left ≡ false
  unfolding is_connected
  made-alone = rw flag-is

  pub made-inner : inner_of left ≡ i
  unfolding inner_of
  made-inner = drop_at (head_made text h) i inner_at head-long
