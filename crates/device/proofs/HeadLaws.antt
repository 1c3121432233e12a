-- Laws of the bytes ahead of a device's connection. Assumes nothing.
use Rattle.std.proofs.Common.{◌≡◌, sym, ap, ◌∙◌, true, ◌&&◌, List, ℕ, ◌+◌, ◌-◌, ◌≤◌, leb, ◌++◌, length, take, drop, get_or, Result, arith, append-nil, drop-drop}
use Rattle.std.proofs.lemmas.List.{drop_all}
use borrow.Author.Tests.{leb-true}
use borrow.Rule.Slice.PartMut.{put_mid}
use Rattle.config.proofs.Laws.{and-true}
use Rattle.le.specs.Le.{part}
use Rattle.slot.proofs.Laws.{cond-true}
use Rattle.std.proofs.lemmas.Slice.{between_to_end}
use Rattle.state.specs.declared.Header.{Header}
use Rattle.connection.specs.declared.Refusal.{Refusal}
use Rattle.call.specs.Promise.{admitted_out}
use Rattle.device.specs.Device.{most_text, inner_at, text_len, text_in, head_fine, inner_of, device_admitted}

-- ---- what a fine head says

module _ (b : List ℕ) (e : head_fine b ≡ true) where
  pub head-long : inner_at ≤ length b
  unfolding head_fine
  head-long =
      leb-true inner_at (length b)
      (and-true (leb inner_at (length b)) (leb (get_or b 0 0) 1) (and-true (leb inner_at (length b) && leb (get_or b 0 0) 1) (leb (text_len b) most_text) e).0).0

  pub text_short : text_len b ≤ most_text
  unfolding head_fine
  text_short = leb-true (text_len b) most_text (and-true (leb inner_at (length b) && leb (get_or b 0 0) 1) (leb (text_len b) most_text) e).1

  -- the text, as it is cut out
  pub text-cut : (n : ℕ) → n ≡ text_len b → take (5 + n - 5) (drop 5 b) ≡ text_in b
  unfolding text_in part
  text-cut n h = let m : 5 + n - 5 ≡ n = omega arith in rw (m, h)

-- ---- the refusals ahead of a call

module _ (b : List ℕ) (rx store out : ℕ) where
  pub admits-inner : head_fine b ≡ true → (r : Result Header Refusal) → r ≡ admitted_out (take (length b - inner_at) (drop inner_at b)) rx store out → r ≡ device_admitted b rx store out
  unfolding device_admitted inner_of
  admits-inner e r h =
      h ∙ ap (λ (x : List ℕ). admitted_out x rx store out) (between_to_end b inner_at (length b) (omega arith)) ∙ sym (cond-true (head_fine b) _ _ e)

-- ---- the connection's bytes, lent and given back

-- what was lent from a place on stands behind what is ahead of it
pub rest-back : (b : List ℕ) (at : ℕ) (i : List ℕ) → at ≤ length b → put_mid at (length b - at) b i ≡ take at b ++ i
rest-back b at i h =
    let e : at + (length b - at) ≡ length b = omega arith in
    ap (λ (x : List ℕ). take at b ++ (i ++ x)) (rw drop-drop (rw (e) (drop_all (length b) b (omega arith)))) ∙ ap (λ (x : List ℕ). take at b ++ x) (append-nil i)
