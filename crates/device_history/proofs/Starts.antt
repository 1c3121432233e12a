-- What a make at a device's end leaves. Assumes nothing.
use Rattle.std.proofs.Common.{◌≡◌, sym, ap, ◌∙◌, true, false, List, ◌++◌, ℕ, ◌≤◌, ltb, leb, length, length-drop, arith}
use Rattle.std.proofs.lemmas.List.{length-take-le}
use borrow.Author.Tests.{leb-true, ltb-false}
use Rattle.le.proofs.Parts.{by-test}
use Rattle.config.specs.Config.{within_limits}
use Rattle.config.proofs.Laws.{and-true}
use Rattle.slot.proofs.Laws.{cond-true, cond-false}
use Rattle.state.specs.State.{state_len}
use Rattle.connection.specs.declared.Answer.{Answer}
use Rattle.connection.specs.declared.Answer.TheVariants.{Done}
use Rattle.connection.specs.Answer.{answer_number}
use Rattle.connection.specs.Calls.{Made}
use Rattle.call_make.specs.Make.{make_in}
use Rattle.device.specs.Device.{most_text, inner_at, device_len, is_connected, head_fine, head_of, inner_of}
use Rattle.device_make.specs.Make.{fits, head_made, inner_made, device_made}
use Rattle.device_make.proofs.MadeLaws.{made-fine, made-alone, made-inner}
use Rattle.device_history.specs.Run.{DeviceStart}

-- bytes ahead of the connection that are fine, with no CNXN come, and a connection made by our own numbers
pub record Started (d : DeviceStart) : Type 0 where
  pub within : within_limits d.config ≡ true
  pub long : state_len ≤ length (inner_of d.lent)
  pub fine : head_fine (device_made d.config d.text d.lent).state ≡ true
  pub alone : is_connected (device_made d.config d.text d.lent).state ≡ false
  pub made_in : inner_of (device_made d.config d.text d.lent).state ≡ (make_in d.config 0x0100_0001 d.config.max_payload false false (inner_of d.lent)).state

-- a refusal is not done
refused : (n : ℕ) (a : Answer) → a ≡ Done → answer_number a ≡ n → (n ≡ 0 → ⊥) → ⊥
unfolding answer_number
refused n a e f g = g (sym f ∙ ap answer_number e)

module _ (d : DeviceStart) where
  abbrev b : List ℕ
  b = d.lent

  abbrev text : List ℕ
  text = d.text

  abbrev all : Made
  all = record { answer = Done; state = head_made d.text (head_of d.lent) ++ inner_made d.config (inner_of d.lent) }

  -- where the bytes are enough, and the limits kept
  begun : ltb (length b) device_len ≡ false → fits d.config (length text) ≡ true → device_made d.config text b ≡ all → Started d
  unfolding fits inner_made head_of inner_of
  begun s f e =
      let h = ltb-false (length b) device_len s in
      let size : length (head_of b) ≡ inner_at = length-take-le inner_at b (omega arith) in
      let k = and-true (within_limits d.config) (leb (length text) most_text) f in
      let short = leb-true (length text) most_text k.1 in
      let rest = length-drop inner_at b in
      let state : (device_made d.config text b).state ≡ head_made text (head_of b) ++ inner_made d.config (inner_of b) = ap (λ (m : Made). m.state) e in
      record {
        within = k.0;
        long = omega arith;
        fine = ap head_fine state ∙ made-fine (head_of b) text (inner_made d.config (inner_of b)) size short;
        alone = ap is_connected state ∙ made-alone (head_of b) text (inner_made d.config (inner_of b)) size short;
        made_in = ap inner_of state ∙ made-inner (head_of b) text (inner_made d.config (inner_of b)) size short;
      }

  pub started : Started d
  unfolding device_made answer_number
  started =
      let m = device_made d.config text b in
      by-test (ltb (length b) device_len)
      (λ t. absurd (refused 8 m.answer d.done (ap (λ (z : Made). answer_number z.answer) (cond-true (ltb (length b) device_len) _ _ t)) (λ z. omega arith)))
      (λ t. by-test (fits d.config (length text))
      (λ u. begun t u (cond-false (ltb (length b) device_len) _ _ t ∙ cond-true (fits d.config (length text)) _ _ u))
      (λ u. absurd (refused 7 m.answer d.done
      (ap (λ (z : Made). answer_number z.answer) (cond-false (ltb (length b) device_len) _ _ t ∙ cond-false (fits d.config (length text)) _ _ u)) (λ z. omega arith))))
