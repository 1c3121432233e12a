-- Laws of a slot's numbers. Assumes nothing.
use mathlib.Core.Path.{◌≡◌, refl, sym, ap, ◌∙◌}
use mathlib.Core.List.{List}
use mathlib.Core.Bool.{Bool, true, false, cond, true≢false}
use Prim.Native.Nat.{ℕ, ◌+◌, ◌*◌, ◌≤◌, min}
use native.Mathlib.Omega.{arith}
use lib.Dec.{ltb, eqb}
use lib.IntN.{ℤ, pos, neg_ℤ, ◌+ℤ◌, ◌-ℤ◌}
use mir.Syntax.{w32, w64}
use mir.Val.{SFits, to_z, of_z}
use mir.Facts.{to_z-of_z, sfits_widen}
use borrow.Author.Tests.{le-ltb}
use Rattle.le.proofs.Parts.{by-test}
use Rattle.config.specs.declared.negotiated.RxPolicy.{RxPolicy}
use Rattle.rx_store.specs.RxStore.{appended_head}
use Rattle.saturate.specs.Saturate.{clamp, sat_sum}
use Rattle.saturate.proofs.Laws.{held_fits, zero-sub, neg-fits}
use Rattle.slot.specs.declared.ids.RemoteId.{RemoteId}
use Rattle.slot.specs.declared.ChannelSlot.{ChannelSlot}
use Rattle.slot.specs.declared.ChannelState.TheVariants.{Open}
use Rattle.slot.specs.declared.Spending.{Spending}
use Rattle.slot.specs.declared.Spending.TheVariants.{Within, Beyond}
use Rattle.slot.specs.Slot.{with_state, with_remote, with_sending, with_numbers, opened_by, opened_of, ready_by, ready_of, held_of, acks_now, acked, buffered_with, wrote_of, some_len, ack_len_of, take_len, budget_of, leave_by, leave_of, spent_of, refunded_of, is_opening, is_ack}
use Rattle.credit.specs.Credit.{credit_of}
use Rattle.std.specs.Prelude.{Option, Some, None, Ok, Err, is_some}
use Rattle.slot.specs.declared.ChannelFault.TheVariants.{RxOverflow, UnexpectedCommand}
use Rattle.slot.specs.Wrote.{Wrote}

-- a choice by a test that is known
module _ {A : Type 0} where
  pub cond-true : (t : Bool) (x y : A) → t ≡ true → cond t x y ≡ x
  cond-true t x y e = rw e

  pub cond-false : (t : Bool) (x y : A) → t ≡ false → cond t x y ≡ y
  cond-false t x y e = rw e

-- ---- budgets

-- a length as a credit is of 64 bits, and so is any number that is held within them
pub credit-fits : (n : ℕ) → SFits w64 (pos (min n 9223372036854775807))
credit-fits n = record { sfits = omega arith }

pub clamp-small : (z : ℤ) → SFits w64 (clamp z)
clamp-small z = record { sfits = held_fits z }

-- what the code passes on for a credit of 32 bits is the credit
pub widened : (z : ℤ) → SFits w32 z → to_z w64 (of_z w64 (to_z w32 (of_z w32 z))) ≡ z
widened z f = rw (to_z-of_z f) (to_z-of_z {w = w64} (sfits_widen tt f))

-- what it adds for a length that is spent is its negative
pub negated : (z : ℤ) (n : ℕ) → z ≡ pos (min n 9223372036854775807)
    → SFits w64 (pos 0 -ℤ to_z w64 (of_z w64 z)) × (to_z w64 (of_z w64 (pos 0 -ℤ to_z w64 (of_z w64 z))) ≡ neg_ℤ (pos (min n 9223372036854775807)))
negated z n e =
    let f = neg-fits (min n 9223372036854775807) (omega arith) in
    rw (e, to_z-of_z (credit-fits n), zero-sub) (f, to_z-of_z f)

-- ---- acknowledgements

-- never more than is unacknowledged
pub ack-small : (s : ChannelSlot) (p : RxPolicy) (n remaining k : ℕ) → ack_len_of s p n remaining ≡ Some k → k ≤ s.unacked
unfolding ack_len_of some_len
ack-small s p n remaining k e =
    by-test (eqb s.unacked 0)
    (λ t. let f = rw t at e in let z : ◌≡◌ {A = ℕ} 0 1 = cc in absurd (omega arith))
    (λ t. by-test p.delayed
    (λ d. by-test (eqb (min n s.unacked) 0)
    (λ u. let f = rw (t, d, u) at e in let z : ◌≡◌ {A = ℕ} 0 1 = cc in absurd (omega arith))
    (λ u. let f = rw (t, d, u) at e in let z : min n s.unacked ≡ k = cc in omega arith))
    (λ d. by-test (ltb remaining p.watermark)
    (λ u. let f = rw (t, d, u) at e in let z : s.unacked ≡ k = cc in omega arith)
    (λ u. let f = rw (t, d, u) at e in let z : ◌≡◌ {A = ℕ} 0 1 = cc in absurd (omega arith))))

-- a read takes no more than is buffered, and no more than its room
pub take-held : (s : ChannelSlot) (room : ℕ) → s.settled ≤ s.buffered → take_len s room ≤ s.buffered
unfolding take_len
take-held s room h = by-test (eqb s.settled 0) (λ t. rw t (omega arith)) (λ t. rw t (omega arith))

pub take-room : (s : ChannelSlot) (room : ℕ) → take_len s room ≤ room
unfolding take_len
take-room s room = omega arith

-- ---- what the code's steps come to

-- the slot with another budget, in delayed mode
pub spent-is : (s : ChannelSlot) (p : RxPolicy) (n : ℕ) (b : ℤ) (r : ChannelSlot) → p.delayed ≡ true
    → b ≡ clamp (s.send_budget -ℤ pos (min n 9223372036854775807)) → r ≡ with_sending s s.wrte_acked b → r ≡ spent_of s p n
unfolding spent_of
spent-is s p n b r d e f = f ∙ ap (with_sending s s.wrte_acked) e ∙ sym (cond-true p.delayed _ _ d)

pub refunded-is : (s : ChannelSlot) (p : RxPolicy) (n : ℕ) (b : ℤ) (r : ChannelSlot) → p.delayed ≡ true
    → b ≡ clamp (s.send_budget +ℤ pos (min n 9223372036854775807)) → r ≡ with_sending s s.wrte_acked b → r ≡ refunded_of s p n
unfolding refunded_of
refunded-is s p n b r d e f = f ∙ ap (with_sending s s.wrte_acked) e ∙ sym (cond-true p.delayed _ _ d)

-- an OKAY whose credit is read, in delayed mode
pub readied-is : (s : ChannelSlot) (p : RxPolicy) (payload : List ℕ) (z b : ℤ) (r : ChannelSlot) → p.delayed ≡ true → credit_of payload ≡ Ok z
    → b ≡ clamp (s.send_budget +ℤ z) → r ≡ with_sending s s.wrte_acked b → (Ok r) ≡ ready_of s payload p
unfolding ready_of ready_by
readied-is s p payload z b r d k e f =
    ap Ok (f ∙ ap (with_sending s s.wrte_acked) e) ∙ sym (ap (ready_by s) k) ∙ sym (cond-true p.delayed _ _ d)

-- the OKAY that answers our OPEN
pub opened-is : (s : ChannelSlot) (id : RemoteId) (p : RxPolicy) (payload : List ℕ) (z b : ℤ) (t r : ChannelSlot) → p.delayed ≡ true → credit_of payload ≡ Ok z
    → b ≡ z → t ≡ with_state (with_remote s id) Open → r ≡ with_sending t s.wrte_acked b → (Ok r) ≡ opened_of s id payload p
unfolding opened_of opened_by
opened-is s id p payload z b t r d k e g f =
    ap Ok (f ∙ ap (with_sending t s.wrte_acked) e ∙ ap (λ (x : ChannelSlot). with_sending x s.wrte_acked z) g)
    ∙ sym (ap (opened_by s id) k) ∙ sym (cond-true p.delayed _ _ d)

-- a WRTE that fits, acknowledged at once or held
module _ (s : ChannelSlot) (p : RxPolicy) (n : ℕ) (r : ChannelSlot) (head held : ℕ) (a : Bool)
    (o : is_opening s.state ≡ false) (fits : held_of s + n ≤ p.rx_cap) (held-is : held ≡ held_of s)
    (acks : a ≡ acks_now s p (held + n)) (head-is : head ≡ appended_head (2 * p.rx_cap) s.head s.buffered n) where
  fits-is : (w : Wrote)
      → cond (acks_now s p (held_of s + n)) (Ok (acked (buffered_with s p n 0) (Some n))) (Ok (acked (buffered_with s p n (sat_sum s.unacked n)) None)) ≡ w
      → wrote_of s p n ≡ w
  unfolding wrote_of
  fits-is w e =
      cond-false (is_opening s.state) (Err UnexpectedCommand) _ o
      ∙ cond-false (ltb p.rx_cap (held_of s + n)) (Err RxOverflow) _ (le-ltb p.rx_cap (held_of s + n) fits)
      ∙ e

  now-is : acks_now s p (held_of s + n) ≡ a
  now-is = ap (λ (h : ℕ). acks_now s p (h + n)) (sym held-is) ∙ sym acks

  buffered-is : (u : ℕ) → r ≡ with_numbers s u s.settled head (s.buffered + n) → buffered_with s p n u ≡ r
  unfolding buffered_with
  buffered-is u e = sym (e ∙ ap (λ (h : ℕ). with_numbers s u s.settled h (s.buffered + n)) head-is)

  pub wrote-now : a ≡ true → r ≡ with_numbers s 0 s.settled head (s.buffered + n) → Ok (acked r (Some n)) ≡ wrote_of s p n
  wrote-now t e =
      sym (fits-is (Ok (acked r (Some n)))
      (cond-true (acks_now s p (held_of s + n)) _ _ (now-is ∙ t) ∙ ap (λ (x : ChannelSlot). Ok (acked x (Some n))) (buffered-is 0 e)))

  pub wrote-hold : (u : ℕ) → a ≡ false → u ≡ sat_sum s.unacked n → r ≡ with_numbers s u s.settled head (s.buffered + n) → Ok (acked r None) ≡ wrote_of s p n
  wrote-hold u t eu e =
      sym (fits-is (Ok (acked r None))
      (cond-false (acks_now s p (held_of s + n)) _ _ (now-is ∙ t)
      ∙ ap (λ (k : ℕ). Ok (acked (buffered_with s p n k) None)) (sym eu) ∙ ap (λ (x : ChannelSlot). Ok (acked x None)) (buffered-is u e)))

-- whether an acknowledgement is due, in the library's word
pub is-ack : (ack : Option ℕ) → is_some ack ≡ is_ack ack
unfolding is_ack
is-ack (Some n) = refl
is-ack None = refl

-- nothing may be sent exactly where the budget is none, however it is spent
leave-by : (spending : Spending) (most : Option ℕ) → (most ≡ None → leave_by spending most ≡ None) × (leave_by spending most ≡ None → most ≡ None)
unfolding leave_by
leave-by Within most = (λ e. e, λ e. e)
leave-by Beyond None = (λ e. refl, λ e. refl)
leave-by Beyond (Some n) = (λ e. absurd (true≢false (ap is_some e)), λ e. absurd (true≢false (ap is_some e)))

pub leave-none : (spending : Spending) (s : ChannelSlot) (p : RxPolicy) → (budget_of s p ≡ None → leave_of spending s p ≡ None) × (leave_of spending s p ≡ None → budget_of s p ≡ None)
unfolding leave_of
leave-none spending s p = leave-by spending (budget_of s p)
