-- What no function on a slot changes, and that its numbers stay within their bits. Assumes nothing.
use mathlib.Core.Path.{◌≡◌, refl, sym, ◌∙◌}
use mathlib.Core.Bool.{true, false, cond}
use mathlib.Core.List.{List}
use Prim.Native.Nat.{ℕ, ◌+◌, ◌-◌, ◌^◌, ◌<◌, min}
use native.Mathlib.Omega.{arith}
use lib.Dec.{ltb, leb, eqb}
use lib.IntN.{ℤ, pos, negsuc, ◌+ℤ◌, ◌-ℤ◌}
use lib.Signed.{mag}
use lib.ListN.{length}
use Rattle.le.specs.Le.{num_of, signed, part, Bytes}
use Rattle.le.proofs.Laws.{signed-small, num_of-part}
use Rattle.saturate.specs.Saturate.{sat_sum}
use Rattle.saturate.proofs.Laws.{held_fits}
use Rattle.config.specs.declared.negotiated.RxPolicy.{RxPolicy}
use Rattle.slot.specs.declared.ChannelSlot.{ChannelSlot}
use Rattle.slot.specs.declared.Settled.{Settled}
use Rattle.slot.specs.Wrote.{Wrote, left_by}
use Rattle.slot.specs.Slot.{with_total, total_with, ready_of, ready_by, held_of, is_opening, acks_now, buffered_with, wrote_of, delivered_of, ack_len_of, settled_by, settled_some, settled_of, took_of, with_numbers, spent_of, closed_slot}
use Rattle.credit.specs.Credit.{credit_of, at_least_zero}
use Rattle.slot.proofs.Kept.{pick}
use Rattle.slot.proofs.Laws.{cond-true}
use Rattle.credit.specs.declared.CreditFault.{CreditFault}
use Rattle.std.specs.Prelude.{Option, Some, None, Result, Ok, Err}

-- what a slot function leaves as it was
pub record Stays (s t : ChannelSlot) : Type 0 where
  pub filled : t.filled ≡ s.filled
  pub local : t.local ≡ s.local
  pub remote : t.remote ≡ s.remote
  pub known : t.has_remote ≡ s.has_remote
  pub opening : is_opening s.state ≡ false → is_opening t.state ≡ false
  pub failed : t.failed ≡ s.failed
  pub unacked : s.unacked < 2 ^ 64 → t.unacked < 2 ^ 64
  pub total : s.acked_total < 2 ^ 64 → t.acked_total < 2 ^ 64
  -- the total of a place with no channel
  pub left : cond t.has_remote 0 t.acked_total ≡ cond s.has_remote 0 s.acked_total
  pub budget : mag s.send_budget < 2 ^ 63 → mag t.send_budget < 2 ^ 63

pub stays_same : (s : ChannelSlot) → Stays s s
stays_same s = record { filled = refl; local = refl; remote = refl; known = refl; opening = λ e. e; failed = refl; unacked = λ e. e; total = λ e. e; left = refl; budget = λ e. e }

-- ---- budgets

mag-more : (z : ℤ) → mag z < 2 ^ 31 → mag z < 2 ^ 63
mag-more z h = omega arith

-- a credit that was read from bytes
abbrev pub CreditFits : Result ℤ CreditFault → Type 0
CreditFits (Ok z) = mag z < 2 ^ 63
CreditFits (Err f) = Unit {0}

zero-fits : (z : ℤ) → mag z < 2 ^ 63 → CreditFits (at_least_zero z)
unfolding at_least_zero
zero-fits (pos n) h = h
zero-fits (negsuc n) h = tt

pub credit-small : (payload : List ℕ) → Bytes payload → CreditFits (credit_of payload)
unfolding credit_of
credit-small payload y =
    let z = signed 31 (num_of (part payload 0 4)) in
    pick CreditFits (ltb (length payload) 4) (λ t. tt)
    (λ t. pick CreditFits (ltb 4 (length payload)) (λ u. tt)
    (λ u. zero-fits z (mag-more z (signed-small 31 (num_of (part payload 0 4)) (num_of-part 4 payload 0 y)))))

-- ---- an OKAY

abbrev pub ReadiedStays : ChannelSlot → Result ChannelSlot CreditFault → Type 0
ReadiedStays s (Ok t) = Stays s t
ReadiedStays s (Err f) = Unit {0}

ready-stays-by : (s : ChannelSlot) (c : Result ℤ CreditFault) → ReadiedStays s (ready_by s c)
unfolding ready_by
ready-stays-by s (Ok z) =
    record { filled = refl; local = refl; remote = refl; known = refl; opening = λ e. e; failed = refl; unacked = λ e. e; total = λ e. e; left = refl; budget = λ e. held_fits (s.send_budget +ℤ z) }
ready-stays-by s (Err f) = tt

pub ready-stays : (s : ChannelSlot) (payload : List ℕ) (p : RxPolicy) → ReadiedStays s (ready_of s payload p)
unfolding ready_of
ready-stays s payload p =
    pick (ReadiedStays s) p.delayed (λ d. ready-stays-by s (credit_of payload))
    (λ d. record { filled = refl; local = refl; remote = refl; known = refl; opening = λ e. e; failed = refl; unacked = λ e. e; total = λ e. e; left = refl; budget = λ e. e })

-- ---- received bytes

-- numbers of received bytes change, the rest stays
stays-numbers : (s : ChannelSlot) (u d h b : ℕ) → (s.unacked < 2 ^ 64 → u < 2 ^ 64) → Stays s (with_numbers s u d h b)
stays-numbers s u d h b f =
    record { filled = refl; local = refl; remote = refl; known = refl; opening = λ e. e; failed = refl; unacked = f; total = λ e. e; left = refl; budget = λ e. e }

pub wrote-stays : (s : ChannelSlot) (p : RxPolicy) (k : ℕ) → Stays s (left_by s (wrote_of s p k))
unfolding wrote_of buffered_with sat_sum
wrote-stays s p k =
    let P : Wrote → Type 0 = λ w. Stays s (left_by s w) in
    pick P (is_opening s.state) (λ o. stays_same s)
    (λ o. pick P (ltb p.rx_cap (held_of s + k)) (λ f. stays_same s)
    (λ f. pick P (acks_now s p (held_of s + k)) (λ a. stays-numbers s _ _ _ _ (λ e. omega arith)) (λ a. stays-numbers s _ _ _ _ (λ e. omega arith))))

-- with another total
stays-total : (s t : ChannelSlot) (p : RxPolicy) (k : ℕ) → s.has_remote ≡ true → Stays s t → Stays s (with_total t (total_with p t.acked_total k))
unfolding total_with sat_sum
stays-total s t p k r y =
    record {
      filled = y.filled;
      local = y.local;
      remote = y.remote;
      known = y.known;
      opening = y.opening;
      failed = y.failed;
      unacked = y.unacked;
      total = λ e. let h = y.total e in pick (λ (x : ℕ). x < 2 ^ 64) p.delayed (λ d. omega arith) (λ d. h);
      left = cond-true t.has_remote 0 _ (y.known ∙ r) ∙ sym (cond-true s.has_remote 0 _ r);
      budget = y.budget;
    }

pub delivered-stays : (s : ChannelSlot) (p : RxPolicy) (k : ℕ) → Stays s (delivered_of s p k).slot
unfolding delivered_of
delivered-stays s p k =
    let P : Settled → Type 0 = λ r. Stays s r.slot in
    pick P p.delayed (λ d. pick P s.has_remote (λ r. stays-total s s p k r (stays_same s)) (λ r. stays_same s))
    (λ d. pick P (leb p.watermark s.buffered) (λ w. stays_same s)
    (λ w. pick P s.has_remote (λ r. stays-numbers s _ _ _ _ (λ e. omega arith)) (λ r. stays_same s)))

settled-stays-by : (s : ChannelSlot) (p : RxPolicy) (k : ℕ) (a : Option ℕ) → s.has_remote ≡ true → Stays s (settled_by s p k a).slot
unfolding settled_by
settled-stays-by s p k (Some m) r = stays-total s (with_numbers s (s.unacked - m) k s.head s.buffered) p m r (stays-numbers s _ _ _ _ (λ e. omega arith))
settled-stays-by s p k None r = stays_same s

pub settled-stays : (s : ChannelSlot) (p : RxPolicy) (want : ℕ) → Stays s (settled_of s p want).slot
unfolding settled_of settled_some
settled-stays s p want =
    let P : Settled → Type 0 = λ r. Stays s r.slot in
    pick P s.has_remote
    (λ r. pick P (eqb s.settled 0)
    (λ z. settled-stays-by s p (min want s.buffered) (ack_len_of s p (min want s.buffered) (s.buffered - min want s.buffered)) r)
    (λ z. stays_same s))
    (λ r. stays_same s)

settled-state-by : (s : ChannelSlot) (p : RxPolicy) (k : ℕ) (a : Option ℕ) → (settled_by s p k a).slot.state ≡ s.state
unfolding settled_by
settled-state-by s p k (Some m) = refl
settled-state-by s p k None = refl

-- and the state
pub settled-state : (s : ChannelSlot) (p : RxPolicy) (want : ℕ) → (settled_of s p want).slot.state ≡ s.state
unfolding settled_of settled_some
settled-state s p want =
    let P : Settled → Type 0 = λ r. r.slot.state ≡ s.state in
    pick P s.has_remote
    (λ r. pick P (eqb s.settled 0)
    (λ z. settled-state-by s p (min want s.buffered) (ack_len_of s p (min want s.buffered) (s.buffered - min want s.buffered)))
    (λ z. refl))
    (λ r. refl)

pub took-stays : (s : ChannelSlot) (k : ℕ) → Stays s (took_of s k)
unfolding took_of
took-stays s k = stays-numbers s _ _ _ _ (λ e. e)

pub spent-stays : (s : ChannelSlot) (p : RxPolicy) (k : ℕ) → Stays s (spent_of s p k)
unfolding spent_of
spent-stays s p k =
    pick (Stays s) p.delayed
    (λ d. record { filled = refl; local = refl; remote = refl; known = refl; opening = λ e. e; failed = refl; unacked = λ e. e; total = λ e. e; left = refl; budget = λ e. held_fits (s.send_budget -ℤ pos (min k 9223372036854775807)) })
    (λ d. record { filled = refl; local = refl; remote = refl; known = refl; opening = λ e. e; failed = refl; unacked = λ e. e; total = λ e. e; left = refl; budget = λ e. e })

pub closed-stays : (s : ChannelSlot) → Stays s (closed_slot s)
unfolding closed_slot is_opening
closed-stays s =
    record { filled = refl; local = refl; remote = refl; known = refl; opening = λ e. refl; failed = refl; unacked = λ e. omega arith; total = λ e. e; left = refl; budget = λ e. e }
