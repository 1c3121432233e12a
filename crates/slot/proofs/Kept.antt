-- No function on a slot breaks what its numbers of received bytes satisfy. Assumes nothing.
use mathlib.Core.Path.{◌≡◌, refl, sym}
use mathlib.Core.Bool.{Bool, true, false, cond}
use mathlib.Core.List.{List}
use Prim.Native.Nat.{ℕ, ◌+◌, ◌-◌, ◌*◌, ◌≤◌, min}
use native.Mathlib.Omega.{arith}
use lib.Dec.{ltb, leb, eqb}
use borrow.Author.Tests.{ltb-false, leb-true, le-leb, eqb-true}
use Rattle.le.proofs.Parts.{by-test}
use Rattle.config.specs.declared.negotiated.RxPolicy.{RxPolicy}
use Rattle.config.proofs.Laws.{and-true}
use Rattle.rx_store.specs.RxStore.{Room}
use Rattle.rx_store.proofs.Laws.{head-appended, head-taken}
use Rattle.slot.specs.declared.ids.LocalId.{LocalId}
use Rattle.slot.specs.declared.ids.RemoteId.{RemoteId}
use Rattle.slot.specs.declared.ids.ChannelIds.{ChannelIds}
use Rattle.slot.specs.declared.ChannelSlot.{ChannelSlot}
use Rattle.slot.specs.declared.ChannelFault.{ChannelFault}
use Rattle.slot.specs.declared.Settled.{Settled}
use Rattle.slot.specs.Wrote.{Wrote, left_by}
use Rattle.slot.specs.Slot.{opening_slot, accepted_slot, opened_of, opened_by, ready_of, ready_by, held_of, is_opening, acks_now, buffered_with, wrote_of, delivered_of, ack_len_of, settled_by, settled_some, settled_of, take_len, took_of, taken_of, has_data, is_closed, budget_of, reserved_by, reserved_of, spent_of, refunded_of, closed_slot, failed_slot, slot_ok, SlotOk}
use Rattle.credit.specs.Credit.{credit_of}
use Rattle.slot.proofs.Laws.{take-held, take-room}
use Rattle.credit.specs.declared.CreditFault.{CreditFault}
use Rattle.std.specs.Prelude.{ℤ, Option, Some, None, Result, Ok, Err}
use Rattle.slot.specs.declared.ChannelError.{ChannelError}

-- what holds of both ways of a choice holds of the choice
module _ {A : Type 0} where
  pub pick : (P : A → Type 0) (t : Bool) {x y : A} → (t ≡ true → P x) → (t ≡ false → P y) → P (cond t x y)
  pick P true f g = f refl
  pick P false f g = g refl

-- the test is of the facts, both ways
pub sound : (s : ChannelSlot) (cap : ℕ) → cap ≤ 16777216 → slot_ok s cap ≡ true → SlotOk s cap
unfolding slot_ok
sound s cap small e =
    let e₃ = and-true _ _ e in
    let e₂ = and-true _ _ e₃.0 in
    let e₁ = and-true _ _ e₂.0 in
    record {
      settled-buffered = leb-true _ _ e₁.0;
      settled-cap = leb-true _ _ e₁.1;
      held-cap = leb-true _ _ e₂.1;
      run_fits = leb-true _ _ e₃.1;
      cap-small = small;
    }

pub sound-holds : (s : ChannelSlot) (cap : ℕ) → SlotOk s cap → slot_ok s cap ≡ true
unfolding slot_ok
sound-holds s cap ok =
    rw (
      le-leb s.settled s.buffered ok.settled-buffered,
      le-leb s.settled cap ok.settled-cap,
      le-leb (s.buffered - s.settled) cap ok.held-cap,
      le-leb (s.head + s.buffered) (2 * cap) ok.run_fits,
    )

pub unsound : (s : ChannelSlot) (cap : ℕ) → cap ≤ 16777216 → (SlotOk s cap → ⊥) → false ≡ slot_ok s cap
unsound s cap small broken = by-test (slot_ok s cap) (λ t. absurd (broken (sound s cap small t))) (λ f. sym f)

-- slots whose numbers of received bytes are the same are sound alike
pub same-sound : (s t : ChannelSlot) (cap : ℕ) → t.settled ≡ s.settled → t.head ≡ s.head → t.buffered ≡ s.buffered → SlotOk s cap → SlotOk t cap
same-sound s t cap e f g ok =
    record {
      settled-buffered = omega arith;
      settled-cap = omega arith;
      held-cap = omega arith;
      run_fits = omega arith;
      cap-small = omega arith;
    }

-- ---- new slots

pub opening-sound : (l : LocalId) (cap : ℕ) → cap ≤ 16777216 → SlotOk (opening_slot l) cap
unfolding opening_slot
opening-sound l cap h =
    record { settled-buffered = omega arith; settled-cap = omega arith; held-cap = omega arith; run_fits = omega arith; cap-small = h }

pub accepted-sound : (ids : ChannelIds) (credit : ℕ) (p : RxPolicy) (cap : ℕ) → cap ≤ 16777216 → SlotOk (accepted_slot ids credit p) cap
unfolding accepted_slot opening_slot
accepted-sound ids credit p cap h =
    record { settled-buffered = omega arith; settled-cap = omega arith; held-cap = omega arith; run_fits = omega arith; cap-small = h }

-- ---- OKAY

-- the slot of an answer, if it has one, is sound
abbrev pub ReadiedSound : ℕ → Result ChannelSlot CreditFault → Type 0
ReadiedSound cap (Ok t) = SlotOk t cap
ReadiedSound cap (Err f) = Unit {0}

opened-by : (s : ChannelSlot) (id : RemoteId) (cap : ℕ) → SlotOk s cap → (c : Result ℤ CreditFault) → ReadiedSound cap (opened_by s id c)
unfolding opened_by
opened-by s id cap ok (Ok z) = same-sound s _ cap refl refl refl ok
opened-by s id cap ok (Err f) = tt

pub opened-sound : (s : ChannelSlot) (id : RemoteId) (payload : List ℕ) (p : RxPolicy) (cap : ℕ) → SlotOk s cap → ReadiedSound cap (opened_of s id payload p)
unfolding opened_of
opened-sound s id payload p cap ok =
    pick (ReadiedSound cap) p.delayed (λ d. opened-by s id cap ok (credit_of payload)) (λ d. same-sound s _ cap refl refl refl ok)

ready-by : (s : ChannelSlot) (cap : ℕ) → SlotOk s cap → (c : Result ℤ CreditFault) → ReadiedSound cap (ready_by s c)
unfolding ready_by
ready-by s cap ok (Ok z) = same-sound s _ cap refl refl refl ok
ready-by s cap ok (Err f) = tt

pub ready-sound : (s : ChannelSlot) (payload : List ℕ) (p : RxPolicy) (cap : ℕ) → SlotOk s cap → ReadiedSound cap (ready_of s payload p)
unfolding ready_of
ready-sound s payload p cap ok =
    pick (ReadiedSound cap) p.delayed (λ d. ready-by s cap ok (credit_of payload)) (λ d. same-sound s _ cap refl refl refl ok)

-- ---- received bytes

-- n bytes behind the run, where they fit under the cap
pub buffered-sound : (s : ChannelSlot) (p : RxPolicy) (n u : ℕ) → held_of s + n ≤ p.rx_cap → SlotOk s p.rx_cap → SlotOk (buffered_with s p n u) p.rx_cap
unfolding buffered_with held_of
buffered-sound s p n u h ok =
    let room : Room (2 * p.rx_cap) s.head s.buffered n = record { run_fits = ok.run_fits; more-fits = omega arith } in
    let r = head-appended (2 * p.rx_cap) s.head s.buffered n room in
    record {
      settled-buffered = omega arith;
      settled-cap = omega arith;
      held-cap = omega arith;
      run_fits = r;
      cap-small = ok.cap-small;
    }

pub wrote-sound : (s : ChannelSlot) (p : RxPolicy) (n : ℕ) → SlotOk s p.rx_cap → SlotOk (left_by s (wrote_of s p n)) p.rx_cap
unfolding wrote_of
wrote-sound s p n ok =
    let cap = p.rx_cap in
    let P : Wrote → Type 0 = λ w. SlotOk (left_by s w) cap in
    pick P (is_opening s.state) (λ o. ok)
    (λ o. pick P (ltb cap (held_of s + n)) (λ f. ok)
    (λ f. let h = ltb-false cap (held_of s + n) f in
    pick P (acks_now s p (held_of s + n)) (λ a. buffered-sound s p n 0 h ok) (λ a. buffered-sound s p n _ h ok)))

pub delivered-sound : (s : ChannelSlot) (p : RxPolicy) (n cap : ℕ) → SlotOk s cap → SlotOk (delivered_of s p n).slot cap
unfolding delivered_of
delivered-sound s p n cap ok =
    let P : Settled → Type 0 = λ r. SlotOk r.slot cap in
    pick P p.delayed (λ d. pick P s.has_remote (λ r. same-sound s _ cap refl refl refl ok) (λ r. ok))
    (λ d. pick P (leb p.watermark s.buffered) (λ w. ok)
    (λ w. pick P s.has_remote (λ r. same-sound s _ cap refl refl refl ok) (λ r. ok)))

settled-by : (s : ChannelSlot) (p : RxPolicy) (n cap : ℕ) → n ≤ s.buffered → s.settled ≡ 0 → SlotOk s cap → (a : Option ℕ) → SlotOk (settled_by s p n a).slot cap
unfolding settled_by
settled-by s p n cap h z ok None = ok
settled-by s p n cap h z ok (Some k) =
    record {
      settled-buffered = h;
      settled-cap = omega arith;
      held-cap = omega arith;
      run_fits = ok.run_fits;
      cap-small = ok.cap-small;
    }

-- settling never sets aside more than the cap: with nothing set aside, what is buffered is held
pub settled-sound : (s : ChannelSlot) (p : RxPolicy) (want cap : ℕ) → SlotOk s cap → SlotOk (settled_of s p want).slot cap
unfolding settled_of settled_some
settled-sound s p want cap ok =
    let P : Settled → Type 0 = λ r. SlotOk r.slot cap in
    let n = min want s.buffered in
    pick P s.has_remote
    (λ r. pick P (eqb s.settled 0)
    (λ z. settled-by s p n cap (omega arith) (eqb-true s.settled 0 z) ok (ack_len_of s p n (s.buffered - n)))
    (λ z. ok))
    (λ r. ok)

pub took-sound : (s : ChannelSlot) (room cap : ℕ) → SlotOk s cap → SlotOk (took_of s (take_len s room)) cap
unfolding took_of take_len
took-sound s room cap ok =
    by-test (eqb s.settled 0)
    (λ t. let z = eqb-true s.settled 0 t in
    let n = min room s.buffered in
    let r = head-taken (2 * cap) s.head s.buffered n (omega arith) ok.run_fits in
    rw t (record {
      settled-buffered = omega arith;
      settled-cap = omega arith;
      held-cap = omega arith;
      run_fits = r;
      cap-small = ok.cap-small;
    }))
    (λ t. let n = min room s.settled in
    let r = head-taken (2 * cap) s.head s.buffered n (omega arith) ok.run_fits in
    rw t (record {
      settled-buffered = omega arith;
      settled-cap = omega arith;
      held-cap = omega arith;
      run_fits = r;
      cap-small = ok.cap-small;
    }))

-- data is within the reader's room and within what is buffered, and leaves a sound slot
abbrev pub TakenSound : ChannelSlot → ℕ → ℕ → Result (Option (ChannelSlot × ℕ)) ChannelError → Type 0
TakenSound s room cap (Ok (Some (t, n))) = SlotOk t cap × (n ≤ room) × (n ≤ s.buffered)
TakenSound s room cap (Ok None) = Unit {0}
TakenSound s room cap (Err e) = Unit {0}

pub taken-sound : (s : ChannelSlot) (room cap : ℕ) → SlotOk s cap → TakenSound s room cap (taken_of s room)
unfolding taken_of
taken-sound s room cap ok =
    pick (TakenSound s room cap) (has_data s)
    (λ d. (took-sound s room cap ok, take-room s room, take-held s room ok.settled-buffered))
    (λ d. pick (TakenSound s room cap) (is_closed s.state) (λ c. tt) (λ c. tt))

-- ---- sending and closing leave the numbers of received bytes

pub spent-sound : (s : ChannelSlot) (p : RxPolicy) (n cap : ℕ) → SlotOk s cap → SlotOk (spent_of s p n) cap
unfolding spent_of
spent-sound s p n cap ok =
    pick (λ (t : ChannelSlot). SlotOk t cap) p.delayed (λ d. same-sound s _ cap refl refl refl ok) (λ d. same-sound s _ cap refl refl refl ok)

pub refunded-sound : (s : ChannelSlot) (p : RxPolicy) (n cap : ℕ) → SlotOk s cap → SlotOk (refunded_of s p n) cap
unfolding refunded_of
refunded-sound s p n cap ok =
    pick (λ (t : ChannelSlot). SlotOk t cap) p.delayed (λ d. same-sound s _ cap refl refl refl ok) (λ d. same-sound s _ cap refl refl refl ok)

abbrev pub ReservedSound : ℕ → Option (ChannelSlot × ℕ) → Type 0
ReservedSound cap (Some (t, n)) = SlotOk t cap
ReservedSound cap None = Unit {0}

reserved-by : (s : ChannelSlot) (p : RxPolicy) (want cap : ℕ) → SlotOk s cap → (b : Option ℕ) → ReservedSound cap (reserved_by s p want b)
unfolding reserved_by
reserved-by s p want cap ok (Some most) = spent-sound s p (min most want) cap ok
reserved-by s p want cap ok None = tt

pub reserved-sound : (s : ChannelSlot) (p : RxPolicy) (want cap : ℕ) → SlotOk s cap → ReservedSound cap (reserved_of s p want)
unfolding reserved_of
reserved-sound s p want cap ok = reserved-by s p want cap ok (budget_of s p)

pub closed-sound : (s : ChannelSlot) (cap : ℕ) → SlotOk s cap → SlotOk (closed_slot s) cap
unfolding closed_slot
closed-sound s cap ok = same-sound s _ cap refl refl refl ok

pub failed-sound : (s : ChannelSlot) (fault : ChannelFault) (cap : ℕ) → SlotOk s cap → SlotOk (failed_slot s fault) cap
unfolding failed_slot
failed-sound s fault cap ok = same-sound s _ cap refl refl refl ok
