-- What taking leaves. Assumes nothing.
use mathlib.Core.Path.{◌≡◌, refl, sym, ap, subst, ◌∙◌}
use mathlib.Core.Bool.{true, false}
use mathlib.Core.List.{List, []}
use Prim.Native.Nat.{ℕ, ◌+◌, ◌*◌, ◌≤◌}
use native.Mathlib.Omega.{arith}
use lib.ListN.{length}
use Rattle.le.specs.Le.{put}
use Rattle.config.specs.Config.{cap_of}
use Rattle.config.specs.Negotiated.{policy_of}
use Rattle.slot.specs.declared.ChannelError.{ChannelError}
use Rattle.slot.specs.declared.ChannelSlot.{ChannelSlot}
use Rattle.slot.specs.Slot.{SlotOk, taken_of}
use Rattle.slot.proofs.Kept.{TakenSound, taken-sound}
use Rattle.slot.proofs.Laws.{cond-true, cond-false}
use Rattle.state.specs.declared.Header.{Header}
use Rattle.state.specs.State.{state_of, put_slot, put_header}
use Rattle.table.specs.declared.ChannelId.{ChannelId}
use Rattle.rx_store.specs.RxStore.{ShareFits, front_of}
use Rattle.rx_store.proofs.ShareLaws.{share_in, front-short}
use Rattle.connection.specs.declared.Answer.TheVariants.{Nothing, Read, Refused}
use Rattle.connection.specs.declared.Refusal.{Refusal}
use Rattle.connection.specs.declared.Refusal.TheVariants.{ChannelClosed}
use Rattle.call.specs.declared.Reply.{Reply}
use Rattle.connection.specs.Calls.{Lent, Outcome, begun, ends, dropped, policy, is_there, slot_for, error_refusal, taken_by, take_step}
use Rattle.call.specs.Promise.{lent_of, agreed_in, Leaves, AdmitsState}
use Rattle.call.proofs.LeaveLaws.{did-begun, did-slot, did-ends, stops-leaves}
use Rattle.call.proofs.ThereLaws.{lives}
use Rattle.std.specs.Prelude.{Option, Some, None, Result, Ok, Err}

module _ (state rx store : List ℕ) (room : ℕ) (h : Header) (i : h ≡ dropped (state_of state).header) (g : AdmitsState state room) (ch : ChannelId)
    (e : is_there (lent_of state rx store) ch ≡ true) where
  abbrev lent : Lent
  lent = lent_of state rx store

  abbrev head : Header
  head = dropped (state_of state).header

  module _ (s : ChannelSlot) (cap : ℕ) (a : s ≡ slot_for lent ch) (b : cap ≡ cap_of h.negotiated.config) where
    cap-is : cap ≡ (policy lent).rx_cap
    unfolding policy_of
    cap-is = b ∙ ap (λ (x : Header). cap_of x.negotiated.config) i

    -- what taking asks of the slot
    pub take-ok : SlotOk s cap
    take-ok =
        subst (λ (x : ChannelSlot). SlotOk x cap) (sym a)
        (subst (SlotOk (slot_for lent ch)) (sym cap-is) (lives state rx store h i room g ch e).ok)

    module _ (buf : List ℕ) (taken : Result (Option (ChannelSlot × ℕ)) ChannelError) (d : taken ≡ taken_of s (length buf)) where
      step_is : (x : Result (Option (ChannelSlot × ℕ)) ChannelError) → taken ≡ x → take_step lent ch (length buf) ≡ taken_by lent ch s (begun head lent) x
      unfolding take_step
      step_is x f =
          cond-true (is_there lent ch) _ _ e
          ∙ ap (λ (y : ChannelSlot). taken_by lent ch y (begun head lent) (taken_of y (length buf))) (sym a)
          ∙ ap (taken_by lent ch s (begun head lent)) (sym d ∙ f)

      sound : (t : ChannelSlot) (len : ℕ) → taken ≡ Ok (Some (t, len)) → SlotOk t cap × (len ≤ length buf) × (len ≤ s.buffered)
      sound t len f = subst (TakenSound s (length buf) cap) (sym d ∙ f) (taken-sound s (length buf) cap take-ok)

      -- what handing over asks
      pub hand-room : (t : ChannelSlot) (len : ℕ) → (agreed_in state).config.channels * (2 * (policy_of (agreed_in state)).rx_cap) ≤ length rx → taken ≡ Ok (Some (t, len))
          → ShareFits ch.slot cap (length rx) × (s.head + len ≤ 2 * cap) × (len ≤ length buf)
      hand-room t len long f =
          let k = sound t len f in
          let k₁ = k.1 in
          let k₂ = k.2 in
          let o = take-ok in
          let run = o.run_fits in
          let v = (lives state rx store h i room g ch e).place in
          let y = subst (λ (x : ℕ). (agreed_in state).config.channels * (2 * x) ≤ length rx) (sym cap-is) long in
          let u = share_in ch.slot (agreed_in state).config.channels (2 * cap) (length rx) v y in
          (u, omega arith, k₁)

      pub take-data : (t : ChannelSlot) (len : ℕ) (r : Reply) (buf' state₁ : List ℕ) → taken ≡ Ok (Some (t, len)) → buf' ≡ put buf 0 (front_of rx cap ch.slot s.head len)
          → state₁ ≡ put_header (put_slot state ch.slot t) h → r ≡ record { answer = Read len; used = 0; written = 0 }
          → Leaves (agreed_in state) (take_step lent ch (length buf)) 0 state [] buf r state₁ rx store [] buf'
      unfolding taken_by
      take-data t len r buf' state₁ f m k z =
          let n = agreed_in state in
          let w = did-begun n 0 state [] head lent (omega arith) in
          let w₁ = did-slot n 0 state [] _ _ _ _ _ _ w ch.slot t (put_slot state ch.slot t) refl in
          let c = front-short rx (policy lent).rx_cap ch.slot s.head len in
          let y = (sound t len f).1 in
          subst (λ (x : Outcome). Leaves n x 0 state [] buf r state₁ rx store [] buf') (sym (step_is (Ok (Some (t, len))) f))
          (did-ends n 0 state [] _ _ _ _ _ _ w₁ buf buf' state₁ h (Read len) 0 (front_of rx (policy lent).rx_cap ch.slot s.head len) r i k z
          (m ∙ ap (λ (x : ℕ). put buf 0 (front_of rx x ch.slot s.head len)) cap-is) (omega arith))

      pub take-nothing : (r : Reply) (state₁ : List ℕ) → taken ≡ Ok None → state₁ ≡ put_header state h → r ≡ record { answer = Nothing; used = 0; written = 0 }
          → Leaves (agreed_in state) (take_step lent ch (length buf)) 0 state [] buf r state₁ rx store [] buf
      unfolding taken_by
      take-nothing r state₁ f k z = stops-leaves state rx store h i [] buf _ Nothing 0 r state₁ (step_is (Ok None) f) k z

      pub take-closed : (x : ChannelError) (why : Refusal) (r : Reply) (state₁ : List ℕ) → taken ≡ Err x → why ≡ error_refusal x → state₁ ≡ put_header state h
          → r ≡ record { answer = Refused why; used = 0; written = 0 } → Leaves (agreed_in state) (take_step lent ch (length buf)) 0 state [] buf r state₁ rx store [] buf
      unfolding taken_by
      take-closed x why r state₁ f y k z =
          stops-leaves state rx store h i [] buf _ (Refused why) 0 r state₁
          (step_is (Err x) f ∙ ap (λ (v : Refusal). ends (begun head lent) (Refused v) 0 []) (sym y)) k z

-- ---- not there

module _ (state rx store : List ℕ) (h : Header) (i : h ≡ dropped (state_of state).header) (ch : ChannelId) (e : is_there (lent_of state rx store) ch ≡ false) where
  pub take-refuses : (buf : List ℕ) (r : Reply) (state₁ : List ℕ) → state₁ ≡ put_header state h → r ≡ record { answer = Refused ChannelClosed; used = 0; written = 0 }
      → Leaves (agreed_in state) (take_step (lent_of state rx store) ch (length buf)) 0 state [] buf r state₁ rx store [] buf
  unfolding take_step
  take-refuses buf r state₁ k z =
      stops-leaves state rx store h i [] buf _ (Refused ChannelClosed) 0 r state₁ (cond-false (is_there (lent_of state rx store) ch) _ _ e) k z
