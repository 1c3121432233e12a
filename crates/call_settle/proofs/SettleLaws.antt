-- What settling leaves. Assumes nothing.
use mathlib.Core.Path.{◌≡◌, refl, sym, ap, subst, ◌∙◌}
use mathlib.Core.Bool.{true, false}
use mathlib.Core.List.{List, [], ◌∷◌}
use Prim.Native.Nat.{ℕ, ◌≤◌}
use native.Mathlib.Omega.{arith}
use lib.ListN.{length}
use Rattle.config.specs.declared.negotiated.RxPolicy.{RxPolicy}
use Rattle.config.specs.Negotiated.{policy_of}
use Rattle.protocol.specs.Packet.{Puts}
use Rattle.slot.specs.declared.ChannelSlot.{ChannelSlot}
use Rattle.slot.specs.declared.Settled.{Settled as SettledSlot}
use Rattle.slot.specs.Slot.{settled_of}
use Rattle.slot.proofs.Laws.{cond-true, cond-false}
use Rattle.state.specs.declared.Header.{Header}
use Rattle.state.specs.Change.{slot_to}
use Rattle.state.specs.State.{state_of, put_slot, put_header}
use Rattle.table.specs.declared.ChannelId.{ChannelId}
use Rattle.connection.specs.declared.Answer.TheVariants.{Settled, Refused}
use Rattle.connection.specs.declared.Refusal.TheVariants.{ChannelClosed}
use Rattle.call.specs.declared.Reply.{Reply}
use Rattle.connection.specs.Calls.{Lent, Outcome, dropped, policy, is_there, slot_for, ack_frames, settled_as, settle_step}
use Rattle.connection.specs.Frames.{frames_bytes}
use Rattle.call.specs.Promise.{lent_of, agreed_in, Leaves}
use Rattle.call.proofs.FrameLaws.{ack-short}
use Rattle.call.proofs.LeaveLaws.{did-begun, did_then, did-stops, stops-leaves}

module _ (state rx store : List ℕ) (h : Header) (i : h ≡ dropped (state_of state).header) (ch : ChannelId) (e : is_there (lent_of state rx store) ch ≡ true) where
  abbrev lent : Lent
  lent = lent_of state rx store

  abbrev head : Header
  head = dropped (state_of state).header

  pub settle-leaves : (out : List ℕ) (s : ChannelSlot) (p : RxPolicy) (want : ℕ) (t : SettledSlot) (r : Reply) (end : ℕ) (out' state₁ : List ℕ) → 56 ≤ length out
      → s ≡ slot_for lent ch → p ≡ policy_of h.negotiated → t ≡ settled_of s p want → Puts out 0 (frames_bytes h.negotiated (ack_frames t.slot t.ack)) end out'
      → state₁ ≡ put_header (put_slot state ch.slot t.slot) h → r ≡ record { answer = Settled t.ack; used = 0; written = end }
      → Leaves (agreed_in state) (settle_step lent ch want) 0 state out [] r state₁ rx store out' []
  unfolding settle_step settled_as
  settle-leaves out s p want t r end out' state₁ l a b d q k z =
      let n = agreed_in state in
      let v : t ≡ settled_of (slot_for lent ch) (policy lent) want =
      d ∙ ap (λ (x : ChannelSlot). settled_of x p want) a
      ∙ ap (λ (x : RxPolicy). settled_of (slot_for lent ch) x want) (b ∙ ap (λ (x : Header). policy_of x.negotiated) i) in
      let q₁ : Puts out 0 (frames_bytes n (ack_frames t.slot t.ack)) end out' =
      subst (λ (x : Header). Puts out 0 (frames_bytes x.negotiated (ack_frames t.slot t.ack)) end out') i q in
      let c = ack-short n t.slot t.ack in
      let w = did-begun n 0 state out head lent (omega arith) in
      let w₁ = did_then n 0 state out _ _ _ _ _ _ w (slot_to ch.slot t.slot ∷ []) (ack_frames t.slot t.ack) (put_slot state ch.slot t.slot) out' end refl q₁ (omega arith) in
      subst (λ (x : Outcome). Leaves n x 0 state out [] r state₁ rx store out' []) (ap (settled_as lent ch) v ∙ sym (cond-true (is_there lent ch) _ _ e))
      (did-stops n 0 state out _ _ _ _ _ _ w₁ [] state₁ h (Settled t.ack) 0 r i k z)

-- ---- not there

module _ (state rx store : List ℕ) (h : Header) (i : h ≡ dropped (state_of state).header) (ch : ChannelId) (e : is_there (lent_of state rx store) ch ≡ false) where
  pub settle-refuses : (out : List ℕ) (want : ℕ) (r : Reply) (state₁ : List ℕ) → state₁ ≡ put_header state h → r ≡ record { answer = Refused ChannelClosed; used = 0; written = 0 }
      → Leaves (agreed_in state) (settle_step (lent_of state rx store) ch want) 0 state out [] r state₁ rx store out []
  unfolding settle_step
  settle-refuses out want r state₁ k z =
      stops-leaves state rx store h i out [] _ (Refused ChannelClosed) 0 r state₁ (cond-false (is_there (lent_of state rx store) ch) _ _ e) k z
