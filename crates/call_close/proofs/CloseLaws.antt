-- What closing a channel leaves. Assumes nothing.
use mathlib.Core.Path.{◌≡◌, sym, ap, subst, ◌∙◌}
use mathlib.Core.Bool.{true, ◌&&◌}
use mathlib.Core.List.{List, [], ◌∷◌}
use Prim.Native.Nat.{ℕ, ◌<◌}
use native.Mathlib.Omega.{arith}
use lib.ListN.{length}
use Rattle.protocol.specs.Packet.{Puts}
use Rattle.slot.specs.declared.ChannelSlot.{ChannelSlot}
use Rattle.slot.specs.declared.ids.ChannelIds.{ChannelIds}
use Rattle.slot.specs.Slot.{emptied_slot}
use Rattle.slot.proofs.Laws.{cond-true, cond-false}
use Rattle.state.specs.declared.Header.{Header}
use Rattle.state.specs.Change.{slot_to}
use Rattle.state_whole.proofs.ValidLaws.{and-goes, and-stops}
use Rattle.state.specs.State.{state_of, put_slot, put_header}
use Rattle.table.specs.declared.ChannelId.{ChannelId}
use Rattle.connection.specs.declared.Answer.TheVariants.{Done, Refused}
use Rattle.connection.specs.declared.Refusal.TheVariants.{ChannelClosed}
use Rattle.call.specs.declared.Reply.{Reply}
use Rattle.connection.specs.Calls.{Lent, Outcome, dropped, ids_in, is_there, slot_for, close_step}
use Rattle.connection.specs.Frames.{close_frame, frame_bytes, frames_bytes}
use Rattle.call.specs.Promise.{lent_of, agreed_in, found_in, Leaves, AdmitsState}
use Rattle.call.proofs.FrameLaws.{close-short, one-frame, puts_one}
use Rattle.call.proofs.LeaveLaws.{did-begun, did_then, did-stops, stops-leaves}
use Rattle.call.proofs.ThereLaws.{found_none, found-there, found-slot, place-fits, lives}
use Rattle.std.specs.Prelude.{Option, Some, None}

module _ (state rx store out : List ℕ) (h : Header) (i : h ≡ dropped (state_of state).header) (ch : ChannelId) (found : Option ChannelSlot)
    (e : found ≡ found_in h.negotiated.config.channels (state_of state).slots ch) where
  abbrev lent : Lent
  lent = lent_of state rx store

  -- it is not there
  pub close-refuses : (r : Reply) (state' : List ℕ) → found ≡ None → state' ≡ put_header state h → r ≡ record { answer = Refused ChannelClosed; used = 0; written = 0 }
      → Leaves (agreed_in state) (close_step lent ch) 0 state out [] r state' rx store out []
  unfolding close_step
  close-refuses r state' f s q =
      stops-leaves state rx store h i out [] _ (Refused ChannelClosed) 0 r state'
      (cond-false (is_there lent ch && (slot_for lent ch).has_remote) _ _ (sym (and-stops (is_there lent ch) _ (found_none state rx store h i ch found e f)))) s q

  module _ (g : AdmitsState state (length out)) (s : ChannelSlot) (f : found ≡ (Some s)) where
    there : is_there lent ch ≡ true
    there = found-there state rx store h i ch found e s f

    pub close-place : ch.slot < 64
    close-place = place-fits state rx store h i (length out) g ch there

    -- it has the device's number, as every channel in a whole state has
    joined : (is_there lent ch && (slot_for lent ch).has_remote) ≡ true
    joined = sym (and-goes (is_there lent ch) _ true there (sym (lives state rx store h i (length out) g ch there).remote))

    -- a CLSE is written, the slot is emptied
    pub close-leaves : (empty : ChannelSlot) (ids : ChannelIds) (r : Reply) (end : ℕ) (out' state₂ : List ℕ) → ids ≡ ids_in s
        → Puts out 0 (frame_bytes h.negotiated (close_frame ids)) end out' → empty ≡ emptied_slot s → state₂ ≡ put_header (put_slot state ch.slot empty) h
        → r ≡ record { answer = Done; used = 0; written = end } → Leaves (agreed_in state) (close_step lent ch) 0 state out [] r state₂ rx store out' []
    unfolding close_step
    close-leaves empty ids r end out' state₂ d p m k q =
        let n = agreed_in state in
        let hd = dropped (state_of state).header in
        let z : ids ≡ ids_in (slot_for lent ch) = d ∙ ap ids_in (found-slot state rx store h i ch found e s f) in
        let fr = close_frame (ids_in (slot_for lent ch)) in
        let p₁ : Puts out 0 (frames_bytes n (fr ∷ [])) end out' =
        puts_one n fr out out' 0 end
        (subst (λ (x : ChannelIds). Puts out 0 (frame_bytes n (close_frame x)) end out') z
        (subst (λ (x : Header). Puts out 0 (frame_bytes x.negotiated (close_frame ids)) end out') i p)) in
        let c = close-short n (ids_in (slot_for lent ch)) in
        let v = ap (λ (x : List ℕ). length x) (one-frame n fr) in
        let u = g.room in
        let w = did-begun n 0 state out hd lent (omega arith) in
        let w₁ = did_then n 0 state out _ _ _ _ _ _ w (slot_to ch.slot (emptied_slot (slot_for lent ch)) ∷ []) (fr ∷ []) (put_slot state ch.slot empty) out' end
        (ap (put_slot state ch.slot) (m ∙ ap emptied_slot (found-slot state rx store h i ch found e s f))) p₁ (omega arith) in
        subst (λ (x : Outcome). Leaves n x 0 state out [] r state₂ rx store out' []) (sym (cond-true (is_there lent ch && (slot_for lent ch).has_remote) _ _ joined))
        (did-stops n 0 state out _ _ _ _ _ _ w₁ [] state₂ h Done 0 r i k q)
