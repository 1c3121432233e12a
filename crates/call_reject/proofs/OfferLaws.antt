-- The open that is offered, and what refusing it leaves. Assumes nothing.
use mathlib.Core.Path.{◌≡◌, refl, sym, ap, subst, ◌∙◌}
use mathlib.Core.Bool.{Bool, true, false}
use mathlib.Core.List.{List, [], ◌∷◌}
use Prim.Native.Nat.{ℕ, ◌+◌, ◌≤◌, ◌<◌}
use native.Mathlib.Omega.{arith}
use lib.ListN.{length}
use Rattle.protocol.specs.Packet.{Puts}
use Rattle.protocol.specs.Message.{message_size}
use Rattle.slot.specs.declared.ids.RemoteId.{RemoteId}
use Rattle.slot.proofs.Laws.{cond-true, cond-false}
use Rattle.state.specs.declared.Header.{Header}
use Rattle.state.specs.declared.QueuedOpen.{QueuedOpen}
use Rattle.state.specs.State.{is_offer, none_queued, state_of, queued_at, put_header}
use Rattle.state.proofs.StateLaws.{open_in}
use Rattle.connection.specs.declared.Answer.{Answer}
use Rattle.connection.specs.declared.Answer.TheVariants.{Done, Nothing}
use Rattle.connection.specs.Calls.{Lent, Outcome, dropped, offer_in, is_offered, not_offered, reject_on, reject_step}
use Rattle.connection.specs.Frames.{close_frame, frame_bytes}
use Rattle.call.specs.declared.Reply.{Reply}
use Rattle.call.specs.Promise.{lent_of, agreed_in, Leaves, AdmitsState}
use Rattle.call_reject.specs.Promise.{OfferRoom, offered_in}
use Rattle.slot.proofs.Kept.{pick}
use Rattle.std.specs.Option.{unwrap_or}
use Rattle.std.specs.Prelude.{is_some, Option, Some, None}
use Rattle.call.proofs.AdmitLaws.{admits-facts}
use Rattle.call.proofs.FrameLaws.{close-short, one-frame, puts_one}
use Rattle.call.proofs.LeaveLaws.{did-begun, did-frames, did-stops, stops-leaves}

-- a CLSE is written at a place, and the header stored
pub reject-leaves : (state out : List ℕ) (at : ℕ) (h : Header) (remote : RemoteId) (answer : Answer) (r : Reply) (end : ℕ) (out' state' : List ℕ)
    → at + message_size ≤ length out → Puts out at (frame_bytes h.negotiated (close_frame (record { local = record { 0 = 0 }; remote = remote }))) end out' → state' ≡ put_header state h
    → r ≡ record { answer = answer; used = 0; written = end } → (rx store : List ℕ)
    → Leaves h.negotiated (reject_on (lent_of state rx store) h remote answer) at state out [] r state' rx store out' []
unfolding reject_on
reject-leaves state out at h remote answer r end out' state' k p s q rx store =
    let n = h.negotiated in
    let f = close_frame (record { local = record { 0 = 0 }; remote = remote }) in
    let c = close-short n (record { local = record { 0 = 0 }; remote = remote }) in
    let v = ap (λ (x : List ℕ). length x) (one-frame n f) in
    let w = did-begun n at state out h (lent_of state rx store) (omega arith) in
    let w₁ = did-frames n at state out _ _ _ _ _ _ w (f ∷ []) out' end (puts_one n f out out' at end p) (omega arith) in
    did-stops n at state out _ _ _ _ _ _ w₁ [] state' h answer 0 r refl s q

-- ---- what was found

module _ (state : List ℕ) (h : Header) (found : Option QueuedOpen) (e : found ≡ offered_in state h) where
  found-is : is_some found ≡ is_offer h.pending.what
  unfolding offered_in
  found-is = ap is_some e ∙ pick (λ (x : Option QueuedOpen). is_some x ≡ is_offer h.pending.what) (is_offer h.pending.what) (λ t. sym t) (λ t. sym t)

  pub found-offer : (q : QueuedOpen) → found ≡ Some q → is_offer h.pending.what ≡ true
  found-offer q f = sym found-is ∙ ap is_some f

  pub found-entry : (q : QueuedOpen) → found ≡ Some q → q ≡ queued_at state h.queued
  unfolding offered_in
  found-entry q f = ap (λ x. unwrap_or x none_queued) (sym f ∙ e ∙ cond-true (is_offer h.pending.what) _ _ (found-offer q f))

  pub found-none : found ≡ None → is_offer h.pending.what ≡ false
  found-none f = sym found-is ∙ ap is_some f

module _ (state rx store out : List ℕ) (h : Header) (i : h ≡ (state_of state).header) (size : ℕ) (g : AdmitsState state size) where
  abbrev lent : Lent
  lent = lent_of state rx store

  -- whether one is offered
  pub offered-is : (t u : Bool) → u ≡ is_offer h.pending.what → u ≡ t → is_offered lent ≡ t
  offered-is t u e f = sym (ap (λ (x : Header). is_offer x.pending.what) i) ∙ sym e ∙ f

  module _ (u : Bool) (e : u ≡ is_offer h.pending.what) (f : u ≡ true) where
    -- its entry is one of the 64
    pub offer-place : h.queued < 64
    offer-place =
        let k = admits-facts state size g in
        let room = (k.offer (offered-is true u e f)).room in
        let most = k.limits.within.most-channels in
        let z = ap (λ (x : Header). x.queued) i in
        omega arith

    pub offer-is : (q : QueuedOpen) → q ≡ queued_at state h.queued → q ≡ offer_in lent
    offer-is q d =
        d ∙ sym (open_in state h.queued none_queued offer-place) ∙ ap (λ (x : Header). offer_in (record { state = record { header = x; slots = (state_of state).slots; queue = (state_of state).queue }; rx = rx; store = store })) i

  -- what looking for it asks
  pub offer-room : OfferRoom state h
  offer-room = record { place = λ t. offer-place (is_offer h.pending.what) refl t; state-fits = g.state-fits }

  -- none is
  pub none-leaves : (later : Header) (r : Reply) (state' : List ℕ) → later ≡ dropped h → r ≡ record { answer = Nothing; used = 0; written = 0 } → state' ≡ put_header state later
      → Leaves (agreed_in state) (not_offered lent) 0 state out [] r state' rx store out []
  none-leaves later r state' d q s = stops-leaves state rx store later (d ∙ ap dropped i) out [] _ Nothing 0 r state' refl s q

  -- ---- reject

  module _ (r : Reply) (state' out' : List ℕ) (u : Bool) (e : u ≡ is_offer h.pending.what) where
    pub rejects : (q : QueuedOpen) (later : Header) → u ≡ true → q ≡ queued_at state h.queued → later ≡ dropped h
        → ((rx store : List ℕ) → Leaves later.negotiated (reject_on (lent_of state rx store) later q.remote Done) 0 state out [] r state' rx store out' [])
        → Leaves (agreed_in state) (reject_step lent) 0 state out [] r state' rx store out' []
    unfolding reject_step
    rejects q later f d m k =
        let z : later ≡ dropped (state_of state).header = m ∙ ap dropped i in
        let o = offer-is u e f q d in
        subst (λ (x : Outcome). Leaves (agreed_in state) x 0 state out [] r state' rx store out' []) (sym (cond-true (is_offered lent) _ _ (offered-is true u e f)))
        (subst (λ (x : QueuedOpen). Leaves (agreed_in state) (reject_on lent (dropped (state_of state).header) x.remote Done) 0 state out [] r state' rx store out' []) o
        (subst (λ (x : Header). Leaves x.negotiated (reject_on lent x q.remote Done) 0 state out [] r state' rx store out' []) z (k rx store)))

    pub rejects-none : (later : Header) → u ≡ false → later ≡ dropped h → r ≡ record { answer = Nothing; used = 0; written = 0 } → state' ≡ put_header state later → out' ≡ out
        → Leaves (agreed_in state) (reject_step lent) 0 state out [] r state' rx store out' []
    unfolding reject_step
    rejects-none later f m q s x =
        subst (λ (y : Outcome). Leaves (agreed_in state) y 0 state out [] r state' rx store out' []) (sym (cond-false (is_offered lent) _ _ (offered-is false u e f)))
        (subst (λ (y : List ℕ). Leaves (agreed_in state) (not_offered lent) 0 state out [] r state' rx store y []) (sym x) (none-leaves later r state' m q s))
