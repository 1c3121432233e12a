-- What taking the open that is offered leaves. Assumes nothing.
use mathlib.Core.Path.{◌≡◌, sym, ap, subst, ◌∙◌}
use mathlib.Core.Bool.{Bool, true, false}
use mathlib.Core.List.{List, [], ◌∷◌}
use Prim.Native.Nat.{ℕ, ◌<◌}
use native.Mathlib.Omega.{arith}
use lib.Dec.{ltb}
use lib.ListN.{length}
use borrow.Author.Tests.{ltb-true}
use Rattle.config.specs.declared.negotiated.Negotiated.{Negotiated}
use Rattle.config.specs.Config.{Within}
use Rattle.config.specs.Negotiated.{policy_of, offered_credit}
use Rattle.protocol.specs.Packet.{Puts}
use Rattle.slot.specs.declared.ChannelSlot.{ChannelSlot}
use Rattle.slot.specs.declared.ids.ChannelIds.{ChannelIds}
use Rattle.slot.specs.declared.ids.RemoteId.{RemoteId}
use Rattle.slot.specs.Slot.{accepted_slot}
use Rattle.slot.proofs.Kept.{pick}
use Rattle.slot.proofs.Laws.{cond-true, cond-false}
use Rattle.state.specs.declared.Header.{Header}
use Rattle.state.specs.declared.QueuedOpen.{QueuedOpen}
use Rattle.state.specs.Change.{slot_to}
use Rattle.state.specs.State.{is_offer, state_of, queued_at, put_slot, put_header}
use Rattle.table.specs.declared.ChannelId.{ChannelId}
use Rattle.table.specs.declared.Want.TheVariants.{Empty}
use Rattle.table.specs.Table.{place_of, numbered, allocated}
use Rattle.connection.specs.declared.Answer.TheVariants.{Nothing, Opened, Refused}
use Rattle.connection.specs.declared.Refusal.TheVariants.{NoFreeChannels}
use Rattle.connection.specs.Calls.{Lent, Outcome, dropped, offer_in, is_offered, not_offered, reject_on, accept_on, accept_step}
use Rattle.connection.specs.Frames.{okay_frame, frame_bytes}
use Rattle.call.specs.declared.Reply.{Reply}
use Rattle.call.specs.Promise.{lent_of, agreed_in, Leaves, AdmitsState}
use Rattle.call.proofs.AdmitLaws.{admits-facts}
use Rattle.call.proofs.CallLaws.{allocated-dropped}
use Rattle.call.proofs.FrameLaws.{okay-short, one-frame, puts_one}
use Rattle.call.proofs.LeaveLaws.{did-begun, did_then, did-stops}
use Rattle.call_accept.specs.Promise.{AcceptRoom}
use Rattle.call_reject.proofs.OfferLaws.{offered-is, offer-is, none-leaves}
use Rattle.table.specs.declared.NoFreeChannels.{NoFreeChannels as NoFree}
use Rattle.std.specs.Prelude.{Result, Ok, Err}

-- a place that was allocated is one of the channels'
abbrev PlaceBelow : ℕ → Result ChannelId NoFree → Type 0
PlaceBelow n (Ok ch) = ch.slot < n
PlaceBelow n (Err _) = Unit {0}

place-below : (h : Header) (ss : List ChannelSlot) → PlaceBelow h.negotiated.config.channels (allocated h ss)
unfolding allocated
place-below h ss =
    let n = h.negotiated.config.channels in
    pick (PlaceBelow n) (ltb (place_of Empty n ss) n) (λ t. ltb-true (place_of Empty n ss) n t) (λ t. tt)

module _ (state out : List ℕ) (at : ℕ) (h : Header) (room : AcceptRoom state out at h) (remote : RemoteId) (credit : ℕ) (found : Result ChannelId NoFree) (e : found ≡ allocated h (state_of state).slots) where
  -- no slot is empty
  pub accept-full : (r : Reply) (state' out' : List ℕ) → found ≡ Err (record {})
      → ((rx store : List ℕ) → Leaves h.negotiated (reject_on (lent_of state rx store) h remote (Refused NoFreeChannels)) at state out [] r state' rx store out' [])
      → (rx store : List ℕ) → Leaves h.negotiated (accept_on (lent_of state rx store) h remote credit (allocated h (state_of state).slots)) at state out [] r state' rx store out' []
  unfolding accept_on
  accept-full r state' out' f k rx store =
      subst (λ (x : Result ChannelId NoFree). Leaves h.negotiated (accept_on (lent_of state rx store) h remote credit x) at state out [] r state' rx store out' []) (sym f ∙ e) (k rx store)

  module _ (ch : ChannelId) (f : found ≡ (Ok ch)) where
    pub accept-place : ch.slot < 64
    accept-place =
        let p : ch.slot < h.negotiated.config.channels = subst (PlaceBelow h.negotiated.config.channels) (sym e ∙ f) (place-below h (state_of state).slots) in
        let m = room.within.most-channels in
        omega arith

    -- the slot is filled and the OKAY written
    pub accept-fills : (taken : ChannelSlot) (len end : ℕ) (moved : Header) (r : Reply) (out' state' : List ℕ)
        → Puts out at (frame_bytes h.negotiated (okay_frame (record { local = ch.local; remote = remote }) len)) end out' → len ≡ offered_credit h.negotiated
        → taken ≡ accepted_slot (record { local = ch.local; remote = remote }) credit (policy_of h.negotiated) → moved ≡ numbered h → state' ≡ put_header (put_slot state ch.slot taken) moved
        → r ≡ record { answer = Opened ch; used = 0; written = end } → (rx store : List ℕ)
        → Leaves h.negotiated (accept_on (lent_of state rx store) h remote credit (allocated h (state_of state).slots)) at state out [] r state' rx store out' []
    unfolding accept_on
    accept-fills taken len end moved r out' state' p c t m s q rx store =
        let n = h.negotiated in
        let l = lent_of state rx store in
        let ids : ChannelIds = record { local = ch.local; remote = remote } in
        let fr = okay_frame ids (offered_credit n) in
        let t₁ : taken ≡ accepted_slot ids credit (policy_of (agreed_in state)) = t ∙ ap (λ (x : Negotiated). accepted_slot ids credit (policy_of x)) room.agreed in
        let p₁ : Puts out at (frame_bytes n fr) end out' = subst (λ (x : ℕ). Puts out at (frame_bytes n (okay_frame ids x)) end out') c p in
        let z = okay-short n ids (offered_credit n) in
        let v = ap (λ (x : List ℕ). length x) (one-frame n fr) in
        let u = room.room in
        let w = did-begun n at state out (numbered h) l (omega arith) in
        let w₁ = did_then n at state out _ _ _ _ _ _ w (slot_to ch.slot (accepted_slot ids credit (policy_of (agreed_in state))) ∷ []) (fr ∷ []) (put_slot state ch.slot taken) out' end
        (ap (put_slot state ch.slot) t₁) (puts_one n fr out out' at end p₁) (omega arith) in
        subst (λ (x : Result ChannelId NoFree). Leaves n (accept_on l h remote credit x) at state out [] r state' rx store out' []) (sym f ∙ e)
        (did-stops n at state out _ _ _ _ _ _ w₁ [] state' moved (Opened ch) 0 r m s q)

-- ---- the step

-- what `accept_on` asks, of a header with the state's negotiated values
pub step_room : (state rx store out : List ℕ) (h : Header) → h ≡ (state_of state).header → AdmitsState state (length out) → (later : Header) → later.negotiated ≡ h.negotiated
    → AcceptRoom state out 0 later
step_room state rx store out h i g later e =
    let k = g.room in
    let n : later.negotiated ≡ agreed_in state = e ∙ ap (λ (x : Header). x.negotiated) i in
    record {
      agreed = n;
      within = subst (λ (x : Negotiated). Within x.config) (sym n) (admits-facts state (length out) g).limits.within;
      state-long = g.state-fits;
      room = omega arith;
    }

module _ (state rx store out : List ℕ) (h : Header) (i : h ≡ (state_of state).header) (g : AdmitsState state (length out)) (later : Header) (m : later ≡ dropped h) where
  abbrev lent : Lent
  lent = lent_of state rx store

  dropped-is : later ≡ dropped (state_of state).header
  dropped-is = m ∙ ap dropped i

  module _ (r : Reply) (state' out' : List ℕ) (u : Bool) (e : u ≡ is_offer h.pending.what) where
    pub accepts : (q : QueuedOpen) → u ≡ true → q ≡ queued_at state h.queued
        → ((rx store : List ℕ) → Leaves later.negotiated (accept_on (lent_of state rx store) later q.remote q.credit (allocated later (state_of state).slots)) 0 state out [] r state' rx store out' [])
        → Leaves (agreed_in state) (accept_step lent) 0 state out [] r state' rx store out' []
    unfolding accept_step
    accepts q f d k =
        let hd = dropped (state_of state).header in
        let o = offer-is state rx store out h i (length out) g u e f q d in
        subst (λ (x : Outcome). Leaves (agreed_in state) x 0 state out [] r state' rx store out' []) (sym (cond-true (is_offered lent) _ _ (offered-is state rx store out h i (length out) g true u e f)))
        (subst (λ (x : Result ChannelId NoFree). Leaves (agreed_in state) (accept_on lent hd (offer_in lent).remote (offer_in lent).credit x) 0 state out [] r state' rx store out' []) (allocated-dropped (state_of state).header (state_of state).slots)
        (subst (λ (x : QueuedOpen). Leaves (agreed_in state) (accept_on lent hd x.remote x.credit (allocated hd (state_of state).slots)) 0 state out [] r state' rx store out' []) o
        (subst (λ (x : Header). Leaves x.negotiated (accept_on lent x q.remote q.credit (allocated x (state_of state).slots)) 0 state out [] r state' rx store out' []) dropped-is (k rx store))))

    pub accepts-none : u ≡ false → r ≡ record { answer = Nothing; used = 0; written = 0 } → state' ≡ put_header state later → out' ≡ out
        → Leaves (agreed_in state) (accept_step lent) 0 state out [] r state' rx store out' []
    unfolding accept_step
    accepts-none f q s x =
        subst (λ (y : Outcome). Leaves (agreed_in state) y 0 state out [] r state' rx store out' []) (sym (cond-false (is_offered lent) _ _ (offered-is state rx store out h i (length out) g false u e f)))
        (subst (λ (y : List ℕ). Leaves (agreed_in state) (not_offered lent) 0 state out [] r state' rx store y []) (sym x) (none-leaves state rx store out h i (length out) g later r state' m q s))
