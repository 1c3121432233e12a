-- What letting the open go that is offered leaves. Assumes nothing.
use mathlib.Core.Path.{◌≡◌, sym, ap, subst, ◌∙◌}
use mathlib.Core.Bool.{Bool, true, false}
use mathlib.Core.List.{List, []}
use Prim.Native.Nat.{ℕ, ◌<◌}
use native.Mathlib.Omega.{arith}
use lib.ListN.{length}
use Rattle.incoming.specs.Incoming.{FrontRoom, returned}
use Rattle.slot.proofs.Laws.{cond-true, cond-false}
use Rattle.state.specs.declared.Header.{Header}
use Rattle.state.specs.declared.QueuedOpen.{QueuedOpen}
use Rattle.state.specs.Change.{Step, Steps}
use Rattle.le.specs.Rows.{flat}
use Rattle.state.specs.State.{is_offer, state_of, queued_at, put_header}
use Rattle.connection.specs.declared.Answer.TheVariants.{Done, Nothing}
use Rattle.connection.specs.Calls.{Lent, Outcome, begun, then, ends, dropped, is_offered, let_go_step}
use Rattle.connection.specs.Frames.{frames_bytes}
use Rattle.call.specs.declared.Reply.{Reply}
use Rattle.call.specs.Promise.{lent_of, agreed_in, Leaves, AdmitsState}
use Rattle.call.proofs.FrameLaws.{puts_none}
use Rattle.call.proofs.LeaveLaws.{did-begun, did_then, did-stops}
use Rattle.call_reject.proofs.OfferLaws.{offered-is, offer-place, offer-is, none-leaves}

module _ (state rx store : List ℕ) (h : Header) (i : h ≡ (state_of state).header) (g : AdmitsState state 56) (r : Reply) (state' : List ℕ) (u : Bool) (e : u ≡ is_offer h.pending.what)
    (later : Header) (m : later ≡ dropped h) where
  abbrev lent : Lent
  lent = lent_of state rx store

  -- there is room for it
  pub back-room : u ≡ true → FrontRoom later (length state)
  back-room f = record { state-long = g.state-fits; room = subst (λ (x : Header). x.queued < 64) (sym m) (offer-place state rx store [] h i 56 g u e f) }

  -- it is the first again
  pub goes_back : (q : QueuedOpen) (more : Header) (state₁ : List ℕ) → u ≡ true → q ≡ queued_at state h.queued → Steps (returned later (state_of state).queue q) state more state₁
      → state' ≡ put_header state₁ more → r ≡ record { answer = Done; used = 0; written = 0 } → Leaves (agreed_in state) (let_go_step lent) 0 state [] [] r state' rx store [] []
  unfolding let_go_step frames_bytes flat
  goes_back q more state₁ f d s p k =
      let n = agreed_in state in
      let z : later ≡ dropped (state_of state).header = m ∙ ap dropped i in
      let o = offer-is state rx store [] h i 56 g u e f q d in
      let B : Step Header → Type 0 = λ x. Leaves n (ends (then (begun x.result lent) x.changes []) Done 0 []) 0 state [] [] r state' rx store [] [] in
      let back = returned later (state_of state).queue q in
      let w = did-begun n 0 state [] back.result lent (omega arith) in
      let w₁ = did_then n 0 state [] _ _ _ _ _ _ w back.changes [] state₁ [] 0 s.state-is (puts_none n [] 0) (omega arith) in
      subst (λ (x : Outcome). Leaves n x 0 state [] [] r state' rx store [] []) (sym (cond-true (is_offered lent) _ _ (offered-is state rx store [] h i 56 g true u e f)))
      (subst (λ (x : QueuedOpen). B (returned (dropped (state_of state).header) (state_of state).queue x)) o
      (subst (λ (x : Header). B (returned x (state_of state).queue q)) z
      (did-stops n 0 state [] _ _ _ _ _ _ w₁ [] state' more Done 0 r s.result-is p k)))

  -- none is offered
  pub goes_none : u ≡ false → r ≡ record { answer = Nothing; used = 0; written = 0 } → state' ≡ put_header state later
      → Leaves (agreed_in state) (let_go_step lent) 0 state [] [] r state' rx store [] []
  unfolding let_go_step
  goes_none f k s =
      subst (λ (x : Outcome). Leaves (agreed_in state) x 0 state [] [] r state' rx store [] []) (sym (cond-false (is_offered lent) _ _ (offered-is state rx store [] h i 56 g false u e f)))
      (none-leaves state rx store [] h i 56 g later r state' m k s)
