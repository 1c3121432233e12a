-- What taking the open that was queued first leaves. Assumes nothing.
use mathlib.Core.Path.{◌≡◌, refl, sym, ap, subst, ◌∙◌}
use mathlib.Core.Bool.{Bool, true, false}
use mathlib.Core.List.{List, [], ◌∷◌}
use Prim.Native.Nat.{ℕ, zero, suc, ◌*◌, ◌≤◌, ◌<◌}
use native.Mathlib.Nat.{mul-le-mul_right}
use native.Mathlib.Omega.{arith}
use lib.Dec.{T, eqb, leb}
use lib.ListN.{length, take, get_or}
use borrow.Author.Tests.{ltb-true, eqb-false}
use Rattle.config.proofs.Laws.{and-true}
use Rattle.incoming.specs.Incoming.{popped, QueueOk}
use Rattle.slot.proofs.Kept.{pick}
use Rattle.state.specs.declared.Header.{Header}
use Rattle.state.specs.declared.QueuedOpen.{QueuedOpen}
use Rattle.state.specs.Change.{put_all, Step, Steps}
use Rattle.le.specs.Rows.{flat}
use Rattle.state.specs.State.{none_queued, state_of, put_header}
use Rattle.state_whole.specs.Whole.{queued_fine, queue_fine}
use Rattle.state_whole.proofs.WholeLaws.{Whole}
use Rattle.connection.specs.declared.Answer.TheVariants.{Nothing, Front as FrontIs}
use Rattle.call.specs.declared.Reply.{Reply}
use Rattle.connection.specs.Calls.{Lent, Outcome, begun, ends, dropped, take_front_by, take_front_step}
use Rattle.connection.specs.Frames.{frames_bytes}
use Rattle.call.specs.Promise.{lent_of, agreed_in, Leaves, AdmitsState}
use Rattle.call.proofs.AdmitLaws.{admits-dropped}
use Rattle.call.proofs.FrameLaws.{puts_none}
use Rattle.call.proofs.LeaveLaws.{did-begun, did_then, did-stops, stops-leaves}
use Rattle.std.specs.Prelude.{Option, Some, None}

-- ---- the queue's front

first-share : (channels payload n : ℕ) (os : List QueuedOpen) → 1 ≤ n → 1 ≤ length os → queue_fine channels payload (take n os) ≡ true → (get_or os 0 none_queued).share < channels
unfolding queue_fine queued_fine
first-share channels payload zero os k l e = absurd (omega arith)
first-share channels payload (suc n) [] k l e = absurd (omega arith)
first-share channels payload (suc n) (q ∷ os) k l e =
    ltb-true q.share channels (and-true (leb q.length payload) _ (and-true (queued_fine channels payload q) _ e).0).1

-- its share is one of the store's
abbrev ShareBelow : ℕ → Option (QueuedOpen × Header) → Type 0
ShareBelow n (Some (q, less)) = q.share < n
ShareBelow n None = Unit {0}

-- where none is queued, nothing changes
abbrev Still : Step (Option (QueuedOpen × Header)) → Type 0
Still x = x.result ≡ None → x.changes ≡ []

abbrev is_none : Option (QueuedOpen × Header) → Bool
is_none (Some (q, less)) = false
is_none None = true

module _ (h : Header) (os : List QueuedOpen) where
  popped-below : (channels payload : ℕ) → length os ≡ 64 → queue_fine channels payload (take h.queued os) ≡ true → ShareBelow channels (popped h os).result
  unfolding popped
  popped-below channels payload l e =
      pick (λ (x : Step (Option (QueuedOpen × Header))). ShareBelow channels x.result) (eqb h.queued 0) (λ t. tt)
      (λ t. let k = eqb-false h.queued 0 t in first-share channels payload h.queued os (omega arith) (omega arith) e)

  popped-still : Still (popped h os)
  unfolding popped
  popped-still = pick Still (eqb h.queued 0) (λ t e. refl) (λ t e. absurd (subst (λ (x : Bool). T x) (sym (ap is_none e)) tt))

-- ---- what is left

module _ (state rx store : List ℕ) (h : Header) (i : h ≡ dropped (state_of state).header) (g : AdmitsState state 56) where
  abbrev lent : Lent
  lent = lent_of state rx store

  facts : Whole h.negotiated h (state_of state).slots (state_of state).queue
  facts = subst (λ (x : Header). Whole x.negotiated x (state_of state).slots (state_of state).queue) (sym i) (admits-dropped state 56 g)

  pub queue-ok : QueueOk h (length state)
  queue-ok = record { state-long = g.state-fits; most-channels = facts.limits.within.most-channels; queue-fits = facts.header.queue-fits }

  module _ (front : Option (QueuedOpen × Header)) (state₁ : List ℕ) (s : Steps (popped h (state_of state).queue) state front state₁) where
    -- its destination's place is a number of 64 bits
    pub front-place : (q : QueuedOpen) (less : Header) → front ≡ Some (q, less) → q.share * h.negotiated.config.max_payload ≤ 64 * 1_048_576
    front-place q less e =
        let b : q.share < h.negotiated.config.channels =
        subst (ShareBelow h.negotiated.config.channels) (sym s.result-is ∙ e)
        (popped-below h (state_of state).queue h.negotiated.config.channels h.negotiated.config.max_payload facts.queue.full facts.queue.fine) in
        let c = facts.limits.within.most-channels in
        let p = facts.limits.within.most-payload in
        let m : q.share * h.negotiated.config.max_payload ≤ 64 * h.negotiated.config.max_payload = mul-le-mul_right h.negotiated.config.max_payload (omega arith) in
        omega arith

    told : (x : Option (QueuedOpen × Header)) → front ≡ x → (popped h (state_of state).queue).result ≡ x
    told x e = sym s.result-is ∙ e

    step_is : (x : Option (QueuedOpen × Header)) → front ≡ x → take_front_step lent ≡ take_front_by lent h (popped h (state_of state).queue).changes x
    unfolding take_front_step
    step_is x e =
        ap (λ (y : Header). take_front_by lent y (popped y (state_of state).queue).changes (popped y (state_of state).queue).result) (sym i)
        ∙ ap (take_front_by lent h (popped h (state_of state).queue).changes) (told x e)

    -- none is queued
    pub front-none : (r : Reply) (state₂ : List ℕ) → front ≡ None → state₂ ≡ put_header state₁ h → r ≡ record { answer = Nothing; used = 0; written = 0 }
        → Leaves (agreed_in state) (take_front_step lent) 0 state [] [] r state₂ rx store [] []
    unfolding take_front_by
    front-none r state₂ e p q =
        let z : state₁ ≡ state = s.state-is ∙ ap (put_all state) (popped-still h (state_of state).queue (told None e)) in
        stops-leaves state rx store h i [] [] (take_front_step lent) Nothing 0 r state₂
        (step_is None e ∙ ap (λ (x : Header). ends (begun x lent) Nothing 0 []) i) (p ∙ ap (λ (x : List ℕ). put_header x h) z) q

    -- the first is taken, the others have moved up
    pub front-some : (q : QueuedOpen) (less : Header) (r : Reply) (state₂ : List ℕ) → front ≡ Some (q, less) → state₂ ≡ put_header state₁ less
        → r ≡ record { answer = FrontIs q.remote q.credit (q.share * h.negotiated.config.max_payload) q.length; used = 0; written = 0 }
        → Leaves (agreed_in state) (take_front_step lent) 0 state [] [] r state₂ rx store [] []
    unfolding take_front_by frames_bytes flat
    front-some q less r state₂ e p k =
        let n = agreed_in state in
        let xs = (popped h (state_of state).queue).changes in
        let w = did-begun n 0 state [] less lent (omega arith) in
        let w₁ = did_then n 0 state [] _ _ _ _ _ _ w xs [] state₁ [] 0 s.state-is (puts_none n [] 0) (omega arith) in
        subst (λ (x : Outcome). Leaves n x 0 state [] [] r state₂ rx store [] []) (sym (step_is (Some (q, less)) e))
        (did-stops n 0 state [] _ _ _ _ _ _ w₁ [] state₂ less _ 0 r refl p k)
