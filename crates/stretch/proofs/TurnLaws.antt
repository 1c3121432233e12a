-- One packet dispatched: what it leaves, and that the stores' bytes do not matter. Assumes nothing.
use mathlib.Core.Path.{◌≡◌, refl, sym, ap, subst, ◌∙◌}
use mathlib.Core.Bool.{Bool, true}
use mathlib.Core.List.{List, []}
use Prim.Native.Nat.{ℕ, ◌+◌, ◌-◌, ◌≤◌}
use native.Mathlib.Omega.{arith}
use lib.Dec.{eqb}
use lib.ListN.{length, take, drop, length-drop}
use lib.Seq.{take_all}
use borrow.Author.Tests.{eqb-true}
use Rattle.le.specs.Le.{Bytes}
use Rattle.state.specs.Change.{put_all}
use Rattle.state.specs.State.{state_of}
use Rattle.state_whole.specs.Whole.{is_whole}
use Rattle.connection.specs.Answer.{answer_number}
use Rattle.connection.specs.Calls.{dispatch_outcome}
use Rattle.connection.proofs.Stores.{Same, dispatch-same, Sound, dispatch-lasting, used-within}
use Rattle.call.specs.Promise.{lent_of, agreed_in, Leaves}
use Rattle.call.specs.declared.Reply.{Reply}
use Rattle.call_dispatch.specs.Promise.{DispatchLeaves}
use Rattle.stretch.specs.declared.Turn.{Turn}
use Rattle.stretch.specs.Stretch.{World, world_of, dispatched, turn_of, after, is_done, Turns}

-- what `dispatch` left, told as a turn
pub turn-leaves : (state rx store received out : List ℕ) (r : Reply) (number : ℕ) (state₂ rx₂ store₂ out₂ : List ℕ) → length out ≡ 56
    → DispatchLeaves state rx store received out r state₂ rx₂ store₂ out₂ → number ≡ answer_number r.answer
    → Turns (world_of state rx store) received (record { number = number; used = r.used }) state₂ rx₂ store₂
unfolding turn_of after dispatched
turn-leaves state rx store received out r number state₂ rx₂ store₂ out₂ e g f =
    let k : Leaves (agreed_in state) (dispatch_outcome (is_whole state) (lent_of state rx store) 56 received) 0 state out [] r state₂ rx₂ store₂ out₂ [] =
    subst (λ (n : ℕ). Leaves (agreed_in state) (dispatch_outcome (is_whole state) (lent_of state rx store) n received) 0 state out [] r state₂ rx₂ store₂ out₂ []) e g in
    let o = dispatch_outcome (is_whole state) (lent_of state rx store) 56 received in
    record {
      turn_is = ap (λ (x : ℕ). record { number = x; used = r.used }) (f ∙ ap answer_number k.answer-is)
          ∙ ap (λ (x : ℕ). record { number = answer_number o.answer; used = x }) k.used-is;
      state-is = k.state-is;
      rx-is = k.rx-is;
      store_is = k.store_is;
    }

-- the same where it was lent `received[at..]`
pub turn-rest : (w : World) (received : List ℕ) (at : ℕ) (r : Turn) (state₂ rx₂ store₂ : List ℕ)
    → Turns w (take (length received - at) (drop at received)) r state₂ rx₂ store₂ → Turns w (drop at received) r state₂ rx₂ store₂
turn-rest w received at r state₂ rx₂ store₂ t =
    subst (λ (l : List ℕ). Turns w l r state₂ rx₂ store₂) (take_all (length received - at) (drop at received) (omega (arith, length-drop at received))) t

-- ---- what a run depends on

-- the same state, stores of the same lengths
pub record Like (w v : World) : Type 0 where
  pub state : w.state ≡ v.state
  pub rx : length w.rx ≡ length v.rx
  pub store : length w.store ≡ length v.store

pub like-refl : (w : World) → Like w w
like-refl w = record { state = refl; rx = refl; store = refl }

module _ (w v : World) (k : Like w v) (received : List ℕ) where
  same : Same (dispatched w received) (dispatched v received)
  unfolding dispatched
  same =
      let s = dispatch-same (lent_of w.state w.rx w.store) (lent_of v.state v.rx v.store) (ap state_of k.state) k.rx k.store in
      subst (λ (t : Bool). Same (dispatch_outcome (is_whole w.state) (lent_of w.state w.rx w.store) 56 received) (dispatch_outcome t (lent_of v.state v.rx v.store) 56 received))
      (ap is_whole k.state) (s (is_whole w.state) 56 received)

  pub like-turn : turn_of w received ≡ turn_of v received
  unfolding turn_of
  like-turn =
      ap (λ (x : ℕ). record { number = x; used = (dispatched w received).used }) (ap answer_number same.answer)
      ∙ ap (λ (x : ℕ). record { number = answer_number (dispatched v received).answer; used = x }) same.used

  pub like-done : is_done w received ≡ is_done v received
  unfolding is_done
  like-done = ap (λ (t : Turn). eqb t.number 0) like-turn

  module _ (y : Sound w.state) (z : Bytes received) where
    pub like-after : Like (after w received) (after v received)
    unfolding after dispatched
    like-after =
        let a = dispatch-lasting w.state w.rx w.store 56 received y z in
        let b = dispatch-lasting v.state v.rx v.store 56 received (subst Sound k.state y) z in
        record {
          state = ap (λ (x : List ℕ). put_all x (dispatched w received).changes) k.state ∙ ap (put_all v.state) same.changes;
          rx = a.rx-length ∙ k.rx ∙ sym b.rx-length;
          store = a.store_length ∙ k.store ∙ sym b.store_length;
        }

    pub sound-after : Sound (after w received).state
    unfolding after dispatched
    sound-after = (dispatch-lasting w.state w.rx w.store 56 received y z).sound

-- a frame that is done ends within the received bytes
pub used-inside : (w : World) (received : List ℕ) (at : ℕ) → at ≤ length received → is_done w (drop at received) ≡ true → at + (turn_of w (drop at received)).used ≤ length received
unfolding is_done turn_of dispatched
used-inside w received at h t =
    let u = used-within (lent_of w.state w.rx w.store) (drop at received) (is_whole w.state) 56 (eqb-true _ 0 t) in
    let n = length-drop at received in
    omega arith
