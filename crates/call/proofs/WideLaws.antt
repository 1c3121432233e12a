-- Calls that are lent no outgoing buffer: they are checked as with one of 56 bytes. Assumes nothing.
use mathlib.Core.Path.{◌≡◌, refl, sym, subst, ◌∙◌}
use mathlib.Core.List.{List}
use Prim.Native.Nat.{ℕ}
use lib.ListN.{length}
use Rattle.le.specs.Le.{Bytes}
use Rattle.config.specs.declared.negotiated.Negotiated.{Negotiated}
use Rattle.state.specs.declared.Header.{Header}
use Rattle.state_whole.specs.Whole.{is_whole}
use Rattle.connection.specs.declared.Answer.TheVariants.{Refused}
use Rattle.connection.specs.declared.Refusal.{Refusal}
use Rattle.call.specs.declared.Reply.{Reply}
use Rattle.connection.specs.Calls.{Outcome, dropped, checked}
use Rattle.call.specs.Promise.{lent_of, Leaves, Begins, admitted, admitted_out}
use Rattle.call.proofs.LeaveLaws.{refused-leaves, Goes, admitted-goes, begins-is, goes-leaves, checked-wide}
use Rattle.std.specs.Prelude.{Result, Ok, Err}

module _ (state rx store : List ℕ) where
  wide : admitted state (length rx) (length store) ≡ admitted_out state (length rx) (length store) 56
  unfolding admitted admitted_out
  wide = refl

  -- admitted: what is so then
  pub wide-goes : (h : Header) (a : Result Header Refusal) → a ≡ admitted state (length rx) (length store) → a ≡ Ok h → Goes state rx store 56 h
  wide-goes h a e f = admitted-goes state rx store 56 h a (e ∙ wide) f

  -- with what is pending dropped
  pub wide-begins : (h k : Header) (a : Result Header Refusal) → a ≡ admitted state (length rx) (length store) → a ≡ Ok h → Bytes state → k ≡ dropped h
      → Begins state rx store 56 k
  wide-begins h k a e f y i = begins-is state rx store 56 h k a (e ∙ wide) f y i

  module _ (n : Negotiated) where
    -- refused: nothing changes
    pub wide-refuses : (x : Refusal) (o : Outcome) (outs buf : List ℕ) (a : Result Header Refusal) (r : Reply) → a ≡ admitted state (length rx) (length store) → a ≡ Err x
        → r ≡ record { answer = Refused x; used = 0; written = 0 } → Leaves n (checked (is_whole state) (lent_of state rx store) o) 0 state outs buf r state rx store outs buf
    wide-refuses x o outs buf a r e f g =
        subst (λ (y : Outcome). Leaves n y 0 state outs buf r state rx store outs buf) (sym (checked-wide (is_whole state) (lent_of state rx store) o))
        (refused-leaves state rx store 56 n x o outs buf a r (e ∙ wide) f g)

    -- the step's promise is the call's
    pub wide-leaves : (h : Header) (o : Outcome) (outs buf : List ℕ) (r : Reply) (state' rx' store' out' buf' : List ℕ) → Goes state rx store 56 h
        → Leaves n o 0 state outs buf r state' rx' store' out' buf' → Leaves n (checked (is_whole state) (lent_of state rx store) o) 0 state outs buf r state' rx' store' out' buf'
    wide-leaves h o outs buf r state' rx' store' out' buf' g k =
        subst (λ (y : Outcome). Leaves n y 0 state outs buf r state' rx' store' out' buf') (sym (checked-wide (is_whole state) (lent_of state rx store) o))
        (goes-leaves state rx store 56 n h o outs buf r state' rx' store' out' buf' g k)
