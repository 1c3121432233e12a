-- What the call for a channel's numbers leaves. Assumes nothing.
use mathlib.Core.Path.{◌≡◌, refl, sym, ap, subst, ◌∙◌}
use mathlib.Core.Bool.{Bool, true, false, cond}
use mathlib.Core.List.{List, []}
use Prim.Native.Nat.{ℕ, ◌≤◌}
use lib.ListN.{length}
use Rattle.le.specs.Le.{Bytes}
use Rattle.slot.specs.declared.ChannelSlot.{ChannelSlot}
use Rattle.state.specs.declared.Header.{Header}
use Rattle.state.specs.State.{state_len, state_of}
use Rattle.table.specs.declared.ChannelId.{ChannelId}
use Rattle.table.specs.Table.{there_in, slot_in}
use Rattle.connection.specs.declared.Answer.{Answer}
use Rattle.connection.specs.declared.Answer.TheVariants.{Refused}
use Rattle.connection.specs.declared.Refusal.TheVariants.{ChannelClosed}
use Rattle.connection.specs.Calls.{dropped, looked, is_there, slot_for, numbers_in, numbers_for, numbers_outcome}
use Rattle.call.specs.declared.Reply.{Reply}
use Rattle.call.specs.Promise.{lent_of, agreed_in, admitted, found_in}
use Rattle.call.proofs.AdmitLaws.{admits-state}
use Rattle.call.proofs.LeaveLaws.{Goes, goes-admits, looked-leaves}
use Rattle.call.proofs.ThereLaws.{looks}
use Rattle.call.proofs.WideLaws.{wide-goes, wide-leaves}
use Rattle.call_numbers.specs.Promise.{numbers_of, NumbersLeaves}
use Rattle.connection.specs.declared.Refusal.{Refusal}
use Rattle.std.specs.Prelude.{Option, Some, None, Result, Ok}

-- by what was found
abbrev answer_of : Option ChannelSlot → Answer
answer_of (Some s) = numbers_in s
answer_of None = Refused ChannelClosed

of-found : (n : ℕ) (ss : List ChannelSlot) (ch : ChannelId) → answer_of (found_in n ss ch) ≡ numbers_of n ss ch
unfolding found_in numbers_of
of-found n ss ch = by_cond (there_in n ss ch)
  where
    by_cond : (t : Bool) → answer_of (cond t (Some (slot_in ss ch.slot)) None) ≡ cond t (numbers_in (slot_in ss ch.slot)) (Refused ChannelClosed)
    by_cond true = refl
    by_cond false = refl

pub found-numbers : (n : ℕ) (ss : List ChannelSlot) (ch : ChannelId) (found x : Option ChannelSlot) → found ≡ found_in n ss ch → found ≡ x → answer_of x ≡ numbers_of n ss ch
found-numbers n ss ch found x e f = ap answer_of (sym f ∙ e) ∙ of-found n ss ch

module _ (state rx store : List ℕ) (h : Header) (a : Result Header Refusal) (e : a ≡ admitted state (length rx) (length store)) (f : a ≡ (Ok h)) where
  goes : Goes state rx store 56 h
  goes = wide-goes state rx store h a e f

  -- what looking asks
  pub look-room : Bytes state → (h.negotiated.config.channels ≤ 64) × (state_len ≤ length state)
  look-room y =
      subst (λ (x : Header). (x.negotiated.config.channels ≤ 64) × (state_len ≤ length state)) (sym goes.header)
      (looks state rx store (dropped (state_of state).header) refl 56 (admits-state (goes-admits state rx store 56 h goes y)))

  -- the answer is the definition's
  pub look-leaves : (ch : ChannelId) (said : Answer) (r : Reply) → said ≡ numbers_of h.negotiated.config.channels (state_of state).slots ch
      → r ≡ record { answer = said; used = 0; written = 0 } → NumbersLeaves state rx store ch r
  unfolding numbers_outcome numbers_for numbers_of is_there slot_for
  look-leaves ch said r k z =
      let l = lent_of state rx store in
      let m : said ≡ numbers_for l ch = k ∙ ap (λ (x : Header). numbers_of x.negotiated.config.channels (state_of state).slots ch) goes.header in
      wide-leaves state rx store (agreed_in state) h (looked l (numbers_for l ch)) [] [] r state rx store [] [] goes
      (looked-leaves (agreed_in state) l (numbers_for l ch) state [] [] r (z ∙ ap (λ (x : Answer). record { answer = x; used = 0; written = 0 }) m))
