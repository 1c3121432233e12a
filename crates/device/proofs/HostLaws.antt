-- What a call of the host's end leaves on the connection of a device's end. Assumes nothing.
use Rattle.std.proofs.Common.{◌≡◌, refl, sym, subst, ◌∙◌, Bool, true, false, List, ◌++◌, ℕ, length, take, drop, None, Result, Err}
use Rattle.slot.proofs.Laws.{cond-true, cond-false}
use Rattle.state.specs.declared.Header.{Header}
use Rattle.connection.specs.declared.Answer.TheVariants.{Done, Refused}
use Rattle.connection.specs.declared.Refusal.{Refusal}
use Rattle.connection.specs.declared.Refusal.TheVariants.{BrokenState}
use Rattle.connection.specs.Calls.{Outcome}
use Rattle.call.specs.declared.Reply.{Reply}
use Rattle.call.specs.Promise.{agreed_in, Leaves}
use Rattle.device.specs.declared.DeviceReply.{DeviceReply}
use Rattle.device.specs.Device.{inner_at, head_fine, head_of, inner_of, device_admitted, plain, Gives, behind, called, unchanged, admitted_call, host_gives}
use Rattle.device.specs.Promise.{DeviceLeaves}
use Rattle.device.proofs.CalledLaws.{called-leaves}
use Rattle.device.proofs.MeetLaws.{call-refused}

-- o: what the host's call gives on a connection's bytes; t: what the test ahead of it said
module _ (b rx store out buf : List ℕ) (o : List ℕ → Outcome) (t : Bool) (e : t ≡ head_fine b) where
  abbrev gives : Gives
  gives = host_gives b rx store (o (inner_of b))

  -- refused by it: nothing changes
  pub host-refused : (r : Reply) (res : DeviceReply) → t ≡ false → r ≡ record { answer = Refused BrokenState; used = 0; written = 0 } → res ≡ plain r
      → DeviceLeaves gives out buf res b rx store out buf
  unfolding device_admitted admitted_call host_gives
  host-refused r res f q s =
      let x : head_fine b ≡ false = sym e ∙ f in
      let any : Header → Gives = λ h. unchanged b rx store Done in
      let a : device_admitted b (length rx) (length store) (length out) ≡ Err BrokenState = cond-false (head_fine b) _ _ x in
      subst (λ (y : Gives). DeviceLeaves y out buf res b rx store out buf) (sym (cond-false (head_fine b) _ _ x))
      (subst (λ (y : Result Header Refusal). DeviceLeaves (admitted_call b rx store y any) out buf res b rx store out buf) a
      (call-refused b rx store out buf any _ refl BrokenState r res a q s))

  -- let through: head and inner are the parts that were lent, inner' the second as the host's call left it
  pub host-leaves : (r : Reply) (res : DeviceReply) (head inner inner' rx' store' out' buf' : List ℕ) → t ≡ true → head ≡ take inner_at b → inner ≡ drop inner_at b
      → Leaves (agreed_in inner) (o inner) 0 inner out buf r inner' rx' store' out' buf' → res ≡ plain r → DeviceLeaves gives out buf res (head ++ inner') rx' store' out' buf'
  unfolding head_of inner_of called behind host_gives
  host-leaves r res head inner inner' rx' store' out' buf' f h i l s =
      subst (λ (y : Gives). DeviceLeaves y out buf res (head ++ inner') rx' store' out' buf') (sym (cond-true (head_fine b) _ _ (sym e ∙ f)))
      (rw (← h, ← i)
      (called-leaves inner rx store out buf (o inner) r inner' rx' store' out' buf' l Done res inner' out' head (head ++ inner') refl None (record { reply-is = s; state-is = refl; out-is = refl })))
