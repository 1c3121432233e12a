use mathlib.Core.Path.{◌≡◌, refl, ◌∙◌}
use Rattle.state.specs.declared.Header.{Header}
use Rattle.connection.specs.declared.Answer.{Answer}
use Rattle.connection.specs.declared.Answer.TheVariants.{Done, Waiting, Nothing, Opened, Settled, Read, Written, Front, Numbers, Refused}
use Rattle.connection.specs.Calls.{still_pending, dropped}
use Rattle.call_open.proofs.still_pending.Goals as goal

pub returns-in-Waiting : goal.returns-in-Waiting
unfolding still_pending
returns-in-Waiting c = rw c.in-Waiting.is

ends : (answer : Answer) (h : Header) → (answer ≡ Waiting → ⊥) → dropped h ≡ still_pending answer h
unfolding still_pending
ends Waiting h other = absurd (other refl)
ends Done h other = refl
ends Nothing h other = refl
ends (Opened ch) h other = refl
ends (Settled ack) h other = refl
ends (Read n) h other = refl
ends (Written n) h other = refl
ends (Front remote credit place len) h other = refl
ends (Numbers closed total buffered unacked budget) h other = refl
ends (Refused refusal) h other = refl

pub returns-in_default : goal.returns-in_default
returns-in_default c = c.drop_pending.ensures ∙ ends c.args.answer c.args.h c.in_default.not-Waiting
