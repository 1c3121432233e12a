use mir.Val.{SFits}
use mathlib.Core.Path.{◌≡◌, sym, ap, ◌∙◌}
use mir.Syntax.{w32, w64}
use mir.Facts.{to_z-of_z}
use borrow.Author.Rules.{rules}
use Rattle.std.specs.Prelude.{Ok, Err}
use Rattle.slot.specs.declared.ChannelState.TheVariants.{Open}
use Rattle.slot.specs.Slot.{opened_of, opened_by, with_state}
use Rattle.slot.proofs.Laws.{opened-is, cond-true, cond-false}
use Rattle.slot_send.proofs.accept_open_ready.Goals as goal

pub returns-in_err-credit : goal.returns-in_err-credit
unfolding opened_of opened_by
returns-in_err-credit c =
    let is : c.from_residual.result ≡ Err c.in_err-credit.field-0.0 = search rules in
    is ∙ ap (opened_by c.args.slot c.args.remote) c.in_err-credit.ensures ∙ sym (cond-true _ _ _ c.if-policy.true)

pub returns-then-policy : goal.returns-then-policy
returns-then-policy c =
    let a = c.args in
    let z = c.in_ok-credit.credit in
    let f : SFits w32 z = search rules in
    let wide = to_z-of_z {w = w64} {z = c.from.result} (record { sfits = c.from.type_inv }) in
    opened-is a.slot a.remote a.policy a.payload.now z c.from.result c.with_state-opened.result c.with_sending.result c.if-policy.true
    (sym c.in_ok-credit.ensures) (c.from.ensures ∙ to_z-of_z f) (c.with_state-opened.ensures ∙ ap (λ x. with_state x Open) c.with_remote.ensures)
    (rw wide at c.with_sending.ensures)

pub returns : goal.returns
unfolding opened_of
returns c =
    ap Ok (c.with_state-opened.ensures ∙ ap (λ x. with_state x Open) c.with_remote.ensures) ∙ sym (cond-false _ _ _ c.if-policy.false)
