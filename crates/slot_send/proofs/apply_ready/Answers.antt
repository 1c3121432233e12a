use mir.Val.{SFits}
use mathlib.Core.Path.{◌≡◌, sym, ap, ◌∙◌}
use mir.Syntax.{w32, w64}
use mir.Facts.{to_z-of_z}
use borrow.Author.Rules.{rules}
use Rattle.std.specs.Prelude.{Ok, Err}
use Rattle.slot.specs.Slot.{ready_of, ready_by}
use Rattle.slot.proofs.Laws.{readied-is, cond-true, cond-false}
use Rattle.slot_send.proofs.apply_ready.Goals as goal

pub returns-in_err-credit : goal.returns-in_err-credit
unfolding ready_of ready_by
returns-in_err-credit c =
    let is : c.from_residual.result ≡ Err c.in_err-credit.field-0.0 = search rules in
    is ∙ ap (ready_by c.args.slot) c.in_err-credit.ensures ∙ sym (cond-true _ _ _ c.if-policy.true)

pub returns-then-policy : goal.returns-then-policy
returns-then-policy c =
    let a = c.args in
    let z = c.in_ok-credit.credit in
    let f : SFits w32 z = search rules in
    let b : SFits w64 a.slot.send_budget = search rules in
    let wide = to_z-of_z {w = w64} {z = c.from.result} (record { sfits = c.from.type_inv }) in
    let sum = rw (to_z-of_z b, wide, c.from.ensures ∙ to_z-of_z f) at c.sat_add.ensures in
    let held = to_z-of_z {w = w64} {z = c.sat_add.result} (search rules) in
    readied-is a.slot a.policy a.payload.now z c.sat_add.result c.with_sending.result c.if-policy.true (sym c.in_ok-credit.ensures) sum
    (rw held at c.with_sending.ensures)

pub returns : goal.returns
unfolding ready_of
returns c =
    let eb = to_z-of_z {w = w64} {z = c.args.slot.send_budget} (search rules) in
    ap Ok (rw eb at c.with_sending-2.ensures) ∙ sym (cond-false _ _ _ c.if-policy.false)
