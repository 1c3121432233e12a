use mathlib.Core.Path.{sym, ◌∙◌}
use mir.Syntax.{w64}
use mir.Facts.{to_z-of_z}
use borrow.Author.Rules.{rules}
use Rattle.slot.specs.Slot.{refunded_of}
use Rattle.slot.proofs.Laws.{refunded-is, cond-false}
use Rattle.slot_send.proofs.refund.Goals as goal

pub returns-then-policy : goal.returns-then-policy
returns-then-policy c =
    let a = c.args in
    let eb = to_z-of_z {w = w64} {z = a.slot.send_budget} (search rules) in
    let ec = to_z-of_z {w = w64} {z = c.credit_of.result} (search rules) in
    let es = rw (eb, ec, c.credit_of.ensures) at c.sat_add.ensures in
    let er = to_z-of_z {w = w64} {z = c.sat_add.result} (search rules) in
    refunded-is a.slot a.policy a.n c.sat_add.result c.with_sending.result c.if-policy.true es (rw er at c.with_sending.ensures)

pub returns : goal.returns
unfolding refunded_of
returns c =
    let a = c.args in
    let eb = to_z-of_z {w = w64} {z = a.slot.send_budget} (search rules) in
    rw eb at c.with_sending-2.ensures ∙ sym (cond-false _ _ _ c.if-policy.false)
