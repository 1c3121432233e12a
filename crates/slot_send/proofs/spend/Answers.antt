use mathlib.Core.Path.{sym, ◌∙◌}
use mir.Syntax.{w64}
use mir.Facts.{to_z-of_z}
use borrow.Author.Rules.{rules}
use Rattle.slot.specs.Slot.{spent_of}
use Rattle.slot.proofs.Laws.{negated, spent-is, cond-false}
use Rattle.slot_send.proofs.spend.Goals as goal

pub overflow_sub-credit_of : goal.overflow_sub-credit_of
overflow_sub-credit_of c = (negated c.credit_of.result c.args.n c.credit_of.ensures).0

pub returns-then-policy : goal.returns-then-policy
returns-then-policy c =
    let a = c.args in
    let eb = to_z-of_z {w = w64} {z = a.slot.send_budget} (search rules) in
    let es = rw (eb, (negated c.credit_of.result a.n c.credit_of.ensures).1) at c.sat_add.ensures in
    let er = to_z-of_z {w = w64} {z = c.sat_add.result} (search rules) in
    spent-is a.slot a.policy a.n c.sat_add.result c.with_sending.result c.if-policy.true es (rw er at c.with_sending.ensures)

pub returns : goal.returns
unfolding spent_of
returns c =
    let a = c.args in
    let eb = to_z-of_z {w = w64} {z = a.slot.send_budget} (search rules) in
    rw eb at c.with_sending-2.ensures ∙ sym (cond-false _ _ _ c.if-policy.false)
