use native.Mathlib.Omega.{arith}
use borrow.Author.Tests.{eq-eqb, ne_eqb}
use mathlib.Core.Path.{◌≡◌, sym, ap, ◌∙◌}
use lib.ListN.{get_or}
use Prim.Native.Nat.{◌%◌}
use Rattle.state_whole.proofs.ValidLaws.{row-empty, row_zero, row-unknown, row-opening, row-failed, row-filled, row-beyond}
use Rattle.slot.specs.Slot.{slot_ok}
use Rattle.state_whole.proofs.row_fine.Goals as goal
use Rattle.state_whole.proofs.row_fine.Goals.{then-tag-lt8-via-then-tag-lt8, then-tag-lt8-via-else-tag-lt8+then-tag-gt23, then-tag-lt8-via-else-tag-lt8+else-tag-gt23+then-i-within}

pub returns-then-tag-lt8 : goal.returns-then-tag-lt8
returns-then-tag-lt8 c =
    let n : c.args.within.0 ≡ c.within.inside.channels = sym (ap (λ x. x.0) c.within.view_is) in
    elim c.then-tag-lt8.branch [
      | then-tag-lt8-via-then-tag-lt8 w ↦ row-opening c.args.within.0 c.args.within.1 c.args.i c.args.p.now (omega arith) (omega arith)
      | then-tag-lt8-via-else-tag-lt8+then-tag-gt23 w ↦ row-failed c.args.within.0 c.args.within.1 c.args.i c.args.p.now (omega arith) (omega arith)
      | then-tag-lt8-via-else-tag-lt8+else-tag-gt23+then-i-within w ↦ row-beyond c.args.within.0 c.args.within.1 c.args.i c.args.p.now (omega arith) (omega (arith, n))
    ]

pub returns-then-tag-eq3 : goal.returns-then-tag-eq3
returns-then-tag-eq3 c =
    let n : c.args.within.0 ≡ c.within.inside.channels = sym (ap (λ x. x.0) c.within.view_is) in
    let cap : c.args.within.1 ≡ c.within.inside.cap = sym (ap (λ x. x.1) c.within.view_is) in
    row-filled c.args.within.0 c.args.within.1 c.args.i c.args.p.now _ (omega arith) (omega arith) (omega arith)
    (omega (arith, n)) (c.is_sound.ensures ∙ ap (λ k. slot_ok c.slot_of.result k) (sym cap) ∙ ap (λ s. slot_ok s c.args.within.1) c.slot_of.ensures)

pub returns-then-tag-eq0 : goal.returns-then-tag-eq0
returns-then-tag-eq0 c =
    rw (eq-eqb (get_or c.args.p.now 44 0) 0 c.if-tag-eq0.true) (row_zero c.args.within.0 c.args.within.1 c.args.i c.args.p.now c.if-tag-eq0.true)

pub returns-then-tag-eq0-2 : goal.returns-then-tag-eq0-2
returns-then-tag-eq0-2 c = row-empty c.args.within.0 c.args.within.1 c.args.i c.args.p.now _ (omega arith) c.is_tag.ensures

pub returns-else-tag-eq0-2 : goal.returns-else-tag-eq0-2
returns-else-tag-eq0-2 c =
    rw (ne_eqb (get_or c.args.p.now 44 0 % 2) 0 c.if-tag-eq0-2.false)
    (row-unknown c.args.within.0 c.args.within.1 c.args.i c.args.p.now (omega arith) c.if-tag-eq3.false)
