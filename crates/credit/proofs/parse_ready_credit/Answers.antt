use native.Mathlib.Omega.{arith}
use mathlib.Core.Path.{◌∙◌, ap}
use borrow.Author.Tests.{lt-ltb, le-ltb}
use mir.Syntax.{w32}
use mir.Facts.{to_z-of_z}
use lib.ListN.{length}
use borrow.Author.Rules.{rules}
use Rattle.credit.specs.Credit.{credit_of, at_least_zero}
use Rattle.credit.proofs.CreditLaws.{below-zero, not-below-zero}
use Rattle.credit.proofs.parse_ready_credit.Goals as goal

pub returns-then-payload-lt4 : goal.returns-then-payload-lt4
unfolding credit_of
returns-then-payload-lt4 c = rw (lt-ltb (length c.args.payload.now) 4 (omega arith))

pub returns-then-payload-gt4 : goal.returns-then-payload-gt4
unfolding credit_of
returns-then-payload-gt4 c = rw (le-ltb (length c.args.payload.now) 4 (omega arith), lt-ltb 4 (length c.args.payload.now) (omega arith))

pub returns-then-credit-lt0 : goal.returns-then-credit-lt0
unfolding credit_of
returns-then-credit-lt0 c =
    let e = to_z-of_z {w = w32} {z = c.get-credit.result} (search rules) in
    rw (le-ltb (length c.args.payload.now) 4 (omega arith), le-ltb 4 (length c.args.payload.now) (omega arith))
    (below-zero c.get-credit.result (rw e at c.if-credit-lt0.true) ∙ ap at_least_zero c.get-credit.ensures)

pub returns : goal.returns
unfolding credit_of
returns c =
    let e = to_z-of_z {w = w32} {z = c.get-credit.result} (search rules) in
    rw (e, le-ltb (length c.args.payload.now) 4 (omega arith), le-ltb 4 (length c.args.payload.now) (omega arith))
    (not-below-zero c.get-credit.result (rw e at c.if-credit-lt0.false) ∙ ap at_least_zero c.get-credit.ensures)
