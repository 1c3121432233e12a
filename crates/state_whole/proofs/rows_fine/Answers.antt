use native.Mathlib.Omega.{arith}
use mathlib.Core.Path.{refl, sym, ◌∙◌}
use Rattle.state_whole.proofs.ValidLaws.{rows_step, rows-stop, rows_end}
use Rattle.state_whole.proofs.rows_fine.Goals as goal

pub loop-i-init : goal.loop-i-init
loop-i-init c = (omega arith, refl)

pub loop-i-preserved : goal.loop-i-preserved
loop-i-preserved c = (
  omega arith,
  c.loop-i.invariant.1 ∙ rows_step c.args.within.0 c.args.within.1 c.loop-i.i c.args.end
      c.args.state.now (omega arith) (sym c.row_at_fine.ensures ∙ c.if-not-row_at_fine.false),
)

pub returns-then-not-row_at_fine : goal.returns-then-not-row_at_fine
returns-then-not-row_at_fine c =
    sym (c.loop-i.invariant.1 ∙ rows-stop c.args.within.0 c.args.within.1 c.loop-i.i c.args.end c.args.state.now
    (omega arith) (sym c.row_at_fine.ensures ∙ c.if-not-row_at_fine.true))

pub returns : goal.returns
returns c =
    sym (c.loop-i.invariant.1 ∙ rows_end c.args.within.0 c.args.within.1 c.loop-i.i c.args.end
    c.args.state.now (omega arith))
