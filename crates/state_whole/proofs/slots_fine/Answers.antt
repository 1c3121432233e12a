use native.Mathlib.Omega.{arith}
use mathlib.Core.Path.{◌≡◌, sym, ap, ◌∙◌}
use Rattle.state_whole.proofs.ValidLaws.{and-goes, and-stops, rows_both}
use Rattle.state_whole.proofs.slots_fine.Goals as goal

pub returns-then-rows_fine : goal.returns-then-rows_fine
returns-then-rows_fine c =
    let n : c.args.within.0 ≡ c.within.inside.channels = sym (ap (λ x. x.0) c.within.view_is) in
    and-goes _ _ _ (sym c.rows_fine.ensures ∙ c.if-rows_fine.true) c.rows_fine-then-rows_fine.ensures
    ∙ rows_both c.args.within.0 c.args.within.1 c.within.inside.channels c.args.state.now (omega (arith, n))

pub returns-else-rows_fine : goal.returns-else-rows_fine
returns-else-rows_fine c =
    let n : c.args.within.0 ≡ c.within.inside.channels = sym (ap (λ x. x.0) c.within.view_is) in
    c.if-rows_fine.false ∙ and-stops _ _ (sym c.rows_fine.ensures ∙ c.if-rows_fine.false)
    ∙ rows_both c.args.within.0 c.args.within.1 c.within.inside.channels c.args.state.now (omega (arith, n))
