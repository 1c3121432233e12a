use Rattle.table_dispatch.specs.Dispatch.{readied_of}
use Rattle.slot.proofs.Laws.{cond-true, cond-false}
use mathlib.Core.Path.{sym, ◌∙◌}
use Rattle.table_dispatch.proofs.readied.Goals as goal

pub returns-then-is_opening : goal.returns-then-is_opening
unfolding readied_of
returns-then-is_opening c = c.accept_open_ready.ensures ∙ sym (cond-true _ _ _ (sym c.is_opening.ensures ∙ c.if-is_opening.true))

pub returns : goal.returns
unfolding readied_of
returns c = c.apply_ready.ensures ∙ sym (cond-false _ _ _ (sym c.is_opening.ensures ∙ c.if-is_opening.false))
