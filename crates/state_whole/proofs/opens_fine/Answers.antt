use mathlib.Core.Path.{sym, ◌∙◌}
use Rattle.state_whole.specs.Whole.{opens_fine}
use Rattle.state_whole.proofs.ValidLaws.{and-goes, and-stops}
use Rattle.state_whole.proofs.opens_fine.Goals as goal

pub returns-then-queue_fine : goal.returns-then-queue_fine
unfolding opens_fine
returns-then-queue_fine c = and-goes _ _ _ (sym c.queue_fine.ensures ∙ c.if-queue_fine.true) c.offer_fine.ensures

pub returns-else-queue_fine : goal.returns-else-queue_fine
unfolding opens_fine
returns-else-queue_fine c = c.if-queue_fine.false ∙ and-stops _ _ (sym c.queue_fine.ensures ∙ c.if-queue_fine.false)
