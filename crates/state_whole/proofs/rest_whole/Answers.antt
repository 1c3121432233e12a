use native.Mathlib.Omega.{arith}
use mathlib.Core.Path.{sym, ◌∙◌}
use Rattle.state_whole.specs.Whole.{rest_whole}
use Rattle.state_whole.proofs.ValidLaws.{three-go, first_stops, rest-waits}
use Rattle.config.proofs.Laws.{sound}
use Rattle.le.proofs.RowLaws.{never}
use Rattle.state_whole.proofs.rest_whole.Goals.{then-slots_fine, else-slots_fine}
use Rattle.state_whole.proofs.rest_whole.Goals as goal

pub invariant_of-within : goal.invariant_of-within
invariant_of-within c =
    let k = (sound c.args.h.negotiated.config c.requires.0.within).cap-small in
    (omega arith, omega arith)

pub returns-then-pending_fine : goal.returns-then-pending_fine
unfolding rest_whole
returns-then-pending_fine c = elim c.if-slots_fine.branch [
  | then-slots_fine w ↦
      three-go _ _ _ _ (sym (rw c.rx_cap.ensures at c.slots_fine.ensures) ∙ w.if-slots_fine.true)
      (sym w.pending_fine.ensures ∙ sym w.value-is ∙ c.if-pending_fine.true) c.opens_fine.ensures
  | else-slots_fine w ↦ never (sym w.if-slots_fine.false ∙ sym w.value-is ∙ c.if-pending_fine.true)
]

pub returns-else-pending_fine : goal.returns-else-pending_fine
unfolding rest_whole
returns-else-pending_fine c = elim c.if-slots_fine.branch [
  | then-slots_fine w ↦ c.if-pending_fine.false ∙ rest-waits c.args.h c.args.state.now (sym w.pending_fine.ensures ∙ sym w.value-is ∙ c.if-pending_fine.false)
  | else-slots_fine w ↦ c.if-pending_fine.false ∙ first_stops _ _ _ (sym (rw c.rx_cap.ensures at c.slots_fine.ensures) ∙ w.if-slots_fine.false)
]
