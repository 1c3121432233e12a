use Rattle.saturate.specs.Saturate.{sat_sum}
use Rattle.slot.specs.Slot.{total_with}
use Rattle.slot_receive.proofs.total_with.Goals as goal

pub returns-then-policy : goal.returns-then-policy
unfolding total_with sat_sum
returns-then-policy c = rw (c.if-policy.true, c.saturating_add.ensures)

pub returns : goal.returns
unfolding total_with
returns c = rw c.if-policy.false
