use Rattle.table_dispatch.proofs.DispatchLaws.{steps-stored, steps-left, closed-here}
use Rattle.table_dispatch.proofs.close_at.Goals as goal

pub returns-in-None : goal.returns-in-None
returns-in-None c = steps-left _ _ _ (rw c.in-None.is)

pub returns-in-Some : goal.returns-in-Some
returns-in-Some c =
    steps-stored _ _ _ _ _ _ (closed-here c.args.state.now c.in-Some.i c.args.place c.args.other c.slot_at-s.result c.apply_close.result
    c.in-Some.is c.requires.1 c.slot_at-s.ensures c.apply_close.ensures) c.put_slot.ensures
