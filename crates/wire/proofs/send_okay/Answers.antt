use Rattle.wire.proofs.Laws.{delayed-okay, classic-okay, empty-puts}
use Rattle.wire.proofs.send_okay.Goals as goal

pub returns-in-Some : goal.returns-in-Some
returns-in-Some c = delayed-okay _ _ _ _ _ _ c.args.ids c.args.len _ c.in-Some.is c.put.ensures c.put_at.ensures

pub returns-in-None : goal.returns-in-None
returns-in-None c =
    classic-okay _ _ _ _ c.args.ids c.args.len _ c.in-None.is
    (empty-puts _ _ _ _ _ _ _ _ _ c.empty-frame.ensures c.put_empty.ensures)
