use Rattle.incoming.proofs.Laws.{front-gives}
use Rattle.incoming.proofs.push_front.Goals as goal

pub returns : goal.returns
returns c = front-gives c.args.h c.args.state.now c.args.q _ _ c.put_first.ensures c.with_queued.ensures
