use Rattle.incoming.proofs.Laws.{withdraw-gives}
use Rattle.incoming.proofs.withdraw.Goals as goal

pub returns : goal.returns
returns c =
    withdraw-gives c.args.h c.args.state.now c.args.remote c.retain-left.result c.retain-left.new.state
    c.with_queued.result c.retain-left.ensures c.with_queued.ensures
