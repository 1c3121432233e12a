use Prim.Native.Nat.{◌+◌, ◌*◌}
use Rattle.state.specs.State.{queue_at, queued_len, queued_at}
use Rattle.le.proofs.Parts.{lent-part}
use Rattle.state.proofs.queued_at.Goals as goal

pub returns : goal.returns
unfolding queued_at
returns c = rw (lent-part c.args.state.now (queue_at + c.args.i * queued_len) queued_len) at c.queued_of.ensures
