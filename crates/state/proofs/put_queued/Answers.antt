use native.Mathlib.Omega.{arith}
use Prim.Native.Nat.{◌+◌, ◌*◌}
use Rattle.state.specs.State.{queue_at, queued_len, queued_bytes, put_queued}
use Rattle.state.proofs.Fields.{length-open, put-lent}
use Rattle.state.proofs.put_queued.Goals as goal

pub returns : goal.returns
unfolding put_queued
returns c =
    put-lent c.args.state.now (queue_at + c.args.i * queued_len) queued_len (queued_bytes c.args.q) _
    (length-open c.args.q) (omega arith) c.fill_queued.ensures
