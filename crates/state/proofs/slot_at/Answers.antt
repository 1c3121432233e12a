use Prim.Native.Nat.{◌+◌, ◌*◌}
use Rattle.state.specs.State.{header_len, slot_len, slot_at}
use Rattle.le.proofs.Parts.{lent-part}
use Rattle.state.proofs.slot_at.Goals as goal

pub returns : goal.returns
unfolding slot_at
returns c = rw (lent-part c.args.state.now (header_len + c.args.i * slot_len) slot_len) at c.slot_of.ensures
