use Prim.Native.Nat.{◌+◌, ◌*◌}
use Rattle.le.proofs.Parts.{lent-part}
use Rattle.state.specs.State.{header_len, slot_len}
use Rattle.state_whole.proofs.row_at_fine.Goals as goal

pub returns : goal.returns
returns c = rw (lent-part c.args.state.now (header_len + c.args.i * slot_len) slot_len) at c.row_fine.ensures
