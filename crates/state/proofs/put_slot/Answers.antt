use native.Mathlib.Omega.{arith}
use Prim.Native.Nat.{◌+◌, ◌*◌}
use Rattle.state.specs.State.{header_len, slot_len, slot_bytes, put_slot}
use Rattle.state.proofs.Fields.{length-slot, put-lent}
use Rattle.state.proofs.put_slot.Goals as goal

pub returns : goal.returns
unfolding put_slot
returns c =
    put-lent c.args.state.now (header_len + c.args.i * slot_len) slot_len (slot_bytes c.args.s) _ (length-slot c.args.s)
    (omega arith) c.fill_slot.ensures
