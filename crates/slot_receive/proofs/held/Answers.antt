use Rattle.std.proofs.Common.{refl}
use Rattle.slot.specs.Slot.{held_of}
use Rattle.slot_receive.proofs.held.Goals as goal

pub returns : goal.returns
unfolding held_of
returns c = refl
