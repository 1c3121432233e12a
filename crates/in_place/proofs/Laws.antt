-- Laws of a count over a run of slots. Assumes nothing.
use mathlib.Core.Path.{◌≡◌, refl}
use mathlib.Core.List.{List}
use Prim.Native.Nat.{ℕ}
use lib.ListN.{take}
use Rattle.slot.specs.declared.ChannelSlot.{ChannelSlot}
use Rattle.table.specs.Table.{in_use}
use Rattle.in_place.specs.InPlace.{filled_in}

-- `table::in_use` over the bytes of n slots, and `in_use` over those slots lent as structs, count the same
pub filled-in-use : (n : ℕ) (ss : List ChannelSlot) → filled_in (take n ss) ≡ in_use n ss
unfolding filled_in in_use
filled-in-use n ss = refl
