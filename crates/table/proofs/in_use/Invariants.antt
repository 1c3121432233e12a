use Rattle.std.proofs.Common.{◌≡◌, ◌+◌, ◌≤◌, Bool, take, drop}
use Rattle.slot.specs.declared.ChannelSlot.{ChannelSlot}
use Rattle.state.specs.State.{state_of}
use Rattle.table.specs.Table.{count_of}
use Rattle.table.proofs.in_use.Given as goal

abbrev is_filled : ChannelSlot → Bool
is_filled s = s.filled

abbrev pub invariant-loop-i : goal.invariant-loop-i
invariant-loop-i l = (l.i ≤ l.n) × (l.used ≤ l.i) × (count_of is_filled (take l.n (state_of l.state).slots) ≡ l.used + count_of is_filled (drop l.i (take l.n (state_of l.state).slots)))
