use mathlib.Core.Path.{◌≡◌}
use Prim.Native.Nat.{◌≤◌}
use lib.ListN.{take, drop}
use Rattle.state.specs.State.{state_of}
use Rattle.state_whole.specs.Whole.{queue_fine}
use Rattle.state_whole.proofs.queue_fine.Given as goal

abbrev pub invariant-loop-i : goal.invariant-loop-i
invariant-loop-i l = (l.i ≤ l.n) × (queue_fine l.channels l.payload (take l.n (state_of l.state).queue) ≡ queue_fine l.channels l.payload (drop l.i (take l.n (state_of l.state).queue)))
