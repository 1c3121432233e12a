use mathlib.Core.Path.{◌≡◌}
use Prim.Native.Nat.{◌-◌, ◌≤◌}
use lib.ListN.{take}
use Rattle.state.specs.State.{state_of}
use Rattle.incoming.specs.Incoming.{free_from, free_share}
use Rattle.incoming.proofs.free_share.Given as goal

abbrev pub invariant-loop-k : goal.invariant-loop-k
invariant-loop-k l = (l.k ≤ l.n) × (free_share l.n (take l.queued (state_of l.state).queue) ≡ free_from l.k (l.n - l.k) (take l.queued (state_of l.state).queue))
