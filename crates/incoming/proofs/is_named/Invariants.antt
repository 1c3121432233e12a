use mathlib.Core.Path.{◌≡◌}
use Prim.Native.Nat.{◌≤◌}
use lib.ListN.{take, drop}
use Rattle.state.specs.State.{state_of}
use Rattle.incoming.specs.Incoming.{named}
use Rattle.incoming.proofs.is_named.Given as goal

abbrev pub invariant-loop-i : goal.invariant-loop-i
invariant-loop-i l = (l.i ≤ l.queued) × (named l.k (take l.queued (state_of l.state).queue) ≡ named l.k (drop l.i (take l.queued (state_of l.state).queue)))
