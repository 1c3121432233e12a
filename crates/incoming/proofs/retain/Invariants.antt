use mathlib.Core.Path.{◌≡◌}
use Prim.Native.Nat.{◌≤◌}
use lib.ListN.{length, take, drop}
use Rattle.state.specs.State.{state_of}
use Rattle.incoming.specs.Incoming.{kept, Retains}
use Rattle.incoming.proofs.retain.Given as goal

abbrev pub invariant-loop-i : goal.invariant-loop-i
invariant-loop-i l = (l.from ≤ l.i) × (l.i ≤ l.queued) × (l.w ≤ l.i) × (length l.state ≡ length l.initial.state) × Retains (kept l.gone (drop l.from (take l.i (state_of l.initial.state).queue))) l.initial.state l.w l.state
