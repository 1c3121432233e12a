use mathlib.Core.Path.{◌≡◌}
use Prim.Native.Nat.{◌≤◌}
use lib.ListN.{length}
use Rattle.incoming.proofs.KeptLaws.{Carries}
use Rattle.incoming.proofs.put_first.Given as goal

abbrev pub invariant-loop-i : goal.invariant-loop-i
invariant-loop-i l = (l.i ≤ l.queued) × (length l.state ≡ length l.initial.state) × Carries l.initial.state l.initial.carried l.i l.state l.carried
