use Prim.Native.Nat.{◌-◌}
use lib.ListN.{length}
use Rattle.console.proofs.GatherLaws.{Gathering}
use Rattle.console.proofs.gather.Given as goal

abbrev pub invariant-loop-frame : goal.invariant-loop-frame
invariant-loop-frame l = Gathering l.wanted l.received l.initial.out l.out l.used l.length

abbrev pub decreases-loop-frame : goal.decreases-loop-frame
decreases-loop-frame l = length l.received - l.used
