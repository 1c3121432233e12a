use mathlib.Core.Path.{◌≡◌}
use lib.ListN.{length}
use Rattle.stretch.specs.Stretch.{world_of}
use Rattle.stretch.proofs.RunLaws.{Running}
use Rattle.stretch.proofs.run.Given as goal

abbrev pub invariant-loop-i : goal.invariant-loop-i
invariant-loop-i l =
    (length l.state ≡ length l.initial.state) × (length l.rx ≡ length l.initial.rx) × (length l.store ≡ length l.initial.store)
    × Running (world_of l.initial.state l.initial.rx l.initial.store) l.received l.places (world_of l.state l.rx l.store) l.i
