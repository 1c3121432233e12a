use mathlib.Core.Path.{◌≡◌}
use lib.ListN.{length}
use Rattle.stretch.specs.Stretch.{world_of}
use Rattle.stretch.proofs.TellLaws.{Telling}
use Rattle.stretch.proofs.tell.Given as goal

abbrev pub invariant-loop-n : goal.invariant-loop-n
invariant-loop-n l =
    (length l.state ≡ length l.initial.state) × (length l.rx ≡ length l.initial.rx) × (length l.store ≡ length l.initial.store) × (length l.places ≡ 32)
    × Telling (world_of l.initial.state l.initial.rx l.initial.store) l.received (world_of l.state l.rx l.store) l.n l.at l.places
