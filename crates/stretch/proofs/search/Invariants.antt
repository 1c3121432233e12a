use Prim.Native.Nat.{◌≤◌}
use mathlib.Core.Path.{◌≡◌}
use lib.ListN.{length}
use Rattle.stretch.specs.Stretch.{world_of, ends_so}
use Rattle.stretch.proofs.SearchLaws.{Best}
use Rattle.stretch.proofs.search.Given as goal

abbrev pub invariant-loop-first : goal.invariant-loop-first
invariant-loop-first l =
    (length l.rx ≡ length l.initial.rx) × (length l.store ≡ length l.initial.store) × (l.first ≤ length l.places)
    × Best (ends_so (world_of l.state l.initial.rx l.initial.store) l.received l.places l.number) (length l.places) l.best.first l.best.count l.first
