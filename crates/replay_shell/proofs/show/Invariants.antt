use Rattle.std.specs.Prelude.{◌≡◌, ◌+◌, length}
use Rattle.std.specs.Slice.Iter.{chunks_rest}
use Rattle.replay_shell.specs.Bounds.{Showing}
use Rattle.replay_shell.proofs.show.Given as goal

abbrev pub invariant-loop-arrived : goal.invariant-loop-arrived
invariant-loop-arrived l =
    goal.iterator-loop-arrived.can_next l.arrived-iterator
    × goal.iterator-loop-arrived.is_finite l.arrived-iterator
    × (l.end + length (chunks_rest l.arrived-iterator) ≡ length l.received)
    × Showing l.received l.initial.out l.out l.used l.end l.gathered
