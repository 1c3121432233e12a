use mathlib.Core.Path.{◌≡◌}
use Prim.Native.Nat.{◌≤◌}
use lib.ListN.{length}
use Rattle.le.specs.Le.{put}
use Rattle.call_make.specs.Make.{empty_slots}
use Rattle.state.specs.State.{header_len}
use Rattle.call_make.proofs.clear_slots.Given as goal

abbrev pub invariant-loop-i : goal.invariant-loop-i
invariant-loop-i l = (l.i ≤ 64) × (length l.state ≡ length l.initial.state) × (l.state ≡ put l.initial.state header_len (empty_slots l.i))
