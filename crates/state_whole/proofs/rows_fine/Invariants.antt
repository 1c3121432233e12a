use mathlib.Core.Path.{◌≡◌}
use Prim.Native.Nat.{◌+◌, ◌-◌, ◌*◌, ◌≤◌}
use lib.ListN.{drop}
use Rattle.state_whole.specs.Whole.{rows_fine}
use Rattle.state.specs.State.{header_len, slot_len}
use Rattle.state_whole.proofs.rows_fine.Given as goal

abbrev pub invariant-loop-i : goal.invariant-loop-i
invariant-loop-i l = (l.i ≤ l.end) × (rows_fine l.within.0 l.within.1 l.from (l.end - l.from) (drop (header_len + l.from * slot_len) l.state) ≡ rows_fine l.within.0 l.within.1 l.i (l.end - l.i) (drop (header_len + l.i * slot_len) l.state))
