use mathlib.Core.Path.{◌≡◌}
use Prim.Native.Nat.{◌≤◌}
use lib.ListN.{length, take}
use Rattle.replay.specs.Text.{Puts, hex_of}
use Rattle.replay.proofs.text.put_bytes.Given as goal

abbrev pub invariant-loop-b : goal.invariant-loop-b
invariant-loop-b l = (l.b-index ≤ length l.s) × (length l.line ≡ length l.initial.line) × Puts l.initial.line l.at (hex_of (take l.b-index l.s)) l.line l.end
