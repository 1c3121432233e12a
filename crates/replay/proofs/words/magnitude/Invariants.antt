use mathlib.Core.Path.{◌≡◌}
use Prim.Native.Nat.{◌≤◌, min}
use lib.ListN.{length, drop}
use Rattle.replay.specs.Words.{spelled}
use Rattle.replay.proofs.words.magnitude.Given as goal

abbrev pub invariant-loop-b : goal.invariant-loop-b
invariant-loop-b l = (l.b-index ≤ length l.s) × (l.n ≤ 0xffff_ffff_ffff_ffff) × (min (spelled l.n (drop l.b-index l.s)) 0xffff_ffff_ffff_ffff ≡ min (spelled 0 l.s) 0xffff_ffff_ffff_ffff)
