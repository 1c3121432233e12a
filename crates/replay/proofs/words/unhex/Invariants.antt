use Rattle.std.specs.Prelude.{◌≡◌, ◌*◌, length, drop}
use lib.Seq.{paste}
use Rattle.replay.specs.Words.{unhexed}
use Rattle.replay.proofs.words.unhex.Given as goal

abbrev pub invariant-loop-i : goal.invariant-loop-i
invariant-loop-i l = (length l.out ≡ length l.initial.out) × (l.out ≡ paste l.initial.out 0 (unhexed l.s) l.i) × (drop l.i (unhexed l.s) ≡ unhexed (drop (2 * l.i) l.s))
