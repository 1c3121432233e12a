use mathlib.Core.Path.{sym}
use Prim.Native.Nat.{ℕ}
use lib.ListN.{length-replicate}
use Rattle.replay.proofs.space.Goals as goal

pub returns : goal.returns
returns c = sym (length-replicate {A = ℕ} 524288 0)
