-- Bytes that are held in a buffer. Which bytes a read adds is said by what the reader has left, where that is known. Assumes nothing.
use Rattle.std.specs.Prelude.{ℕ, ◌-◌, ◌≤◌, ◌≡◌, Bool, true, false, List, ltb, length, take}
use Rattle.std.specs.declared.ops.ControlFlow.{ControlFlow}
use Rattle.std.specs.declared.ops.ControlFlow.TheVariants.{Continue, Break}
use Rattle.le.specs.Le.{part}
use Rattle.intake.specs.declared.Held.{Held}

-- what is held lies in the buffer
pub record Within (at end : ℕ) (buf : List ℕ) : Type 0 where
  pub ordered : at ≤ end
  pub inside : end ≤ length buf

-- what is held after a step, and whether there may be more to come
abbrev pub held_of : ControlFlow Held Held → Held
held_of (Continue h) = h
held_of (Break h) = h

abbrev pub more_of : ControlFlow Held Held → Bool
more_of (Continue h) = true
more_of (Break h) = false

-- what was held stands at the start, what came behind it, and there is more only where something came
pub record ReadsMore (d : List ℕ) (at end : ℕ) (r : ControlFlow Held Held) (buf : List ℕ) : Type 0 where
  pub at-is : (held_of r).at ≡ 0
  pub kept : take (end - at) buf ≡ part d at (end - at)
  pub grown : end - at ≤ (held_of r).end
  pub inside : (held_of r).end ≤ length buf
  pub more-is : more_of r ≡ ltb (end - at) (held_of r).end
