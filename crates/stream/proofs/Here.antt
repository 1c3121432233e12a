-- What a call that is lent a message's text or data sees. Assumes nothing.
use mathlib.Core.Path.{◌≡◌}
use mathlib.Core.List.{List}
use Prim.Native.Nat.{ℕ, ◌-◌}
use native.Mathlib.Omega.{arith}
use lib.ListN.{length, take, drop}
use Rattle.stream.specs.Here.{IsHere}

-- from its place to the end of what is used, it is the part of its length
pub lent : (s : List ℕ) (at n used : ℕ) → IsHere (length s) at n used → take (used - at) (drop at s) ≡ take n (drop at s)
lent s at n used h = let e : used - at ≡ n = omega (arith, h.ends) in rw e
