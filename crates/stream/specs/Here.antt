-- Where in received bytes a message's text or data stands. Assumes nothing.
use Rattle.std.specs.Prelude.{ℕ, ◌+◌, ◌≤◌, ◌≡◌, Option, Some, None, Result, Ok, Err}

-- of n received bytes, the part of a length at a place is the end of those that its message uses, and these are here
pub record IsHere (n at length used : ℕ) : Type 0 where
  pub ends : at + length ≡ used
  pub within : used ≤ n

-- of what is read of n bytes: where it is a message, its part is here
abbrev pub ReadHere : {M E : Type 0} → (ℕ → M → Type 0) → ℕ → Result (Option M) E → Type 0
ReadHere Here n (Ok (Some m)) = Here n m
ReadHere Here n (Ok None) = Unit {0}
ReadHere Here n (Err e) = Unit {0}
