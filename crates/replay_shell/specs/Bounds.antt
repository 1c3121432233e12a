-- What the program's own arithmetic needs of the calls that it makes. Assumes nothing.
use Rattle.std.specs.Prelude.{ℕ, ◌≤◌, ◌≡◌, List, length}
use Rattle.console.specs.declared.Gathered.{Gathered}

-- of n bytes no more are used, and no more are gathered than are used
pub record Room (n : ℕ) (r : Gathered) : Type 0 where
  pub within : r.used ≤ n
  pub short : r.length ≤ r.used

-- between pieces: no more is used than has arrived, no more is gathered than is used, and there is room for what arrives
pub record Showing (received out₀ out : List ℕ) (used end gathered : ℕ) : Type 0 where
  pub same : length out ≡ length out₀
  pub fits : length received ≤ length out
  pub arrived : end ≤ length received
  pub within : used ≤ end
  pub short : gathered ≤ used
