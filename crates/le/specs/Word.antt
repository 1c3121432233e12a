-- What numbers in bytes keep to. Assumes nothing.
use Rattle.std.specs.Prelude.{◌≡◌, ℕ, List, length}
use Rattle.le.specs.Le.{Bytes}

-- each number's bytes are as many, and what was read is written as it stood
pub record WordLaws {N : Type 0} (width : ℕ) (read : List ℕ → N) (bytes : N → List ℕ) : Type 0 where
  pub width_of : (x : N) → length (bytes x) ≡ width
  pub as_it_stood : (l : List ℕ) → Bytes l → length l ≡ width → bytes (read l) ≡ l
