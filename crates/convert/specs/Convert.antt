-- What both ways of converting hold. Assumes nothing.
use Rattle.std.specs.Prelude.{ℕ}

-- the longest frame, with its header, that a program holds
abbrev pub hold : ℕ
hold = 65_536
