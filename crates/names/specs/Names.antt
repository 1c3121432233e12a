-- A table of names, each ended by a zero byte (docs/SCOPE.md, 15). Assumes nothing.
use Rattle.std.specs.Prelude.{ℕ, zero, suc, ◌+◌, ◌-◌, Bool, true, not, cond, ◌&&◌, List, Option, Some, None, eqb, ltb, length, take, drop, get_or}
use Rattle.std.specs.Str.{bytes_eq}
use Rattle.std.specs.List.{list_all}

-- a name begins at a place: at the table's start, or behind a zero byte
unfoldable pub starts : List ℕ → ℕ → Bool
starts names zero = true
starts names (suc i) = eqb (get_or names i 0) 0

-- these bytes stand at a place, and a zero byte behind them
unfoldable pub stands : List ℕ → List ℕ → ℕ → Bool
stands names name i =
    ltb (i + length name) (length names) && eqb (get_or names (i + length name) 0) 0 && bytes_eq (take (length name) (drop i names)) name

-- a text has no zero byte
unfoldable pub no_zero : List ℕ → Bool
no_zero t = list_all (λ b. not (eqb b 0)) t

-- the name is in the table at a place
unfoldable pub named_at : List ℕ → List ℕ → ℕ → Bool
named_at names name i = starts names i && stands names name i

-- the first of `n` places, from `i` on, at which it is
unfoldable pub place_from : List ℕ → List ℕ → ℕ → ℕ → Option ℕ
place_from names name i zero = None
place_from names name i (suc n) = cond (named_at names name i) (Some i) (place_from names name (suc i) n)

-- the place of a name in a table: where it begins. A text with a zero byte is no name
unfoldable pub find_name : List ℕ → List ℕ → Option ℕ
find_name names name = cond (no_zero name) (place_from names name 0 (length names)) None

-- a text ends in a zero byte
unfoldable pub ends_in_zero : List ℕ → Bool
ends_in_zero t = ltb 0 (length t) && eqb (get_or t (length t - 1) 0) 0

-- the name that an OPEN asks for: its destination, less one zero byte at the end
unfoldable pub asked_name : List ℕ → List ℕ
asked_name t = cond (ends_in_zero t) (take (length t - 1) t) t
