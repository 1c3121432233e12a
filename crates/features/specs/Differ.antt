-- On which texts, with which names, libadb's reading of a feature list and ours differ. Nothing else cites libadb's here.
-- Assumes nothing.
use Rattle.std.specs.Prelude.{ℕ, Bool, false, cond, ◌||◌, List, [], ◌∷◌, Option, Some, None, eqb, take, drop}
use Rattle.std.specs.Bool.{xor}
use Rattle.std.specs.List.{slice_split}
use Rattle.features.specs.Features.{comma, semicolon, features_name, same_bytes, any_same, has_feature}

-- what follows the first "features=" anywhere in a text
unfoldable pub after_first : List ℕ → Option (List ℕ)
after_first [] = None
after_first (b ∷ t) = cond (same_bytes (take 9 (b ∷ t)) features_name) (Some (drop 9 (b ∷ t))) (after_first t)

-- a text, cut at every comma and semicolon
unfoldable pub pieces_of : List ℕ → List (List ℕ)
pieces_of l = slice_split (λ b. eqb b comma || eqb b semicolon) l

-- one piece of such a rest equals the name; no rest has none
unfoldable pub among_pieces : Option (List ℕ) → List ℕ → Bool
among_pieces None name = false
among_pieces (Some rest) name = any_same (pieces_of rest) name

-- libadb's reading (its has_feature, features.rs)
unfoldable pub first_reading : List ℕ → List ℕ → Bool
first_reading text name = among_pieces (after_first text) name

-- the two readings of a text differ on a name
unfoldable pub differs : List ℕ → List ℕ → Bool
differs text name = xor (has_feature text name) (first_reading text name)
