-- Whether an identity text lists a feature (docs/SCOPE.md, 2): the text has properties between semicolons, `features` is one
-- of them, commas cut its list, and one part equals the name. Assumes nothing.
use Rattle.std.specs.Prelude.{ℕ, zero, suc, ◌+◌, ◌≡◌, Bool, false, cond, ◌&&◌, ◌||◌, List, [], ◌∷◌, Option, Some, None, eqb, length, take, drop, get_or}
use Rattle.std.specs.List.{list_any, onto_first, slice_split}
use Rattle.std.specs.Str.{bytes_eq}

-- the byte ","
abbrev pub comma : ℕ
comma = 44

-- the byte ":"
abbrev pub colon : ℕ
colon = 58

-- the byte ";"
abbrev pub semicolon : ℕ
semicolon = 59

-- "features="
abbrev pub features_name : List ℕ
features_name = 102 ∷ 101 ∷ 97 ∷ 116 ∷ 117 ∷ 114 ∷ 101 ∷ 115 ∷ 61 ∷ []

-- two texts are equal
unfoldable pub same_bytes : List ℕ → List ℕ → Bool
same_bytes a b = bytes_eq a b

-- how many colons a text has
unfoldable pub colons_in : List ℕ → ℕ
colons_in [] = 0
colons_in (b ∷ t) = cond (eqb b colon) (suc (colons_in t)) (colons_in t)

-- the byte at a place is a colon with `k` colons before it
unfoldable pub colon_after : ℕ → List ℕ → ℕ → Bool
colon_after k text i = eqb (get_or text i 0) colon && eqb (colons_in (take i text)) k

-- a property begins at a place: the byte before it is a semicolon, or the second colon
unfoldable pub begins : List ℕ → ℕ → Bool
begins text zero = false
begins text (suc i) = eqb (get_or text i 0) semicolon || colon_after 1 text i

-- the property `features` begins at a place
unfoldable pub named : List ℕ → ℕ → Bool
named text i = begins text i && same_bytes (take 9 (drop i text)) features_name

-- what follows "features=" at the first of `n` places, from `i` on, at which that property begins
unfoldable pub after_name : List ℕ → ℕ → ℕ → Option (List ℕ)
after_name text i zero = None
after_name text i (suc n) = cond (named text i) (Some (drop (i + 9) text)) (after_name text (suc i) n)

-- a text up to its first `cut`
unfoldable pub first_part : ℕ → List ℕ → List ℕ
first_part cut [] = []
first_part cut (b ∷ t) = cond (eqb b cut) [] (b ∷ first_part cut t)

-- a byte before the first of some parts
unfoldable pub on_first : ℕ → List (List ℕ) → List (List ℕ)
on_first b ps = onto_first b ps

-- a text, cut at every comma
unfoldable pub parts_of : List ℕ → List (List ℕ)
parts_of l = slice_split (λ b. eqb b comma) l

-- one of the parts equals the name
unfoldable pub any_same : List (List ℕ) → List ℕ → Bool
any_same ps name = list_any (λ p. bytes_eq p name) ps

-- one part of the list, which ends at the next semicolon, equals the name; no list has none
unfoldable pub listed : Option (List ℕ) → List ℕ → Bool
listed None name = false
listed (Some rest) name = any_same (parts_of (first_part semicolon rest)) name

-- an identity text lists a feature
unfoldable pub has_feature : List ℕ → List ℕ → Bool
has_feature text name = listed (after_name text 0 (length text)) name

-- the place behind the second colon
abbrev pub Behind : List ℕ → Option ℕ → Type 0
Behind text (Some at) = (i : ℕ) → colon_after 1 text i ≡ eqb (suc i) at
Behind text None = (i : ℕ) → colon_after 1 text i ≡ false
