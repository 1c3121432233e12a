-- The words of a line, and the numbers and bytes that they spell. Assumes nothing.
use Rattle.std.specs.Prelude.{ℕ, zero, suc, ◌+◌, ◌-◌, ◌*◌, ◌%◌, Bool, false, cond, List, [], ◌∷◌, eqb, leb, ltb, ℤ, pos, neg_ℤ, take, drop}
use Rattle.std.specs.List.{position_or_len}
use Rattle.saturate.specs.Saturate.{clamp}

-- where byte b stands first in l, or l's length
unfoldable pub index_of : ℕ → List ℕ → ℕ
index_of b l = position_or_len (λ x. eqb x b) l

-- a line from its word k on: past k spaces
unfoldable pub from_word : ℕ → List ℕ → List ℕ
from_word zero l = l
from_word (suc k) l = from_word k (drop (suc (index_of 32 l)) l)

-- word k of a line: up to a space, or the line's end
unfoldable pub word_of : List ℕ → ℕ → List ℕ
word_of l k = take (index_of 32 (from_word k l)) (from_word k l)

-- 0 to 9 in ASCII
unfoldable pub is_digit : ℕ → Bool
is_digit b = cond (ltb b 48) false (leb b 57)

-- a number with one decimal digit more; another byte adds nothing
unfoldable pub grown : ℕ → ℕ → ℕ
grown n b = cond (is_digit b) (n * 10 + (b - 48)) n

-- the number that n's digits and then those of w spell
unfoldable pub spelled : ℕ → List ℕ → ℕ
spelled n [] = n
spelled n (b ∷ w) = spelled (grown n b) w

-- a minus stands first
unfoldable pub is_negative : List ℕ → Bool
is_negative [] = false
is_negative (b ∷ w) = eqb b 45

-- the number that w spells with its sign, held within 64 bits
unfoldable pub signed_of : List ℕ → ℤ
signed_of w = clamp (cond (is_negative w) (neg_ℤ (pos (spelled 0 w))) (pos (spelled 0 w)))

-- the value of a hexadecimal digit
unfoldable pub nibble_of : ℕ → ℕ
nibble_of b = cond (ltb b 97) (b % 16) ((b - 87) % 16)

-- the bytes that pairs of hexadecimal digits spell; a last digit alone spells none
unfoldable pub unhexed : List ℕ → List ℕ
unhexed [] = []
unhexed (h ∷ []) = []
unhexed (h ∷ l ∷ w) = (nibble_of h * 16 + nibble_of l) ∷ unhexed w
