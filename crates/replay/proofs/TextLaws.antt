-- Laws of text that is put into lent bytes, and of numbers and bytes as text. Assumes nothing.
use mathlib.Core.Path.{◌≡◌, refl, sym, ap, ◌∙◌}
use mathlib.Core.List.{List, [], ◌∷◌, ◌++◌, append_assoc, append-nil}
use Prim.Native.Nat.{ℕ, zero, suc, ◌+◌, ◌-◌, ◌*◌, ◌/◌, ◌%◌, ◌^◌, ◌≤◌, ◌<◌, min}
use native.Mathlib.Nat.{pow-suc, one-le-pow}
use native.Mathlib.Numerals.{add-one}
use native.Mathlib.Omega.{arith}
use lib.Dec.{ltb}
use lib.IntN.{ℤ, pos, negsuc}
use lib.Signed.{lt_z}
use mathlib.Core.Bool.{true, false}
use Rattle.std.specs.Prelude.{unsigned_abs}
use lib.ListN.{length, take, drop, get_or, length-append, length-take, length-drop, drop_of_length-le}
use lib.Seq.{take_all, take-nil, take-append-le, take-append-add, take-suc}
use borrow.Author.Tests.{ltb-true, ltb-false, lt-ltb, le-ltb}
use Rattle.std.specs.Fmt.{digits, padded_integral, format_spec}
use Rattle.std.proofs.lemmas.Fmt.{hex_byte}
use Rattle.io.specs.Digits.{last_digits, IsDigitCount}
use Rattle.le.specs.Le.{put, part}
use Rattle.le.proofs.Parts.{by-test, put-none, put-put, length-put}
use Rattle.replay.specs.Text.{fitting, Puts, places, decimal_of, signed_text, hex_of, hex_text}

-- no more of a list can be taken than it has
pub take_min : (n : ℕ) (s : List ℕ) → take n s ≡ take (min n (length s)) s
take_min n s =
    by-test (ltb n (length s))
    (λ t. let e : min n (length s) ≡ n = omega (arith, ltb-true) in rw e)
    (λ t.
    let h : length s ≤ n = omega (arith, ltb-false) in
    let e : min n (length s) ≡ length s = omega arith in
    rw e (take_all n s h ∙ sym (take_all (length s) s (omega arith))))

-- a list, or another behind it
take-both : (n : ℕ) (s t : List ℕ) → take n (s ++ t) ≡ take n s ++ take (n - length s) t
take-both n s t =
    by-test (ltb (length s) n)
    (λ u.
    let h = ltb-true (length s) n u in
    let e : length s + (n - length s) ≡ n = omega arith in
    ap (λ (k : ℕ). take k (s ++ t)) (sym e) ∙ take-append-add s t (n - length s) ∙ rw (take_all n s (omega arith)))
    (λ u.
    let h : n ≤ length s = omega (arith, ltb-false) in
    let e : n - length s ≡ 0 = omega arith in
    rw (take-append-le n s t h, e) (sym (append-nil (take n s))))

-- n bytes of s, where that is all of it or all that fits
pub puts-take : (d : List ℕ) (at : ℕ) (s : List ℕ) (n : ℕ) → n ≡ min (length d - at) (length s) → Puts d at s (put d at (take n s)) (at + n)
unfolding fitting
puts-take d at s n e =
    let f : take (length d - at) s ≡ take n s = take_min (length d - at) s ∙ ap (λ (k : ℕ). take k s) (sym e) in
    let l : length (take n s) ≡ n = simp length-take (omega arith) in
    record { line-is = rw f; end_is = rw (f, l) }

-- nothing fits behind the end
pub puts_none : (d : List ℕ) (at : ℕ) (s : List ℕ) → length d < at → Puts d at s d at
unfolding fitting
puts_none d at s h =
    let e : length d - at ≡ 0 = omega arith in
    record { line-is = rw e (sym (put-none d at)); end_is = rw e (omega arith) }

-- no text
pub puts-nil : (d : List ℕ) (at : ℕ) → Puts d at [] d at
unfolding fitting
puts-nil d at =
    let e : take {A = ℕ} (length d - at) [] ≡ [] = take-nil (length d - at) in
    record { line-is = rw e (sym (put-none d at)); end_is = rw e (omega arith) }

-- one text behind another is one
pub puts-puts : (d : List ℕ) (at : ℕ) (s e : List ℕ) (m : ℕ) (t f : List ℕ) (n : ℕ)
    → Puts d at s e m → Puts e m t f n → Puts d at (s ++ t) f n
unfolding fitting
puts-puts d at s e m t f n p q =
    by-test (ltb (length d) at)
    (λ u.
    let h = ltb-true (length d) at u in
    let z : length d - at ≡ 0 = omega arith in
    let x : e ≡ d = rw z at p.line-is ∙ put-none d at in
    let y : m ≡ at = let w = rw z at p.end_is in omega arith in
    let z' : length e - m ≡ 0 = rw (x, y) z in
    let v : f ≡ e = rw z' at q.line-is ∙ put-none e m in
    let w : n ≡ m = let w = rw z' at q.end_is in omega arith in
    record { line-is = rw z (cc (put-none d at)); end_is = rw z (omega arith) })
    (λ u.
    let h = ltb-false (length d) at u in
    let r = length d - at in
    let a = take r s in
    let la : length a ≡ min r (length s) = length-take r s in
    let le : length e ≡ length d = ap length p.line-is ∙ length-put d at a (omega arith) in
    let k : length e - m ≡ r - length s = let w = p.end_is in omega arith in
    let b = take (r - length s) t in
    let lb : length b ≡ min (r - length s) (length t) = length-take (r - length s) t in
    let both : take r (s ++ t) ≡ a ++ b = take-both r s t in
    let fe : f ≡ put e m b = q.line-is ∙ ap (λ (j : ℕ). put e m (take j t)) k in
    let ne : n ≡ m + length b = q.end_is ∙ ap (λ (j : ℕ). m + length (take j t)) k in
    let pe : put e m b ≡ put (put d at a) m b = ap (λ (l : List ℕ). put l m b) p.line-is in
    let me : at + length a ≡ m = sym p.end_is in
    let pp : put (put d at a) m b ≡ put d at (a ++ b) = put-put d at a m b me (omega arith) in
    let lab = length-append a b in
    record { line-is = rw both (fe ∙ pe ∙ pp); end_is = rw both (omega arith) })

-- the fewest digits are counted
places-fewest : (f n k : ℕ) → n ≤ f → IsDigitCount 10 1 n k → places f n ≡ k
unfolding places
places-fewest f n zero h w = absurd (let z = w.0 in omega arith)
places-fewest zero n (suc zero) h w = refl
places-fewest (suc f) n (suc zero) h w = let z = w.1 in rw (lt-ltb n 10 (omega arith))
places-fewest zero n (suc (suc j)) h w =
    let e : suc (suc j) - 1 ≡ suc j = omega arith in
    let big : 10 ^ suc j ≤ n = rw e at (w.2 (omega arith)) in
    let p = one-le-pow (suc j) 10 (omega arith) in
    absurd (omega arith)
places-fewest (suc f) n (suc (suc j)) h w =
    let e : suc (suc j) - 1 ≡ suc j = omega arith in
    let e' : suc j - 1 ≡ j = omega arith in
    let big : 10 ^ suc j ≤ n = rw e at (w.2 (omega arith)) in
    let small : n < 10 ^ suc (suc j) = w.1 in
    let p : 10 ^ suc (suc j) ≡ 10 ^ suc j * 10 = pow-suc 10 (suc j) in
    let q : 10 ^ suc j ≡ 10 ^ j * 10 = pow-suc 10 j in
    let one = one-le-pow j 10 (omega arith) in
    let r = places-fewest f (n / 10) (suc j) (omega arith) (omega arith, omega arith, λ _. rw e' (omega arith)) in
    rw (le-ltb n 10 (omega arith)) (ap suc r)

pub decimal-digits : (n k : ℕ) → IsDigitCount 10 1 n k → decimal_of n ≡ last_digits 10 k n
unfolding decimal_of
decimal-digits n k w = rw (places-fewest n n k (omega arith) w)

-- the digits of a number with its sign
pub signed-plain : (z : ℤ) → lt_z z (pos 0) ≡ false → signed_text z ≡ decimal_of (unsigned_abs z)
unfolding signed_text
signed-plain (pos n) h = refl
signed-plain (negsuc n) h = cc

pub signed-minus : (z : ℤ) → lt_z z (pos 0) ≡ true → signed_text z ≡ (45 ∷ []) ++ decimal_of (unsigned_abs z)
unfolding signed_text
signed-minus (pos n) h = absurd (omega (arith, ltb-true n 0 h))
signed-minus (negsuc n) h = refl

-- the digits of one byte more
pub hex-append : (a b : List ℕ) → hex_of (a ++ b) ≡ hex_of a ++ hex_of b
unfolding hex_of
hex-append [] b = refl
hex-append (x ∷ a) b = rw (hex-append a b) (simp append_assoc)

pub hex-step : (s : List ℕ) (i : ℕ) → i < length s → hex_of (take (i + 1) s) ≡ hex_of (take i s) ++ last_digits 16 2 (get_or s i 0)
unfolding hex_of
hex-step s i h = rw (add-one, take-suc s i 0) (hex-append (take i s) (get_or s i 0 ∷ []) ∙ simp append-nil)

-- bytes in hexadecimal, and none
pub hex-none : (s : List ℕ) → length s ≡ 0 → hex_text s ≡ 45 ∷ []
unfolding hex_text
hex-none [] h = refl
hex-none (b ∷ s) h = absurd (omega arith)

pub hex-some : (s : List ℕ) → (length s ≡ 0 → ⊥) → hex_text s ≡ hex_of s
unfolding hex_text
hex-some [] h = absurd (h refl)
hex-some (b ∷ s) h = refl

-- n bytes from place at, where they are counted first
pub cut-is : (s : List ℕ) (at n a m : ℕ) → a ≡ min at (length s) → m ≡ min n (length s - a) → take m (take (length s - a) (drop a s)) ≡ part s at n
unfolding part
cut-is s at n a m e f =
    let d = drop a s in
    let l : length d ≡ length s - a = length-drop a s in
    let all : take (length s - a) d ≡ d = take_all (length s - a) d (omega arith) in
    let k : min n (length d) ≡ m = omega arith in
    let few : take n d ≡ take m d = take_min n d ∙ ap (λ (j : ℕ). take j d) k in
    let same : d ≡ drop at s =
    by-test (ltb (length s) at)
    (λ t. drop_of_length-le s {i = a} (omega (arith, ltb-true)) ∙ sym (drop_of_length-le s {i = at} (omega (arith, ltb-true))))
    (λ t. let b : a ≡ at = omega (arith, ltb-false) in rw b) in
    rw all (sym few ∙ ap (take n) same)

-- what `{:02x}` writes of a byte
pub hex-pair : (b : ℕ) → b < 256 → padded_integral (format_spec 32 0 4 2 (2 ^ 64 - 1)) false [] (digits 16 false b) ≡ last_digits 16 2 b
hex-pair b h = let e : b / 16 % 16 ≡ b / 16 = omega arith in rw e (hex_byte false b h)

-- ---- for the functions

pub ruleset put_rules = puts-take

pub ruleset number_rules = decimal-digits

pub ruleset hex_rules = (hex-none, hex-some)

pub ruleset cut_rules = cut-is
