-- Sums over the frames of a line: the bytes of a channel's WRTEs, the credit of its OKAYs, and the device's rule at each WRTE.
-- Assumes nothing.
use mathlib.Core.Path.{◌≡◌, refl, sym, ap, ap₂, subst, ◌∙◌}
use mathlib.Core.Bool.{Bool, true, false, cond, ◌&&◌, true≢false}
use mathlib.Core.List.{List, [], ◌∷◌, ◌++◌, append_assoc}
use Prim.Native.Nat.{ℕ, suc, ◌+◌, ◌≤◌, ◌<◌}
use native.Mathlib.Omega.{arith}
use lib.Dec.{eqb}
use lib.ListN.{length, length-append}
use Rattle.le.proofs.Parts.{by-test}
use Rattle.le.proofs.RowLaws.{Every}
use Rattle.slot.proofs.Laws.{cond-true, cond-false}
use Rattle.protocol.specs.Command.{is_ready, is_write, is_open}
use Rattle.connection.specs.Frames.{Sent}
use Rattle.history.specs.Book.{credit_in, acks_of}
use Rattle.history.specs.Credits.{writes_of}
use Rattle.ends.specs.Credit.{data_of, amounts_of}

-- ---- one frame

-- a WRTE, and an OKAY, to this number
abbrev pub writes-to : ℕ → Sent → Bool
writes-to l f = is_write f.command && eqb f.arg1 l

abbrev pub readies-to : ℕ → Sent → Bool
readies-to r f = is_ready f.command && eqb f.arg1 r

-- ---- sums

-- the bytes of the WRTEs to a number
abbrev pub paid : ℕ → List Sent → List ℕ
paid l [] = []
paid l (f ∷ fs) = cond (writes-to l f) f.payload [] ++ paid l fs

-- the credit of the OKAYs to a number
abbrev pub due : ℕ → List Sent → ℕ
due r [] = 0
due r (f ∷ fs) = cond (readies-to r f) (credit_in f.payload) 0 + due r fs

pub paid-append : (l : ℕ) (xs ys : List Sent) → paid l (xs ++ ys) ≡ paid l xs ++ paid l ys
paid-append l [] ys = refl
paid-append l (f ∷ fs) ys =
    ap (λ (z : List ℕ). cond (writes-to l f) f.payload [] ++ z) (paid-append l fs ys) ∙ sym (append_assoc (cond (writes-to l f) f.payload []) (paid l fs) (paid l ys))

pub due-append : (r : ℕ) (xs ys : List Sent) → due r (xs ++ ys) ≡ due r xs + due r ys
due-append r [] ys = omega arith
due-append r (f ∷ fs) ys = let e = due-append r fs ys in omega arith

pub acks_append : (l : ℕ) (xs ys : List Sent) → acks_of l (xs ++ ys) ≡ acks_of l xs + acks_of l ys
unfolding acks_of
acks_append l [] ys = omega arith
acks_append l (f ∷ fs) ys = let e = acks_append l fs ys in omega arith

-- ---- none

pub paid-none : (l : ℕ) (fs : List Sent) → Every (λ (f : Sent). writes-to l f ≡ false) fs → paid l fs ≡ []
paid-none l [] e = refl
paid-none l (f ∷ fs) e = ap₂ (λ (x y : List ℕ). x ++ y) (cond-false (writes-to l f) f.payload [] e.0) (paid-none l fs e.1)

pub due-none : (r : ℕ) (fs : List Sent) → Every (λ (f : Sent). readies-to r f ≡ false) fs → due r fs ≡ 0
due-none r [] e = refl
due-none r (f ∷ fs) e = let a = cond-false (readies-to r f) (credit_in f.payload) 0 e.0 in let b = due-none r fs e.1 in omega arith

pub acks-none : (l : ℕ) (fs : List Sent) → Every (λ (f : Sent). (is_ready f.command && eqb f.arg0 l) ≡ false) fs → acks_of l fs ≡ 0
unfolding acks_of
acks-none l [] e = refl
acks-none l (f ∷ fs) e = let a = cond-false (is_ready f.command && eqb f.arg0 l) (credit_in f.payload) 0 e.0 in let b = acks-none l fs e.1 in omega arith

-- ---- the same sums by the other number, or by both

pub paid-writes : (l r : ℕ) (fs : List Sent) → Every (λ (f : Sent). writes-to l f ≡ (is_write f.command && eqb f.arg0 r)) fs → length (paid l fs) ≡ writes_of r fs
unfolding writes_of
paid-writes l r [] e = refl
paid-writes l r (f ∷ fs) e =
    let i = paid-writes l r fs e.1 in
    let a = length-append (cond (writes-to l f) f.payload []) (paid l fs) in
    let b : length (cond (writes-to l f) f.payload []) ≡ cond (is_write f.command && eqb f.arg0 r) (length f.payload) 0 =
    by-test (writes-to l f)
    (λ t. ap length (cond-true (writes-to l f) f.payload [] t) ∙ sym (cond-true (is_write f.command && eqb f.arg0 r) (length f.payload) 0 (sym e.0 ∙ t)))
    (λ t. ap length (cond-false (writes-to l f) f.payload [] t) ∙ sym (cond-false (is_write f.command && eqb f.arg0 r) (length f.payload) 0 (sym e.0 ∙ t))) in
    omega arith

pub due-acks : (l r : ℕ) (fs : List Sent) → Every (λ (f : Sent). (is_ready f.command && eqb f.arg0 l) ≡ readies-to r f) fs → acks_of l fs ≡ due r fs
unfolding acks_of
due-acks l r [] e = refl
due-acks l r (f ∷ fs) e = ap₂ (λ (x : Bool) (y : ℕ). cond x (credit_in f.payload) 0 + y) e.0 (due-acks l r fs e.1)

pub paid-data : (l r : ℕ) (fs : List Sent) → Every (λ (f : Sent). writes-to l f ≡ (is_write f.command && (eqb f.arg0 r && eqb f.arg1 l))) fs → paid l fs ≡ data_of l r fs
unfolding data_of
paid-data l r [] e = refl
paid-data l r (f ∷ fs) e = ap₂ (λ (x : Bool) (y : List ℕ). cond x f.payload [] ++ y) e.0 (paid-data l r fs e.1)

pub due-amounts : (l r : ℕ) (fs : List Sent) → Every (λ (f : Sent). readies-to r f ≡ (is_ready f.command && (eqb f.arg0 l && eqb f.arg1 r))) fs → due r fs ≡ amounts_of l r fs
unfolding amounts_of
due-amounts l r [] e = refl
due-amounts l r (f ∷ fs) e = ap₂ (λ (x : Bool) (y : ℕ). cond x (credit_in f.payload) 0 + y) e.0 (due-amounts l r fs e.1)

-- ---- the rule: n bytes were sent ahead of these frames; what was sent ahead of each WRTE is below b

abbrev pub Ruled : ℕ → ℕ → ℕ → List Sent → Type 0
Ruled l n b [] = Unit {0}
Ruled l n b (f ∷ fs) = (writes-to l f ≡ true → n < b) × Ruled l (n + length (cond (writes-to l f) f.payload [])) b fs

pub ruled-more : (l n b c : ℕ) (fs : List Sent) → b ≤ c → Ruled l n b fs → Ruled l n c fs
ruled-more l n b c [] h e = tt
ruled-more l n b c (f ∷ fs) h e = ((λ t. let a = e.0 t in omega arith), ruled-more l (n + length (cond (writes-to l f) f.payload [])) b c fs h e.1)

pub ruled-append : (l n b : ℕ) (xs ys : List Sent) → Ruled l n b xs → Ruled l (n + length (paid l xs)) b ys → Ruled l n b (xs ++ ys)
ruled-append l n b [] ys e g = let z : n + 0 ≡ n = omega arith in subst (λ (m : ℕ). Ruled l m b ys) z g
ruled-append l n b (f ∷ fs) ys e g =
    let a = length-append (cond (writes-to l f) f.payload []) (paid l fs) in
    let z : n + length (cond (writes-to l f) f.payload [] ++ paid l fs) ≡ n + length (cond (writes-to l f) f.payload []) + length (paid l fs) = omega arith in
    (e.0, ruled-append l (n + length (cond (writes-to l f) f.payload [])) b fs ys e.1 (subst (λ (m : ℕ). Ruled l m b ys) z g))

pub ruled-none : (l n b : ℕ) (fs : List Sent) → Every (λ (f : Sent). writes-to l f ≡ false) fs → Ruled l n b fs
ruled-none l n b [] e = tt
ruled-none l n b (f ∷ fs) e = ((λ t. absurd (true≢false (sym t ∙ e.0))), ruled-none l (n + length (cond (writes-to l f) f.payload [])) b fs e.1)

-- ---- OPENs: their numbers rise, from above m to k

abbrev pub Rising : ℕ → ℕ → List Sent → Type 0
Rising m k [] = m ≤ k
Rising m k (f ∷ fs) = (is_open f.command ≡ true → (m < f.arg0) × Rising f.arg0 k fs) × (is_open f.command ≡ false → Rising m k fs)

pub rising-below : (m k : ℕ) (fs : List Sent) → Rising m k fs → m ≤ k
rising-below m k [] e = e
rising-below m k (f ∷ fs) e =
    by-test (is_open f.command)
    (λ t. let a = (e.0 t).0 in let b = rising-below f.arg0 k fs (e.0 t).1 in omega arith)
    (λ t. rising-below m k fs (e.1 t))

pub rising-more : (m k n : ℕ) (fs : List Sent) → k ≤ n → Rising m k fs → Rising m n fs
rising-more m k n [] h e = omega arith
rising-more m k n (f ∷ fs) h e = ((λ t. ((e.0 t).0, rising-more f.arg0 k n fs h (e.0 t).1)), λ t. rising-more m k n fs h (e.1 t))

pub rising-quiet : (m k : ℕ) (fs gs : List Sent) → Every (λ (f : Sent). is_open f.command ≡ false) gs → Rising m k fs → Rising m k (fs ++ gs)
rising-quiet m k [] [] q e = e
rising-quiet m k [] (g ∷ gs) q e = ((λ t. absurd (true≢false (sym t ∙ q.0))), λ t. rising-quiet m k [] gs q.1 e)
rising-quiet m k (f ∷ fs) gs q e = ((λ t. ((e.0 t).0, rising-quiet f.arg0 k fs gs q (e.0 t).1)), λ t. rising-quiet m k fs gs q (e.1 t))

pub rising-next : (m k : ℕ) (fs : List Sent) (g : Sent) → g.arg0 ≡ suc k → Rising m k fs → Rising m (suc k) (fs ++ g ∷ [])
rising-next m k [] g e h = ((λ t. (omega arith, omega arith)), λ t. omega arith)
rising-next m k (f ∷ fs) g e h = ((λ t. ((h.0 t).0, rising-next f.arg0 k fs g e (h.0 t).1)), λ t. rising-next m k fs g e (h.1 t))
