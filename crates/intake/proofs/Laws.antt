-- What one read leaves. Assumes nothing.
use mathlib.Core.Path.{◌≡◌, sym, ap, ◌∙◌}
use mathlib.Core.List.{List, ◌++◌}
use Prim.Native.Nat.{ℕ, ◌+◌, ◌-◌, ◌≤◌}
use native.Mathlib.Omega.{arith}
use lib.Dec.{ltb}
use lib.ListN.{length, take, drop, length-take}
use lib.Seq.{take_at, drop_at, take-add, take-append-le, length-take-le}
use borrow.Author.Tests.{ltb-true, ltb-false, lt-ltb, le-ltb}
use borrow.Rule.Slice.PartMut.{put_mid, post_of}
use Rattle.le.specs.Le.{part}
use Rattle.le.proofs.Parts.{by-test, length_part}
use Rattle.rx_store.specs.RxStore.{slid}
use Rattle.rx_store.proofs.Laws.{length-slid}
use Rattle.intake.specs.declared.Held.{Held}
use Rattle.std.proofs.Common.{ControlFlow}
use Rattle.intake.specs.Intake.{held_of, more_of, ReadsMore}

-- something came, or nothing did
came : (n k : ℕ) → ltb 0 k ≡ ltb n (n + k)
came n k =
    by-test (ltb 0 k)
    (λ t. let h = ltb-true 0 k t in rw (t, lt-ltb n (n + k) (omega arith)))
    (λ t. let h = ltb-false 0 k t in rw (t, le-ltb n (n + k) (omega arith)))

-- what was moved to the start is there still
front : (m ys : List ℕ) (n j : ℕ) → n ≤ length m → take n (put_mid n j m ys) ≡ take n m
front m ys n j h = take_at (take n m) (ys ++ drop j (drop n m)) n (rw length-take (omega arith))

moved : (d : List ℕ) (at n : ℕ) → at + n ≤ length d → take n (slid d at n) ≡ part d at n
unfolding slid
moved d at n h = take_at (part d at n) (drop n d) n (length_part d at n h)

pub reads_more : (d m ys : List ℕ) (at end k j : ℕ) (r : ControlFlow Held Held) → held_of r ≡ record { at = 0; end = (end - at) + k } → more_of r ≡ ltb 0 k → at ≤ end → end ≤ length d → m ≡ slid d at (end - at)
    → (end - at) + k ≤ length (put_mid (end - at) j m ys)
    → ReadsMore d at end r (put_mid (end - at) j m ys)
reads_more d m ys at end k j r held more o i e inside =
    let at-is = ap (λ (h : Held). h.at) held in
    let end_is = ap (λ (h : Held). h.end) held in
    let h : length m ≡ length d = ap length e ∙ length-slid d at (end - at) (omega arith) in
    record {
      at-is = at-is;
      kept = front m ys (end - at) j (omega arith) ∙ ap (take (end - at)) e ∙ moved d at (end - at) (omega arith);
      grown = omega arith;
      inside = omega arith;
      more-is = more ∙ came (end - at) k ∙ ap (ltb (end - at)) (sym end_is);
    }

-- what a read put behind the front stands there
pub behind : (m ys : List ℕ) (n j k : ℕ) → n ≤ length m → k ≤ length ys → take k (drop n (put_mid n j m ys)) ≡ take k ys
behind m ys n j k within fits =
    ap (take k) (drop_at (take n m) (ys ++ post_of n j m) n (length-take-le n m within)) ∙ take-append-le k ys (post_of n j m) fits

pub came_behind : (m ys : List ℕ) (n j k : ℕ) → n ≤ length m → k ≤ length ys → part (put_mid n j m ys) n (n + k - n) ≡ take k ys
unfolding part
came_behind m ys n j k within fits = let same : n + k - n ≡ k = omega arith in rw (same, behind m ys n j k within fits)

-- and the front with it is all that was read
pub read-on : (m ys : List ℕ) (n j k : ℕ) → n ≤ length m → k ≤ length ys → take n m ++ take k ys ≡ take (n + k) (put_mid n j m ys)
read-on m ys n j k within fits =
    let p = put_mid n j m ys in
    ap (λ (l : List ℕ). take n m ++ l) (sym (behind m ys n j k within fits)) ∙ ap (λ (l : List ℕ). l ++ take k (drop n p)) (sym (front m ys n j within)) ∙ sym (take-add n k p)
