-- Laws of the shares of the receive store. Assumes nothing.
use mathlib.Core.Path.{◌≡◌, sym, ap, subst, ◌∙◌}
use mathlib.Core.List.{List}
use Prim.Native.Nat.{ℕ, suc, ◌+◌, ◌-◌, ◌*◌, ◌≤◌, ◌<◌}
use native.Mathlib.Nat.{mul-le-mul_right, suc-mul}
use native.Mathlib.Omega.{arith}
use lib.ListN.{length, take, drop, length-take}
use borrow.Rule.Slice.PartMut.{put_mid}
use Rattle.le.specs.Le.{part, put}
use Rattle.le.proofs.Parts.{length_part, length-put, lent-part, lent_back}
use Rattle.rx_store.specs.RxStore.{Room, appended, share_of, ShareFits, buffered_in, front_of}
use Rattle.rx_store.proofs.Laws.{length-appended, own-share, other-share}

-- a share below n lies in the store
pub share_in : (i n w len : ℕ) → i < n → n * w ≤ len → i * w + w ≤ len
share_in i n w len h k =
    let m : suc i * w ≤ n * w = mul-le-mul_right w (omega arith) in
    let e : suc i * w ≡ w + i * w = rw suc-mul (omega arith) in
    omega arith

-- what `append` does to the share that it is lent is what it does to the store
pub buffered_is : (rx : List ℕ) (cap i : ℕ) (head buffered : ℕ) (payload after : List ℕ) → ShareFits i cap (length rx)
    → Room (2 * cap) head buffered (length payload)
    → after ≡ appended (take (i * (2 * cap) + 2 * cap - i * (2 * cap)) (drop (i * (2 * cap)) rx)) head buffered payload
    → put_mid (i * (2 * cap)) (i * (2 * cap) + 2 * cap - i * (2 * cap)) rx after ≡ buffered_in rx cap i head buffered payload
unfolding buffered_in share_of
buffered_is rx cap i head buffered payload after h r e =
    let at = i * (2 * cap) in
    let share = part rx at (2 * cap) in
    let n : length share ≡ 2 * cap = length_part rx at (2 * cap) h in
    let f : after ≡ appended share head buffered payload =
    e ∙ ap (λ (l : List ℕ). appended l head buffered payload) (lent-part rx at (2 * cap)) in
    let m : length after ≡ 2 * cap = ap length f ∙ length-appended share head buffered payload (subst (λ (x : ℕ). Room x head buffered (length payload)) (sym n) r) ∙ n in
    lent_back rx at (2 * cap) after m ∙ ap (put rx at) f

-- what is handed over from the share that was lent is what the store has there
pub handed_is : (rx buf after : List ℕ) (cap i head n : ℕ)
    → after ≡ put buf 0 (part (take (i * (2 * cap) + 2 * cap - i * (2 * cap)) (drop (i * (2 * cap)) rx)) head n) → after ≡ put buf 0 (front_of rx cap i head n)
unfolding front_of share_of
handed_is rx buf after cap i head n e = e ∙ ap (λ (l : List ℕ). put buf 0 (part l head n)) (lent-part rx (i * (2 * cap)) (2 * cap))

pub front-short : (rx : List ℕ) (cap i head n : ℕ) → length (front_of rx cap i head n) ≤ n
unfolding front_of part
front-short rx cap i head n = simp length-take (omega arith)

module _ (rx : List ℕ) (cap i : ℕ) (head buffered : ℕ) (payload : List ℕ) (h : ShareFits i cap (length rx))
    (r : Room (2 * cap) head buffered (length payload)) where
  long : length (appended (share_of rx cap i) head buffered payload) ≡ 2 * cap
  unfolding share_of
  long =
      let n : length (share_of rx cap i) ≡ 2 * cap = length_part rx (i * (2 * cap)) (2 * cap) h in
      length-appended (share_of rx cap i) head buffered payload (subst (λ (x : ℕ). Room x head buffered (length payload)) (sym n) r) ∙ n

  pub length-buffered : length (buffered_in rx cap i head buffered payload) ≡ length rx
  unfolding buffered_in
  length-buffered = let n = long in length-put rx (i * (2 * cap)) (appended (share_of rx cap i) head buffered payload) (omega arith)

  -- the slot's own share has the payload behind its run
  pub buffered-own : share_of (buffered_in rx cap i head buffered payload) cap i ≡ appended (share_of rx cap i) head buffered payload
  unfolding buffered_in share_of
  buffered-own = own-share rx i (2 * cap) (appended (share_of rx cap i) head buffered payload) long h

  -- the others stay
  pub buffered-other : (j : ℕ) → (i ≡ j → ⊥) → share_of (buffered_in rx cap i head buffered payload) cap j ≡ share_of rx cap j
  unfolding buffered_in share_of
  buffered-other j d = other-share rx i j (2 * cap) (appended (share_of rx cap i) head buffered payload) long h d
