-- Laws of the channel table. Assumes nothing.
use Rattle.std.proofs.Common.{◌≡◌, ℕ, suc, ◌+◌, ◌<◌, ◌≤◌, Bool, true, false, cond, not, List, [], ◌∷◌, take, drop, refl, sym, add-one, arith, le-ltb, lt-ltb, ap, ◌∙◌, get_or, length, zero, length-take-le}
use mir.Val.{bool_byte}
use lib.Dec.{ltb}
use lib.Seq.{get_or-take}
use borrow.Author.Tests.{ltb-true, ltb-false}
use Rattle.std.specs.Option.{MatchOption}
use Rattle.config.proofs.Laws.{and-true}
use Rattle.le.proofs.Parts.{by-test}
use Rattle.slot.specs.declared.ChannelSlot.{ChannelSlot}
use Rattle.slot.specs.declared.ids.RemoteId.{RemoteId}
use Rattle.slot.specs.Slot.{is_closed}
use Rattle.state.specs.declared.Header.{Header}
use Rattle.std.specs.Prelude.{IfSome}
use Rattle.state.specs.State.{state_of, slot_at}
use Rattle.le.proofs.RowLaws.{walk_here, walk-over}
use Rattle.state.proofs.StateLaws.{slot-in, state-full}
use Rattle.table.specs.declared.Want.{Want}
use Rattle.table.specs.declared.Want.TheVariants.{Empty, Remote, Live}
use Rattle.table.specs.Table.{first, wanted_by, count_of, place_of, below, allocated}
use Rattle.std.specs.Prelude.{Option, Some, None, Ok, Err}

pub bit-small : (t : Bool) → bool_byte t ≤ 1
bit-small true = omega arith
bit-small false = omega arith

pub bit-is : (t : Bool) → bool_byte t ≡ cond t 1 0
bit-is true = refl
bit-is false = refl

module _ (p : ChannelSlot → Bool) (b : List ℕ) (n i : ℕ) where
  module _ (h : i < n) (k : n ≤ 64) where
    here : drop i (take n (state_of b).slots) ≡ slot_at b i ∷ drop (suc i) (take n (state_of b).slots)
    here =
        let z = (state-full b).slots in
        walk_here (state_of b).slots n i (slot_at b i) (slot_at b i) h (omega arith) (slot-in b i (slot_at b i) (omega arith))

    -- a walk that stands at place i: it stops there, or goes on
    pub walk-stop : p (slot_at b i) ≡ true → i + first p (drop i (take n (state_of b).slots)) ≡ i
    unfolding first
    walk-stop t = rw (here, t) (omega arith)

    pub walk_step : p (slot_at b i) ≡ false
        → i + first p (drop i (take n (state_of b).slots)) ≡ i + 1 + first p (drop (i + 1) (take n (state_of b).slots))
    unfolding first
    walk_step t = rw (here, t, add-one) (omega arith)

    -- a count that stands there
    pub count-step : count_of p (drop i (take n (state_of b).slots))
        ≡ cond (p (slot_at b i)) 1 0 + count_of p (drop (i + 1) (take n (state_of b).slots))
    unfolding count_of
    count-step = rw (here, add-one)

  pub count-end : n ≤ i → count_of p (drop i (take n (state_of b).slots)) ≡ 0
  unfolding count_of
  count-end h = rw (walk-over (state_of b).slots n i h)

  pub walk_end : n ≤ i → i + first p (drop i (take n (state_of b).slots)) ≡ i
  unfolding first
  walk_end h = rw (walk-over (state_of b).slots n i h) (omega arith)

-- where the first element that passes stands
module _ {A : Type 0} (p : A → Bool) (d : A) where
  first-is : (l : List A) (i : ℕ) → i < length l → p (get_or l i d) ≡ true → ((k : ℕ) → k < i → p (get_or l k d) ≡ false) → first p l ≡ i
  unfolding first
  first-is [] i h t f = absurd (omega arith)
  first-is (x ∷ l) zero h t f = rw t
  first-is (x ∷ l) (suc i) h t f = rw (f 0 (omega arith), first-is l i (omega arith) t (λ k g. f (suc k) (omega arith)))

  first-none : (l : List A) → ((k : ℕ) → k < length l → p (get_or l k d) ≡ false) → first p l ≡ length l
  unfolding first
  first-none [] f = refl
  first-none (x ∷ l) f = rw (f 0 (omega arith), first-none l (λ k h. f (suc k) (omega arith)))

-- a search of the places below n
module _ (want : Want) (b : List ℕ) (n : ℕ) (k : n ≤ 64) where
  long : length (take n (state_of b).slots) ≡ n
  long = let z = (state-full b).slots in length-take-le n (state_of b).slots (omega arith)

  slot-is : (i : ℕ) → i < n → get_or (take n (state_of b).slots) i (slot_at b 0) ≡ slot_at b i
  slot-is i h = get_or-take n (state_of b).slots i (slot_at b 0) h ∙ slot-in b i (slot_at b 0) (omega arith)

  pub found-below : (r : Option ℕ)
      → MatchOption r ((i : ℕ) → 0 ≤ i → i < n → wanted_by want (slot_at b i) ≡ false)
      (λ i. (0 ≤ i) × (i < n) × (wanted_by want (slot_at b i) ≡ true) × ((j : ℕ) → 0 ≤ j → j < i → wanted_by want (slot_at b j) ≡ false))
      → r ≡ below n (place_of want n (state_of b).slots)
  unfolding below place_of
  found-below None f =
      let e = first-none (wanted_by want) (slot_at b 0) (take n (state_of b).slots) (λ i h. ap (wanted_by want) (slot-is i (omega (arith, long))) ∙ f i (omega arith) (omega (arith, long))) in
      rw (e, long, le-ltb n n (omega arith))
  found-below (Some i) f =
      let e = first-is (wanted_by want) (slot_at b 0) (take n (state_of b).slots) i (omega (arith, long, f.1)) (ap (wanted_by want) (slot-is i f.1) ∙ f.2)
      (λ j h. ap (wanted_by want) (slot-is j (omega (arith, f.1))) ∙ f.3 j (omega arith) h) in
      rw (e, lt-ltb i n f.1)

-- a place that is one below n, and none
module _ (n x : ℕ) (r : Option ℕ) (e : r ≡ below n x) where
  pub below-some : (i : ℕ) → r ≡ Some i → (i ≡ x) × (i < n)
  unfolding below
  below-some i f = by-test (ltb x n)
      (λ t. let g : ◌≡◌ {A = Option ℕ} (Some i) (Some x) = sym f ∙ (rw t at e) in let z : i ≡ x = cc in (z, let l = ltb-true x n t in omega arith))
      (λ t. let g : ◌≡◌ {A = Option ℕ} (Some i) None = sym f ∙ (rw t at e) in let z : ◌≡◌ {A = ℕ} 0 1 = cc in absurd (omega arith))

  pub below-fits : (m : ℕ) → n ≤ m → IfSome r (λ i. i < m)
  unfolding below
  below-fits m h = by-test (ltb x n)
      (λ t. let l = ltb-true x n t in rw (e, t) (omega arith))
      (λ t. rw (e, t) tt)

  pub below-none : r ≡ None → n ≤ x
  unfolding below
  below-none f = by-test (ltb x n)
      (λ t. let g : ◌≡◌ {A = Option ℕ} None (Some x) = sym f ∙ (rw t at e) in let z : ◌≡◌ {A = ℕ} 0 1 = cc in absurd (omega arith))
      (λ t. ltb-false x n t)

-- an empty place below channels is taken, else there is none
module _ (h : Header) (ss : List ChannelSlot) (i : ℕ) (e : i ≡ place_of Empty h.negotiated.config.channels ss) where
  pub allocates : i < h.negotiated.config.channels → (Ok (record { slot = i; local = record { 0 = h.next_local } })) ≡ allocated h ss
  unfolding allocated
  allocates k = rw (sym e, lt-ltb i h.negotiated.config.channels k)

  pub allocates-none : h.negotiated.config.channels ≤ i → (Err (record {})) ≡ allocated h ss
  unfolding allocated
  allocates-none k = rw (sym e, le-ltb i h.negotiated.config.channels k)

-- what passes a narrower test stands no earlier
pub first-weaker : {A : Type 0} (p q : A → Bool) → ((x : A) → p x ≡ true → q x ≡ true) → (l : List A) → first q l ≤ first p l
unfolding first
first-weaker p q f [] = omega arith
first-weaker p q f (x ∷ l) =
    by-test (p x) (λ t. rw (t, f x t) (omega arith))
    (λ t. let i = first-weaker p q f l in by-test (q x) (λ u. rw (t, u) (omega arith)) (λ u. rw (t, u) (omega arith)))

-- a live channel's slot is one of that remote number, and is filled
pub live-remote : (r : RemoteId) (s : ChannelSlot) → wanted_by (Live r) s ≡ true → wanted_by (Remote r) s ≡ true
unfolding wanted_by
live-remote r s e = (and-true _ (not (is_closed s.state)) e).0
