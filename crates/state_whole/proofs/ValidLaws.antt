-- Laws of what makes a state whole. Assumes nothing.
use mathlib.Core.Path.{◌≡◌, refl, sym, ap, ◌∙◌}
use mathlib.Core.Bool.{Bool, true, false, not, cond, ◌&&◌}
use mathlib.Core.List.{List, [], ◌∷◌}
use Prim.Native.Nat.{ℕ, zero, suc, ◌+◌, ◌-◌, ◌*◌, ◌/◌, ◌%◌, ◌≤◌, ◌<◌}
use native.Mathlib.Numerals.{add-one}
use native.Mathlib.Omega.{arith}
use lib.Dec.{ltb, leb, eqb}
use lib.ListN.{length, take, drop, get_or}
use lib.Seq.{drop-drop}
use borrow.Author.Tests.{eq-eqb, ne_eqb, lt-ltb, le-ltb, le-leb, leb-true}
use Rattle.le.specs.Le.{part}
use Rattle.le.proofs.Parts.{by-test}
use Rattle.config.proofs.Laws.{and-true, within}
use Rattle.config.specs.Config.{cap_of}
use Rattle.slot.specs.declared.ChannelSlot.{ChannelSlot}
use Rattle.slot.proofs.Laws.{cond-true, cond-false}
use Rattle.slot.specs.Slot.{is_opening, is_failed, slot_ok}
use Rattle.state.specs.declared.Header.{Header}
use Rattle.le.specs.Rows.{rows, all_is}
use Rattle.state.specs.declared.QueuedOpen.{QueuedOpen}
use Rattle.state.specs.State.{tag_at, header_len, queue_at, queued_len, slot_len, state_len, is_ours, is_offer, none_queued, flag_of, state_of_tag, failed_of_tag, slot_of, is_tag, is_slot, queued_of, header_of, state_of, is_state, slot_at, queued_at}
use Rattle.state_whole.specs.Whole.{filled_ok, slot_fine, slots_fine, row_fine, rows_fine, queued_fine, queue_fine, pending_fine, offer_fine, opens_fine, header_fine, filled_at, HeaderOk, rest_whole, whole, is_whole}
use Rattle.le.proofs.RowLaws.{walk_here, walk-over}
use Rattle.state.proofs.StateLaws.{slot-in, open_in, state-full}

-- ---- tests in a row

pub and-goes : (a b r : Bool) → a ≡ true → r ≡ b → r ≡ (a && b)
and-goes true b r e f = f
and-goes false b r e f = let z : true ≡ false = cc in cc

pub and-stops : (a b : Bool) → a ≡ false → false ≡ (a && b)
and-stops true b e = cc
and-stops false b e = refl

and-ends : (a b : Bool) → b ≡ false → false ≡ (a && b)
and-ends true b e = sym e
and-ends false b e = refl

-- three tests: all go, the first stops, the second stops
pub three-go : (a b c r : Bool) → a ≡ true → b ≡ true → r ≡ c → r ≡ ((a && b) && c)
three-go a b c r e f g = and-goes (a && b) c r (sym (and-goes a b true e (sym f))) g

pub first_stops : (a b c : Bool) → a ≡ false → false ≡ ((a && b) && c)
first_stops a b c e = and-stops (a && b) c (sym (and-stops a b e))

second-stops : (a b c : Bool) → b ≡ false → false ≡ ((a && b) && c)
second-stops a b c e = and-stops (a && b) c (sym (and-ends a b e))

second-of-four : (a b c d : Bool) → b ≡ false → (((a && b) && c) && d) ≡ false
second-of-four a b c d e = sym (and-stops ((a && b) && c) d (sym (second-stops a b c e)))

-- ---- one row, by its tag

failed-some : (x : ℕ) → 1 ≤ x → is_failed (failed_of_tag x) ≡ true
unfolding is_failed
failed-some x h =
    rw (ne_eqb x 0 (λ e. omega arith))
    (by-test (eqb x 1) (λ t. rw t)
    (λ t. rw t (by-test (eqb x 2) (λ u. rw u) (λ u. rw u (by-test (eqb x 3) (λ v. rw v) (λ v. rw v (by-test (eqb x 4) (λ w. rw w) (λ w. rw w))))))))

-- the state of a filled slot's tag is not opening
state-some : (x : ℕ) → 1 ≤ x → is_opening (state_of_tag x) ≡ false
unfolding is_opening
state-some x h = rw (ne_eqb x 0 (λ e. omega arith)) (by-test (eqb x 1) (λ t. rw t) (λ t. rw t))

and-id : (x : Bool) → (x && true) ≡ x
and-id true = refl
and-id false = refl

third-stops : (a b c d : Bool) → c ≡ false → (((a && b) && c) && d) ≡ false
third-stops a b c d e = sym (and-stops ((a && b) && c) d (sym (and-ends (a && b) c e)))

module _ (l : List ℕ) (cap : ℕ) where
  filled-unknown : flag_of (get_or l tag_at 0 / 2 % 2) ≡ false → filled_ok (slot_of l) cap ≡ false
  unfolding filled_ok slot_of
  filled-unknown e =
      third-stops (not (is_opening (slot_of l).state)) (not (is_failed (slot_of l).failed)) (flag_of (get_or l tag_at 0 / 2 % 2)) (slot_ok (slot_of l) cap) e

  filled-opening : is_opening (state_of_tag (get_or l tag_at 0 / 2 / 2 / 2 % 4)) ≡ true → filled_ok (slot_of l) cap ≡ false
  unfolding filled_ok slot_of
  filled-opening e = rw e

  filled-failed : is_failed (failed_of_tag (get_or l tag_at 0 / 2 / 2 / 2 / 4)) ≡ true → filled_ok (slot_of l) cap ≡ false
  unfolding filled_ok slot_of
  filled-failed e =
      second-of-four (not (is_opening (slot_of l).state)) (not (is_failed (slot_of l).failed)) (slot_of l).has_remote (slot_ok (slot_of l) cap) (ap not e)

  filled-fine : (r : Bool) → is_opening (state_of_tag (get_or l tag_at 0 / 2 / 2 / 2 % 4)) ≡ false → is_failed (failed_of_tag (get_or l tag_at 0 / 2 / 2 / 2 / 4)) ≡ false
      → flag_of (get_or l tag_at 0 / 2 % 2) ≡ true → r ≡ slot_ok (slot_of l) cap → r ≡ filled_ok (slot_of l) cap
  unfolding filled_ok slot_of
  filled-fine r o f k e =
      and-goes _ (slot_ok (slot_of l) cap) r (sym (three-go (not (is_opening (slot_of l).state)) (not (is_failed (slot_of l).failed)) (slot_of l).has_remote true (ap not o) (ap not f) (sym k))) e

module _ (channels cap i : ℕ) (l : List ℕ) where
  -- an empty slot: the tag alone
  pub row-empty : (r : Bool) → get_or l tag_at 0 % 2 ≡ 0 → r ≡ is_tag (get_or l tag_at 0) → r ≡ row_fine channels cap i l
  unfolding row_fine slot_fine slot_of is_slot
  row-empty r e k =
      let f : flag_of (get_or l tag_at 0 % 2) ≡ false = ne_eqb (get_or l tag_at 0 % 2) 1 (λ x. omega arith) in
      k ∙ sym (ap (λ (x : Bool). is_tag (get_or l tag_at 0) && x) (cond-false (flag_of (get_or l tag_at 0 % 2)) _ true f) ∙ and-id (is_tag (get_or l tag_at 0)))

  pub row_zero : get_or l tag_at 0 ≡ 0 → true ≡ row_fine channels cap i l
  unfolding is_tag
  row_zero e = row-empty true (omega arith) (rw e)

  filled_row : get_or l tag_at 0 % 2 ≡ 1 → row_fine channels cap i l ≡ (is_tag (get_or l tag_at 0) && (ltb i channels && filled_ok (slot_of l) cap))
  unfolding row_fine slot_fine slot_of is_slot
  filled_row e =
      let f : flag_of (get_or l tag_at 0 % 2) ≡ true = eq-eqb (get_or l tag_at 0 % 2) 1 e in
      ap (λ (x : Bool). is_tag (get_or l tag_at 0) && x) (cond-true (flag_of (get_or l tag_at 0 % 2)) _ true f)

  broken : get_or l tag_at 0 % 2 ≡ 1 → filled_ok (slot_of l) cap ≡ false → false ≡ row_fine channels cap i l
  broken e k =
      rw (filled_row e) (and-ends (is_tag (get_or l tag_at 0)) (ltb i channels && filled_ok (slot_of l) cap) (sym (and-ends (ltb i channels) (filled_ok (slot_of l) cap) k)))

  -- a filled slot without its remote number, one that is still opening, and one with a fault or a state that is none
  pub row-unknown : get_or l tag_at 0 % 2 ≡ 1 → (get_or l tag_at 0 % 4 ≡ 3 → ⊥) → false ≡ row_fine channels cap i l
  row-unknown e n = broken e (filled-unknown l cap (ne_eqb (get_or l tag_at 0 / 2 % 2) 1 (λ x. n (omega arith))))

  pub row-opening : get_or l tag_at 0 % 2 ≡ 1 → get_or l tag_at 0 < 8 → false ≡ row_fine channels cap i l
  unfolding is_opening
  row-opening e n = let z : get_or l tag_at 0 / 2 / 2 / 2 % 4 ≡ 0 = omega arith in broken e (filled-opening l cap (rw z))

  pub row-failed : get_or l tag_at 0 % 2 ≡ 1 → 23 < get_or l tag_at 0 → false ≡ row_fine channels cap i l
  unfolding is_tag
  row-failed e n =
      by-test (is_tag (get_or l tag_at 0))
      (λ t. let k = and-true (leb (get_or l tag_at 0) 191) (leb (get_or l tag_at 0 / 2 / 2 / 2 % 4) 2) t in
      let b : get_or l tag_at 0 / 2 / 2 / 2 % 4 ≤ 2 = leb-true _ _ k.1 in
      broken e (filled-failed l cap (failed-some (get_or l tag_at 0 / 2 / 2 / 2 / 4) (omega arith))))
      (λ t. rw (filled_row e) (and-stops (is_tag (get_or l tag_at 0)) _ t))

  -- a filled slot that is whole but for its numbers, below channels or not
  pub row-filled : (r : Bool) → get_or l tag_at 0 % 4 ≡ 3 → 8 ≤ get_or l tag_at 0 → get_or l tag_at 0 ≤ 23 → i < channels → r ≡ slot_ok (slot_of l) cap → r ≡ row_fine channels cap i l
  unfolding is_tag is_failed
  row-filled r e a b h k =
      let t = get_or l tag_at 0 in
      let z : t / 2 / 2 / 2 / 4 ≡ 0 = omega arith in
      let o : is_tag t ≡ true = rw (le-leb t 191 (omega arith), le-leb (t / 2 / 2 / 2 % 4) 2 (omega arith)) in
      let g : r ≡ filled_ok (slot_of l) cap =
      filled-fine l cap r (state-some (t / 2 / 2 / 2 % 4) (omega arith)) (rw z) (eq-eqb (t / 2 % 2) 1 (omega arith)) k in
      rw (filled_row (omega arith)) (and-goes (is_tag t) _ r o (and-goes (ltb i channels) (filled_ok (slot_of l) cap) r (lt-ltb i channels h) g))

  pub row-beyond : get_or l tag_at 0 % 4 ≡ 3 → channels ≤ i → false ≡ row_fine channels cap i l
  row-beyond e h =
      rw (filled_row (omega arith)) (and-ends (is_tag (get_or l tag_at 0)) _ (sym (and-stops (ltb i channels) (filled_ok (slot_of l) cap) (le-ltb i channels h))))

-- ---- the rows, in one pass

rows_next : (i : ℕ) (b : List ℕ) → drop slot_len (drop (header_len + i * slot_len) b) ≡ drop (header_len + (i + 1) * slot_len) b
rows_next i b = let e : header_len + i * slot_len + slot_len ≡ header_len + (i + 1) * slot_len = omega arith in rw (drop-drop, e)

module _ (channels cap i to : ℕ) (b : List ℕ) where
  here-is : take slot_len (drop (header_len + i * slot_len) b) ≡ part b (header_len + i * slot_len) slot_len
  unfolding part
  here-is = refl

  pub rows_step : i < to → row_fine channels cap i (part b (header_len + i * slot_len) slot_len) ≡ true
      → rows_fine channels cap i (to - i) (drop (header_len + i * slot_len) b) ≡ rows_fine channels cap (i + 1) (to - (i + 1)) (drop (header_len + (i + 1) * slot_len) b)
  unfolding rows_fine
  rows_step h t =
      let e : to - i ≡ suc (to - (i + 1)) = omega arith in
      rw (e, here-is, t, rows_next i b, add-one)

  pub rows-stop : i < to → row_fine channels cap i (part b (header_len + i * slot_len) slot_len) ≡ false → rows_fine channels cap i (to - i) (drop (header_len + i * slot_len) b) ≡ false
  unfolding rows_fine
  rows-stop h t = let e : to - i ≡ suc (to - (i + 1)) = omega arith in rw (e, here-is, t)

  pub rows_end : to ≤ i → rows_fine channels cap i (to - i) (drop (header_len + i * slot_len) b) ≡ true
  unfolding rows_fine
  rows_end h = let e : to - i ≡ 0 = omega arith in rw e

-- the first k rows and m behind them
rows_split : (channels cap i k m : ℕ) (l : List ℕ)
    → rows_fine channels cap i (k + m) l ≡ (rows_fine channels cap i k l && rows_fine channels cap (i + k) m (drop (k * slot_len) l))
unfolding rows_fine
rows_split channels cap i zero m l =
    let n : 0 + m ≡ m = omega arith in
    let p : i + 0 ≡ i = omega arith in
    rw (n, p)
rows_split channels cap i (suc k) m l =
    let r = rows_split channels cap (suc i) k m (drop slot_len l) in
    let n : suc k + m ≡ suc (k + m) = omega arith in
    let p : i + suc k ≡ suc i + k = omega arith in
    let d : slot_len + k * slot_len ≡ suc k * slot_len = omega arith in
    rw (n, r, drop-drop, d, p) (sym (and-joins (row_fine channels cap i (take slot_len l)) _ _))
  where
    and-joins : (x y z : Bool) → ((x && y) && z) ≡ (x && (y && z))
    and-joins true y z = refl
    and-joins false y z = refl

-- the rows below k and those from k on
pub rows_both : (channels cap k : ℕ) (b : List ℕ) → k ≤ 64
    → (rows_fine channels cap 0 (k - 0) (drop (header_len + 0 * slot_len) b) && rows_fine channels cap k (64 - k) (drop (header_len + k * slot_len) b)) ≡ rows_fine channels cap 0 64 (drop header_len b)
rows_both channels cap k b h =
    let e : k + (64 - k) ≡ 64 = omega arith in
    let s : 0 + k ≡ k = omega arith in
    let z : k - 0 ≡ k = omega arith in
    rw z (sym (rw (e, s, drop-drop) at (rows_split channels cap 0 k (64 - k) (drop header_len b))))

-- one pass is both tests
and_both : (a b c d : Bool) → ((a && b) && (c && d)) ≡ ((a && c) && (b && d))
and_both true b true d = refl
and_both true true false d = refl
and_both true false false d = refl
and_both false b c d = refl

pub one-pass : (channels cap i n : ℕ) (l : List ℕ) → rows_fine channels cap i n l ≡ (all_is slot_len is_slot n l && slots_fine channels cap i (rows slot_len slot_of n l))
unfolding rows_fine row_fine slots_fine all_is rows
one-pass channels cap i zero l = refl
one-pass channels cap i (suc n) l =
    let r = one-pass channels cap (suc i) n (drop slot_len l) in
    let a = is_slot (take slot_len l) in
    let s = slot_fine channels cap i (slot_of (take slot_len l)) in
    ap (λ (x : Bool). (a && s) && x) r
    ∙ and_both a s (all_is slot_len is_slot n (drop slot_len l)) (slots_fine channels cap (suc i) (rows slot_len slot_of n (drop slot_len l)))
    ∙ ap (λ (x : Bool). x && (s && slots_fine channels cap (suc i) (rows slot_len slot_of n (drop slot_len l)))) (cond-and a (all_is slot_len is_slot n (drop slot_len l)))
  where
    cond-and : (x y : Bool) → (x && y) ≡ cond x y false
    cond-and true y = refl
    cond-and false y = refl

-- ---- the queued opens, one at a time

module _ (b : List ℕ) (n i : ℕ) where
  module _ (h : i < n) (k : n ≤ 64) where
    pub open-here : drop i (take n (state_of b).queue) ≡ queued_at b i ∷ drop (suc i) (take n (state_of b).queue)
    open-here =
        let z = (state-full b).queue in
        walk_here (state_of b).queue n i (queued_at b i) (queued_at b i) h (omega arith) (open_in b i (queued_at b i) (omega arith))

    module _ (channels payload : ℕ) where
      pub opens-step : queued_fine channels payload (queued_at b i) ≡ true
          → queue_fine channels payload (drop i (take n (state_of b).queue)) ≡ queue_fine channels payload (drop (i + 1) (take n (state_of b).queue))
      unfolding queue_fine
      opens-step t = rw (open-here, t, add-one)

      pub opens-stop : queued_fine channels payload (queued_at b i) ≡ false → queue_fine channels payload (drop i (take n (state_of b).queue)) ≡ false
      unfolding queue_fine
      opens-stop t = rw (open-here, t)

  pub opens-end : (channels payload : ℕ) → n ≤ i → queue_fine channels payload (drop i (take n (state_of b).queue)) ≡ true
  unfolding queue_fine
  opens-end channels payload h = rw (walk-over (state_of b).queue n i h)

-- ---- the pending open

filled-get_or : (ss : List ChannelSlot) (i : ℕ) (d : ChannelSlot) → i < length ss → filled_at ss i ≡ (get_or ss i d).filled
unfolding filled_at
filled-get_or [] i d h = absurd (omega arith)
filled-get_or (s ∷ ss) zero d h = refl
filled-get_or (s ∷ ss) (suc i) d h = filled-get_or ss i d (omega arith)

pub filled-at : (b : List ℕ) (i : ℕ) → i < 64 → filled_at (state_of b).slots i ≡ (slot_at b i).filled
filled-at b i h =
    let d = slot_at b 0 in
    let n = (state-full b).slots in
    filled-get_or (state_of b).slots i d (omega arith) ∙ ap (λ (s : ChannelSlot). s.filled) (slot-in b i d h)

module _ (h : Header) (b : List ℕ) where
  pub waits_in : (s : ChannelSlot) → is_ours h.pending.what ≡ true → h.pending.slot < h.negotiated.config.channels → h.negotiated.config.channels ≤ 64
      → s ≡ slot_at b h.pending.slot → not s.filled ≡ pending_fine h (filled_at (state_of b).slots h.pending.slot)
  unfolding pending_fine
  waits_in s t k c e =
      let i = h.pending.slot in
      let f = filled-at b i (omega arith) in
      and-goes (ltb i h.negotiated.config.channels) (not (filled_at (state_of b).slots i)) (not s.filled) (lt-ltb i _ k)
      (ap (λ (x : ChannelSlot). not x.filled) e ∙ ap not (sym f))
      ∙ sym (cond-true (is_ours h.pending.what) _ true t)

  pub waits-out : is_ours h.pending.what ≡ true → h.negotiated.config.channels ≤ h.pending.slot → false ≡ pending_fine h (filled_at (state_of b).slots h.pending.slot)
  unfolding pending_fine
  waits-out t k =
      and-stops (ltb h.pending.slot h.negotiated.config.channels) _ (le-ltb _ _ k) ∙ sym (cond-true (is_ours h.pending.what) _ true t)

  pub waits-not : is_ours h.pending.what ≡ false → true ≡ pending_fine h (filled_at (state_of b).slots h.pending.slot)
  unfolding pending_fine
  waits-not t = sym (cond-false (is_ours h.pending.what) _ true t)

  -- an offer
  pub offers-in : (q : QueuedOpen) (r : Bool) → is_offer h.pending.what ≡ true → h.queued < h.negotiated.config.channels → h.negotiated.config.channels ≤ 64
      → q ≡ queued_at b h.queued → r ≡ queued_fine h.negotiated.config.channels h.negotiated.config.max_payload q → r ≡ offer_fine h (state_of b).queue
  unfolding offer_fine
  offers-in q r t k c e f =
      and-goes (ltb h.queued h.negotiated.config.channels) _ r (lt-ltb h.queued _ k)
      (f ∙ ap (queued_fine h.negotiated.config.channels h.negotiated.config.max_payload) (e ∙ sym (open_in b h.queued none_queued (omega arith))))
      ∙ sym (cond-true (is_offer h.pending.what) _ true t)

  pub offers-out : is_offer h.pending.what ≡ true → h.negotiated.config.channels ≤ h.queued → false ≡ offer_fine h (state_of b).queue
  unfolding offer_fine
  offers-out t k = and-stops (ltb h.queued h.negotiated.config.channels) _ (le-ltb _ _ k) ∙ sym (cond-true (is_offer h.pending.what) _ true t)

  pub offers-not : is_offer h.pending.what ≡ false → true ≡ offer_fine h (state_of b).queue
  unfolding offer_fine
  offers-not t = sym (cond-false (is_offer h.pending.what) _ true t)

-- ---- the whole

pub rest-waits : (h : Header) (b : List ℕ) → pending_fine h (filled_at (state_of b).slots h.pending.slot) ≡ false → false ≡ rest_whole h b
unfolding rest_whole
rest-waits h b e =
    second-stops (rows_fine h.negotiated.config.channels (cap_of h.negotiated.config) 0 64 (drop header_len b))
    (pending_fine h (filled_at (state_of b).slots h.pending.slot))
    (opens_fine h (state_of b).queue)
    e

pub header_ok : (h : Header) → header_fine h ≡ true → HeaderOk h
unfolding header_fine
header_ok h e =
    let e₄ = and-true _ _ e in
    let e₃ = and-true _ _ e₄.0 in
    let e₂ = and-true _ _ e₃.0 in
    let e₁ = and-true _ _ e₂.0 in
    record { within = within h.negotiated.config e₁.0; queue-fits = leb-true _ _ e₄.1 }

together : (a s w o : Bool) → (((a && s) && w) && o) ≡ (a && ((s && w) && o))
together true s w o = refl
together false s w o = refl

pub rest-is-whole : (b : List ℕ) → state_len ≤ length b → get_or b 56 0 ≤ 1 → get_or b 57 0 ≤ 2 → header_fine (header_of b) ≡ true → rest_whole (header_of b) b ≡ is_whole b
unfolding rest_whole is_whole is_state whole state_of
rest-is-whole b l f g h =
    let k = header_of b in
    let n = k.negotiated.config.channels in
    let cap = cap_of k.negotiated.config in
    rw (one-pass n cap 0 64 (drop header_len b), le-leb state_len (length b) l, le-leb (get_or b 56 0) 1 f, le-leb (get_or b 57 0) 2 g, h)
    (together (all_is slot_len is_slot 64 (drop header_len b)) (slots_fine n cap 0 (rows slot_len slot_of 64 (drop header_len b)))
    (pending_fine k (filled_at (rows slot_len slot_of 64 (drop header_len b)) k.pending.slot))
    (opens_fine k (rows queued_len queued_of 64 (drop queue_at b))))

pub header-not-whole : (b : List ℕ) → header_fine (header_of b) ≡ false → false ≡ is_whole b
unfolding is_whole whole state_of
header-not-whole b h = and-ends (is_state b) _ (rw h)
