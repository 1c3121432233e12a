-- What a whole state is, as facts about its header, its slots and its queued opens; these facts make it whole, and its
-- numbers fit their bytes. Assumes nothing.
use mathlib.Core.Path.{◌≡◌, refl, sym, ap, subst, ◌∙◌}
use mathlib.Core.Bool.{Bool, true, false, not, ◌&&◌}
use mathlib.Core.List.{List, [], ◌∷◌}
use Prim.Native.Nat.{ℕ, zero, suc, ◌+◌, ◌^◌, ◌≤◌, ◌<◌}
use native.Mathlib.Nat.{zero-add}
use native.Mathlib.Omega.{arith}
use lib.Dec.{ltb, eqb}
use lib.ListN.{length, take, get_or, set, length-set, length-append}
use lib.Seq.{get_or-set_same, get_or-set_other}
use borrow.Author.Tests.{eqb-true, eqb-false, ne_eqb, lt-ltb, le-leb, ltb-true, leb-true, not-true}
use Rattle.le.proofs.Parts.{by-test}
use Rattle.config.specs.declared.negotiated.Negotiated.{Negotiated}
use Rattle.config.specs.Config.{Within, cap_of}
use Rattle.config.specs.Negotiated.{policy_of}
use Rattle.config.proofs.Laws.{and-true, within, within-holds, sound as limits-sound}
use Rattle.slot.specs.declared.ChannelSlot.{ChannelSlot}
use Rattle.slot.specs.Slot.{with_total, emptied_slot, empty_slot, is_opening, is_failed, SlotOk}
use Rattle.slot.proofs.Kept.{sound, sound-holds}
use Rattle.slot.proofs.Laws.{cond-true, cond-false}
use Rattle.state.specs.declared.Header.{Header}
use Rattle.state.specs.declared.QueuedOpen.{QueuedOpen}
use Rattle.state.specs.State.{queued_len, slot_len, state_len, Connection, is_ours, is_offer, none_queued, slot_bytes, queued_bytes, layout}
use Rattle.state_whole.specs.Whole.{filled_ok, slot_fine, slots_fine, queued_fine, queue_fine, offer_fine, opens_fine, pending_fine, header_fine, filled_at, whole}
use Rattle.state.proofs.Fields.{length-slot, length-open, length-header}
use Rattle.le.proofs.RowLaws.{Every, never, length-flat}
use Rattle.state.proofs.StateLaws.{Full, Fits, SlotFits, HeaderFits, OpenFits}

-- ---- the facts

-- limits kept, negotiated values within theirs
pub record Bounds (n : Negotiated) : Type 0 where
  pub within : Within n.config
  pub payload : n.max_payload ≤ 1_048_576
  pub version : n.protocol_version ≤ 0x0100_0001

-- a filled slot at place i
pub record Live (n : Negotiated) (i : ℕ) (s : ChannelSlot) : Type 0 where
  pub filled : s.filled ≡ true
  pub place : i < n.config.channels
  pub opening : is_opening s.state ≡ false
  pub failed : is_failed s.failed ≡ false
  pub remote : s.has_remote ≡ true
  pub ok : SlotOk s (policy_of n).rx_cap
  pub fits : SlotFits s

-- any slot at place i
pub record SlotWhole (n : Negotiated) (i : ℕ) (s : ChannelSlot) : Type 0 where
  pub fits : SlotFits s
  pub live : s.filled ≡ true → Live n i s

pub record SlotsWhole (n : Negotiated) (ss : List ChannelSlot) : Type 0 where
  pub full : length ss ≡ 64
  pub each : (i : ℕ) → SlotWhole n i (get_or ss i empty_slot)

-- the place of a pending open
pub record PlaceWhole (n : Negotiated) (i : ℕ) (ss : List ChannelSlot) : Type 0 where
  pub place : i < n.config.channels
  pub empty : (get_or ss i empty_slot).filled ≡ false

-- the first q of the queued opens are within their shares
pub record OpensWhole (n : Negotiated) (q : ℕ) (os : List QueuedOpen) : Type 0 where
  pub full : length os ≡ 64
  pub fits : Every OpenFits os
  pub fine : queue_fine n.config.channels n.config.max_payload (take q os) ≡ true

-- an offer: there is room for one more queued open, and its entry, behind those that are queued, is within its share
pub record OfferWhole (n : Negotiated) (q : ℕ) (os : List QueuedOpen) : Type 0 where
  pub room : q < n.config.channels
  pub fine : queued_fine n.config.channels n.config.max_payload (get_or os q none_queued) ≡ true

pub record HeaderWhole (n : Negotiated) (h : Header) : Type 0 where
  pub negotiated : h.negotiated ≡ n
  pub next-some : 1 ≤ h.next_local
  pub next_fits : h.next_local < 2 ^ 32
  pub place-fits : h.pending.slot < 2 ^ 64
  pub local_fits : h.pending.local.0 < 2 ^ 32
  pub queue-fits : h.queued ≤ n.config.channels

pub record Whole (n : Negotiated) (h : Header) (ss : List ChannelSlot) (os : List QueuedOpen) : Type 0 where
  pub limits : Bounds n
  pub header : HeaderWhole n h
  pub slots : SlotsWhole n ss
  pub pending-open : is_ours h.pending.what ≡ true → PlaceWhole n h.pending.slot ss
  pub queue : OpensWhole n h.queued os
  pub offer : is_offer h.pending.what ≡ true → OfferWhole n h.queued os

-- ---- slots

pub live-whole : (n : Negotiated) (i : ℕ) (s : ChannelSlot) → Live n i s → SlotWhole n i s
live-whole n i s v = record { fits = v.fits; live = λ e. v }

-- a place with no channel, whatever was allowed its last one
left-whole : (n : Negotiated) (i t : ℕ) → t < 2 ^ 64 → SlotWhole n i (with_total empty_slot t)
unfolding empty_slot
left-whole n i t h =
    record {
      fits =
          record {
            local = omega arith;
            remote = omega arith;
            budget = omega arith;
            unacked = omega arith;
            total = h;
            settled = omega arith;
            head = omega arith;
            buffered = omega arith;
          };
      live = λ e. never e;
    }

pub empty-whole : (n : Negotiated) (i : ℕ) → SlotWhole n i empty_slot
unfolding empty_slot
empty-whole n i = left-whole n i 0 (omega arith)

pub emptied-whole : (n : Negotiated) (i : ℕ) (s : ChannelSlot) → SlotFits s → SlotWhole n i (emptied_slot s)
unfolding emptied_slot
emptied-whole n i s f = left-whole n i s.acked_total f.total

-- one slot is put
pub put_whole : (n : Negotiated) (ss : List ChannelSlot) (i : ℕ) (t : ChannelSlot) → SlotsWhole n ss → i < 64 → SlotWhole n i t → SlotsWhole n (set ss i t)
put_whole n ss i t g h s =
    let f = g.full in
    record {
      full = length-set ss i t ∙ f;
      each = λ j. by-test (eqb j i)
          (λ e. let k = eqb-true j i e in
          subst (λ (x : ℕ). SlotWhole n x (get_or (set ss i t) x empty_slot)) (sym k)
          (subst (SlotWhole n i) (sym (get_or-set_same ss i t empty_slot (omega arith))) s))
          (λ e. subst (SlotWhole n j) (sym (get_or-set_other ss i j t empty_slot (eqb-false j i e))) (g.each j));
    }

module _ (n : Negotiated) (h : Header) (ss : List ChannelSlot) (os : List QueuedOpen) (g : Whole n h ss os) where
  -- a slot is put, but not where an open is pending
  pub whole-put : (i : ℕ) (t : ChannelSlot) → (is_ours h.pending.what ≡ true → h.pending.slot ≡ i → ⊥) → i < 64 → SlotWhole n i t → Whole n h (set ss i t) os
  whole-put i t w k s =
      record {
        limits = g.limits;
        header = g.header;
        slots = put_whole n ss i t g.slots k s;
        pending-open = λ e.
            record {
              place = (g.pending-open e).place;
              empty = ap (λ (x : ChannelSlot). x.filled) (get_or-set_other ss i h.pending.slot t empty_slot (w e)) ∙ (g.pending-open e).empty;
            };
        queue = g.queue;
        offer = g.offer;
      }

  -- where there was a channel
  pub whole-live : (i : ℕ) (t : ChannelSlot) → Live n i (get_or ss i empty_slot) → Live n i t → Whole n h (set ss i t) os
  whole-live i t v u =
      let k = g.limits.within.most-channels in
      let p = v.place in
      whole-put i t (λ e z. never (sym (g.pending-open e).empty ∙ ap (λ (x : ℕ). (get_or ss x empty_slot).filled) z ∙ v.filled)) (omega arith) (live-whole n i t u)

  pub whole-own : Whole h.negotiated h ss os
  whole-own = subst (λ (m : Negotiated). Whole m h ss os) (sym g.header.negotiated) g

-- a state's bytes
pub length-layout : (c : Connection) → Full c → length (layout c) ≡ state_len
unfolding layout
length-layout c f =
    let h = length-header c.header in
    let s = length-flat slot_len slot_bytes length-slot c.slots in
    let o = length-flat queued_len queued_bytes length-open c.queue in
    let a = f.slots in
    let b = f.queue in
    simp length-append (omega arith)

-- ---- the facts make a state whole

and_both : (a b : Bool) → a ≡ true → b ≡ true → (a && b) ≡ true
and_both a b e f = rw (e, f)

live-ok : (n : Negotiated) (i : ℕ) (s : ChannelSlot) → Live n i s → filled_ok s (cap_of n.config) ≡ true
unfolding filled_ok policy_of
live-ok n i s v =
    and_both _ _
    (and_both _ _ (and_both _ _ (ap not v.opening) (ap not v.failed)) v.remote)
    (sound-holds s (cap_of n.config) v.ok)

slot-fine : (n : Negotiated) (i : ℕ) (s : ChannelSlot) → SlotWhole n i s → slot_fine n.config.channels (cap_of n.config) i s ≡ true
unfolding slot_fine
slot-fine n i s g =
    by-test s.filled
    (λ t. cond-true s.filled _ true t
    ∙ and_both _ _ (lt-ltb i n.config.channels (g.live t).place) (live-ok n i s (g.live t)))
    (λ t. cond-false s.filled _ true t)

slots-fine : (n : Negotiated) (ss : List ChannelSlot) (i : ℕ) → ((j : ℕ) → SlotWhole n (i + j) (get_or ss j empty_slot)) → slots_fine n.config.channels (cap_of n.config) i ss ≡ true
unfolding slots_fine
slots-fine n [] i g = refl
slots-fine n (s ∷ ss) i g =
    let e : i + 0 ≡ i = omega arith in
    and_both _ _ (slot-fine n i s (subst (λ (x : ℕ). SlotWhole n x s) e (g 0)))
    (slots-fine n ss (suc i) (λ j. let f : i + suc j ≡ suc i + j = omega arith in subst (λ (x : ℕ). SlotWhole n x (get_or ss j empty_slot)) f (g (suc j))))

filled-in : (ss : List ChannelSlot) (i : ℕ) → filled_at ss i ≡ (get_or ss i empty_slot).filled
unfolding filled_at empty_slot
filled-in [] i = refl
filled-in (s ∷ ss) zero = refl
filled-in (s ∷ ss) (suc i) = filled-in ss i

module _ (h : Header) (ss : List ChannelSlot) (os : List QueuedOpen) (g : Whole h.negotiated h ss os) where
  header-fine : header_fine h ≡ true
  unfolding header_fine
  header-fine =
      let k = g.header.next-some in
      and_both _ _
      (and_both _ _
      (and_both _ _ (and_both _ _ (within-holds h.negotiated.config g.limits.within) (le-leb _ _ g.limits.payload)) (le-leb _ _ g.limits.version))
      (ap not (ne_eqb h.next_local 0 (λ e. omega arith))))
      (le-leb _ _ g.header.queue-fits)

  pending-fine : pending_fine h (filled_at ss h.pending.slot) ≡ true
  unfolding pending_fine
  pending-fine =
      by-test (is_ours h.pending.what)
      (λ t. let p = g.pending-open t in
      cond-true (is_ours h.pending.what) _ true t
      ∙ and_both _ _ (lt-ltb h.pending.slot h.negotiated.config.channels p.place) (ap not (filled-in ss h.pending.slot ∙ p.empty)))
      (λ t. cond-false (is_ours h.pending.what) _ true t)

  opens-fine : opens_fine h os ≡ true
  unfolding opens_fine offer_fine
  opens-fine =
      and_both _ _ g.queue.fine
      (by-test (is_offer h.pending.what)
      (λ t. let p = g.offer t in
      cond-true (is_offer h.pending.what) _ true t ∙ and_both _ _ (lt-ltb h.queued h.negotiated.config.channels p.room) p.fine)
      (λ t. cond-false (is_offer h.pending.what) _ true t))

every-at : {A : Type 0} (P : A → Type 0) (d : A) (l : List A) → ((i : ℕ) → P (get_or l i d)) → Every P l
every-at P d [] f = tt
every-at P d (a ∷ l) f = (f 0, every-at P d l (λ i. f (suc i)))

module _ (n : Negotiated) (c : Connection) (g : Whole n c.header c.slots c.queue) where
  own : Whole c.header.negotiated c.header c.slots c.queue
  own = whole-own n c.header c.slots c.queue g

  pub whole-true : whole c ≡ true
  unfolding whole
  whole-true =
      and_both _ _
      (and_both _ _
      (and_both _ _ (header-fine c.header c.slots c.queue own)
      (slots-fine c.header.negotiated c.slots 0 (λ j. subst (λ (x : ℕ). SlotWhole c.header.negotiated x (get_or c.slots j empty_slot)) (sym (zero-add j)) (own.slots.each j))))
      (pending-fine c.header c.slots c.queue own))
      (opens-fine c.header c.slots c.queue own)

  pub whole-full : Full c
  whole-full = record { slots = g.slots.full; queue = g.queue.full }

  header-fits : HeaderFits c.header
  header-fits =
      let o = own in
      let w = o.limits.within in
      let p = o.limits.payload in
      let v = o.limits.version in
      let h = o.header in
      record {
        channels = omega arith;
        rx = omega arith;
        place = h.place-fits;
        queued = omega arith;
        payload = omega arith;
        initial = omega arith;
        most = omega arith;
        version = omega arith;
        next = h.next_fits;
        local = h.local_fits;
      }

  pub whole-fits : Fits c
  whole-fits =
      record {
        header = header-fits;
        full = whole-full;
        slots = every-at SlotFits empty_slot c.slots (λ i. (g.slots.each i).fits);
        queue = g.queue.fits;
      }

-- ---- a whole state has the facts

module _ (n : Negotiated) (k : Within n.config) where
  live_facts : (i : ℕ) (s : ChannelSlot) → SlotFits s → s.filled ≡ true → (ltb i n.config.channels && filled_ok s (cap_of n.config)) ≡ true → Live n i s
  unfolding filled_ok policy_of
  live_facts i s f t e =
      let e₄ = and-true _ _ e in
      let e₃ = and-true _ _ e₄.1 in
      let e₂ = and-true _ _ e₃.0 in
      let e₁ = and-true _ _ e₂.0 in
      record {
        filled = t;
        place = ltb-true i n.config.channels e₄.0;
        opening = not-true (is_opening s.state) e₁.0;
        failed = not-true (is_failed s.failed) e₁.1;
        remote = e₂.1;
        ok = sound s (cap_of n.config) (limits-sound n.config k).cap-small e₃.1;
        fits = f;
      }

  slot-facts : (i : ℕ) (s : ChannelSlot) → SlotFits s → slot_fine n.config.channels (cap_of n.config) i s ≡ true → SlotWhole n i s
  unfolding slot_fine
  slot-facts i s f e = record { fits = f; live = λ t. live_facts i s f t (sym (cond-true s.filled _ true t) ∙ e) }

  slots-facts : (ss : List ChannelSlot) (i : ℕ) → Every SlotFits ss → slots_fine n.config.channels (cap_of n.config) i ss ≡ true → (j : ℕ) → SlotWhole n (i + j) (get_or ss j empty_slot)
  unfolding slots_fine
  slots-facts [] i f e j = empty-whole n (i + j)
  slots-facts (s ∷ ss) i f e zero =
      let z : i ≡ i + 0 = omega arith in
      subst (λ (x : ℕ). SlotWhole n x s) z (slot-facts i s f.0 (and-true (slot_fine n.config.channels (cap_of n.config) i s) _ e).0)
  slots-facts (s ∷ ss) i f e (suc j) =
      let z : suc i + j ≡ i + suc j = omega arith in
      subst (λ (x : ℕ). SlotWhole n x (get_or ss j empty_slot)) z (slots-facts ss (suc i) f.1 (and-true (slot_fine n.config.channels (cap_of n.config) i s) _ e).1 j)

header-facts : (h : Header) → HeaderFits h → header_fine h ≡ true → Bounds h.negotiated × HeaderWhole h.negotiated h
unfolding header_fine
header-facts h f e =
    let e₄ = and-true _ _ e in
    let e₃ = and-true _ _ e₄.0 in
    let e₂ = and-true _ _ e₃.0 in
    let e₁ = and-true _ _ e₂.0 in
    let z = eqb-false h.next_local 0 (not-true (eqb h.next_local 0) e₃.1) in (
      record { within = within h.negotiated.config e₁.0; payload = leb-true _ _ e₁.1; version = leb-true _ _ e₂.1 },
      record { negotiated = refl; next-some = some h.next_local z; next_fits = f.next; place-fits = f.place; local_fits = f.local; queue-fits = leb-true _ _ e₄.1 },
    )
  where
    some : (x : ℕ) → (x ≡ 0 → ⊥) → 1 ≤ x
    some zero g = absurd (g refl)
    some (suc x) g = omega arith

pending-facts : (h : Header) (ss : List ChannelSlot) → pending_fine h (filled_at ss h.pending.slot) ≡ true → is_ours h.pending.what ≡ true → PlaceWhole h.negotiated h.pending.slot ss
unfolding pending_fine
pending-facts h ss e t =
    let k = and-true (ltb h.pending.slot h.negotiated.config.channels) _ (sym (cond-true (is_ours h.pending.what) _ true t) ∙ e) in
    record { place = ltb-true _ _ k.0; empty = sym (filled-in ss h.pending.slot) ∙ not-true (filled_at ss h.pending.slot) k.1 }

offer-facts : (h : Header) (os : List QueuedOpen) → offer_fine h os ≡ true → is_offer h.pending.what ≡ true → OfferWhole h.negotiated h.queued os
unfolding offer_fine
offer-facts h os e t =
    let k = and-true (ltb h.queued h.negotiated.config.channels) _ (sym (cond-true (is_offer h.pending.what) _ true t) ∙ e) in
    record { room = ltb-true _ _ k.0; fine = k.1 }

-- a state that fits its bytes and is whole
pub whole-facts : (c : Connection) → Fits c → whole c ≡ true → Whole c.header.negotiated c.header c.slots c.queue
unfolding whole opens_fine
whole-facts c f e =
    let e₃ = and-true _ _ e in
    let e₂ = and-true _ _ e₃.0 in
    let e₁ = and-true _ _ e₂.0 in
    let h = header-facts c.header f.header e₁.0 in
    let o = and-true (queue_fine c.header.negotiated.config.channels c.header.negotiated.config.max_payload (take c.header.queued c.queue)) _ e₃.1 in
    record {
      limits = h.0;
      header = h.1;
      slots =
          record {
            full = f.full.slots;
            each = λ i. subst (λ (x : ℕ). SlotWhole c.header.negotiated x (get_or c.slots i empty_slot)) (zero-add i)
                (slots-facts c.header.negotiated h.0.within c.slots 0 f.slots e₁.1 i);
          };
      pending-open = pending-facts c.header c.slots e₂.1;
      queue = record { full = f.full.queue; fits = f.queue; fine = o.0 };
      offer = offer-facts c.header c.queue o.1;
    }
