-- No two channels share a local number while at most 2^32 − 1 are given out. Assumes nothing.
use mathlib.Core.Path.{◌≡◌, refl, sym, ap, subst, ◌∙◌}
use mathlib.Core.Bool.{Bool, true, false, cond, ◌&&◌, ◌||◌, true≢false}
use mathlib.Core.List.{List, [], ◌∷◌, map}
use Prim.Native.Nat.{ℕ, suc, ◌+◌, ◌-◌, ◌*◌, ◌^◌, ◌%◌, ◌≤◌, ◌<◌, max}
use native.Mathlib.Omega.{arith}
use lib.Dec.{eqb, ltb}
use lib.ListN.{length, set, drop, length-map}
use lib.Seq.{set_out}
use borrow.Author.Tests.{eqb-true, eqb-false, ltb-true, ltb-false, lt-ltb}
use Rattle.le.specs.Le.{num_of}
use Rattle.le.proofs.Parts.{by-test}
use Rattle.config.specs.declared.negotiated.Negotiated.{Negotiated}
use Rattle.config.specs.Config.{stores_fit, cap_of}
use Rattle.config.specs.Negotiated.{policy_of}
use Rattle.protocol.specs.declared.command.Command.TheVariants.{Open}
use Rattle.protocol.specs.Packet.{payload_limit}
use Rattle.protocol.specs.Command.{letters_of, word_of, is_the, is_open}
use Rattle.slot.specs.declared.ChannelSlot.{ChannelSlot}
use Rattle.slot.specs.Slot.{empty_slot, emptied_slot, accepted_slot, opening_slot}
use Rattle.slot.proofs.Kept.{pick}
use Rattle.slot.proofs.Laws.{cond-true, cond-false}
use Rattle.state.specs.declared.Header.{Header}
use Rattle.state.specs.Change.{Change, changed_all}
use Rattle.state.specs.State.{is_ours, state_len, Connection, state_of}
use Rattle.state_whole.specs.Whole.{is_whole}
use Rattle.table.specs.declared.ChannelId.{ChannelId}
use Rattle.table.specs.declared.Want.TheVariants.{Empty}
use Rattle.table.specs.Table.{place_of, next_local_id, allocated, slot_in}
use Rattle.connection.specs.declared.Answer.TheVariants.{Done, Refused, Opened}
use Rattle.connection.specs.declared.Refusal.TheVariants.{StoreShort, OutShort, PayloadTooLarge, BrokenState}
use Rattle.connection.specs.Answer.{answer_number}
use Rattle.connection.specs.Calls.{numbers_outcome, Lent, Outcome, ends, checked, checked_out, untouched, dropped, body_of, is_there, slot_for, dispatch_step, settle_step, take_step, read_step, write_step, close_step, take_front_step, fresh, open_outcome, dispatch_outcome, settle_outcome, take_outcome, read_outcome, write_outcome, close_outcome, take_front_outcome, accept_outcome, reject_outcome, let_go_outcome, verdict_outcome, reject_step, let_go_step, verdict_step}
use Rattle.connection.specs.Frames.{Frame, Sent}
use Rattle.connection.proofs.Slots.{slots_by, slots-by, slot-set-same, slot-set-other}
use Rattle.connection.proofs.Sending.{sent_of}
use Rattle.history.specs.Run.{look_outcome, bytes_in, Call, open_call, dispatch_call, settle_call, take_call, read_call, write_call, close_call, front_taken, look_call, numbers_look, word_in, accept_call, reject_call, let_go_call, verdict_call, World, lent, outcome, after, begins, agreed_in}
use Rattle.history.specs.Seen.{held_of, Seen, Event, seen_of, events_of}
use Rattle.history.specs.Demand3.{Distinct, Apart}
use Rattle.history.specs.Numbers.{opens_in, given_by, given_in, NumbersApart, Demand3Free}
use Rattle.history.proofs.Good.{Good, Leaves, new-good}
use Rattle.history.proofs.Heads.{Heads, Numbers, keeps, asks, skips, moves, Grants, declines as held, grants}
use Rattle.history.proofs.Marks.{Mark, Tame, tame-at, dispatch-tame, settle-tame, take-tame, read-tame, write-tame, front-tame, reject-tame-on, reject-tame, let-go-tame}
use Rattle.history.proofs.Never13.{Holds, state-after, holds_after, starts, always-8}
use Rattle.history.proofs.Opens.{refused-some, Opens, fills, leaves, opens}
use Rattle.history.proofs.Places.{TableOk}
use Rattle.history.proofs.Theorem.{table, fits-long, fresh_start, fresh-far, no_slot, after-8, demand-3}
use Rattle.history.proofs.Told.{or-true}
use Rattle.history.proofs.Written.{seen-is}
use Rattle.history.proofs.Accepts.{Accepts, takes, declines, allocated-below, allocated-local, accepts-on, accepts, accepts-out}
use Rattle.connection.specs.declared.Answer.{Answer}
use Rattle.table.specs.declared.NoFreeChannels.{NoFreeChannels}
use Rattle.std.specs.Prelude.{Result, Ok, Err}

open_told : is_open Open ≡ true
unfolding is_open is_the word_of letters_of num_of
open_told = refl

-- ---- the numbers given out: 1 to k, at most g, and at least b

pub record Given (b g : ℕ) (c : Connection) : Type 0 where
  pub k : ℕ
  pub least : b ≤ k
  pub le : k ≤ g
  pub below : (i : ℕ) → (slot_in c.slots i).filled ≡ true → (slot_in c.slots i).local.0 ≤ k
  pub pending-open : is_ours c.header.pending.what ≡ true → c.header.pending.local.0 ≤ k
  -- the number of the pending open is no channel's
  pub away : is_ours c.header.pending.what ≡ true → (i : ℕ) → (slot_in c.slots i).filled ≡ true → (slot_in c.slots i).local.0 ≡ c.header.pending.local.0 → ⊥
  pub apart : (i j : ℕ) → (slot_in c.slots i).filled ≡ true → (slot_in c.slots j).filled ≡ true → (slot_in c.slots i).local.0 ≡ (slot_in c.slots j).local.0 → i ≡ j
  pub next : k < 2 ^ 32 - 1 → c.header.next_local ≡ suc k

-- a slot that is filled was so before, with the same number
unfoldable Shrinks : List ChannelSlot → List ChannelSlot → Type 0
Shrinks ss ts = (i : ℕ) → (slot_in ts i).filled ≡ true → ((slot_in ss i).filled ≡ true) × ((slot_in ts i).local.0 ≡ (slot_in ss i).local.0)

-- no number is given out
given-keeps : (b g g' : ℕ) (c d : Connection) → g ≤ g' → Shrinks c.slots d.slots → d.header.next_local ≡ c.header.next_local → (is_ours d.header.pending.what ≡ true → d.header.pending ≡ c.header.pending)
    → Given b g c → Given b g' d
unfolding Shrinks
given-keeps b g g' c d h sh en ew v =
    let on : is_ours d.header.pending.what ≡ true → is_ours c.header.pending.what ≡ true = λ t. sym (ap (λ x. is_ours x.what) (ew t)) ∙ t in
    let wl : is_ours d.header.pending.what ≡ true → d.header.pending.local.0 ≡ c.header.pending.local.0 = λ t. ap (λ x. x.local.0) (ew t) in
    record {
      k = v.k;
      least = v.least;
      le = let a = v.le in omega arith;
      below = λ i f. let s = sh i f in subst (λ (x : ℕ). x ≤ v.k) (sym s.1) (v.below i s.0);
      pending-open = λ t. subst (λ (x : ℕ). x ≤ v.k) (sym (wl t)) (v.pending-open (on t));
      away = λ t i f e. let s = sh i f in v.away (on t) i s.0 (sym s.1 ∙ e ∙ wl t);
      apart = λ i j f q e. let s = sh i f in let z = sh j q in v.apart i j s.0 z.0 (sym s.1 ∙ e ∙ z.1);
      next = λ lt. en ∙ v.next lt;
    }

-- the next number is given out, to the pending open or to none
given-next : (b g : ℕ) (c d : Connection) → suc g < 2 ^ 32 → Shrinks c.slots d.slots → d.header.next_local ≡ next_local_id c.header.next_local
    → (is_ours d.header.pending.what ≡ true → d.header.pending.local.0 ≡ c.header.next_local) → Given b g c → Given b (suc g) d
unfolding Shrinks next_local_id
given-next b g c d small sh en ew v =
    let a = v.le in
    let e : c.header.next_local ≡ suc v.k = v.next (omega arith) in
    let w : is_ours d.header.pending.what ≡ true → d.header.pending.local.0 ≡ suc v.k = λ t. ew t ∙ e in
    record {
      k = suc v.k;
      least = let z = v.least in omega arith;
      le = omega arith;
      below = λ i f. let s = sh i f in let b = v.below i s.0 in let q = s.1 in omega arith;
      pending-open = λ t. let q = w t in omega arith;
      away = λ t i f x. let s = sh i f in let b = v.below i s.0 in let q = s.1 in let z = w t in omega arith;
      apart = λ i j f q x. let s = sh i f in let z = sh j q in v.apart i j s.0 z.0 (sym s.1 ∙ x ∙ z.1);
      next = λ lt. en ∙ ap (λ (x : ℕ). max ((x + 1) % 0x1_0000_0000) 1) e ∙ (let q : max ((suc v.k + 1) % 0x1_0000_0000) 1 ≡ suc (suc v.k) = omega arith in q);
    }

-- the next number is given out to a slot that is filled with it, and nothing is pending
given-takes : (b g : ℕ) (c d : Connection) (j : ℕ) (t : ChannelSlot) → suc g < 2 ^ 32 → j < length c.slots → d.slots ≡ set c.slots j t → t.local.0 ≡ c.header.next_local
    → d.header.next_local ≡ next_local_id c.header.next_local → is_ours d.header.pending.what ≡ false → Given b g c → Given b (suc g) d
unfolding next_local_id
given-takes b g c d j t small inside es el en off v =
    let a = v.le in
    let e : c.header.next_local ≡ suc v.k = v.next (omega arith) in
    let own : (i : ℕ) → i ≡ j → (slot_in d.slots i).local.0 ≡ suc v.k =
    λ i q. ap (λ (x : List ChannelSlot). (slot_in x i).local.0) es ∙ ap (λ (x : ℕ). (slot_in (set c.slots j t) x).local.0) q ∙ ap (λ (x : ChannelSlot). x.local.0) (slot-set-same c.slots j t inside) ∙ el ∙ e in
    let far : (i : ℕ) → (i ≡ j → ⊥) → slot_in d.slots i ≡ slot_in c.slots i = λ i q. ap (λ (x : List ChannelSlot). slot_in x i) es ∙ slot-set-other c.slots j i t q in
    let was : (i : ℕ) → (i ≡ j → ⊥) → (slot_in d.slots i).filled ≡ true → (slot_in c.slots i).filled ≡ true = λ i q f. sym (ap (λ (x : ChannelSlot). x.filled) (far i q)) ∙ f in
    let same : (i : ℕ) → (i ≡ j → ⊥) → (slot_in d.slots i).local.0 ≡ (slot_in c.slots i).local.0 = λ i q. ap (λ (x : ChannelSlot). x.local.0) (far i q) in
    let low : (i : ℕ) → (i ≡ j → ⊥) → (slot_in d.slots i).filled ≡ true → (slot_in d.slots i).local.0 ≤ v.k = λ i q f. subst (λ (x : ℕ). x ≤ v.k) (sym (same i q)) (v.below i (was i q f)) in
    record {
      k = suc v.k;
      least = let z = v.least in omega arith;
      le = omega arith;
      below = λ i f. by-test (eqb i j) (λ u. let q = own i (eqb-true i j u) in omega arith) (λ u. let q = low i (eqb-false i j u) f in omega arith);
      pending-open = λ w. absurd (true≢false (sym w ∙ off));
      away = λ w. absurd (true≢false (sym w ∙ off));
      apart = λ x y f q z.
          by-test (eqb x j)
          (λ u. let ex = eqb-true x j u in
          by-test (eqb y j) (λ r. ex ∙ sym (eqb-true y j r)) (λ r. let b = low y (eqb-false y j r) q in let o = own x ex in absurd (omega arith)))
          (λ u. let nx = eqb-false x j u in
          by-test (eqb y j) (λ r. let b = low x nx f in let o = own y (eqb-true y j r) in absurd (omega arith))
          (λ r. let ny = eqb-false y j r in v.apart x y (was x nx f) (was y ny q) (sym (same x nx) ∙ z ∙ same y ny)));
      next = λ lt. en ∙ ap (λ (x : ℕ). max ((x + 1) % 0x1_0000_0000) 1) e ∙ (let q : max ((suc v.k + 1) % 0x1_0000_0000) 1 ≡ suc (suc v.k) = omega arith in q);
    }

-- the pending open fills its slot, and is pending no more
given-fills : (b g g' : ℕ) (c d : Connection) (j : ℕ) (t : ChannelSlot) → g ≤ g' → j < length c.slots → d.slots ≡ set c.slots j t → t.local.0 ≡ c.header.pending.local.0
    → d.header.next_local ≡ c.header.next_local → is_ours c.header.pending.what ≡ true → is_ours d.header.pending.what ≡ false → Given b g c → Given b g' d
given-fills b g g' c d j t h inside es el en on off v =
    let at : (i : ℕ) → i ≡ j → slot_in d.slots i ≡ t = λ i e. ap (λ (x : List ChannelSlot). slot_in x i) es ∙ ap (slot_in (set c.slots j t)) e ∙ slot-set-same c.slots j t inside in
    let far : (i : ℕ) → (i ≡ j → ⊥) → slot_in d.slots i ≡ slot_in c.slots i = λ i e. ap (λ (x : List ChannelSlot). slot_in x i) es ∙ slot-set-other c.slots j i t e in
    let own : (i : ℕ) → i ≡ j → (slot_in d.slots i).local.0 ≡ c.header.pending.local.0 = λ i e. ap (λ (x : ChannelSlot). x.local.0) (at i e) ∙ el in
    let was : (i : ℕ) → (i ≡ j → ⊥) → (slot_in d.slots i).filled ≡ true → (slot_in c.slots i).filled ≡ true = λ i e f. sym (ap (λ (x : ChannelSlot). x.filled) (far i e)) ∙ f in
    let same : (i : ℕ) → (i ≡ j → ⊥) → (slot_in d.slots i).local.0 ≡ (slot_in c.slots i).local.0 = λ i e. ap (λ (x : ChannelSlot). x.local.0) (far i e) in
    record {
      k = v.k;
      least = v.least;
      le = let a = v.le in omega arith;
      below = λ i f.
          by-test (eqb i j) (λ u. subst (λ (x : ℕ). x ≤ v.k) (sym (own i (eqb-true i j u))) (v.pending-open on))
          (λ u. let ne = eqb-false i j u in subst (λ (x : ℕ). x ≤ v.k) (sym (same i ne)) (v.below i (was i ne f)));
      pending-open = λ w. absurd (true≢false (sym w ∙ off));
      away = λ w. absurd (true≢false (sym w ∙ off));
      apart = λ a b f q e.
          by-test (eqb a j)
          (λ u. let ea = eqb-true a j u in
          by-test (eqb b j) (λ w. ea ∙ sym (eqb-true b j w))
          (λ w. let nb = eqb-false b j w in absurd (v.away on b (was b nb q) (sym (same b nb) ∙ sym e ∙ own a ea))))
          (λ u. let na = eqb-false a j u in
          by-test (eqb b j) (λ w. absurd (v.away on a (was a na f) (sym (same a na) ∙ e ∙ own b (eqb-true b j w))))
          (λ w. let nb = eqb-false b j w in v.apart a b (was a na f) (was b nb q) (sym (same a na) ∙ e ∙ same b nb)));
      next = λ lt. en ∙ v.next lt;
    }

-- ---- small parts

abbrev local_in : Result ChannelId NoFreeChannels → ℕ
local_in (Ok ch) = ch.local.0
local_in (Err _) = 0

abbrev is_some : Result ChannelId NoFreeChannels → Bool
is_some (Ok ch) = true
is_some (Err _) = false

-- ---- the slots after a call

tame-shrinks : (ss : List ChannelSlot) (xs : List Change) → Tame ss xs → Shrinks ss (slots_by ss xs)
unfolding Shrinks
tame-shrinks ss xs t i f = let m = tame-at ss xs t i in (sym (ap (λ (y : Mark). y.filled) m) ∙ f, ap (λ (y : Mark). y.local) m)

empty-shrinks : (ss : List ChannelSlot) (j : ℕ) (t : ChannelSlot) → t.filled ≡ false → Shrinks ss (set ss j t)
unfolding Shrinks
empty-shrinks ss j t n i f =
    by-test (eqb i j)
    (λ u. let e = eqb-true i j u in
    by-test (ltb j (length ss))
    (λ v. absurd (true≢false (sym f ∙ ap (λ (x : ℕ). (slot_in (set ss j t) x).filled) e ∙ ap (λ (s : ChannelSlot). s.filled) (slot-set-same ss j t (ltb-true j (length ss) v)) ∙ n)))
    (λ v. let z = set_out ss j t (ltb-false j (length ss) v) in (sym (ap (λ (x : List ChannelSlot). (slot_in x i).filled) z) ∙ f, ap (λ (x : List ChannelSlot). (slot_in x i).local.0) z)))
    (λ u. let z = slot-set-other ss j i t (eqb-false i j u) in (sym (ap (λ (s : ChannelSlot). s.filled) z) ∙ f, ap (λ (s : ChannelSlot). s.local.0) z))

module _ (w : World) (r : List ℕ) (rx store : ℕ) where
  abbrev m : Negotiated
  m = (state_of w.state).header.negotiated

  abbrev c : Connection
  c = state_of w.state

  abbrev l : Lent
  l = lent w

  module _ (h : Holds m r rx store w) (long : m.config.channels * (2 * cap_of m.config) ≤ length w.rx) (b g : ℕ) (v : Given b g c) where
    ok : TableOk (policy_of m) m.config.channels c.slots w.rx
    ok = table (λ i. false) w r rx store h long v.apart

    abbrev S : Outcome → Type 0
    S x = Shrinks c.slots (slots_by c.slots x.changes)

    none-shrinks : S (untouched l StoreShort)
    none-shrinks = tame-shrinks c.slots [] tt

    shrinks-checked : (t : Bool) (o : Outcome) → S o → S (checked t l o)
    unfolding checked
    shrinks-checked t o s = pick S t (λ a. pick S (stores_fit m.config (length w.rx) (length w.store)) (λ b. s) (λ b. none-shrinks)) (λ a. none-shrinks)

    shrinks-out : (t : Bool) (out : ℕ) (o : Outcome) → S o → S (checked_out t l out o)
    unfolding checked_out
    shrinks-out t out o s = shrinks-checked t _ (pick S (ltb out 56) (λ b. none-shrinks) (λ b. s))

    close-shrinks : (ch : ChannelId) → S (close_step l ch)
    unfolding close_step ends emptied_slot empty_slot
    close-shrinks ch = pick S (is_there l ch && (slot_for l ch).has_remote) (λ t. empty-shrinks c.slots ch.slot (emptied_slot (slot_for l ch)) refl) (λ t. none-shrinks)

    pub opens-out : (received : List ℕ) (t : Bool) (out : ℕ) (o : Outcome) → Opens l received o → Opens l received (checked_out t l out o)
    unfolding checked_out checked answer_number
    opens-out received t out o s =
        let O = Opens l received in
        pick O t
        (λ a. pick O (stores_fit m.config (length w.rx) (length w.store)) (λ b. pick O (ltb out 56) (λ d. leaves (untouched l OutShort) (refused-some OutShort) tt) (λ d. s)) (λ b. leaves (untouched l StoreShort) (refused-some StoreShort) tt))
        (λ a. leaves (untouched l BrokenState) (refused-some BrokenState) tt)

    -- ---- one call

    -- the state after an outcome
    abbrev to : Outcome → Connection
    to x = changed_all c x.changes

    after-slots : (x : Outcome) → S x → Shrinks c.slots (to x).slots
    after-slots x s = subst (Shrinks c.slots) (sym (slots-by c x.changes)) s

    heads-given : (x : Outcome) (d : ℕ) → Heads l x → S x → Given b (g + d) (to x)
    heads-given x d a s = given-keeps b g (g + d) c (to x) (omega arith) (after-slots x s) a.next a.pending-is v

    -- what is seen of a call
    abbrev event : Call → Event
    event x = record { call = x; held = held_of w x }

    number-seen : (x : Call) → (seen_of (event x)).number ≡ answer_number (outcome w x).answer
    number-seen x = ap (λ (o : Seen). o.number) (seen-is m r rx store w h x)

    -- an open call that writes an OPEN gives a number out
    open-one : (out destination received : List ℕ) (f : Frame) → (outcome w (open_call out destination received)).frames ≡ f ∷ [] → is_open (sent_of m f).command ≡ true
        → given_by (open_call out destination received) (seen_of (event (open_call out destination received))) ≡ 1
    unfolding given_by opens_in
    open-one out destination received f e o =
        let x = open_call out destination received in
        let z : (seen_of (event x)).sent ≡ sent_of m f ∷ [] = ap (λ (q : Seen). q.sent) (seen-is m r rx store w h x) ∙ ap (map (sent_of m)) e in
        let n = eqb (seen_of (event x)).number 3 && ltb payload_limit (length destination) in
        ap (λ (fs : List Sent). cond (opens_in fs || n) 1 0) z ∙ ap (λ (t : Bool). cond ((t || false) || n) 1 0) o

    -- and one that is refused by 3 for its destination
    skip-one : (out destination received : List ℕ) → (outcome w (open_call out destination received)).answer ≡ Refused PayloadTooLarge → payload_limit < length (bytes_in destination)
        → given_by (open_call out destination received) (seen_of (event (open_call out destination received))) ≡ 1
    unfolding given_by answer_number bytes_in
    skip-one out destination received e lt =
        let x = open_call out destination received in
        let n : (seen_of (event x)).number ≡ 3 = number-seen x ∙ ap answer_number e in
        let len : length (bytes_in destination) ≡ length destination = length-map destination _ in
        let t : ltb payload_limit (length destination) ≡ true = ap (ltb payload_limit) (sym len) ∙ lt-ltb payload_limit (length (bytes_in destination)) lt in
        ap (λ (k : ℕ). cond (opens_in (seen_of (event x)).sent || (eqb k 3 && ltb payload_limit (length destination))) 1 0) n
        ∙ ap (λ (b : Bool). cond (opens_in (seen_of (event x)).sent || b) 1 0) t ∙ ap (λ (b : Bool). cond b 1 0) (or-true (opens_in (seen_of (event x)).sent))

    -- the number of an open that begins
    begun-local : (ch : ChannelId) → allocated c.header c.slots ≡ Ok ch → ch.local.0 ≡ c.header.next_local
    unfolding allocated
    begun-local ch e =
        by-test (ltb (place_of Empty m.config.channels c.slots) m.config.channels)
        (λ t. ap local_in (sym e ∙ cond-true (ltb (place_of Empty m.config.channels c.slots) m.config.channels) _ (Err (record {})) t))
        (λ t. absurd (true≢false (ap is_some (sym e ∙ cond-false (ltb (place_of Empty m.config.channels c.slots) m.config.channels) _ (Err (record {})) t))))

    next-given : (x : Outcome) (d : ℕ) → d ≡ 1 → g + d < 2 ^ 32 → S x → (to x).header.next_local ≡ next_local_id c.header.next_local
        → (is_ours (to x).header.pending.what ≡ true → (to x).header.pending.local.0 ≡ c.header.next_local) → Given b (g + d) (to x)
    next-given x d e small s en ew =
        let q : suc g ≡ g + d = omega arith in
        subst (λ (k : ℕ). Given b k (to x)) q (given-next b g c (to x) (omega arith) (after-slots x s) en ew v)

    open-given : (out destination received : List ℕ) → let x = open_call out destination received in g + given_by x (seen_of (event x)) < 2 ^ 32
        → (o : Outcome) → o ≡ outcome w x → Numbers l (bytes_in destination) o → Opens l (bytes_in received) o → Given b (g + given_by x (seen_of (event x))) (to o)
    unfolding answer_number
    open-given out destination received small o z (keeps a) (leaves o1 e t) = heads-given o _ a.heads (tame-shrinks c.slots o.changes t)
    open-given out destination received small o z (keeps a) (fills o1 t k sy e1 e2 e3 e5 on off e4 rd mine us) =
        let ng = subst (Leaves (λ (u : ChannelSlot). Good (policy_of m) (record { credit = 0; reads = false; counts = true }) u [] _)) e4
        (new-good (policy_of m) (record { credit = 0; reads = false; counts = true }) 0 c.header.pending.local (record { 0 = k.arg0 }) (λ d. refl) (body_of (bytes_in received) k)) in
        let p = (h.facts.pending-open on).place in
        let q = h.facts.limits.within.most-channels in
        let y = ok.size in
        given-fills b g _ c (to o) c.header.pending.slot t (omega arith) (omega arith) (slots-by c o.changes ∙ e2) (sym ng.loc) a.heads.next on off v
    open-given out destination received small o z (asks ch q e f fr) (leaves o1 e1 t) =
        next-given o _ (open-one out destination received _ (ap (λ (x : Outcome). x.frames) (sym z) ∙ fr) open_told) small (tame-shrinks c.slots o.changes t)
        (ap (λ (x : Header). x.next_local) f) (λ u. ap (λ (x : Header). x.pending.local.0) f ∙ begun-local ch e)
    open-given out destination received small o z (asks ch q e f fr) (fills o1 t k sy e1 e2 e3 e5 on off e4 rd mine us) = absurd (true≢false (sym on ∙ q))
    open-given out destination received small o z (skips q f a lt) (leaves o1 e1 t) =
        next-given o _ (skip-one out destination received (ap (λ (x : Outcome). x.answer) (sym z) ∙ a) lt) small (tame-shrinks c.slots o.changes t)
        (ap (λ (x : Header). x.next_local) f) (λ u. absurd (true≢false (sym u ∙ ap (λ (x : Header). is_ours x.pending.what) f)))
    open-given out destination received small o z (skips q f a lt) (fills o1 t k sy e1 e2 e3 e5 on off e4 rd mine us) = absurd (true≢false (sym on ∙ q))

    -- a call that gives one out where it is done: an accept, and a verdict that takes
    module _ (x : Call) (counts : (o : Seen) → given_by x o ≡ cond (eqb o.number 0) 1 0) where
      accept-one : (ch : ChannelId) → (outcome w x).answer ≡ Opened ch → given_by x (seen_of (event x)) ≡ 1
      unfolding answer_number
      accept-one ch e = counts (seen_of (event x)) ∙ ap (λ (k : ℕ). cond (eqb k 0) 1 0) (number-seen x ∙ ap answer_number e)

      accept-given : g + given_by x (seen_of (event x)) < 2 ^ 32 → (o : Outcome) → o ≡ outcome w x → Grants l o → Accepts l o → Given b (g + given_by x (seen_of (event x))) (to o)
      unfolding answer_number accepted_slot opening_slot
      accept-given small o z (held a) (declines o1 e t es er) = heads-given o _ a.heads (tame-shrinks c.slots o.changes t)
      accept-given small o z (grants ch0 e f a) (declines o1 e1 t es er) = absurd (true≢false (sym (ap (λ (y : Answer). eqb (answer_number y) 0) a) ∙ e1))
      accept-given small o z m (takes o1 ch remote cr e0 e1 e2 er e5 eh) =
          let p = allocated-below c.header c.slots ch e0 in
          let q = h.facts.limits.within.most-channels in
          let y = ok.size in
          let d = accept-one ch (ap (λ (y : Outcome). y.answer) (sym z) ∙ e1) in
          let k : suc g ≡ g + given_by x (seen_of (event x)) = omega arith in
          subst (λ (y : ℕ). Given b y (to o)) k
          (given-takes b g c (to o) ch.slot _ (omega arith) (omega arith) (slots-by c o.changes ∙ e2) (allocated-local c.header c.slots ch e0)
          (ap (λ (x : Header). x.next_local) eh) (ap (λ (x : Header). is_ours x.pending.what) eh) v)

    -- each call
    call-given : (x : Call) → g + given_by x (seen_of (event x)) < 2 ^ 32 → Given b (g + given_by x (seen_of (event x))) (to (outcome w x))
    unfolding outcome open_outcome dispatch_outcome settle_outcome take_outcome read_outcome write_outcome close_outcome take_front_outcome look_outcome numbers_outcome accept_outcome reject_outcome let_go_outcome verdict_outcome verdict_step given_by
    call-given (open_call out destination received) small =
        open-given out destination received small _ refl (moves w (open_call out destination received)) (opens-out (bytes_in received) (is_whole w.state) (length out) _ (opens l ok (bytes_in received) (length out) (bytes_in destination)))
    call-given (dispatch_call out received) small =
        heads-given _ _ (moves w (dispatch_call out received)).heads (shrinks-out (is_whole w.state) (length out) _ (tame-shrinks c.slots (dispatch_step l (bytes_in received)).changes (dispatch-tame l ok (bytes_in received))))
    call-given (settle_call out ch want) small =
        heads-given _ _ (moves w (settle_call out ch want)).heads (shrinks-out (is_whole w.state) (length out) _ (tame-shrinks c.slots (settle_step l ch want).changes (settle-tame l ok ch want)))
    call-given (take_call ch buf) small =
        heads-given _ _ (moves w (take_call ch buf)).heads (shrinks-checked (is_whole w.state) _ (tame-shrinks c.slots (take_step l ch (length buf)).changes (take-tame l ok ch (length buf))))
    call-given (read_call out ch buf received) small =
        heads-given _ _ (moves w (read_call out ch buf received)).heads (shrinks-out (is_whole w.state) (length out) _ (tame-shrinks c.slots (read_step l ch (length buf) (bytes_in received)).changes (read-tame l ok ch (length buf) (bytes_in received))))
    call-given (write_call spending out ch bytes received) small =
        heads-given _ _ (moves w (write_call spending out ch bytes received)).heads (shrinks-out (is_whole w.state) (length out) _ (tame-shrinks c.slots (write_step spending l ch (length out) (bytes_in bytes) (bytes_in received)).changes (write-tame l ok spending ch (length out) (bytes_in bytes) (bytes_in received))))
    call-given (close_call out ch) small =
        heads-given _ _ (moves w (close_call out ch)).heads (shrinks-out (is_whole w.state) (length out) _ (close-shrinks ch))
    call-given front_taken small =
        heads-given _ _ (moves w front_taken) (shrinks-checked (is_whole w.state) _ (tame-shrinks c.slots (take_front_step l).changes (front-tame l ok)))
    call-given (look_call (numbers_look ch)) small = heads-given _ _ (moves w (look_call (numbers_look ch))).heads (shrinks-checked (is_whole w.state) _ none-shrinks)
    call-given (accept_call out) small = accept-given (accept_call out) (λ o. refl) small _ refl (moves w (accept_call out)) (accepts-out l ok (is_whole w.state) (length out) _ (accepts l ok))
    call-given (reject_call out) small =
        heads-given _ _ (moves w (reject_call out)).heads (shrinks-out (is_whole w.state) (length out) _ (tame-shrinks c.slots (reject_step l).changes (reject-tame l ok)))
    call-given let_go_call small =
        heads-given _ _ (moves w let_go_call).heads (shrinks-checked (is_whole w.state) _ (tame-shrinks c.slots (let_go_step l).changes (let-go-tame l ok)))
    call-given (verdict_call out true remote credit) small =
        let x = verdict_call out true remote credit in
        accept-given x (λ o. refl) small _ refl (moves w x) (accepts-out l ok (is_whole w.state) (length out) _ (accepts-on l ok _ _ (allocated c.header c.slots) refl))
    call-given (verdict_call out false remote credit) small =
        let o = verdict_step l false (record { 0 = word_in remote.0 }) (word_in credit) in
        heads-given _ _ (moves w (verdict_call out false remote credit)).heads (shrinks-out (is_whole w.state) (length out) o (tame-shrinks c.slots o.changes (reject-tame-on l ok (dropped c.header) _ Done)))

    pub after-given : (x : Call) → g + given_by x (seen_of (event x)) < 2 ^ 32 → Given b (g + given_by x (seen_of (event x))) (state_of (after w x).state)
    after-given x small = subst (Given b (g + given_by x (seen_of (event x)))) (sym (state-after m r rx store w h x)) (call-given x small)

-- ---- a list of calls

module _ (n : Negotiated) (r : List ℕ) (rx store : ℕ) (long : n.config.channels * (2 * cap_of n.config) ≤ rx) where
  apart-all : (w : World) → Holds n r rx store w → (g : ℕ) → Given 0 g (state_of w.state) → (cs : List Call) → g + given_in (events_of w cs) < 2 ^ 32 → Apart w cs
  unfolding Apart events_of given_in
  apart-all w k g v [] small = tt
  apart-all w k g v (x ∷ cs) small =
      let m = (state_of w.state).header.negotiated in
      let e : n ≡ m = sym k.facts.header.negotiated in
      let hm = subst (λ (z : Negotiated). Holds z r rx store w) e k in
      let lm = subst (λ (z : Negotiated). z.config.channels * (2 * cap_of z.config) ≤ rx) e long in
      let lw = subst (λ (z : ℕ). m.config.channels * (2 * cap_of m.config) ≤ z) (sym k.rx-length) lm in
      let d = given_by x (seen_of (record { call = x; held = held_of w x })) in
      let u = after-given w r rx store hm lw 0 g v x (omega arith) in
      (u.apart, apart-all (after w x) (holds_after n r rx store w k x) (g + d) u cs (omega arith))

pub fresh-given : (n : Negotiated) (w : World) → state_of w.state ≡ fresh n → Given 0 0 (state_of w.state)
unfolding fresh
fresh-given n w e =
    let f = no_slot n w e in
    let off : is_ours (state_of w.state).header.pending.what ≡ false = ap (λ (d : Connection). is_ours d.header.pending.what) e in
    record {
      k = 0;
      least = omega arith;
      le = omega arith;
      below = λ i t. absurd (true≢false (sym t ∙ f i));
      pending-open = λ t. absurd (true≢false (sym t ∙ off));
      away = λ t. absurd (true≢false (sym t ∙ off));
      apart = fresh-far n w e;
      next = λ lt. ap (λ (d : Connection). d.header.next_local) e;
    }

-- where every call answers 8 nothing is ever filled
apart-8 : (w : World) → Distinct w → ((x : Call) → after w x ≡ w) → (cs : List Call) → Apart w cs
unfolding Apart
apart-8 w far g [] = tt
apart-8 w far g (x ∷ cs) = (subst Distinct (sym (g x)) far, subst (λ (v : World). Apart v cs) (sym (g x)) (apart-8 w far g cs))

pub numbers_apart : NumbersApart
numbers_apart s cs small =
    by-test (stores_fit s.config (length s.rx) (length s.store))
    (λ t. apart-all (agreed_in s) (drop state_len s.state) (length s.rx) (length s.store) (fits-long s.config s.version s.most s.host s.device (length s.rx) (length s.store) t)
    (begins s) (starts s) 0 (fresh-given (agreed_in s) (begins s) (fresh_start s)) cs (omega arith))
    (λ t. apart-8 (begins s) (fresh-far (agreed_in s) (begins s) (fresh_start s)) (λ x. after-8 s x (always-8 s t (x ∷ [])).0) cs)

pub demand-3-free : Demand3Free
demand-3-free s cs small = demand-3 s cs (numbers_apart s cs small)
