-- The budget of a slot under all that is done to it: spending and credit change it, nothing else does. Assumes nothing.
use mathlib.Core.Path.{◌≡◌, refl, sym, ap, ◌∙◌}
use mathlib.Core.Bool.{Bool, true, false, ◌&&◌}
use mathlib.Core.List.{List, [], ◌∷◌, ◌++◌}
use Prim.Native.Nat.{ℕ, zero, suc, ◌+◌, ◌-◌, ◌^◌, ◌≤◌, ◌<◌, min}
use native.Mathlib.Omega.{arith}
use lib.Dec.{eqb, leb, ltb, lt→ltb}
use lib.IntN.{ℤ, pos, negsuc, neg_ℤ, ◌+ℤ◌, ◌-ℤ◌}
use lib.ListN.{length, set}
use lib.Signed.{◌<ℤ◌}
use borrow.Author.Tests.{eqb-true, eqb-false, eq-eqb, ltb-true, ltb-false}
use Rattle.config.specs.declared.negotiated.RxPolicy.{RxPolicy}
use Rattle.credit.specs.Credit.{credit_of, at_least_zero}
use Rattle.credit.specs.declared.CreditFault.{CreditFault}
use Rattle.incoming.specs.Incoming.{PushOutcome, pushed, withdrawal}
use Rattle.le.proofs.Parts.{by-test}
use Rattle.le.proofs.RowLaws.{never}
use Rattle.le.specs.Le.{num_of, signed, part}
use Rattle.protocol.specs.declared.command.Command.{Command}
use Rattle.protocol.specs.declared.packet.Packet.{Packet}
use Rattle.protocol.specs.Command.{is_ready, is_the, word_of, letters_of}
use Rattle.saturate.specs.Saturate.{clamp}
use Rattle.slot.specs.declared.ChannelSlot.{ChannelSlot}
use Rattle.slot.specs.declared.Settled.{Settled}
use Rattle.slot.specs.declared.ids.LocalId.{LocalId}
use Rattle.slot.specs.declared.ids.RemoteId.{RemoteId}
use Rattle.slot.specs.Slot.{is_failed, is_opening, held_of, acks_now, buffered_with, wrote_of, delivered_of, ack_len_of, settled_by, settled_some, settled_of, closed_slot}
use Rattle.slot.specs.Wrote.{Wrote, left_by}
use Rattle.slot.proofs.Kept.{pick}
use Rattle.state.specs.declared.Header.{Header}
use Rattle.state.specs.declared.QueuedOpen.{QueuedOpen}
use Rattle.state.specs.Change.{Change, Step, slot_to, header_to, queued_to, queue_to}
use Rattle.table.specs.declared.Want.TheVariants.{Local}
use Rattle.table.specs.Table.{wanted_by, place_of, slot_in}
use Rattle.table_dispatch.specs.declared.DispatchOutcome.{DispatchOutcome}
use Rattle.table_dispatch.specs.declared.DispatchOutcome.TheVariants.{AckWrite, CreditGranted, SlotClosed, DataBuffered, IncomingOpen, CancelQueuedOpen, StrayReady, ChannelFault, Unmatched}
use Rattle.table_dispatch.specs.Dispatch.{remote_place, closed_at, close_of, readied_of, granted, ready_at, grant_of, Dispatched, wrote_by, wrote_at, write_of, route_of, dispatch_of}
use Rattle.table_dispatch.proofs.KeepLaws.{place_found}
use Rattle.table_dispatch.proofs.RouteLaws.{by-route}
use Rattle.config.specs.Negotiated.{policy_of}
use Rattle.config.proofs.Laws.{and-true}
use Rattle.connection.specs.Act.{pushed_by, acted_by, table_of, act_on}
use Rattle.connection.proofs.Slots.{slots_by, slot-set-same, slot-set-other}
use Rattle.history.proofs.Acts.{NoSlot, no_slot, pushed-slots, withdrawn-slots}
use Rattle.std.specs.Prelude.{Option, Some, None, Result, Ok, Err}

-- ---- numbers

-- above 0 less m, by the sign
abbrev pub Above : ℕ → ℤ → Type 0
Above m (pos n) = Unit {0}
Above m (negsuc n) = suc n < m

pub above-low : (m : ℕ) (z : ℤ) → 1 ≤ m → Above m z → neg_ℤ (pos m) <ℤ z
above-low zero z h a = absurd (omega arith)
above-low (suc m) (pos n) h a = record { lt = tt }
above-low (suc m) (negsuc n) h a = record { lt = lt→ltb n m (omega arith) }

-- credit keeps it
pub above-more : (m : ℕ) (z : ℤ) (c : ℕ) → Above m z → Above m (clamp (z +ℤ pos c))
unfolding clamp
above-more m (pos a) c h = tt
above-more m (negsuc a) c h = pick (λ (y : ℤ). Above m (clamp y)) (ltb c (suc a)) (λ t. omega arith) (λ t. tt)

-- so does spending at most m, from above 0
above-less : (m b x : ℕ) → 0 < b → x ≤ m → Above m (clamp (pos b -ℤ pos x))
unfolding clamp
above-less m b zero h k = tt
above-less m b (suc x) h k =
    pick (λ (y : ℤ). Above m (clamp y)) (ltb b (suc x)) (λ t. let z = ltb-true b (suc x) t in omega arith) (λ t. tt)

pub above-spent : (m b n : ℕ) → 0 < b → n ≤ m → Above m (clamp (pos b -ℤ pos (min n 9223372036854775807)))
above-spent m b n h k = above-less m b (min n 9223372036854775807) h (omega arith)

-- a difference, by its sign
pub diff-pos : (a s : ℕ) → s ≤ a → pos a -ℤ pos s ≡ pos (a - s)
diff-pos a zero h = ap pos (omega arith)
diff-pos a (suc s) h =
    pick (λ (y : ℤ). y ≡ pos (a - suc s)) (ltb a (suc s)) (λ t. let z = ltb-true a (suc s) t in absurd (omega arith)) (λ t. ap pos (omega arith))

pub diff-neg : (a s : ℕ) → a < s → pos a -ℤ pos s ≡ negsuc (s - suc a)
diff-neg a zero h = absurd (omega arith)
diff-neg a (suc s) h =
    pick (λ (y : ℤ). y ≡ negsuc (suc s - suc a)) (ltb a (suc s)) (λ t. ap negsuc (omega arith)) (λ t. let z = ltb-false a (suc s) t in absurd (omega arith))

-- credit is added exactly
more-above : (a s c : ℕ) → s ≤ a → a + c < 2 ^ 63 → clamp (pos (a - s) +ℤ pos c) ≡ pos (a + c) -ℤ pos s
unfolding clamp
more-above a s c h k = ap pos (omega arith) ∙ sym (diff-pos (a + c) s (omega arith))

more-below : (a s c : ℕ) → a < s → s < 2 ^ 63 → a + c < 2 ^ 63 → clamp (negsuc (s - suc a) +ℤ pos c) ≡ pos (a + c) -ℤ pos s
unfolding clamp
more-below a s c h m k =
    pick (λ (y : ℤ). clamp y ≡ pos (a + c) -ℤ pos s) (ltb c (suc (s - suc a)))
    (λ t. let z = ltb-true c (suc (s - suc a)) t in ap negsuc (omega arith) ∙ sym (diff-neg (a + c) s (omega arith)))
    (λ t. let z = ltb-false c (suc (s - suc a)) t in ap pos (omega arith) ∙ sym (diff-pos (a + c) s (omega arith)))

pub exact-more : (z : ℤ) (a s c : ℕ) → a + c < 2 ^ 63 → s < 2 ^ 63 → z ≡ pos a -ℤ pos s → clamp (z +ℤ pos c) ≡ pos (a + c) -ℤ pos s
exact-more z a s c h k e =
    by-test (ltb a s)
    (λ t. let u = ltb-true a s t in ap (λ (y : ℤ). clamp (y +ℤ pos c)) (e ∙ diff-neg a s u) ∙ more-below a s c u k h)
    (λ t. let u = ltb-false a s t in ap (λ (y : ℤ). clamp (y +ℤ pos c)) (e ∙ diff-pos a s u) ∙ more-above a s c u h)

-- so is what is sent taken off
less-above : (a s n : ℕ) → s ≤ a → a < 2 ^ 63 → s + n < 2 ^ 63 → clamp (pos (a - s) -ℤ pos n) ≡ pos a -ℤ pos (s + n)
unfolding clamp
less-above a s zero h k m = ap pos (omega arith) ∙ sym (diff-pos a (s + 0) (omega arith))
less-above a s (suc x) h k m =
    pick (λ (y : ℤ). clamp y ≡ pos a -ℤ pos (s + suc x)) (ltb (a - s) (suc x))
    (λ t. let z = ltb-true (a - s) (suc x) t in ap negsuc (omega arith) ∙ sym (diff-neg a (s + suc x) (omega arith)))
    (λ t. let z = ltb-false (a - s) (suc x) t in ap pos (omega arith) ∙ sym (diff-pos a (s + suc x) (omega arith)))

less-below : (a s n : ℕ) → a < s → s + n < 2 ^ 63 → clamp (negsuc (s - suc a) -ℤ pos n) ≡ pos a -ℤ pos (s + n)
unfolding clamp
less-below a s zero h m =
    pick (λ (y : ℤ). clamp y ≡ pos a -ℤ pos (s + 0)) (ltb 0 (suc (s - suc a)))
    (λ t. ap negsuc (omega arith) ∙ sym (diff-neg a (s + 0) (omega arith)))
    (λ t. let z = ltb-false 0 (suc (s - suc a)) t in absurd (omega arith))
less-below a s (suc x) h m = ap negsuc (omega arith) ∙ sym (diff-neg a (s + suc x) (omega arith))

pub exact-less : (z : ℤ) (a s n : ℕ) → a < 2 ^ 63 → s + n < 2 ^ 63 → z ≡ pos a -ℤ pos s → clamp (z -ℤ pos (min n 9223372036854775807)) ≡ pos a -ℤ pos (s + n)
exact-less z a s n h k e =
    let m : min n 9223372036854775807 ≡ n = omega arith in
    ap (λ (x : ℕ). clamp (z -ℤ pos x)) m ∙
    by-test (ltb a s)
    (λ t. let u = ltb-true a s t in ap (λ (y : ℤ). clamp (y -ℤ pos n)) (e ∙ diff-neg a s u) ∙ less-below a s n u k)
    (λ t. let u = ltb-false a s t in ap (λ (y : ℤ). clamp (y -ℤ pos n)) (e ∙ diff-pos a s u) ∙ less-above a s n u h k)

-- what is spent of a budget of 64 bits is exact
pub exact-spent : (b n : ℕ) → b < 2 ^ 63 → n < 2 ^ 63 → clamp (pos b -ℤ pos (min n 9223372036854775807)) ≡ pos b -ℤ pos n
exact-spent b n h k =
    let e : b ≡ b + 0 = omega arith in
    let f : 0 + n ≡ n = omega arith in
    exact-less (pos b) b 0 n h (omega arith) (ap pos e) ∙ ap (λ (x : ℕ). pos b -ℤ pos x) f

-- a credit is at least 0
abbrev pub AtLeast0 : Result ℤ CreditFault → Type 0
AtLeast0 (Ok (pos n)) = Unit {0}
AtLeast0 (Ok (negsuc n)) = ⊥
AtLeast0 (Err f) = Unit {0}

zero-least : (z : ℤ) → AtLeast0 (at_least_zero z)
unfolding at_least_zero
zero-least (pos n) = tt
zero-least (negsuc n) = tt

pub credit-least : (payload : List ℕ) → AtLeast0 (credit_of payload)
unfolding credit_of
credit-least payload =
    pick AtLeast0 (ltb (length payload) 4) (λ t. tt)
    (λ t. pick AtLeast0 (ltb 4 (length payload)) (λ u. tt) (λ u. zero-least (signed 31 (num_of (part payload 0 4)))))

-- ---- what keeps a budget

abbrev pub SameBudget : ChannelSlot → ChannelSlot → Type 0
SameBudget s t = t.send_budget ≡ s.send_budget

pub closed-budget : (s : ChannelSlot) → SameBudget s (closed_slot s)
unfolding closed_slot
closed-budget s = refl

pub wrote-budget : (s : ChannelSlot) (p : RxPolicy) (k : ℕ) → SameBudget s (left_by s (wrote_of s p k))
unfolding wrote_of buffered_with
wrote-budget s p k =
    let P : Wrote → Type 0 = λ w. SameBudget s (left_by s w) in
    pick P (is_opening s.state) (λ o. refl)
    (λ o. pick P (ltb p.rx_cap (held_of s + k)) (λ f. refl) (λ f. pick P (acks_now s p (held_of s + k)) (λ a. refl) (λ a. refl)))

pub delivered-budget : (s : ChannelSlot) (p : RxPolicy) (k : ℕ) → SameBudget s (delivered_of s p k).slot
unfolding delivered_of
delivered-budget s p k =
    let P : Settled → Type 0 = λ r. SameBudget s r.slot in
    pick P p.delayed (λ d. pick P s.has_remote (λ r. refl) (λ r. refl))
    (λ d. pick P (leb p.watermark s.buffered) (λ w. refl) (λ w. pick P s.has_remote (λ r. refl) (λ r. refl)))

settled-budget-by : (s : ChannelSlot) (p : RxPolicy) (k : ℕ) (a : Option ℕ) → SameBudget s (settled_by s p k a).slot
unfolding settled_by
settled-budget-by s p k (Some m) = refl
settled-budget-by s p k None = refl

pub settled-budget : (s : ChannelSlot) (p : RxPolicy) (want : ℕ) → SameBudget s (settled_of s p want).slot
unfolding settled_of settled_some
settled-budget s p want =
    let P : Settled → Type 0 = λ r. SameBudget s r.slot in
    let k = min want s.buffered in
    pick P s.has_remote
    (λ r. pick P (eqb s.settled 0) (λ z. settled-budget-by s p k (ack_len_of s p k (s.buffered - k))) (λ z. refl))
    (λ r. refl)

-- ---- what a packet does that a call does not take for itself: it stores at most one slot, whose budget stays, but for the
-- slot that an OKAY names

module _ (p : RxPolicy) (n : ℕ) (ss : List ChannelSlot) (payload : List ℕ) where
  pub data Touches (c : Command) (local : LocalId) : List Change → Type 0 where
    none : (xs : List Change) → NoSlot xs → Touches c local xs
    keeps : (i : ℕ) (t : ChannelSlot) (xs : List Change) → NoSlot xs → SameBudget (slot_in ss i) t → Touches c local (slot_to i t ∷ xs)
    credits : (remote : RemoteId) (t : ChannelSlot) (xs : List Change) → NoSlot xs → is_ready c ≡ true → place_of (Local local) n ss < n
        → readied_of (slot_in ss (place_of (Local local) n ss)) remote payload p ≡ Ok t → Touches c local (slot_to (place_of (Local local) n ss) t ∷ xs)

  module _ (c : Command) (local : LocalId) where
    abbrev touches : Step DispatchOutcome → Type 0
    touches x = Touches c local x.changes

    touch-closed : (f : ℕ) (other : DispatchOutcome) → touches (closed_at f n ss other)
    unfolding closed_at
    touch-closed f other = pick touches (ltb f n) (λ t. keeps f (closed_slot (slot_in ss f)) [] tt (closed-budget (slot_in ss f))) (λ t. none [] tt)

    touch-close : (remote : RemoteId) → touches (close_of n ss remote local)
    unfolding close_of
    touch-close remote =
        pick touches (eqb local.0 0) (λ t. touch-closed (remote_place n ss remote) (CancelQueuedOpen remote)) (λ t. touch-closed (place_of (Local local) n ss) Unmatched)

    touch-granted : (remote : RemoteId) (r : Result ChannelSlot CreditFault) → is_ready c ≡ true → place_of (Local local) n ss < n
        → readied_of (slot_in ss (place_of (Local local) n ss)) remote payload p ≡ r → touches (granted (place_of (Local local) n ss) (slot_in ss (place_of (Local local) n ss)) remote r)
    unfolding granted
    touch-granted remote (Ok t) o h e = credits remote t [] tt o h e
    touch-granted remote (Err b) o h e = none [] tt

    touch-ready : (remote : RemoteId) → is_ready c ≡ true → touches (grant_of p n ss remote local payload)
    unfolding grant_of ready_at
    touch-ready remote o =
        let f = place_of (Local local) n ss in
        pick touches (ltb f n)
        (λ t. pick touches (is_failed (slot_in ss f).failed) (λ u. none [] tt)
        (λ u. touch-granted remote (readied_of (slot_in ss f) remote payload p) o (ltb-true f n t) refl))
        (λ t. none [] tt)

    module _ (rx : List ℕ) where
      touch_wrote : (f : ℕ) (remote : RemoteId) (r : Wrote) → SameBudget (slot_in ss f) (left_by (slot_in ss f) r) → touches (wrote_by p f (slot_in ss f) remote payload rx r).step
      unfolding wrote_by
      touch_wrote f remote (Ok w) y = keeps f w.slot [] tt y
      touch_wrote f remote (Err why) y = none [] tt

      touch_write : (remote : RemoteId) → touches (write_of p n ss remote local payload rx).step
      unfolding write_of wrote_at
      touch_write remote =
          let f = place_of (Local local) n ss in
          let P : Dispatched → Type 0 = λ d. touches d.step in
          pick P (ltb f n)
          (λ t. pick P (is_failed (slot_in ss f).failed) (λ u. none [] tt) (λ u. touch_wrote f remote (wrote_of (slot_in ss f) p (length payload)) (wrote-budget (slot_in ss f) p (length payload))))
          (λ t. none [] tt)

  touch-route : (c : Command) (a l : ℕ) (rx : List ℕ) → Touches c (record { 0 = l }) (route_of p n ss c a l payload rx).step.changes
  unfolding is_ready is_the word_of letters_of num_of
  touch-route c a l rx =
      let local : LocalId = record { 0 = l } in
      let remote : RemoteId = record { 0 = a } in
      by-route p n ss a l payload rx (λ c d. Touches c local d.step.changes) (λ c h. none [] tt) (none [] tt) (touch-close _ local remote)
      (touch_write _ local rx remote) (touch-ready _ local remote refl) c

  both_none : (xs ys : List Change) → NoSlot xs → NoSlot ys → NoSlot (xs ++ ys)
  both_none [] ys e f = f
  both_none (slot_to i s ∷ xs) ys e f = absurd e
  both_none (header_to h ∷ xs) ys e f = both_none xs ys e f
  both_none (queued_to i q ∷ xs) ys e f = both_none xs ys e f
  both_none (queue_to qs ∷ xs) ys e f = both_none xs ys e f

  touch-more : (c : Command) (local : LocalId) (xs ys : List Change) → Touches c local xs → NoSlot ys → Touches c local (xs ++ ys)
  touch-more c local _ ys (none xs e) f = none (xs ++ ys) (both_none xs ys e f)
  touch-more c local _ ys (keeps i t zs e b) f = keeps i t (zs ++ ys) (both_none zs ys e f) b
  touch-more c local _ ys (credits remote t zs e o h r) f = credits remote t (zs ++ ys) (both_none zs ys e f) o h r

  module _ (c : Command) (local : LocalId) (h : Header) (queue : List QueuedOpen) (store : List ℕ) (d : Dispatched) (k : Touches c local d.step.changes) where
    touch-pushed : (remote : RemoteId) (o : PushOutcome) (r : Option Header) → NoSlot o.changes → Touches c local (pushed_by h store d remote o r).changes
    unfolding pushed_by
    touch-pushed remote o (Some more) e = touch-more c local d.step.changes o.changes k e
    touch-pushed remote o None e = k

    touch-acted : (o : DispatchOutcome) → Touches c local (acted_by h queue payload store d o).changes
    unfolding acted_by
    touch-acted (AckWrite i ids len) = k
    touch-acted (CreditGranted i) = k
    touch-acted (SlotClosed i) = k
    touch-acted (DataBuffered i) = k
    touch-acted (IncomingOpen remote credit) =
        touch-pushed remote (pushed h queue remote credit payload store) (pushed h queue remote credit payload store).result (pushed-slots h queue remote credit payload store)
    touch-acted (CancelQueuedOpen remote) = touch-more c local d.step.changes (withdrawal h queue remote).changes k (withdrawn-slots h queue remote)
    touch-acted (StrayReady ids) = k
    touch-acted (ChannelFault i ids opening f) = k
    touch-acted Unmatched = k

pub touches_of : (h : Header) (ss : List ChannelSlot) (queue : List QueuedOpen) (rx store : List ℕ) (k : Packet) (payload : List ℕ)
    → Touches (policy_of h.negotiated) h.negotiated.config.channels ss payload k.command (record { 0 = k.arg1 }) (act_on h ss queue rx store k payload).changes
unfolding act_on table_of dispatch_of
touches_of h ss queue rx store k payload =
    let p = policy_of h.negotiated in
    let n = h.negotiated.config.channels in
    let local : LocalId = record { 0 = k.arg1 } in
    touch-acted p n ss payload k.command local h queue store (table_of h ss rx k payload) (touch-route p n ss payload k.command k.arg0 k.arg1 rx) (table_of h ss rx k payload).step.result

-- the slot at another place than the OKAY's keeps its budget
module _ (p : RxPolicy) (n : ℕ) (ss : List ChannelSlot) (payload : List ℕ) (c : Command) (local : LocalId) (i : ℕ) (inside : i < length ss) (room : n ≤ length ss)
    (other : (is_ready c && eqb local.0 (slot_in ss i).local.0) ≡ false) where
  stored-budget : (f : ℕ) (t : ChannelSlot) (xs : List Change) → NoSlot xs → (i ≡ f → SameBudget (slot_in ss f) t) → SameBudget (slot_in ss i) (slot_in (slots_by ss (slot_to f t ∷ xs)) i)
  stored-budget f t xs e b =
      let z = ap (λ (ts : List ChannelSlot). (slot_in ts i).send_budget) (no_slot (set ss f t) xs e) in
      by-test (eqb i f)
      (λ u. let q = eqb-true i f u in
      z ∙ ap (λ (j : ℕ). (slot_in (set ss j t) i).send_budget) (sym q) ∙ ap (λ (s : ChannelSlot). s.send_budget) (slot-set-same ss i t inside) ∙ b q ∙ ap (λ (j : ℕ). (slot_in ss j).send_budget) (sym q))
      (λ u. z ∙ ap (λ (s : ChannelSlot). s.send_budget) (slot-set-other ss f i t (eqb-false i f u)))

  found-own : place_of (Local local) n ss < n → i ≡ place_of (Local local) n ss → eqb local.0 (slot_in ss i).local.0 ≡ true
  unfolding wanted_by
  found-own h q =
      let f = place_of (Local local) n ss in
      let w = and-true (slot_in ss f).filled _ (place_found (Local local) n ss room h) in
      eq-eqb _ _ (sym (ap (λ (j : ℕ). (slot_in ss j).local.0) q ∙ eqb-true _ _ w.1))

  pub other-budget : (xs : List Change) → Touches p n ss payload c local xs → SameBudget (slot_in ss i) (slot_in (slots_by ss xs) i)
  other-budget _ (none xs e) = ap (λ (ts : List ChannelSlot). (slot_in ts i).send_budget) (no_slot ss xs e)
  other-budget _ (keeps f t xs e b) = stored-budget f t xs e (λ q. b)
  other-budget _ (credits remote t xs e o h r) =
      stored-budget (place_of (Local local) n ss) t xs e (λ q. never (sym other ∙ ap (λ (x : Bool). x && eqb local.0 (slot_in ss i).local.0) o ∙ found-own h q))
