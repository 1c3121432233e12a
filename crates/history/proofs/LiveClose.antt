-- A CLSE that leaves our number out goes to the lowest live channel of its number. Assumes nothing.
use mathlib.Core.Path.{◌≡◌, refl, sym, ap, ◌∙◌}
use mathlib.Core.Bool.{Bool, true, false, ◌&&◌}
use mathlib.Core.List.{List, [], ◌∷◌}
use Prim.Native.Nat.{ℕ, zero, suc, ◌≤◌, ◌<◌}
use native.Mathlib.Omega.{arith}
use lib.Dec.{eqb, ltb}
use lib.ListN.{length, take, get_or, set}
use lib.Seq.{get_or-take, length-take-le}
use borrow.Author.Tests.{lt-ltb, le-ltb}
use Rattle.le.proofs.Parts.{by-test}
use Rattle.config.specs.Config.{stores_fit}
use Rattle.protocol.specs.declared.packet.Packet.{Packet}
use Rattle.slot.specs.declared.ChannelSlot.{ChannelSlot}
use Rattle.slot.specs.declared.ids.RemoteId.{RemoteId}
use Rattle.slot.specs.Slot.{empty_slot, is_closed, closed_slot}
use Rattle.slot.proofs.Laws.{cond-true, cond-false}
use Rattle.state.specs.Change.{slot_to, changed_all}
use Rattle.state.specs.State.{state_of, Connection}
use Rattle.state_whole.specs.Whole.{is_whole}
use Rattle.table.specs.declared.Want.TheVariants.{Live}
use Rattle.table.specs.Table.{first, wanted_by, place_of, count_of, slot_in}
use Rattle.table.proofs.Laws.{live-remote}
use Rattle.table_dispatch.specs.declared.DispatchOutcome.TheVariants.{SlotClosed, CancelQueuedOpen}
use Rattle.table_dispatch.specs.Dispatch.{stored, closed_at, close_of, Dispatched, with, route_of, dispatch_of}
use Rattle.table_dispatch.proofs.DispatchLaws.{remote-live}
use Rattle.table_dispatch.proofs.KeepLaws.{place_found, remote-filled}
use Rattle.connection.specs.declared.Answer.TheVariants.{Done}
use Rattle.connection.specs.Act.{acted_by, table_of, act_on}
use Rattle.connection.specs.Answer.{answer_number}
use Rattle.connection.specs.Calls.{Lent, Outcome, begun, then, then_acted, ends, checked, checked_out, dropped, unless_fault, received_by, received_of, body_of, frame_len, dispatch_by, dispatch_step, dispatch_outcome}
use Rattle.connection.proofs.Slots.{slots_by, slots-by, slot-set-same, slot-set-other}
use Rattle.history.specs.Run.{bytes_in, dispatch_call, lent, outcome, after}
use Rattle.history.specs.LiveClose.{live_count, closing, ClseGoesLive}
use Rattle.history.proofs.Never13.{whole-holds, state-after}
use Rattle.history.proofs.Places.{first-le}
use Rattle.std.specs.Prelude.{Ok}

-- ---- lists

-- before the first that passes none does
first-before : {A : Type 0} (p : A → Bool) (l : List A) (j : ℕ) (d : A) → j < first p l → p (get_or l j d) ≡ false
unfolding first
first-before p [] j d h = absurd (omega arith)
first-before p (x ∷ l) zero d h = by-test (p x) (λ t. absurd (let k : 0 < 0 = rw t at h in omega arith)) (λ t. t)
first-before p (x ∷ l) (suc j) d h =
    by-test (p x) (λ t. absurd (let k : suc j < 0 = rw t at h in omega arith))
    (λ t. first-before p l j d (let k : suc j < suc (first p l) = rw t at h in omega arith))

-- one fewer passes where one that did is replaced by one that does not
count_set : {A : Type 0} (p : A → Bool) (n : ℕ) (l : List A) (i : ℕ) (t d : A) → i < n → i < length l → p (get_or l i d) ≡ true → p t ≡ false
    → suc (count_of p (take n (set l i t))) ≡ count_of p (take n l)
unfolding count_of
count_set p zero l i t d h k e f = absurd (omega arith)
count_set p (suc n) [] i t d h k e f = absurd (omega arith)
count_set p (suc n) (x ∷ l) zero t d h k e f = rw (e, f) (omega arith)
count_set p (suc n) (x ∷ l) (suc i) t d h k e f = let c = count_set p n l i t d (omega arith) (omega arith) e f in omega arith

-- ---- the table

-- a closed slot is not live
closed-dead : (r : RemoteId) (s : ChannelSlot) → wanted_by (Live r) (closed_slot s) ≡ false
unfolding wanted_by closed_slot is_closed
closed-dead r s = and_no (s.filled && s.has_remote && eqb s.remote.0 r.0)
  where
    and_no : (b : Bool) → (b && false) ≡ false
    and_no true = refl
    and_no false = refl

module _ (r : RemoteId) (n : ℕ) (ss : List ChannelSlot) (some : r.0 ≡ 0 → ⊥) (k : place_of (Live r) n ss < n) where
  abbrev place : ℕ
  place = place_of (Live r) n ss

  close-lowest : close_of n ss r (record { 0 = 0 }) ≡ stored (SlotClosed place) place (closed_slot (slot_in ss place))
  unfolding close_of closed_at
  close-lowest =
      ap (λ (x : ℕ). closed_at x n ss (CancelQueuedOpen r)) (sym (remote-live n ss r place some refl k))
      ∙ cond-true (ltb place n) _ _ (lt-ltb place n k)

-- ---- the call

module _ (l : Lent) (received : List ℕ) (p : Packet) (i : ℕ) (t : ChannelSlot) (got : received_of l received ≡ (Ok p))
    (found : table_of (dropped l.state.header) l.state.slots l.rx p (body_of received p) ≡ with (stored (SlotClosed i) i t) l.rx) where
  step-closes : dispatch_step l received ≡ ends (then (begun (dropped l.state.header) l) (slot_to i t ∷ []) []) Done (frame_len p) []
  unfolding dispatch_step dispatch_by act_on acted_by unless_fault
  step-closes =
      let h = dropped l.state.header in
      ap (dispatch_by l h received) got
      ∙ ap (λ (d : Dispatched). let a = acted_by h l.state.queue (body_of received p) l.store d d.step.result in ends (then_acted (begun h l) a) (unless_fault a.fault Done) (frame_len p) []) found

pub clse-goes-live : ClseGoesLive
unfolding outcome dispatch_outcome checked_out checked received_of received_by table_of dispatch_of route_of ends answer_number slot_in place_of live_count after
clse-goes-live w out received r len i y whole fits room decoded some there =
    let l = lent w in
    let n = l.state.header.negotiated.config.channels in
    let ss = l.state.slots in
    let x = dispatch_call out received in
    let p = closing r len in
    let h = whole-holds w y whole in
    let full = h.facts.slots.full in
    let most = h.facts.limits.within.most-channels in
    let filled = remote-filled r (slot_in ss i) (live-remote r (slot_in ss i) there) in
    let below = ((h.facts.slots.each i).live filled).place in
    let tl : length (take n ss) ≡ n = length-take-le n ss (omega arith) in
    let le : place_of (Live r) n ss ≤ i = first-le (wanted_by (Live r)) (take n ss) i empty_slot (omega arith) (ap (wanted_by (Live r)) (get_or-take n ss i empty_slot below) ∙ there) in
    let k : place_of (Live r) n ss < n = omega arith in
    let P = place_of (Live r) n ss in
    let t = closed_slot (slot_in ss P) in
    let got : received_of l (bytes_in received) ≡ (Ok p) = ap received_by decoded in
    let s = step-closes l (bytes_in received) p P t got (ap (λ (z : _). with z w.rx) (close-lowest r n ss some k)) in
    let o : outcome w x ≡ ends (then (begun (dropped l.state.header) l) (slot_to P t ∷ []) []) Done (frame_len p) [] =
    cond-true (is_whole w.state) _ _ whole ∙ cond-true (stores_fit l.state.header.negotiated.config (length w.rx) (length w.store)) _ _ fits
    ∙ cond-false (ltb (length out) 56) _ _ (le-ltb (length out) 56 room) ∙ s in
    let st : (state_of (after w x).state).slots ≡ set ss P t =
    ap (λ (c : Connection). c.slots) (state-after _ _ _ _ w h x) ∙ slots-by l.state (outcome w x).changes ∙ ap (λ (z : Outcome). slots_by ss z.changes) o in
    let ng = ap (λ (c : Connection). c.header.negotiated.config.channels) (state-after _ _ _ _ w h x) ∙ ap (λ (z : Outcome). (changed_all l.state z.changes).header.negotiated.config.channels) o in
    let lv = place_found (Live r) n ss (omega arith) k in (
      record {
        place = P;
        live = lv;
        lowest = λ j a. ap (wanted_by (Live r)) (sym (get_or-take n ss j empty_slot (omega arith))) ∙ first-before (wanted_by (Live r)) (take n ss) j empty_slot a;
        closed = ap (λ (z : List ChannelSlot). slot_in z P) st ∙ slot-set-same ss P t (omega arith);
        others = λ j d. ap (λ (z : List ChannelSlot). slot_in z j) st ∙ slot-set-other ss P j t d;
        fewer =
            ap (λ (z : ℕ). suc (count_of (wanted_by (Live r)) (take z (state_of (after w x).state).slots))) ng
            ∙ ap (λ (z : List ChannelSlot). suc (count_of (wanted_by (Live r)) (take n z))) st
            ∙ count_set (wanted_by (Live r)) n ss P t empty_slot k (omega arith) lv (closed-dead r (slot_in ss P));
        rx-same = ap (λ (z : Outcome). z.rx) o;
        store_same = ap (λ (z : Outcome). z.store) o;
      },
      ap (λ (z : Outcome). answer_number z.answer) o,
    )
