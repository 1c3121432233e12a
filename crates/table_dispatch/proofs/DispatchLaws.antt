-- Laws of what a packet does to the table. Assumes nothing.
use mathlib.Core.Path.{◌≡◌, refl, sym, ap, subst, ◌∙◌}
use mathlib.Core.Bool.{Bool, true, false, cond}
use mathlib.Core.List.{List, [], ◌∷◌}
use Prim.Native.Nat.{ℕ, suc, ◌+◌, ◌*◌, ◌≤◌, ◌<◌}
use native.Mathlib.Omega.{arith}
use lib.Dec.{eqb, ltb}
use lib.ListN.{length, take, get_or}
use lib.Seq.{get_or-take, length-take-le}
use borrow.Author.Tests.{eq-eqb, ne_eqb, lt-ltb, le-ltb, ltb-true, ltb-false}
use Rattle.le.proofs.Parts.{by-test}
use Rattle.protocol.specs.declared.command.Command.{Command}
use Rattle.protocol.specs.declared.packet.Packet.{Packet}
use Rattle.rx_store.specs.RxStore.{Room, buffered_in}
use Rattle.config.proofs.Laws.{and-true}
use Rattle.config.specs.declared.negotiated.RxPolicy.{RxPolicy}
use Rattle.slot.specs.declared.ids.LocalId.{LocalId}
use Rattle.slot.specs.declared.ids.RemoteId.{RemoteId}
use Rattle.slot.specs.declared.ChannelSlot.{ChannelSlot}
use Rattle.credit.specs.declared.CreditFault.{CreditFault}
use Rattle.slot.specs.declared.ChannelFault.TheVariants.{BadCredit}
use Rattle.slot.specs.declared.Settled.{Settled}
use Rattle.slot.specs.Wrote.{Wrote}
use Rattle.slot.specs.Slot.{empty_slot, is_opening, is_failed, closed_slot, held_of, wrote_of, SlotOk}
use Rattle.slot.proofs.Laws.{cond-true, cond-false}
use Rattle.slot.proofs.Kept.{pick}
use Rattle.table.proofs.Laws.{first-weaker, live-remote}
use Rattle.state.specs.Change.{Step, Steps}
use Rattle.state.proofs.ChangeLaws.{steps-by}
use Rattle.state.specs.State.{state_of, slot_at, put_slot}
use Rattle.le.proofs.RowLaws.{never}
use Rattle.state.proofs.StateLaws.{slot-in, state-full}
use Rattle.table_dispatch.specs.declared.DispatchOutcome.{DispatchOutcome}
use Rattle.table_dispatch.specs.declared.DispatchOutcome.TheVariants.{CreditGranted, SlotClosed, CancelQueuedOpen, Unmatched}
use Rattle.table.specs.declared.Want.TheVariants.{Local, Remote, Live}
use Rattle.table.specs.Table.{first, wanted_by, place_of, below, slot_in}
use Rattle.table_dispatch.specs.Dispatch.{left, stored, faulted, named_place, remote_place, closed_at, closed_in, close_of, readied_of, granted, ready_at, stray_of, grant_of, Dispatched, with, wrote_by, wrote_at, write_of, route_of, dispatch_of, Dispatches, buffered_at}
use Rattle.std.specs.Prelude.{Option, Some, None, Ok, Err, is_some, IfSome}
use Rattle.slot.specs.declared.ChannelFault.{ChannelFault}

pub slot-here : (b : List ℕ) (i : ℕ) → i < 64 → slot_in (state_of b).slots i ≡ slot_at b i
unfolding slot_in
slot-here b i h = slot-in b i empty_slot h

-- ---- a step's promise

-- where nothing changes
pub steps-left : (d : Step DispatchOutcome) (o : DispatchOutcome) (b : List ℕ) → d ≡ left o → Steps d b o b
steps-left d o b e = steps-by d (left o) o b b e (record { result-is = refl; state-is = refl })

-- where one slot is stored
pub steps-stored : (d : Step DispatchOutcome) (o : DispatchOutcome) (i : ℕ) (t : ChannelSlot) (b after : List ℕ) → d ≡ stored o i t → after ≡ put_slot b i t → Steps d b o after
steps-stored d o i t b after e h = steps-by d (stored o i t) o b after e (record { result-is = refl; state-is = h })

-- ---- CLSE

-- a place that may be none
pub closed-below : (n i : ℕ) (ss : List ChannelSlot) (place : Option ℕ) (other : DispatchOutcome) → place ≡ below n i → closed_at i n ss other ≡ closed_in place ss other
unfolding closed_at below
closed-below n i ss place other e = by-test (ltb i n) (λ t. rw (e, t)) (λ t. rw (e, t))

pub closed-here : (b : List ℕ) (i : ℕ) (place : Option ℕ) (other : DispatchOutcome) (s t : ChannelSlot) → place ≡ Some i → IfSome place (λ k. k < 64)
    → s ≡ slot_at b i → t ≡ closed_slot s → closed_in place (state_of b).slots other ≡ stored (SlotClosed i) i t
closed-here b i place other s t e h f g =
    ap (λ (x : Option ℕ). closed_in x (state_of b).slots other) e
    ∙ ap (λ (x : ChannelSlot). stored (SlotClosed i) i (closed_slot x)) (slot-here b i (subst (λ (x : Option ℕ). IfSome x (λ k. k < 64)) e h) ∙ sym f)
    ∙ ap (stored (SlotClosed i) i) (sym g)

module _ (n : ℕ) (ss : List ChannelSlot) (remote : RemoteId) where
  pub named-none : remote.0 ≡ 0 → None ≡ below n (remote_place n ss remote)
  unfolding remote_place below
  named-none e = rw (eq-eqb remote.0 0 e, le-ltb n n (omega arith))

  -- a live channel's place, or that of a closed one
  module _ (r : Option ℕ) (e : remote.0 ≡ 0 → ⊥) (h : r ≡ below n (place_of (Live remote) n ss)) where
    pub named-live : is_some r ≡ true → r ≡ below n (remote_place n ss remote)
    unfolding remote_place named_place below
    named-live t =
        by-test (ltb (place_of (Live remote) n ss) n)
        (λ u. rw (ne_eqb remote.0 0 e, u, h))
        (λ u. let z : r ≡ None = rw u at h in never (sym (ap is_some z) ∙ t))

    pub named-closed : (q : Option ℕ) → is_some r ≡ false → q ≡ below n (place_of (Remote remote) n ss) → q ≡ below n (remote_place n ss remote)
    unfolding remote_place named_place below
    named-closed q t g =
        by-test (ltb (place_of (Live remote) n ss) n)
        (λ u. let z : r ≡ Some (place_of (Live remote) n ss) = rw u at h in never (sym t ∙ ap is_some z))
        (λ u. rw (ne_eqb remote.0 0 e, u, g))

  pub remote-live : (i : ℕ) → (remote.0 ≡ 0 → ⊥) → i ≡ place_of (Live remote) n ss → i < n → i ≡ remote_place n ss remote
  unfolding remote_place named_place
  remote-live i e h k =
      h ∙ sym (cond-true (ltb (place_of (Live remote) n ss) n) _ _ (lt-ltb _ n (subst (λ (x : ℕ). x < n) h k)))
      ∙ sym (cond-false (eqb remote.0 0) n _ (ne_eqb remote.0 0 e))

  -- whatever holds of a live channel's place and of the lowest of that number holds of the one that is named
  pub by-named : (P : ℕ → Type 0) → (place_of (Live remote) n ss < n → P (place_of (Live remote) n ss)) → P (place_of (Remote remote) n ss) → P (named_place remote n ss)
  unfolding named_place
  by-named P f g = pick P (ltb (place_of (Live remote) n ss) n) (λ t. f (ltb-true _ n t)) (λ t. g)

  -- a slot is named just where one has that number
  pub named-found : ltb (named_place remote n ss) n ≡ ltb (place_of (Remote remote) n ss) n
  unfolding named_place place_of
  named-found =
      by-test (ltb (first (wanted_by (Live remote)) (take n ss)) n)
      (λ t. let le = first-weaker (wanted_by (Live remote)) (wanted_by (Remote remote)) (live-remote remote) (take n ss) in
      let k = ltb-true _ n t in
      ap (λ (x : ℕ). ltb x n) (cond-true (ltb (first (wanted_by (Live remote)) (take n ss)) n) _ _ t) ∙ t ∙ sym (lt-ltb _ n (omega arith)))
      (λ t. ap (λ (x : ℕ). ltb x n) (cond-false (ltb (first (wanted_by (Live remote)) (take n ss)) n) _ _ t))

  module _ (local : LocalId) where
    pub close-remote : (r : Option ℕ) → local.0 ≡ 0 → r ≡ below n (remote_place n ss remote) → close_of n ss remote local ≡ closed_in r ss (CancelQueuedOpen remote)
    unfolding close_of
    close-remote r e h =
        cond-true (eqb local.0 0) _ _ (eq-eqb local.0 0 e) ∙ closed-below n (remote_place n ss remote) ss r (CancelQueuedOpen remote) h

    pub close-local : (r : Option ℕ) → (local.0 ≡ 0 → ⊥) → r ≡ below n (place_of (Local local) n ss) → close_of n ss remote local ≡ closed_in r ss Unmatched
    unfolding close_of
    close-local r e h =
        cond-false (eqb local.0 0) _ _ (ne_eqb local.0 0 e) ∙ closed-below n (place_of (Local local) n ss) ss r Unmatched h

-- ---- OKAY

module _ (p : RxPolicy) (i : ℕ) (s₀ s : ChannelSlot) (is : s ≡ s₀) (remote : RemoteId) (payload : List ℕ) where
  ready-same : ready_at p i s₀ remote payload ≡ ready_at p i s remote payload
  ready-same = ap (λ (x : ChannelSlot). ready_at p i x remote payload) (sym is)

  pub ready-failed : is_failed s.failed ≡ true → ready_at p i s₀ remote payload ≡ left Unmatched
  unfolding ready_at
  ready-failed e = ready-same ∙ cond-true (is_failed s.failed) _ _ e

  pub ready-granted : (t : ChannelSlot) → is_failed s.failed ≡ false → readied_of s remote payload p ≡ Ok t
      → ready_at p i s₀ remote payload ≡ stored (CreditGranted i) i t
  unfolding ready_at granted
  ready-granted t e h = ready-same ∙ cond-false (is_failed s.failed) _ _ e ∙ ap (granted i s remote) h

  pub ready-bad : (f : CreditFault) (o : DispatchOutcome) → is_failed s.failed ≡ false → readied_of s remote payload p ≡ Err f → o ≡ faulted i s remote (BadCredit f)
      → ready_at p i s₀ remote payload ≡ left o
  unfolding ready_at granted
  ready-bad f o e h g = ready-same ∙ cond-false (is_failed s.failed) _ _ e ∙ ap (granted i s remote) h ∙ ap left (sym g)

module _ (remote : RemoteId) (local : LocalId) where
  module _ (p : RxPolicy) (n : ℕ) (b : List ℕ) (payload : List ℕ) (i : ℕ) (e : i ≡ place_of (Local local) n (state_of b).slots) where
    pub grant-here : i < n → n ≤ 64 → grant_of p n (state_of b).slots remote local payload ≡ ready_at p i (slot_at b i) remote payload
    unfolding grant_of
    grant-here h k =
        ap (λ (x : ℕ). cond (ltb x n) (ready_at p x (slot_in (state_of b).slots x) remote payload) (left (stray_of remote local))) (sym e)
        ∙ cond-true (ltb i n) _ _ (lt-ltb i n h)
        ∙ ap (λ (x : ChannelSlot). ready_at p i x remote payload) (slot-here b i (omega arith))

    pub grant-none : (o : DispatchOutcome) → n ≤ i → o ≡ stray_of remote local → grant_of p n (state_of b).slots remote local payload ≡ left o
    unfolding grant_of
    grant-none o h f =
        ap (λ (x : ℕ). cond (ltb x n) (ready_at p x (slot_in (state_of b).slots x) remote payload) (left (stray_of remote local))) (sym e)
        ∙ cond-false (ltb i n) _ _ (le-ltb i n h)
        ∙ ap left (sym f)

-- ---- WRTE

pub dispatches : (d : Dispatched) (s : Step DispatchOutcome) (rx : List ℕ) (o : DispatchOutcome) (b after : List ℕ) → d ≡ with s rx → Steps s b o after → Dispatches d b o after rx
dispatches d s rx o b after e f =
    record { steps = steps-by d.step s o b after (ap (λ (x : Dispatched). x.step) e) f; rx-is = sym (ap (λ (x : Dispatched). x.rx) e) }

pub dispatches-by : (d e : Dispatched) (o : DispatchOutcome) (b after rx : List ℕ) → d ≡ e → Dispatches e b o after rx → Dispatches d b o after rx
dispatches-by d e o b after rx h f = record { steps = steps-by d.step e.step o b after (ap (λ (x : Dispatched). x.step) h) f.steps; rx-is = f.rx-is ∙ sym (ap (λ (x : Dispatched). x.rx) h) }

-- whether the payload is buffered
abbrev takes : Wrote → Bool
takes (Ok w) = true
takes (Err why) = false

-- a payload that is buffered fits under the cap
module _ (s : ChannelSlot) (p : RxPolicy) (k : ℕ) where
  pub fits : takes (wrote_of s p k) ≡ true → held_of s + k ≤ p.rx_cap
  unfolding wrote_of
  fits e =
      by-test (is_opening s.state)
      (λ o. never (sym (ap takes (cond-true (is_opening s.state) _ _ o)) ∙ e))
      (λ o. by-test (ltb p.rx_cap (held_of s + k))
      (λ t. never (sym (ap takes (cond-false (is_opening s.state) _ _ o ∙ cond-true (ltb p.rx_cap (held_of s + k)) _ _ t)) ∙ e))
      (λ t. ltb-false p.rx_cap (held_of s + k) t))

  -- so its share has room for it
  room : SlotOk s p.rx_cap → takes (wrote_of s p k) ≡ true → Room (2 * p.rx_cap) s.head s.buffered k
  unfolding held_of
  room ok e = let h = fits e in record { run_fits = ok.run_fits; more-fits = omega arith }

module _ (b : List ℕ) (i : ℕ) (s : ChannelSlot) (p : RxPolicy) (k : ℕ) (r : Wrote) (is : s ≡ slot_at b i) (wrote : r ≡ wrote_of s p k) (ok : SlotOk (slot_at b i) p.rx_cap) where
  sound-here : SlotOk s p.rx_cap
  sound-here = subst (λ (x : ChannelSlot). SlotOk x p.rx_cap) (sym is) ok

  pub room-kept : (w : Settled) → r ≡ Ok w → Room (2 * p.rx_cap) s.head s.buffered k
  room-kept w e = room s p k sound-here (ap takes (sym wrote ∙ e))

module _ (p : RxPolicy) (i : ℕ) (s₀ s : ChannelSlot) (is : s ≡ s₀) (remote : RemoteId) (payload rx : List ℕ) where
  wrote-same : wrote_at p i s₀ remote payload rx ≡ wrote_at p i s remote payload rx
  wrote-same = ap (λ (x : ChannelSlot). wrote_at p i x remote payload rx) (sym is)

  pub wrote-failed : is_failed s.failed ≡ true → wrote_at p i s₀ remote payload rx ≡ with (left Unmatched) rx
  unfolding wrote_at
  wrote-failed e = wrote-same ∙ cond-true (is_failed s.failed) _ _ e

  module _ (r : Wrote) (e : is_failed s.failed ≡ false) (wrote : r ≡ wrote_of s p (length payload)) where
    wrote-by : (d : Wrote) → r ≡ d → wrote_at p i s₀ remote payload rx ≡ wrote_by p i s remote payload rx d
    unfolding wrote_at
    wrote-by d h = wrote-same ∙ cond-false (is_failed s.failed) _ _ e ∙ ap (wrote_by p i s remote payload rx) (sym wrote ∙ h)

    pub wrote-bad : (f : ChannelFault) (o : DispatchOutcome) → r ≡ Err f → o ≡ faulted i s remote f → wrote_at p i s₀ remote payload rx ≡ with (left o) rx
    unfolding wrote_by
    wrote-bad f o h e = wrote-by (Err f) h ∙ ap (λ (x : DispatchOutcome). with (left x) rx) (sym e)

    pub wrote-kept : (w : Settled) (o : DispatchOutcome) (after : List ℕ) → r ≡ Ok w → o ≡ buffered_at i s w.ack → after ≡ buffered_in rx p.rx_cap i s.head s.buffered payload
        → wrote_at p i s₀ remote payload rx ≡ with (stored o i w.slot) after
    unfolding wrote_by
    wrote-kept w o after h e f =
        wrote-by (Ok w) h ∙ ap (with (stored (buffered_at i s w.ack) i w.slot)) (sym f)
        ∙ ap (λ (x : DispatchOutcome). with (stored x i w.slot) after) (sym e)

-- the slot that a walk stops at is what was looked for
pub first_found : {A : Type 0} (q : A → Bool) (l : List A) (d : A) → first q l < length l → q (get_or l (first q l) d) ≡ true
unfolding first
first_found q [] d h = absurd (omega arith)
first_found q (x ∷ l) d h =
    by-test (q x) (λ t. rw t t) (λ t. let k : suc (first q l) < suc (length l) = rw t at h in rw t (first_found q l d (omega arith)))

pub local-filled : (b : List ℕ) (n i : ℕ) (local : LocalId) → i ≡ place_of (Local local) n (state_of b).slots → i < n → n ≤ 64 → (slot_at b i).filled ≡ true
unfolding place_of wanted_by
local-filled b n i local e h k =
    let ss = take n (state_of b).slots in
    let z = (state-full b).slots in
    let m : length ss ≡ n = length-take-le n (state_of b).slots (omega arith) in
    let f = first_found (wanted_by (Local local)) ss empty_slot (rw (m, sym e) h) in
    let g : get_or ss (first (wanted_by (Local local)) ss) empty_slot ≡ slot_at b i =
    ap (λ (x : ℕ). get_or ss x empty_slot) (sym e) ∙ get_or-take n (state_of b).slots i empty_slot h ∙ slot-in b i empty_slot (omega arith) in
    (and-true _ _ (ap (wanted_by (Local local)) (sym g) ∙ f)).0

module _ (remote : RemoteId) (local : LocalId) (p : RxPolicy) (n : ℕ) (b : List ℕ) (payload rx : List ℕ) (i : ℕ) (e : i ≡ place_of (Local local) n (state_of b).slots) where
  pub write-here : i < n → n ≤ 64 → write_of p n (state_of b).slots remote local payload rx ≡ wrote_at p i (slot_at b i) remote payload rx
  unfolding write_of
  write-here h k =
      ap (λ (x : ℕ). cond (ltb x n) (wrote_at p x (slot_in (state_of b).slots x) remote payload rx) (with (left Unmatched) rx)) (sym e)
      ∙ cond-true (ltb i n) _ _ (lt-ltb i n h)
      ∙ ap (λ (x : ChannelSlot). wrote_at p i x remote payload rx) (slot-here b i (omega arith))

  pub write-none : n ≤ i → write_of p n (state_of b).slots remote local payload rx ≡ with (left Unmatched) rx
  unfolding write_of
  write-none h =
      ap (λ (x : ℕ). cond (ltb x n) (wrote_at p x (slot_in (state_of b).slots x) remote payload rx) (with (left Unmatched) rx)) (sym e)
      ∙ cond-false (ltb i n) _ _ (le-ltb i n h)

-- ---- any packet

pub routed : (p : RxPolicy) (n : ℕ) (ss : List ChannelSlot) (k : Packet) (payload rx : List ℕ) (c : Command) → k.command ≡ c
    → dispatch_of p n ss k payload rx ≡ route_of p n ss c k.arg0 k.arg1 payload rx
unfolding dispatch_of
routed p n ss k payload rx c e = ap (λ (x : Command). route_of p n ss x k.arg0 k.arg1 payload rx) e
