-- Which slot a packet is for, and what it does to the one at a given place. Assumes nothing.
use mathlib.Core.Path.{◌≡◌, refl, sym, ap, subst, ◌∙◌}
use mathlib.Core.Bool.{Bool, true, false, not, cond, ◌&&◌, true≢false}
use mathlib.Core.List.{List, [], ◌∷◌, ◌++◌}
use Prim.Native.Nat.{ℕ, zero, suc, ◌+◌, ◌*◌, ◌≤◌, ◌<◌}
use native.Mathlib.Omega.{arith}
use lib.Dec.{eqb, ltb}
use lib.ListN.{length, take, get_or, set}
use lib.Seq.{get_or-take, length-take-le}
use borrow.Author.Tests.{eqb-true, eqb-false, eq-eqb, ltb-true, ltb-false, lt-ltb, le-ltb}
use Rattle.le.specs.Le.{part, num_of}
use Rattle.le.proofs.Parts.{by-test, length_part}
use Rattle.config.specs.declared.negotiated.RxPolicy.{RxPolicy}
use Rattle.config.proofs.Laws.{and-true}
use Rattle.protocol.specs.declared.command.Command.{Command}
use Rattle.protocol.specs.Command.{is_close, is_write, is_the, word_of, letters_of}
use Rattle.rx_store.specs.RxStore.{Room, appended, appended_head, share_of, buffered_in}
use Rattle.rx_store.proofs.Laws.{part-appended}
use Rattle.slot.specs.declared.ids.LocalId.{LocalId}
use Rattle.slot.specs.declared.ids.RemoteId.{RemoteId}
use Rattle.slot.specs.declared.ChannelFault.TheVariants.{RxOverflow, BadCredit}
use Rattle.slot.specs.declared.ChannelSlot.{ChannelSlot}
use Rattle.slot.specs.Wrote.{Wrote, left_by}
use Rattle.slot.specs.Slot.{empty_slot, is_opening, is_failed, held_of, acks_now, buffered_with, wrote_of, ready_by, ready_of, closed_slot, SlotOk}
use Rattle.credit.specs.Credit.{credit_of}
use Rattle.slot.proofs.Kept.{pick}
use Rattle.slot.proofs.Laws.{cond-true, cond-false}
use Rattle.state.specs.Change.{Step}
use Rattle.table_dispatch.specs.declared.DispatchOutcome.{DispatchOutcome}
use Rattle.table_dispatch.specs.declared.DispatchOutcome.TheVariants.{AckWrite, CreditGranted, SlotClosed, DataBuffered, IncomingOpen, CancelQueuedOpen, StrayReady, ChannelFault, Unmatched}
use Rattle.table.specs.declared.Want.{Want}
use Rattle.table.specs.declared.Want.TheVariants.{Local}
use Rattle.table.specs.Table.{first, wanted_by, place_of, slot_in}
use Rattle.table_dispatch.specs.Dispatch.{buffered_at, left, stored, faulted, named_place, remote_place, closed_at, close_of, readied_of, granted, ready_at, stray_of, grant_of, Dispatched, with, wrote_by, wrote_at, write_of, route_of}
use Rattle.table_dispatch.proofs.KeepLaws.{place_found}
use Rattle.table_dispatch.proofs.RouteLaws.{by-route}
use Rattle.rx_store.proofs.ShareLaws.{share_in, buffered-own, buffered-other}
use Rattle.connection.proofs.Slots.{slots_by, slot-set-same, slot-set-other}
use Rattle.history.specs.Demand3.{run_of}
use Rattle.history.proofs.Good.{Leaves}
use Rattle.credit.specs.declared.CreditFault.{CreditFault}
use Rattle.std.specs.Prelude.{ℤ, Option, Some, None, Result, Ok, Err}
use Rattle.slot.specs.declared.ChannelFault.{ChannelFault as SlotFault}

-- ---- a table of a whole state, its channels' numbers apart

pub record TableOk (p : RxPolicy) (n : ℕ) (ss : List ChannelSlot) (rx : List ℕ) : Type 0 where
  pub size : length ss ≡ 64
  pub most : n ≤ 64
  pub small : p.rx_cap ≤ 16777216
  pub shares : n * (2 * p.rx_cap) ≤ length rx
  pub below : (j : ℕ) → (slot_in ss j).filled ≡ true → j < n
  pub sound : (j : ℕ) → (slot_in ss j).filled ≡ true → SlotOk (slot_in ss j) p.rx_cap
  pub unfailed : (j : ℕ) → (slot_in ss j).filled ≡ true → is_failed (slot_in ss j).failed ≡ false
  pub opened : (j : ℕ) → (slot_in ss j).filled ≡ true → is_opening (slot_in ss j).state ≡ false
  pub known : (j : ℕ) → (slot_in ss j).filled ≡ true → (slot_in ss j).has_remote ≡ true
  pub apart : (j k : ℕ) → (slot_in ss j).filled ≡ true → (slot_in ss k).filled ≡ true → (slot_in ss j).local.0 ≡ (slot_in ss k).local.0 → j ≡ k

-- the first that passes is no later than any that does
pub first-le : {A : Type 0} (q : A → Bool) (l : List A) (i : ℕ) (d : A) → i < length l → q (get_or l i d) ≡ true → first q l ≤ i
unfolding first
first-le q [] i d h e = absurd (omega arith)
first-le q (x ∷ l) zero d h e = rw e (omega arith)
first-le q (x ∷ l) (suc i) d h e =
    let r = first-le q l i d (omega arith) e in
    by-test (q x) (λ t. rw t (omega arith)) (λ t. rw t (omega arith))

module _ (p : RxPolicy) (n : ℕ) (ss : List ChannelSlot) (rx : List ℕ) (ok : TableOk p n ss rx) where
  -- what a walk below n finds
  pub found-there : (w : Want) → place_of w n ss < n → wanted_by w (slot_in ss (place_of w n ss)) ≡ true
  found-there w h =
      let z = ok.size in
      let y = ok.most in
      place_found w n ss (omega arith) h

  pub place-le : (w : Want) (i : ℕ) → i < n → wanted_by w (slot_in ss i) ≡ true → place_of w n ss ≤ i
  unfolding place_of slot_in
  place-le w i h e =
      let z = ok.size in
      let y = ok.most in
      let m : length (take n ss) ≡ n = length-take-le n ss (omega arith) in
      first-le (wanted_by w) (take n ss) i empty_slot (subst (λ (x : ℕ). i < x) (sym m) h) (ap (wanted_by w) (get_or-take n ss i empty_slot h) ∙ e)

  pub found-filled : (l : LocalId) → place_of (Local l) n ss < n → (slot_in ss (place_of (Local l) n ss)).filled ≡ true
  unfolding wanted_by
  found-filled l h = (and-true _ _ (found-there (Local l) h)).0

  pub found_local : (l : LocalId) → place_of (Local l) n ss < n → (slot_in ss (place_of (Local l) n ss)).local.0 ≡ l.0
  unfolding wanted_by
  found_local l h =
      let s = slot_in ss (place_of (Local l) n ss) in
      eqb-true s.local.0 l.0 (and-true s.filled (eqb s.local.0 l.0) (found-there (Local l) h)).1

  -- a channel is found by its local number
  pub own-place : (i : ℕ) (l : LocalId) → (slot_in ss i).filled ≡ true → (slot_in ss i).local.0 ≡ l.0 → place_of (Local l) n ss ≡ i
  unfolding wanted_by
  own-place i l f e =
      let b = ok.below i f in
      let w : wanted_by (Local l) (slot_in ss i) ≡ true = ap (λ (x : Bool). x && eqb (slot_in ss i).local.0 l.0) f ∙ eq-eqb _ _ e in
      let k = place-le (Local l) i b w in
      let h : place_of (Local l) n ss < n = omega arith in
      ok.apart (place_of (Local l) n ss) i (found-filled l h) f (found_local l h ∙ sym e)

-- where a WRTE that is taken leaves the run
record Grown (s : ChannelSlot) (p : RxPolicy) (k : ℕ) (t : ChannelSlot) : Type 0 where
  head : t.head ≡ appended_head (2 * p.rx_cap) s.head s.buffered k
  more : t.buffered ≡ s.buffered + k

grown : (s : ChannelSlot) (p : RxPolicy) (k : ℕ) → is_opening s.state ≡ false → held_of s + k ≤ p.rx_cap → Grown s p k (left_by s (wrote_of s p k))
unfolding wrote_of buffered_with
grown s p k o h =
    let G : Wrote → Type 0 = λ w. Grown s p k (left_by s w) in
    subst G (sym (cond-false (is_opening s.state) _ _ o ∙ cond-false (ltb p.rx_cap (held_of s + k)) _ _ (le-ltb p.rx_cap (held_of s + k) h)))
    (pick G (acks_now s p (held_of s + k)) (λ t. record { head = refl; more = refl }) (λ t. record { head = refl; more = refl }))

-- a share has room for what its slot takes
pub room_for : (s : ChannelSlot) (p : RxPolicy) (k : ℕ) → SlotOk s p.rx_cap → held_of s + k ≤ p.rx_cap → Room (2 * p.rx_cap) s.head s.buffered k
unfolding held_of
room_for s p k ok h = record { run_fits = ok.run_fits; more-fits = omega arith }

-- what `apply_write` decides
abbrev pub is_taken : Wrote → Bool
is_taken (Ok w) = true
is_taken (Err why) = false

pub data Decides (s : ChannelSlot) (p : RxPolicy) (k : ℕ) (r : Wrote) : Type 0 where
  buffers : is_taken r ≡ true → held_of s + k ≤ p.rx_cap → Decides s p k r
  overflows : r ≡ Err RxOverflow → p.rx_cap < held_of s + k → Decides s p k r

pub decides : (s : ChannelSlot) (p : RxPolicy) (k : ℕ) → is_opening s.state ≡ false → Decides s p k (wrote_of s p k)
unfolding wrote_of
decides s p k o =
    let G : Wrote → Type 0 = Decides s p k in
    subst G (sym (cond-false (is_opening s.state) _ _ o))
    (pick G (ltb p.rx_cap (held_of s + k)) (λ t. overflows refl (ltb-true _ _ t))
    (λ t. pick G (acks_now s p (held_of s + k)) (λ a. buffers refl (ltb-false _ _ t)) (λ a. buffers refl (ltb-false _ _ t))))

-- a slot whose run lies where another's does
pub record SameRun (s t : ChannelSlot) : Type 0 where
  pub head : t.head ≡ s.head
  pub more : t.buffered ≡ s.buffered

ready-run-by : (s : ChannelSlot) (c : Result ℤ CreditFault) → Leaves (SameRun s) (ready_by s c)
unfolding ready_by
ready-run-by s (Ok z) = record { head = refl; more = refl }
ready-run-by s (Err b) = tt

pub ready-run : (s : ChannelSlot) (payload : List ℕ) (p : RxPolicy) → Leaves (SameRun s) (ready_of s payload p)
unfolding ready_of
ready-run s payload p = pick (Leaves (SameRun s)) p.delayed (λ d. ready-run-by s (credit_of payload)) (λ d. record { head = refl; more = refl })

pub closed_run : (s : ChannelSlot) → SameRun s (closed_slot s)
unfolding closed_slot
closed_run s = record { head = refl; more = refl }

-- ---- what a packet does to one slot

-- what `act_on` takes for a fault
abbrev pub fault_of : DispatchOutcome → Option SlotFault
fault_of (AckWrite i ids len) = None
fault_of (CreditGranted i) = None
fault_of (SlotClosed i) = None
fault_of (DataBuffered i) = None
fault_of (IncomingOpen remote credit) = None
fault_of (CancelQueuedOpen remote) = None
fault_of (StrayReady ids) = None
fault_of (ChannelFault i ids opening f) = Some f
fault_of Unmatched = None

-- mine: the packet is a WRTE with the slot's number; ends: it is a CLSE that closes the slot. What the packet leaves of slot
-- and run, and the fault
pub data At (p : RxPolicy) (s : ChannelSlot) (q payload : List ℕ) (mine ends : Bool) (t : ChannelSlot) (r : List ℕ) (fault : Option SlotFault) : Type 0 where
  apart : mine ≡ false → ends ≡ false → t ≡ s → r ≡ q → At p s q payload mine ends t r fault
  wrote : mine ≡ true → held_of s + length payload ≤ p.rx_cap → t ≡ left_by s (wrote_of s p (length payload)) → r ≡ q ++ payload → fault ≡ None → At p s q payload mine ends t r fault
  over : mine ≡ true → p.rx_cap < held_of s + length payload → t ≡ s → r ≡ q → fault ≡ Some RxOverflow → At p s q payload mine ends t r fault
  credited : mine ≡ false → ends ≡ false → ready_of s payload p ≡ Ok t → r ≡ q → At p s q payload mine ends t r fault
  shut : mine ≡ false → ends ≡ true → t ≡ closed_slot s → r ≡ q → At p s q payload mine ends t r fault

-- the same of what dispatching leaves at place i
abbrev pub AtPlace : RxPolicy → List ChannelSlot → List ℕ → ℕ → List ℕ → Bool → Bool → Dispatched → Type 0
AtPlace p ss rx i payload mine ends d =
    At p (slot_in ss i) (run_of rx p.rx_cap i (slot_in ss i)) payload mine ends
    (slot_in (slots_by ss d.step.changes) i) (run_of d.rx p.rx_cap i (slot_in (slots_by ss d.step.changes) i)) (fault_of d.step.result)

module _ (p : RxPolicy) (n : ℕ) (ss : List ChannelSlot) (rx : List ℕ) (ok : TableOk p n ss rx) (i : ℕ) (there : (slot_in ss i).filled ≡ true) (payload : List ℕ) where
  -- where nothing changes
  at_left : (o : DispatchOutcome) (mine ends : Bool) → mine ≡ false → ends ≡ false → AtPlace p ss rx i payload mine ends (with (left o) rx)
  at_left o mine ends m e = apart m e refl refl

  -- where another slot changes, in the numbers alone
  at_other : (o : DispatchOutcome) (f : ℕ) (t : ChannelSlot) (mine ends : Bool) → mine ≡ false → ends ≡ false → (i ≡ f → ⊥) → AtPlace p ss rx i payload mine ends (with (stored o f t) rx)
  at_other o f t mine ends m e d =
      let z = slot-set-other ss f i t d in
      apart m e z (ap (run_of rx p.rx_cap i) z)

  own_is : (t : ChannelSlot) → slot_in (set ss i t) i ≡ t
  own_is t = let z = ok.size in let y = ok.most in let b = ok.below i there in slot-set-same ss i t (omega arith)

  run-same : (t s : ChannelSlot) → SameRun s t → run_of rx p.rx_cap i t ≡ run_of rx p.rx_cap i s
  unfolding run_of
  run-same t s w = ap (λ (x : ℕ). part (share_of rx p.rx_cap i) x t.buffered) w.head ∙ ap (part (share_of rx p.rx_cap i) s.head) w.more

  -- a payload into another slot's share leaves the run
  run-other : (f : ℕ) (t s : ChannelSlot) → f < n → (i ≡ f → ⊥) → Room (2 * p.rx_cap) t.head t.buffered (length payload)
      → run_of (buffered_in rx p.rx_cap f t.head t.buffered payload) p.rx_cap i s ≡ run_of rx p.rx_cap i s
  unfolding run_of
  run-other f t s h d r =
      ap (λ (l : List ℕ). part l s.head s.buffered)
      (buffered-other rx p.rx_cap f t.head t.buffered payload (share_in f n (2 * p.rx_cap) (length rx) h ok.shares) r i (λ e. d (sym e)))

  -- into its own, it stands behind the run
  run-own : (s : ChannelSlot) (head more : ℕ) → i < n → Room (2 * p.rx_cap) s.head s.buffered (length payload)
      → head ≡ appended_head (2 * p.rx_cap) s.head s.buffered (length payload) → more ≡ s.buffered + length payload
      → part (share_of (buffered_in rx p.rx_cap i s.head s.buffered payload) p.rx_cap i) head more ≡ run_of rx p.rx_cap i s ++ payload
  unfolding run_of share_of
  run-own s head more h r e e2 =
      let cap = p.rx_cap in
      let sh = share_in i n (2 * cap) (length rx) h ok.shares in
      let share = part rx (i * (2 * cap)) (2 * cap) in
      let l : length share ≡ 2 * cap = length_part rx (i * (2 * cap)) (2 * cap) sh in
      let r2 : Room (length share) s.head s.buffered (length payload) = subst (λ (x : ℕ). Room x s.head s.buffered (length payload)) (sym l) r in
      ap (λ (x : List ℕ). part x head more) (buffered-own rx cap i s.head s.buffered payload sh r)
      ∙ ap (λ (x : ℕ). part (appended share s.head s.buffered payload) x more) (e ∙ ap (λ (x : ℕ). appended_head x s.head s.buffered (length payload)) (sym l))
      ∙ ap (part (appended share s.head s.buffered payload) (appended_head (length share) s.head s.buffered (length payload))) e2
      ∙ part-appended share s.head s.buffered payload r2

  -- a WRTE, by what the slot decides: for the slot at place i itself
  kept-none : (f : ℕ) (s : ChannelSlot) (due : Option ℕ) → fault_of (buffered_at f s due) ≡ None
  kept-none f s (Some len) = refl
  kept-none f s None = refl

  at_own : (remote : RemoteId) (d : Wrote) (ends : Bool) → Decides (slot_in ss i) p (length payload) d → d ≡ wrote_of (slot_in ss i) p (length payload)
      → AtPlace p ss rx i payload true ends (wrote_by p i (slot_in ss i) remote payload rx d)
  unfolding wrote_by run_of
  at_own remote (Ok d) ends (buffers e h) x =
      let s = slot_in ss i in
      let t = d.slot in
      let w : t ≡ left_by s (wrote_of s p (length payload)) = ap (left_by s) x in
      let z = own_is t in
      let r = room_for s p (length payload) (ok.sound i there) h in
      let g = grown s p (length payload) (ok.opened i there) h in
      wrote refl h (z ∙ w) (ap (run_of (buffered_in rx p.rx_cap i s.head s.buffered payload) p.rx_cap i) z ∙ run-own s t.head t.buffered (ok.below i there) r (ap (λ (x : ChannelSlot). x.head) w ∙ g.head) (ap (λ (x : ChannelSlot). x.buffered) w ∙ g.more))
      (kept-none i s d.ack)
  at_own remote (Err why) ends (buffers e h) x = absurd (true≢false (sym e))
  at_own remote d ends (overflows e h) x = subst (λ (x : Wrote). AtPlace p ss rx i payload true ends (wrote_by p i (slot_in ss i) remote payload rx x)) (sym e) (over refl h refl refl refl)

  -- for a slot at another place
  at-else : (f : ℕ) (remote : RemoteId) (d : Wrote) (ends : Bool) → f < n → (i ≡ f → ⊥) → SlotOk (slot_in ss f) p.rx_cap → Decides (slot_in ss f) p (length payload) d → ends ≡ false
      → AtPlace p ss rx i payload false ends (wrote_by p f (slot_in ss f) remote payload rx d)
  unfolding wrote_by
  at-else f remote (Ok d) ends h ne sound (buffers e k) x =
      let z = slot-set-other ss f i d.slot ne in
      let r = room_for (slot_in ss f) p (length payload) sound k in
      apart refl x z (ap (run_of (buffered_in rx p.rx_cap f (slot_in ss f).head (slot_in ss f).buffered payload) p.rx_cap i) z ∙ run-other f (slot_in ss f) (slot_in ss i) h ne r)
  at-else f remote (Err why) ends h ne sound (buffers e k) x = absurd (true≢false (sym e))
  at-else f remote d ends h ne sound (overflows e k) x =
      subst (λ (y : Wrote). AtPlace p ss rx i payload false ends (wrote_by p f (slot_in ss f) remote payload rx y)) (sym e) (apart refl x refl refl)

  abbrev at-write-for : ℕ → LocalId → RemoteId → Bool → Type 0
  at-write-for f local remote mine =
      AtPlace p ss rx i payload mine false
      (cond (ltb f n) (wrote_at p f (slot_in ss f) remote payload rx) (with (left Unmatched) rx))

  at-wrote : (f : ℕ) (remote : RemoteId) (mine : Bool) → f < n → (slot_in ss f).filled ≡ true
      → AtPlace p ss rx i payload mine false (wrote_by p f (slot_in ss f) remote payload rx (wrote_of (slot_in ss f) p (length payload)))
      → at-write-for f (slot_in ss f).local remote mine
  unfolding wrote_at
  at-wrote f remote mine h fill a =
      subst (AtPlace p ss rx i payload mine false)
      (sym (cond-true (ltb f n) _ _ (lt-ltb f n h) ∙ cond-false (is_failed (slot_in ss f).failed) _ _ (ok.unfailed f fill))) a

  -- a WRTE
  pub at-write : (remote : RemoteId) (local : LocalId) → AtPlace p ss rx i payload (eqb local.0 (slot_in ss i).local.0) false (write_of p n ss remote local payload rx)
  unfolding write_of
  at-write remote local =
      let f = place_of (Local local) n ss in
      by-test (eqb local.0 (slot_in ss i).local.0)
      (λ t. let e = own-place p n ss rx ok i local there (sym (eqb-true _ _ t)) in
      subst (λ (m : Bool). at-write-for f local remote m) (sym t)
      (subst (λ (x : ℕ). at-write-for x local remote true) (sym e)
      (at-wrote i remote true (ok.below i there) there
      (at_own remote _ false (decides (slot_in ss i) p (length payload) (ok.opened i there)) refl))))
      (λ t. subst (λ (m : Bool). at-write-for f local remote m) (sym t)
      (by-test (ltb f n)
      (λ u. let h = ltb-true f n u in
      let fill = found-filled p n ss rx ok local h in
      let ne : i ≡ f → ⊥ = λ e. eqb-false _ _ t (sym (ap (λ (x : ℕ). (slot_in ss x).local.0) e ∙ found_local p n ss rx ok local h)) in
      at-wrote f remote false h fill
      (at-else f remote _ false h ne (ok.sound f fill) (decides (slot_in ss f) p (length payload) (ok.opened f fill)) refl))
      (λ u. subst (AtPlace p ss rx i payload false false) (sym (cond-false (ltb f n) _ _ u)) (at_left Unmatched false false refl refl))))

  -- an OKAY
  at-granted : (f : ℕ) (remote : RemoteId) (r : Result ChannelSlot CreditFault) → f < n → ready_of (slot_in ss f) payload p ≡ r → AtPlace p ss rx i payload false false (with (granted f (slot_in ss f) remote r) rx)
  unfolding granted
  at-granted f remote (Ok t) h e =
      by-test (eqb i f)
      (λ u. let d = eqb-true i f u in
      let e2 : ready_of (slot_in ss i) payload p ≡ (Ok t) = ap (λ (x : ℕ). ready_of (slot_in ss x) payload p) d ∙ e in
      subst (λ (x : ℕ). AtPlace p ss rx i payload false false (with (stored (CreditGranted x) x t) rx)) d
      (let z = own_is t in
      let w = subst (Leaves (SameRun (slot_in ss i))) e2 (ready-run (slot_in ss i) payload p) in
      credited refl refl (e2 ∙ ap Ok (sym z)) (ap (run_of rx p.rx_cap i) z ∙ run-same t (slot_in ss i) w)))
      (λ u. at_other (CreditGranted f) f t false false refl refl (eqb-false i f u))
  at-granted f remote (Err b) h e = at_left (faulted f (slot_in ss f) remote (BadCredit b)) false false refl refl

  pub at_ready : (remote : RemoteId) (local : LocalId) → AtPlace p ss rx i payload false false (with (grant_of p n ss remote local payload) rx)
  unfolding grant_of ready_at readied_of
  at_ready remote local =
      let f = place_of (Local local) n ss in
      by-test (ltb f n)
      (λ u. let h = ltb-true f n u in
      let fill = found-filled p n ss rx ok local h in
      subst (λ (x : Step DispatchOutcome). AtPlace p ss rx i payload false false (with x rx))
      (sym (cond-true (ltb f n) _ _ u ∙ cond-false (is_failed (slot_in ss f).failed) _ _ (ok.unfailed f fill)
      ∙ ap (granted f (slot_in ss f) remote) (cond-false (is_opening (slot_in ss f).state) _ _ (ok.opened f fill))))
      (at-granted f remote _ h refl))
      (λ u. subst (λ (x : Step DispatchOutcome). AtPlace p ss rx i payload false false (with x rx)) (sym (cond-false (ltb f n) _ _ u)) (at_left (stray_of remote local) false false refl refl))

  -- a CLSE
  at-closed : (f : ℕ) (other : DispatchOutcome) (ends : Bool) → (ends ≡ true → f ≡ i) → (ends ≡ false → i ≡ f → ⊥) → AtPlace p ss rx i payload false ends (with (closed_at f n ss other) rx)
  unfolding closed_at
  at-closed f other true hits misses =
      let e = hits refl in
      subst (λ (x : ℕ). AtPlace p ss rx i payload false true (with (cond (ltb x n) (stored (SlotClosed x) x (closed_slot (slot_in ss x))) (left other)) rx)) (sym e)
      (subst (λ (x : Step DispatchOutcome). AtPlace p ss rx i payload false true (with x rx)) (sym (cond-true (ltb i n) _ _ (lt-ltb i n (ok.below i there))))
      (let z = own_is (closed_slot (slot_in ss i)) in shut refl refl z (ap (run_of rx p.rx_cap i) z ∙ run-same (closed_slot (slot_in ss i)) (slot_in ss i) (closed_run (slot_in ss i)))))
  at-closed f other false hits misses =
      by-test (ltb f n)
      (λ u. subst (λ (x : Step DispatchOutcome). AtPlace p ss rx i payload false false (with x rx)) (sym (cond-true (ltb f n) _ _ u)) (at_other (SlotClosed f) f _ false false refl refl (misses refl)))
      (λ u. subst (λ (x : Step DispatchOutcome). AtPlace p ss rx i payload false false (with x rx)) (sym (cond-false (ltb f n) _ _ u)) (at_left other false false refl refl))

  -- whether a CLSE closes the slot at place i
  abbrev pub closes : RemoteId → LocalId → Bool
  closes remote local =
      cond (eqb local.0 0) (not (eqb remote.0 0) && eqb (named_place remote n ss) i) (eqb local.0 (slot_in ss i).local.0)

  pub at-close : (remote : RemoteId) (local : LocalId) → AtPlace p ss rx i payload false (closes remote local) (with (close_of n ss remote local) rx)
  unfolding close_of remote_place
  at-close remote local =
      let f = named_place remote n ss in
      let g = place_of (Local local) n ss in
      let K : Bool → Step DispatchOutcome → Type 0 = λ ends x. AtPlace p ss rx i payload false ends (with x rx) in
      let b = ok.below i there in
      by-test (eqb local.0 0)
      (λ z. subst (λ (x : Bool). K (cond x (not (eqb remote.0 0) && eqb f i) (eqb local.0 (slot_in ss i).local.0)) (cond x (closed_at (cond (eqb remote.0 0) n f) n ss (CancelQueuedOpen remote)) (closed_at g n ss Unmatched))) (sym z)
      (by-test (eqb remote.0 0)
      (λ y. subst (λ (x : Bool). K (not x && eqb f i) (closed_at (cond x n f) n ss (CancelQueuedOpen remote))) (sym y)
      (at-closed n (CancelQueuedOpen remote) false (λ e. absurd (true≢false (sym e))) (λ e d. omega arith)))
      (λ y. subst (λ (x : Bool). K (not x && eqb f i) (closed_at (cond x n f) n ss (CancelQueuedOpen remote))) (sym y)
      (at-closed f (CancelQueuedOpen remote) (eqb f i) (λ e. eqb-true f i e) (λ e d. eqb-false f i e (sym d))))))
      (λ z. subst (λ (x : Bool). K (cond x (not (eqb remote.0 0) && eqb f i) (eqb local.0 (slot_in ss i).local.0)) (cond x (closed_at (cond (eqb remote.0 0) n f) n ss (CancelQueuedOpen remote)) (closed_at g n ss Unmatched))) (sym z)
      (at-closed g Unmatched (eqb local.0 (slot_in ss i).local.0)
      (λ e. own-place p n ss rx ok i local there (sym (eqb-true _ _ e)))
      (λ e d. eqb-false _ _ e (sym (ap (λ (x : ℕ). (slot_in ss x).local.0) d ∙ found_local p n ss rx ok local (omega arith))))))

  -- any packet
  pub at-route : (c : Command) (a l : ℕ)
      → AtPlace p ss rx i payload (is_write c && eqb l (slot_in ss i).local.0) (is_close c && closes (record { 0 = a }) (record { 0 = l })) (route_of p n ss c a l payload rx)
  unfolding is_write is_close is_the word_of letters_of num_of
  at-route c a l =
      by-route p n ss a l payload rx
      (λ c d. AtPlace p ss rx i payload (is_write c && eqb l (slot_in ss i).local.0) (is_close c && closes (record { 0 = a }) (record { 0 = l })) d)
      (λ c h. rw (h.no_write, h.no-close) (at_left Unmatched false false refl refl)) (at_left (IncomingOpen (record { 0 = a }) l) false false refl refl)
      (at-close (record { 0 = a }) (record { 0 = l })) (at-write (record { 0 = a }) (record { 0 = l })) (at_ready (record { 0 = a }) (record { 0 = l })) c
