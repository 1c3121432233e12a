-- A packet that a call dispatches: the slot at one place beside its book. Assumes nothing.
use mathlib.Core.Path.{◌≡◌, refl, sym, ap, subst, ◌∙◌}
use mathlib.Core.Bool.{Bool, true, false, not, cond, ◌&&◌, true≢false}
use mathlib.Core.List.{List, [], ◌∷◌, ◌++◌}
use Prim.Native.Nat.{ℕ, ◌+◌, ◌*◌, ◌≤◌, ◌<◌}
use native.Mathlib.Omega.{arith}
use lib.Dec.{eqb, ltb, leb}
use lib.ListN.{length}
use borrow.Author.Tests.{eq-eqb, ne_eqb, ltb-true}
use Rattle.le.specs.Le.{num_of}
use Rattle.rx_store.proofs.ShareLaws.{share_in, length-buffered}
use Rattle.le.proofs.Parts.{by-test}
use Rattle.config.specs.declared.negotiated.RxPolicy.{RxPolicy}
use Rattle.config.specs.Negotiated.{policy_of}
use Rattle.incoming.specs.Incoming.{PushOutcome, pushed, withdrawal}
use Rattle.protocol.specs.declared.command.Command.{Command}
use Rattle.protocol.specs.declared.message.Message.{Message}
use Rattle.protocol.specs.declared.packet.Packet.{Packet}
use Rattle.protocol.specs.Command.{is_close, is_write, is_the, word_of, letters_of}
use Rattle.slot.specs.declared.ids.LocalId.{LocalId}
use Rattle.slot.specs.declared.ids.RemoteId.{RemoteId}
use Rattle.slot.specs.declared.ChannelFault.TheVariants.{RxOverflow}
use Rattle.slot.specs.declared.ChannelSlot.{ChannelSlot}
use Rattle.slot.specs.Wrote.{Wrote, left_by}
use Rattle.slot.specs.Slot.{is_opening, is_closed, buffered_with, is_failed, acks_now, wrote_of, ready_by, ready_of, closed_slot, held_of, SlotOk}
use Rattle.credit.specs.Credit.{credit_of}
use Rattle.slot.proofs.Stays.{Stays, stays_same, ReadiedStays, ready-stays, wrote-stays, closed-stays}
use Rattle.slot.proofs.Kept.{pick, wrote-sound, ReadiedSound, ready-sound, closed-sound}
use Rattle.slot.proofs.Laws.{cond-true, cond-false}
use Rattle.state.specs.declared.Header.{Header}
use Rattle.state.specs.declared.QueuedOpen.{QueuedOpen}
use Rattle.state.specs.Change.{Step, Change, slot_to, header_to, queued_to, queue_to}
use Rattle.table_dispatch.specs.declared.DispatchOutcome.{DispatchOutcome}
use Rattle.table_dispatch.specs.declared.DispatchOutcome.TheVariants.{AckWrite, CreditGranted, SlotClosed, DataBuffered, IncomingOpen, CancelQueuedOpen, StrayReady, ChannelFault, Unmatched}
use Rattle.table.specs.declared.Want.TheVariants.{Local}
use Rattle.table.specs.Table.{place_of, slot_in}
use Rattle.table_dispatch.specs.Dispatch.{named_place, remote_place, readied_of, Dispatched, wrote_by, wrote_at, write_of, closed_at, close_of, ready_at, grant_of, granted, stray_of, route_of, dispatch_of}
use Rattle.table_dispatch.proofs.RouteLaws.{by-route}
use Rattle.connection.specs.declared.Answer.{Answer}
use Rattle.connection.specs.Act.{Acted, pushed_by, acted_by, table_of, act_on}
use Rattle.connection.specs.Answer.{ack_length, answer_number}
use Rattle.connection.specs.Calls.{ack_frames}
use Rattle.connection.specs.Frames.{Frame, okay_frame, close_frame, open_frame, write_frame}
use Rattle.history.specs.Book.{Book, sent_b, closed_b, over_b, is_refused, is_wrte, closes_b, wrte_b, frame_b}
use Rattle.history.specs.Demand3.{run_of}
use Rattle.history.proofs.Good.{Terms, Good, Limits, Leaves, carried, carried_none, refuse-good, accept-good, shut-good, ready-good}
use Rattle.connection.proofs.Slots.{slots_by, slots-append}
use Rattle.history.proofs.Places.{SameRun, ready-run, found-filled, room_for, Decides, buffers, overflows, is_taken, decides, TableOk, fault_of, At, apart, wrote, over, credited, shut, at-route}
use Rattle.credit.specs.declared.CreditFault.{CreditFault}
use Rattle.std.specs.Prelude.{ℤ, Option, Some, None, Result, Ok, Err}
use Rattle.slot.specs.declared.ChannelFault.{ChannelFault as SlotFault}

-- ---- the credit of frames

-- the credit of the OKAYs with a local number, as `acks_of` reads it from their bytes
abbrev pub acks_in : RxPolicy → ℕ → List Frame → ℕ
acks_in p l [] = 0
acks_in p l (okay_frame ids n ∷ fs) = cond (eqb ids.local.0 l) (cond p.delayed n 0) 0 + acks_in p l fs
acks_in p l (close_frame ids ∷ fs) = acks_in p l fs
acks_in p l (open_frame local credit destination ∷ fs) = acks_in p l fs
acks_in p l (write_frame ids bytes ∷ fs) = acks_in p l fs

pub acks-append : (p : RxPolicy) (l : ℕ) (xs ys : List Frame) → acks_in p l (xs ++ ys) ≡ acks_in p l xs + acks_in p l ys
acks-append p l [] ys = omega arith
acks-append p l (okay_frame ids n ∷ fs) ys = let e = acks-append p l fs ys in omega arith
acks-append p l (close_frame ids ∷ fs) ys = acks-append p l fs ys
acks-append p l (open_frame local credit destination ∷ fs) ys = acks-append p l fs ys
acks-append p l (write_frame ids bytes ∷ fs) ys = acks-append p l fs ys

-- an acknowledgement of the channel's own, and of another
pub acks-own : (p : RxPolicy) (l : ℕ) (s : ChannelSlot) (a : Option ℕ) → s.local.0 ≡ l → acks_in p l (ack_frames s a) ≡ carried p a
unfolding ack_frames carried ack_length
acks-own p l s (Some n) e = let z = cond-true (eqb s.local.0 l) (cond p.delayed n 0) 0 (eq-eqb _ _ e) in omega arith
acks-own p l s None e = sym (carried_none p)

pub acks-other : (p : RxPolicy) (l : ℕ) (s : ChannelSlot) (a : Option ℕ) → (s.local.0 ≡ l → ⊥) → acks_in p l (ack_frames s a) ≡ 0
unfolding ack_frames
acks-other p l s (Some n) e = let z = cond-false (eqb s.local.0 l) (cond p.delayed n 0) 0 (ne_eqb _ _ e) in omega arith
acks-other p l s None e = refl

-- ---- what is dispatched writes no credit

-- what a WRTE that is acknowledged at once would carry
abbrev acks_for : DispatchOutcome → ℕ
acks_for (AckWrite i ids len) = len
acks_for (CreditGranted i) = 0
acks_for (SlotClosed i) = 0
acks_for (DataBuffered i) = 0
acks_for (IncomingOpen remote credit) = 0
acks_for (CancelQueuedOpen remote) = 0
acks_for (StrayReady ids) = 0
acks_for (ChannelFault i ids opening f) = 0
acks_for Unmatched = 0

abbrev Silent : Dispatched → Type 0
Silent d = acks_for d.step.result ≡ 0

-- no WRTE is, in delayed mode
not-now : (s : ChannelSlot) (p : RxPolicy) (k : ℕ) → p.delayed ≡ true → (i : ℕ) (remote : RemoteId) (payload rx : List ℕ) → Silent (wrote_by p i s remote payload rx (wrote_of s p k))
unfolding wrote_of acks_now wrote_by
not-now s p k d i remote payload rx =
    let G : Wrote → Type 0 = λ w. Silent (wrote_by p i s remote payload rx w) in
    pick G (is_opening s.state) (λ o. refl)
    (λ o. pick G (ltb p.rx_cap (held_of s + k)) (λ h. refl)
    (λ h. pick G (acks_now s p (held_of s + k)) (λ a. absurd (true≢false (sym a ∙ cond-true p.delayed _ _ d))) (λ a. refl)))

abbrev SilentStep : Step DispatchOutcome → Type 0
SilentStep x = acks_for x.result ≡ 0

silent-closed : (f n : ℕ) (ss : List ChannelSlot) (other : DispatchOutcome) → acks_for other ≡ 0 → SilentStep (closed_at f n ss other)
unfolding closed_at
silent-closed f n ss other e = pick SilentStep (ltb f n) (λ t. refl) (λ t. e)

silent-close : (n : ℕ) (ss : List ChannelSlot) (remote : RemoteId) (local : LocalId) → SilentStep (close_of n ss remote local)
unfolding close_of
silent-close n ss remote local =
    pick SilentStep (eqb local.0 0) (λ t. silent-closed (remote_place n ss remote) n ss (CancelQueuedOpen remote) refl)
    (λ t. silent-closed (place_of (Local local) n ss) n ss Unmatched refl)

silent-granted : (f : ℕ) (s : ChannelSlot) (remote : RemoteId) (r : Result ChannelSlot CreditFault) → SilentStep (granted f s remote r)
unfolding granted
silent-granted f s remote (Ok t) = refl
silent-granted f s remote (Err b) = refl

silent-stray : (remote : RemoteId) (local : LocalId) → acks_for (stray_of remote local) ≡ 0
unfolding stray_of
silent-stray remote local =
    pick (λ (o : DispatchOutcome). acks_for o ≡ 0) (eqb remote.0 0) (λ t. refl)
    (λ t. pick (λ (o : DispatchOutcome). acks_for o ≡ 0) (eqb local.0 0) (λ u. refl) (λ u. refl))

silent-grant : (p : RxPolicy) (n : ℕ) (ss : List ChannelSlot) (remote : RemoteId) (local : LocalId) (payload : List ℕ) → SilentStep (grant_of p n ss remote local payload)
unfolding grant_of ready_at
silent-grant p n ss remote local payload =
    let f = place_of (Local local) n ss in
    pick SilentStep (ltb f n)
    (λ t. pick SilentStep (is_failed (slot_in ss f).failed) (λ u. refl) (λ u. silent-granted f (slot_in ss f) remote (readied_of (slot_in ss f) remote payload p)))
    (λ t. silent-stray remote local)

silent-write : (p : RxPolicy) (n : ℕ) (ss : List ChannelSlot) (remote : RemoteId) (local : LocalId) (payload rx : List ℕ) → p.delayed ≡ true → Silent (write_of p n ss remote local payload rx)
unfolding write_of wrote_at
silent-write p n ss remote local payload rx d =
    let f = place_of (Local local) n ss in
    pick Silent (ltb f n)
    (λ t. pick Silent (is_failed (slot_in ss f).failed) (λ u. refl) (λ u. not-now (slot_in ss f) p (length payload) d f remote payload rx))
    (λ t. refl)

silent-route : (p : RxPolicy) (n : ℕ) (ss : List ChannelSlot) (c : Command) (a l : ℕ) (payload rx : List ℕ) → p.delayed ≡ true → Silent (route_of p n ss c a l payload rx)
silent-route p n ss c a l payload rx d =
    by-route p n ss a l payload rx (λ c x. Silent x) (λ c h. refl) refl (silent-close n ss (record { 0 = a }) (record { 0 = l }))
    (silent-write p n ss (record { 0 = a }) (record { 0 = l }) payload rx d) (silent-grant p n ss (record { 0 = a }) (record { 0 = l }) payload) c

-- ---- `act_on` beside the table's part

-- slots, receive store and fault are the table's, and no credit is written
record Same (p : RxPolicy) (ss : List ChannelSlot) (d : Dispatched) (a : Acted) : Type 0 where
  slots : slots_by ss a.changes ≡ slots_by ss d.step.changes
  rx : a.rx ≡ d.rx
  fault : a.fault ≡ fault_of d.step.result
  credit : (l : ℕ) → acks_in p l a.frames ≡ 0

-- changes that leave the slots
abbrev pub NoSlot : List Change → Type 0
NoSlot [] = Unit {0}
NoSlot (slot_to i s ∷ xs) = ⊥
NoSlot (header_to h ∷ xs) = NoSlot xs
NoSlot (queued_to i q ∷ xs) = NoSlot xs
NoSlot (queue_to qs ∷ xs) = NoSlot xs

pub no_slot : (ss : List ChannelSlot) (xs : List Change) → NoSlot xs → slots_by ss xs ≡ ss
no_slot ss [] e = refl
no_slot ss (slot_to i s ∷ xs) e = absurd e
no_slot ss (header_to h ∷ xs) e = no_slot ss xs e
no_slot ss (queued_to i q ∷ xs) e = no_slot ss xs e
no_slot ss (queue_to qs ∷ xs) e = no_slot ss xs e

more-changes : (ss : List ChannelSlot) (xs ys : List Change) → NoSlot ys → slots_by ss (xs ++ ys) ≡ slots_by ss xs
more-changes ss xs ys e = slots-append ss xs ys ∙ no_slot (slots_by ss xs) ys e

pub pushed-slots : (h : Header) (queue : List QueuedOpen) (remote : RemoteId) (credit : ℕ) (payload store : List ℕ) → NoSlot (pushed h queue remote credit payload store).changes
unfolding pushed
pushed-slots h queue remote credit payload store =
    pick (λ (o : PushOutcome). NoSlot o.changes) (leb h.negotiated.config.channels h.queued) (λ t. tt) (λ t. tt)

pub withdrawn-slots : (h : Header) (queue : List QueuedOpen) (remote : RemoteId) → NoSlot (withdrawal h queue remote).changes
unfolding withdrawal
withdrawn-slots h queue remote = tt

no-credit : (p : RxPolicy) (t : Bool) (len : ℕ) → (p.delayed ≡ true → len ≡ 0) → cond t (cond p.delayed len 0) 0 + 0 ≡ 0
no-credit p t len s =
    let e : cond p.delayed len 0 ≡ 0 = by-test p.delayed (λ d. cond-true p.delayed len 0 d ∙ s d) (λ d. cond-false p.delayed len 0 d) in
    by-test t (λ u. let z = cond-true t (cond p.delayed len 0) 0 u in omega arith) (λ u. let z = cond-false t (cond p.delayed len 0) 0 u in omega arith)

module _ (p : RxPolicy) (ss : List ChannelSlot) (h : Header) (queue : List QueuedOpen) (payload store : List ℕ) (d : Dispatched) where
  same-pushed : (remote : RemoteId) (o : PushOutcome) (r : Option Header) → NoSlot o.changes → None ≡ fault_of d.step.result → Same p ss d (pushed_by h store d remote o r)
  unfolding pushed_by
  same-pushed remote o (Some more) e f = record { slots = more-changes ss d.step.changes o.changes e; rx = refl; fault = f; credit = λ l. refl }
  same-pushed remote o None e f = record { slots = refl; rx = refl; fault = f; credit = λ l. refl }

  same_by : (o : DispatchOutcome) → o ≡ d.step.result → (p.delayed ≡ true → acks_for o ≡ 0) → Same p ss d (acted_by h queue payload store d o)
  unfolding acted_by
  same_by (AckWrite i ids len) e s =
      record { slots = refl; rx = refl; fault = ap fault_of e; credit = λ l. no-credit p (eqb ids.local.0 l) len s }
  same_by (CreditGranted i) e s = record { slots = refl; rx = refl; fault = ap fault_of e; credit = λ l. refl }
  same_by (SlotClosed i) e s = record { slots = refl; rx = refl; fault = ap fault_of e; credit = λ l. refl }
  same_by (DataBuffered i) e s = record { slots = refl; rx = refl; fault = ap fault_of e; credit = λ l. refl }
  same_by (IncomingOpen remote credit) e s =
      same-pushed remote (pushed h queue remote credit payload store) (pushed h queue remote credit payload store).result (pushed-slots h queue remote credit payload store) (ap fault_of e)
  same_by (CancelQueuedOpen remote) e s =
      record { slots = more-changes ss d.step.changes (withdrawal h queue remote).changes (withdrawn-slots h queue remote); rx = refl; fault = ap fault_of e; credit = λ l. refl }
  same_by (StrayReady ids) e s = record { slots = refl; rx = refl; fault = ap fault_of e; credit = λ l. refl }
  same_by (ChannelFault i ids opening f) e s = record { slots = refl; rx = refl; fault = ap fault_of e; credit = λ l. refl }
  same_by Unmatched e s = record { slots = refl; rx = refl; fault = ap fault_of e; credit = λ l. refl }

-- ---- the slot at one place after `act_on`, and its book

-- what is taken of a packet for place i: a WRTE with the slot's number, a CLSE that closes it
abbrev pub mine_of : List ChannelSlot → ℕ → Packet → Bool
mine_of ss i k = is_write k.command && eqb k.arg1 (slot_in ss i).local.0

abbrev pub ends_of : ℕ → List ChannelSlot → ℕ → Packet → Bool
ends_of n ss i k =
    is_close k.command
    && cond (eqb k.arg1 0) (not (eqb k.arg0 0) && eqb (named_place (record { 0 = k.arg0 }) n ss) i) (eqb k.arg1 (slot_in ss i).local.0)

module _ (h : Header) (ss : List ChannelSlot) (queue : List QueuedOpen) (rx store : List ℕ) (k : Packet) (payload : List ℕ) where
  abbrev pol : RxPolicy
  pol = policy_of h.negotiated

  abbrev acted : Acted
  acted = act_on h ss queue rx store k payload

  same : Same pol ss (table_of h ss rx k payload) acted
  unfolding act_on table_of dispatch_of
  same =
      same_by pol ss h queue payload store (table_of h ss rx k payload) (table_of h ss rx k payload).step.result refl
      (λ d. silent-route pol h.negotiated.config.channels ss k.command k.arg0 k.arg1 payload rx d)

  -- the fault is the table's
  pub acted-fault : acted.fault ≡ fault_of (table_of h ss rx k payload).step.result
  acted-fault = same.fault

  -- no credit is written
  pub acted-acks : (l : ℕ) → acks_in pol l acted.frames ≡ 0
  acted-acks l = same.credit l

  module _ (ok : TableOk pol h.negotiated.config.channels ss rx) (i : ℕ) (there : (slot_in ss i).filled ≡ true) where
    pub acted-at : At pol (slot_in ss i) (run_of rx pol.rx_cap i (slot_in ss i)) payload (mine_of ss i k) (ends_of h.negotiated.config.channels ss i k)
        (slot_in (slots_by ss acted.changes) i) (run_of acted.rx pol.rx_cap i (slot_in (slots_by ss acted.changes) i)) acted.fault
    unfolding table_of dispatch_of
    acted-at =
        let d = table_of h ss rx k payload in
        let A : List ChannelSlot → List ℕ → Option SlotFault → Type 0 =
        λ ts r f. At pol (slot_in ss i) (run_of rx pol.rx_cap i (slot_in ss i)) payload (mine_of ss i k) (ends_of h.negotiated.config.channels ss i k) (slot_in ts i) (run_of r pol.rx_cap i (slot_in ts i)) f in
        subst (λ (f : Option SlotFault). A (slots_by ss acted.changes) acted.rx f) (sym same.fault)
        (subst (λ (r : List ℕ). A (slots_by ss acted.changes) r (fault_of d.step.result)) (sym same.rx)
        (subst (λ (ts : List ChannelSlot). A ts d.rx (fault_of d.step.result)) (sym same.slots)
        (at-route pol h.negotiated.config.channels ss rx ok i there payload k.command k.arg0 k.arg1)))

-- ---- a CLSE is no fault

abbrev Faultless : Step DispatchOutcome → Type 0
Faultless x = fault_of x.result ≡ None

faultless-closed : (f n : ℕ) (ss : List ChannelSlot) (other : DispatchOutcome) → fault_of other ≡ None → Faultless (closed_at f n ss other)
unfolding closed_at
faultless-closed f n ss other e = pick Faultless (ltb f n) (λ t. refl) (λ t. e)

faultless-route : (p : RxPolicy) (n : ℕ) (ss : List ChannelSlot) (c : Command) (a l : ℕ) (payload rx : List ℕ) → is_close c ≡ true → Faultless (route_of p n ss c a l payload rx).step
unfolding is_close close_of is_the word_of letters_of num_of
faultless-route p n ss c a l payload rx =
    by-route p n ss a l payload rx (λ c d. is_close c ≡ true → Faultless d.step) (λ c h e. refl) (λ e. refl)
    (λ e. pick Faultless (eqb l 0) (λ t. faultless-closed (remote_place n ss (record { 0 = a })) n ss (CancelQueuedOpen (record { 0 = a })) refl)
    (λ t. faultless-closed (place_of (Local (record { 0 = l })) n ss) n ss Unmatched refl))
    (λ e. absurd (true≢false (sym e))) (λ e. absurd (true≢false (sym e))) c

pub close-fault : (h : Header) (ss : List ChannelSlot) (queue : List QueuedOpen) (rx store : List ℕ) (k : Packet) (payload : List ℕ) → is_close k.command ≡ true → (act_on h ss queue rx store k payload).fault ≡ None
unfolding table_of dispatch_of
close-fault h ss queue rx store k payload e =
    (same h ss queue rx store k payload).fault ∙ faultless-route (policy_of h.negotiated) h.negotiated.config.channels ss k.command k.arg0 k.arg1 payload rx e

-- ---- the receive store keeps its length

module _ (p : RxPolicy) (n : ℕ) (ss : List ChannelSlot) (rx : List ℕ) (ok : TableOk p n ss rx) (payload : List ℕ) where
  wrote-length : (f : ℕ) (remote : RemoteId) (r : Wrote) → f < n → SlotOk (slot_in ss f) p.rx_cap → Decides (slot_in ss f) p (length payload) r
      → length (wrote_by p f (slot_in ss f) remote payload rx r).rx ≡ length rx
  unfolding wrote_by
  wrote-length f remote (Ok w) h sound (buffers e k) =
      length-buffered rx p.rx_cap f (slot_in ss f).head (slot_in ss f).buffered payload (share_in f n (2 * p.rx_cap) (length rx) h ok.shares) (room_for (slot_in ss f) p (length payload) sound k)
  wrote-length f remote (Ok w) h sound (overflows e k) = absurd (true≢false (ap is_taken e))
  wrote-length f remote (Err why) h sound x = refl

  write-length : (remote : RemoteId) (local : LocalId) → length (write_of p n ss remote local payload rx).rx ≡ length rx
  unfolding write_of wrote_at
  write-length remote local =
      let f = place_of (Local local) n ss in
      let P : Dispatched → Type 0 = λ d. length d.rx ≡ length rx in
      pick P (ltb f n)
      (λ t. let h = ltb-true f n t in
      let fill = found-filled p n ss rx ok local h in
      pick P (is_failed (slot_in ss f).failed) (λ u. refl)
      (λ u. wrote-length f remote _ h (ok.sound f fill) (decides (slot_in ss f) p (length payload) (ok.opened f fill))))
      (λ t. refl)

  route-length : (c : Command) (a l : ℕ) → length (route_of p n ss c a l payload rx).rx ≡ length rx
  route-length c a l =
      by-route p n ss a l payload rx (λ c d. length d.rx ≡ length rx) (λ c h. refl) refl refl (write-length (record { 0 = a }) (record { 0 = l })) refl c

module _ (h : Header) (ss : List ChannelSlot) (queue : List QueuedOpen) (rx store : List ℕ) (k : Packet) (payload : List ℕ) (ok : TableOk (policy_of h.negotiated) h.negotiated.config.channels ss rx) where
  pub acted-length : length (act_on h ss queue rx store k payload).rx ≡ length rx
  unfolding table_of dispatch_of
  acted-length =
      ap length (same h ss queue rx store k payload).rx
      ∙ route-length (policy_of h.negotiated) h.negotiated.config.channels ss rx ok payload k.command k.arg0 k.arg1

-- ---- what stays of a slot

module _ (p : RxPolicy) (s : ChannelSlot) (q payload : List ℕ) (sound : SlotOk s p.rx_cap) where
  -- its numbers within its share
  pub at-sound : (mine ends : Bool) (t : ChannelSlot) (r : List ℕ) (fault : Option SlotFault) → At p s q payload mine ends t r fault → SlotOk t p.rx_cap
  at-sound mine ends t r fault (apart e1 e2 e3 e4) = subst (λ (x : ChannelSlot). SlotOk x p.rx_cap) (sym e3) sound
  at-sound mine ends t r fault (wrote e1 h e3 e4 e5) = subst (λ (x : ChannelSlot). SlotOk x p.rx_cap) (sym e3) (wrote-sound s p (length payload) sound)
  at-sound mine ends t r fault (over e1 h e3 e4 e5) = subst (λ (x : ChannelSlot). SlotOk x p.rx_cap) (sym e3) sound
  at-sound mine ends t r fault (credited e1 e2 e3 e4) = subst (ReadiedSound p.rx_cap) e3 (ready-sound s payload p p.rx_cap sound)
  at-sound mine ends t r fault (shut e1 e2 e3 e4) = subst (λ (x : ChannelSlot). SlotOk x p.rx_cap) (sym e3) (closed-sound s p.rx_cap sound)

ready-live-by : (s : ChannelSlot) (c : Result ℤ CreditFault) → is_closed s.state ≡ false → Leaves (λ (x : ChannelSlot). is_closed x.state ≡ false) (ready_by s c)
unfolding ready_by
ready-live-by s (Ok z) h = h
ready-live-by s (Err b) h = tt

ready-live : (s : ChannelSlot) (payload : List ℕ) (p : RxPolicy) → is_closed s.state ≡ false → Leaves (λ (x : ChannelSlot). is_closed x.state ≡ false) (ready_of s payload p)
unfolding ready_of
ready-live s payload p h = pick (Leaves (λ (x : ChannelSlot). is_closed x.state ≡ false)) p.delayed (λ d. ready-live-by s (credit_of payload) h) (λ d. h)

-- its numbers as a channel stay
pub at_named : (p : RxPolicy) (s : ChannelSlot) (q payload : List ℕ) (mine ends : Bool) (t : ChannelSlot) (r : List ℕ) (fault : Option SlotFault) → At p s q payload mine ends t r fault → Stays s t
at_named p s q payload mine ends t r fault (apart e1 e2 e3 e4) = subst (Stays s) (sym e3) (stays_same s)
at_named p s q payload mine ends t r fault (wrote e1 h e3 e4 e5) = subst (Stays s) (sym e3) (wrote-stays s p (length payload))
at_named p s q payload mine ends t r fault (over e1 h e3 e4 e5) = subst (Stays s) (sym e3) (stays_same s)
at_named p s q payload mine ends t r fault (credited e1 e2 e3 e4) = subst (ReadiedStays s) e3 (ready-stays s payload p)
at_named p s q payload mine ends t r fault (shut e1 e2 e3 e4) = subst (Stays s) (sym e3) (closed-stays s)

-- a WRTE of its own that fits is not refused, and does not close it
wrote-state : (s : ChannelSlot) (p : RxPolicy) (k : ℕ) → (left_by s (wrote_of s p k)).state ≡ s.state
unfolding wrote_of buffered_with
wrote-state s p k =
    let P : Wrote → Type 0 = λ w. (left_by s w).state ≡ s.state in
    pick P (is_opening s.state) (λ o. refl)
    (λ o. pick P (ltb p.rx_cap (held_of s + k)) (λ h. refl) (λ h. pick P (acks_now s p (held_of s + k)) (λ a. refl) (λ a. refl)))

abbrev pub faulty : Option SlotFault → Bool
faulty None = false
faulty (Some f) = true

module _ (p : RxPolicy) (s : ChannelSlot) (q payload : List ℕ) (mine ends : Bool) (t : ChannelSlot) (r : List ℕ) (fault : Option SlotFault) (x : At p s q payload mine ends t r fault) (own : mine ≡ true) where
  pub at-fits : held_of s + length payload ≤ p.rx_cap → fault ≡ Some RxOverflow → ⊥
  at-fits h e = fits_by x h e
    where
      fits_by : At p s q payload mine ends t r fault → held_of s + length payload ≤ p.rx_cap → fault ≡ Some RxOverflow → ⊥
      fits_by (apart e1 e2 e3 e4) h e = true≢false (sym own ∙ e1)
      fits_by (wrote e1 k e3 e4 e5) h e = true≢false (ap faulty (sym e ∙ e5))
      fits_by (over e1 k e3 e4 e5) h e = omega arith
      fits_by (credited e1 e2 e3 e4) h e = true≢false (sym own ∙ e1)
      fits_by (shut e1 e2 e3 e4) h e = true≢false (sym own ∙ e1)

  pub at-live : is_closed s.state ≡ false → is_closed t.state ≡ false
  at-live h = live-by x h
    where
      live-by : At p s q payload mine ends t r fault → is_closed s.state ≡ false → is_closed t.state ≡ false
      live-by (apart e1 e2 e3 e4) h = absurd (true≢false (sym own ∙ e1))
      live-by (wrote e1 k e3 e4 e5) h = ap (λ (y : ChannelSlot). is_closed y.state) e3 ∙ ap is_closed (wrote-state s p (length payload)) ∙ h
      live-by (over e1 k e3 e4 e5) h = ap (λ (y : ChannelSlot). is_closed y.state) e3 ∙ h
      live-by (credited e1 e2 e3 e4) h = absurd (true≢false (sym own ∙ e1))
      live-by (shut e1 e2 e3 e4) h = absurd (true≢false (sym own ∙ e1))

-- a slot that a WRTE is not for keeps what it has buffered, and stays open
module _ (p : RxPolicy) (s : ChannelSlot) (q payload : List ℕ) (mine ends : Bool) (t : ChannelSlot) (r : List ℕ) (fault : Option SlotFault) where
  pub at-keeps : At p s q payload mine ends t r fault → mine ≡ false → t.buffered ≡ s.buffered
  unfolding closed_slot
  at-keeps (apart e1 e2 e3 e4) nm = ap (λ (x : ChannelSlot). x.buffered) e3
  at-keeps (wrote e1 h e3 e4 e5) nm = absurd (true≢false (sym e1 ∙ nm))
  at-keeps (over e1 h e3 e4 e5) nm = absurd (true≢false (sym e1 ∙ nm))
  at-keeps (credited e1 e2 e3 e4) nm = (subst (Leaves (SameRun s)) e3 (ready-run s payload p)).more
  at-keeps (shut e1 e2 e3 e4) nm = ap (λ (x : ChannelSlot). x.buffered) e3

  pub at-stays : At p s q payload mine ends t r fault → ends ≡ false → is_closed s.state ≡ false → is_closed t.state ≡ false
  at-stays (apart e1 e2 e3 e4) nm h = ap (λ (x : ChannelSlot). is_closed x.state) e3 ∙ h
  at-stays (wrote e1 k e3 e4 e5) nm h = ap (λ (x : ChannelSlot). is_closed x.state) e3 ∙ ap is_closed (wrote-state s p (length payload)) ∙ h
  at-stays (over e1 k e3 e4 e5) nm h = ap (λ (x : ChannelSlot). is_closed x.state) e3 ∙ h
  at-stays (credited e1 e2 e3 e4) nm h = subst (Leaves (λ (x : ChannelSlot). is_closed x.state ≡ false)) e3 (ready-live s payload p h)
  at-stays (shut e1 e2 e3 e4) nm h = absurd (true≢false (sym e2 ∙ nm))

-- what an answer tells of a WRTE of the slot's own: not refused where it was taken, 11 where it did not fit
pub record Tells (mine : Bool) (fault : Option SlotFault) (a : Answer) : Type 0 where
  pub taken : mine ≡ true → fault ≡ None → is_refused (answer_number a) ≡ false
  pub over : mine ≡ true → fault ≡ Some RxOverflow → (is_refused (answer_number a) ≡ true) × (eqb (answer_number a) 11 ≡ true)

-- the same of equal slots, runs and books
pub good-by : (p : RxPolicy) (credit : Terms) (s t : ChannelSlot) (q r : List ℕ) (b c : Book) → t ≡ s → r ≡ q → c ≡ b → Good p credit s q b → Good p credit t r c
good-by p credit s t q r b c e f h g =
    subst (λ (x : ChannelSlot). Good p credit x r c) (sym e) (subst (λ (x : List ℕ). Good p credit s x c) (sym f) (subst (Good p credit s q) (sym h) g))

module _ (d : List Book) (i before : ℕ) (m : Message) (payload : List ℕ) (a : Answer) (b : Book) where
  frame-mine : (is_wrte m && eqb m.arg1 b.local) ≡ true → frame_b d i before m payload (answer_number a) b ≡ wrte_b before payload (answer_number a) b
  unfolding frame_b
  frame-mine e = cond-true (is_wrte m && eqb m.arg1 b.local) _ _ e

  frame-end : (is_wrte m && eqb m.arg1 b.local) ≡ false → closes_b d i b m ≡ true → frame_b d i before m payload (answer_number a) b ≡ closed_b b
  unfolding frame_b
  frame-end e f = cond-false (is_wrte m && eqb m.arg1 b.local) _ _ e ∙ cond-true (closes_b d i b m) _ _ f

  pub frame-none : (is_wrte m && eqb m.arg1 b.local) ≡ false → closes_b d i b m ≡ false → frame_b d i before m payload (answer_number a) b ≡ b
  unfolding frame_b
  frame-none e f = cond-false (is_wrte m && eqb m.arg1 b.local) _ _ e ∙ cond-false (closes_b d i b m) _ _ f

module _ (p : RxPolicy) (credit : Terms) (most : ℕ) (lim : Limits p credit most) (s : ChannelSlot) (q : List ℕ) (b : Book) (g : Good p credit s q b) (o : is_opening s.state ≡ false)
    (payload : List ℕ) (small : length payload ≤ most) (before : ℕ) (early : before ≤ b.acked) (d : List Book) (i : ℕ) (m : Message) (a : Answer) where
  -- a WRTE that was taken
  wrte-taken : held_of s + length payload ≤ p.rx_cap → is_refused (answer_number a) ≡ false → Good p credit (left_by s (wrote_of s p (length payload))) (q ++ payload) (wrte_b before payload (answer_number a) b)
  wrte-taken h e =
      good-by p credit _ _ _ _ _ _ refl refl (cond-false (is_refused (answer_number a)) _ _ e) (accept-good p credit s q b g before payload lim.small h o)

  wrte-over : p.rx_cap < held_of s + length payload → is_refused (answer_number a) ≡ true → eqb (answer_number a) 11 ≡ true → Good p credit s q (wrte_b before payload (answer_number a) b)
  wrte-over h e f =
      good-by p credit s s q q (over_b true (sent_b before (length payload) b)) _ refl refl
      (cond-true (is_refused (answer_number a)) _ _ e ∙ ap (λ (x : Bool). over_b x (sent_b before (length payload) b)) f)
      (refuse-good p credit s q b g before (length payload) most lim early small h)

  -- the book of a slot that a packet was dispatched to, or not
  pub at-good : (mine ends : Bool) (t : ChannelSlot) (r : List ℕ) (fault : Option SlotFault) → At p s q payload mine ends t r fault → Tells mine fault a
      → (is_wrte m && eqb m.arg1 b.local) ≡ mine → closes_b d i b m ≡ ends → Good p credit t r (frame_b d i before m payload (answer_number a) b)
  at-good mine ends t r fault (apart e1 e2 e3 e4) tells x y =
      good-by p credit s t q r b _ e3 e4 (frame-none d i before m payload a b (x ∙ e1) (y ∙ e2)) g
  at-good mine ends t r fault (wrote e1 h e3 e4 e5) tells x y =
      good-by p credit _ t _ r _ _ e3 e4 (frame-mine d i before m payload a b (x ∙ e1)) (wrte-taken h (tells.taken e1 e5))
  at-good mine ends t r fault (over e1 h e3 e4 e5) tells x y =
      let z = tells.over e1 e5 in
      good-by p credit s t q r _ _ e3 e4 (frame-mine d i before m payload a b (x ∙ e1)) (wrte-over h z.0 z.1)
  at-good mine ends t r fault (credited e1 e2 e3 e4) tells x y =
      good-by p credit t t q r b _ refl e4 (frame-none d i before m payload a b (x ∙ e1) (y ∙ e2)) (subst (Leaves (λ (u : ChannelSlot). Good p credit u q b)) e3 (ready-good p credit s q b g payload))
  at-good mine ends t r fault (shut e1 e2 e3 e4) tells x y =
      good-by p credit _ t q r _ _ e3 e4 (frame-end d i before m payload a b (x ∙ e1) (y ∙ e2)) (shut-good p credit s q b g)
