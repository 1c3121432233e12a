-- What a packet and a settling write: few frames that are read back, and short ones. Assumes nothing.
--     acts   `act_on` writes at most one frame; where it does, the slot at a place stays or has nothing unacknowledged
--     silent-again, silent-clear   a second settling then writes none
use mathlib.Core.Path.{◌≡◌, refl, sym, ap, subst, ◌∙◌}
use mathlib.Core.Bool.{Bool, true, false, not, cond, true≢false}
use mathlib.Core.List.{List, [], ◌∷◌, ◌++◌}
use Prim.Native.Nat.{ℕ, ◌+◌, ◌-◌, ◌*◌, ◌^◌, ◌≤◌, ◌<◌, min}
use native.Mathlib.Omega.{arith}
use lib.Dec.{eqb, ltb, leb}
use lib.ListN.{length, set, length-append}
use borrow.Author.Tests.{eqb-true, eqb-false, eq-eqb, ltb-false, not-false}
use Rattle.le.proofs.Parts.{by-test}
use Rattle.config.specs.declared.negotiated.Negotiated.{Negotiated}
use Rattle.config.specs.declared.negotiated.RxPolicy.{RxPolicy}
use Rattle.config.specs.Negotiated.{policy_of}
use Rattle.incoming.specs.Incoming.{PushOutcome, pushed, withdrawal}
use Rattle.protocol.specs.declared.command.Command.{Command}
use Rattle.protocol.specs.declared.command.Command.TheVariants.{Open, Ready, Close, Write}
use Rattle.protocol.specs.declared.packet.Packet.{Packet}
use Rattle.checksum.specs.Checksum.{policy_for}
use Rattle.protocol.specs.Packet.{payload_limit}
use Rattle.slot.specs.declared.ids.ChannelIds.{ChannelIds}
use Rattle.slot.specs.declared.ids.LocalId.{LocalId}
use Rattle.slot.specs.declared.ids.RemoteId.{RemoteId}
use Rattle.slot.specs.declared.ChannelError.{ChannelError}
use Rattle.slot.specs.declared.ChannelFault.TheVariants.{RxOverflow, BadCredit, UnexpectedCommand}
use Rattle.slot.specs.declared.ChannelSlot.{ChannelSlot}
use Rattle.slot.specs.declared.Settled.{Settled as SettledSlot}
use Rattle.slot.specs.Wrote.{Wrote}
use Rattle.slot.specs.Slot.{with_total, total_with, with_numbers, acked, is_ack, is_opening, is_failed, is_closed, opened_by, opened_of, ready_by, ready_of, held_of, acks_now, buffered_with, wrote_of, some_len, delivered_of, ack_len_of, settled_by, settled_some, settled_of, has_data, taken_of, closed_slot, SlotOk}
use Rattle.credit.specs.Credit.{credit_of as credit_in}
use Rattle.slot.proofs.Kept.{pick, ReadiedSound, opened-sound, ready-sound, buffered-sound, closed-sound}
use Rattle.slot.proofs.Laws.{cond-true, take-room}
use Rattle.state.specs.declared.Header.{Header}
use Rattle.state.specs.declared.QueuedOpen.{QueuedOpen}
use Rattle.state.specs.Change.{Step, Change}
use Rattle.le.specs.Rows.{flat}
use Rattle.le.proofs.RowLaws.{Every, every_append}
use Rattle.table_dispatch.specs.declared.DispatchOutcome.{DispatchOutcome}
use Rattle.table_dispatch.specs.declared.DispatchOutcome.TheVariants.{AckWrite, CreditGranted, SlotClosed, DataBuffered, IncomingOpen, CancelQueuedOpen, StrayReady, ChannelFault, Unmatched}
use Rattle.table.specs.declared.Want.TheVariants.{Local}
use Rattle.table.specs.Table.{place_of, slot_in}
use Rattle.table_dispatch.specs.Dispatch.{left, stored, faulted, remote_place, closed_at, close_of, readied_of, granted, ready_at, stray_of, grant_of, Dispatched, wrote_by, wrote_at, write_of, route_of, dispatch_of}
use Rattle.table_dispatch.proofs.RouteLaws.{by-route}
use Rattle.wire.specs.Wire.{credit_bytes}
use Rattle.wire.proofs.Laws.{okay-length, close-length, credit-length}
use Rattle.connection.specs.Act.{Acted, pushed_by, acted_by, table_of, act_on}
use Rattle.connection.specs.Answer.{ack_length}
use Rattle.connection.specs.Calls.{ack_frames, ids_in}
use Rattle.connection.specs.Frames.{Sent, Frame, open_frame, write_frame, okay_frame, close_frame, frame_bytes, frames_bytes}
use Rattle.connection.proofs.Slots.{slots_by, slots-append, slot-set-same, slot-set-other}
use Rattle.credit.specs.declared.CreditFault.{CreditFault}
use Rattle.std.specs.Prelude.{ℤ, Option, Some, None, Result, Ok, Err}

-- ---- frames and their bytes

-- what a frame is to its receiver
abbrev pub sent_of : Negotiated → Frame → Sent
sent_of n (okay_frame ids len) = record { command = Ready; arg0 = ids.local.0; arg1 = ids.remote.0; payload = credit_bytes n.delayed_ack len }
sent_of n (close_frame ids) = record { command = Close; arg0 = ids.local.0; arg1 = ids.remote.0; payload = [] }
sent_of n (open_frame local credit destination) = record { command = Open; arg0 = local.0; arg1 = credit; payload = destination }
sent_of n (write_frame ids bytes) = record { command = Write; arg0 = ids.local.0; arg1 = ids.remote.0; payload = bytes }

-- numbers of 32 bits, a payload within the maximum
pub record SentFits (s : Sent) : Type 0 where
  pub arg0-fits : s.arg0 < 2 ^ 32
  pub arg1-fits : s.arg1 < 2 ^ 32
  pub small : length s.payload ≤ payload_limit

-- the number that an OKAY acknowledges
abbrev pub len_of : Frame → ℕ
len_of (okay_frame ids len) = len
len_of (close_frame ids) = 0
len_of (open_frame local credit destination) = 0
len_of (write_frame ids bytes) = 0

-- a frame that is read back: its numbers are below 2 ^ 32, its payload is within the maximum, and what an OKAY carries is no
-- less as a signed number; a length that is not sent may be any
pub record FrameFits (n : Negotiated) (f : Frame) : Type 0 where
  pub sent : SentFits (sent_of n f)
  pub len-fits : n.delayed_ack ≡ true → len_of f < 2 ^ 31

-- a channel's numbers are of 32 bits
pub record IdsFit (ids : ChannelIds) : Type 0 where
  pub local : ids.local.0 < 2 ^ 32
  pub remote : ids.remote.0 < 2 ^ 32

-- at most k frames that are read back, each of at most 28 bytes
pub record Few (n : Negotiated) (k : ℕ) (fs : List Frame) : Type 0 where
  pub few : length fs ≤ k
  pub each : Every (FrameFits n) fs
  pub short : length (frames_bytes n fs) ≤ 28 * k

-- the bytes of frames behind others
pub bytes-append : (n : Negotiated) (fs gs : List Frame) → length (frames_bytes n (fs ++ gs)) ≡ length (frames_bytes n fs) + length (frames_bytes n gs)
unfolding frames_bytes flat
bytes-append n [] gs = omega arith
bytes-append n (f ∷ fs) gs =
    let i = bytes-append n fs gs in
    let a = length-append (frame_bytes n f) (frames_bytes n (fs ++ gs)) in
    let b = length-append (frame_bytes n f) (frames_bytes n fs) in
    omega arith

pub bytes_one : (n : Negotiated) (f : Frame) → length (frames_bytes n (f ∷ [])) ≡ length (frame_bytes n f)
unfolding frames_bytes flat
bytes_one n f = length-append (frame_bytes n f) [] ∙ omega arith

pub few-none : (n : Negotiated) (k : ℕ) → Few n k []
unfolding frames_bytes flat
few-none n k = record { few = omega arith; each = tt; short = omega arith }

pub few-join : (n : Negotiated) (j k m : ℕ) (fs gs : List Frame) → j + k ≤ m → Few n j fs → Few n k gs → Few n m (fs ++ gs)
few-join n j k m fs gs h a b =
    let e = bytes-append n fs gs in
    let f = length-append fs gs in
    let a1 = a.few in
    let a2 = a.short in
    let b1 = b.few in
    let b2 = b.short in
    record { few = omega arith; each = every_append (FrameFits n) fs gs a.each b.each; short = omega arith }

few-one : (n : Negotiated) (f : Frame) → FrameFits n f → length (frame_bytes n f) ≤ 28 → Few n 1 (f ∷ [])
few-one n f h s = let e = bytes_one n f in record { few = omega arith; each = (h, tt); short = omega arith }

-- an OKAY, whose length is of 32 bits where it is sent
pub few-okay : (n : Negotiated) (ids : ChannelIds) (len : ℕ) → IdsFit ids → (n.delayed_ack ≡ true → len < 2 ^ 31) → Few n 1 (okay_frame ids len ∷ [])
unfolding frame_bytes
few-okay n ids len h d =
    let e = okay-length ids n.delayed_ack len (policy_for n.protocol_version) in
    let c = credit-length n.delayed_ack len in
    let s : cond n.delayed_ack 28 24 ≤ 28 = pick (λ (x : ℕ). x ≤ 28) n.delayed_ack (λ t. omega arith) (λ t. omega arith) in
    let r : cond n.delayed_ack 4 0 ≤ 4 = pick (λ (x : ℕ). x ≤ 4) n.delayed_ack (λ t. omega arith) (λ t. omega arith) in
    few-one n (okay_frame ids len)
    (record { sent = record { arg0-fits = h.local; arg1-fits = h.remote; small = omega arith }; len-fits = d }) (omega arith)

-- a CLSE
pub few-close : (n : Negotiated) (ids : ChannelIds) → IdsFit ids → Few n 1 (close_frame ids ∷ [])
unfolding frame_bytes
few-close n ids h =
    let e = close-length ids (policy_for n.protocol_version) in
    few-one n (close_frame ids)
    (record { sent = record { arg0-fits = h.local; arg1-fits = h.remote; small = omega arith }; len-fits = λ d. omega arith }) (omega arith)

-- the OKAY of an acknowledgement
pub few-ack : (n : Negotiated) (s : ChannelSlot) (a : Option ℕ) → IdsFit (ids_in s) → (n.delayed_ack ≡ true → ack_length a < 2 ^ 31) → Few n 1 (ack_frames s a)
unfolding ack_frames ack_length
few-ack n s (Some k) h d = few-okay n (ids_in s) k h d
few-ack n s None h d = few-none n 1

-- ---- what dispatching leaves of the slot at a place

-- the numbers in what the table tells
abbrev OutFits : RxPolicy → DispatchOutcome → Type 0
OutFits p (AckWrite i ids len) = IdsFit ids × (p.delayed ≡ true → len < 2 ^ 31)
OutFits p (CreditGranted i) = Unit {0}
OutFits p (SlotClosed i) = Unit {0}
OutFits p (DataBuffered i) = Unit {0}
OutFits p (IncomingOpen remote credit) = remote.0 < 2 ^ 32
OutFits p (CancelQueuedOpen remote) = Unit {0}
OutFits p (StrayReady ids) = IdsFit ids
OutFits p (ChannelFault i ids opening f) = Unit {0}
OutFits p Unmatched = Unit {0}

-- whether a frame may answer it
abbrev may_write : DispatchOutcome → Bool
may_write (AckWrite i ids len) = true
may_write (CreditGranted i) = false
may_write (SlotClosed i) = false
may_write (DataBuffered i) = false
may_write (IncomingOpen remote credit) = true
may_write (CancelQueuedOpen remote) = false
may_write (StrayReady ids) = true
may_write (ChannelFault i ids opening f) = false
may_write Unmatched = false

-- where a frame is written the slot stays, or has nothing unacknowledged
pub data Rests (writes : Bool) (s t : ChannelSlot) : Type 0 where
  quiet : writes ≡ false → Rests writes s t
  same : t ≡ s → Rests writes s t
  clear : t.unacked ≡ 0 → Rests writes s t

-- s the slot before, t after; sound where it is asked for
pub record Own (Q : Type 0) (p : RxPolicy) (s : ChannelSlot) (writes : Bool) (t : ChannelSlot) : Type 0 where
  pub ids : IdsFit (ids_in t)
  pub sound : Q → SlotOk t p.rx_cap
  pub rests : Rests writes s t

abbrev pub ReadiedIds : Result ChannelSlot CreditFault → Type 0
ReadiedIds (Ok t) = IdsFit (ids_in t)
ReadiedIds (Err f) = Unit {0}

opened-ids-by : (s : ChannelSlot) (r : RemoteId) (c : Result ℤ CreditFault) → IdsFit (ids_in s) → r.0 < 2 ^ 32 → ReadiedIds (opened_by s r c)
unfolding opened_by
opened-ids-by s r (Ok z) h g = record { local = h.local; remote = g }
opened-ids-by s r (Err f) h g = tt

ready-ids-by : (s : ChannelSlot) (c : Result ℤ CreditFault) → IdsFit (ids_in s) → ReadiedIds (ready_by s c)
unfolding ready_by
ready-ids-by s (Ok z) h = record { local = h.local; remote = h.remote }
ready-ids-by s (Err f) h = tt

-- an OKAY leaves a slot's numbers of 32 bits
pub readied-ids : (s : ChannelSlot) (r : RemoteId) (payload : List ℕ) (p : RxPolicy) → IdsFit (ids_in s) → r.0 < 2 ^ 32 → ReadiedIds (readied_of s r payload p)
unfolding readied_of opened_of ready_of
readied-ids s r payload p h g =
    pick ReadiedIds (is_opening s.state)
    (λ o. pick ReadiedIds p.delayed (λ d. opened-ids-by s r (credit_in payload) h g) (λ d. record { local = h.local; remote = g }))
    (λ o. pick ReadiedIds p.delayed (λ d. ready-ids-by s (credit_in payload) h) (λ d. record { local = h.local; remote = h.remote }))

pub ready-ids : (s : ChannelSlot) (payload : List ℕ) (p : RxPolicy) → IdsFit (ids_in s) → ReadiedIds (ready_of s payload p)
unfolding ready_of
ready-ids s payload p h =
    pick ReadiedIds p.delayed (λ d. ready-ids-by s (credit_in payload) h) (λ d. record { local = h.local; remote = h.remote })

readied-sound : (s : ChannelSlot) (r : RemoteId) (payload : List ℕ) (p : RxPolicy) (cap : ℕ) → SlotOk s cap → ReadiedSound cap (readied_of s r payload p)
unfolding readied_of
readied-sound s r payload p cap ok =
    pick (ReadiedSound cap) (is_opening s.state) (λ o. opened-sound s r payload p cap ok) (λ o. ready-sound s payload p cap ok)

module _ (Q : Type 0) (p : RxPolicy) (n : ℕ) (ss : List ChannelSlot) (i : ℕ) (fit : (j : ℕ) → IdsFit (ids_in (slot_in ss j))) (inside : i < length ss) (ok : Q → SlotOk (slot_in ss i) p.rx_cap) where
  record Goes (x : Step DispatchOutcome) : Type 0 where
    result : OutFits p x.result
    own : Own Q p (slot_in ss i) (may_write x.result) (slot_in (slots_by ss x.changes) i)

  goes_left : (o : DispatchOutcome) → OutFits p o → Goes (left o)
  goes_left o f = record { result = f; own = record { ids = fit i; sound = ok; rests = same refl } }

  ok_at : (f : ℕ) → i ≡ f → Q → SlotOk (slot_in ss f) p.rx_cap
  ok_at f e q = subst (λ (x : ℕ). SlotOk (slot_in ss x) p.rx_cap) e (ok q)

  goes-stored : (o : DispatchOutcome) (f : ℕ) (t : ChannelSlot) → OutFits p o → IdsFit (ids_in t) → (i ≡ f → Q → SlotOk t p.rx_cap) → Rests (may_write o) (slot_in ss i) t → Goes (stored o f t)
  goes-stored o f t h g s w =
      let K : ChannelSlot → Type 0 = Own Q p (slot_in ss i) (may_write o) in
      record {
        result = h;
        own =
            by-test (eqb i f)
            (λ u. let e = eqb-true i f u in
            subst K (sym (ap (λ (x : ℕ). slot_in (set ss x t) i) (sym e) ∙ slot-set-same ss i t inside)) (record { ids = g; sound = s e; rests = w }))
            (λ u. subst K (sym (slot-set-other ss f i t (eqb-false i f u))) (record { ids = fit i; sound = ok; rests = same refl }));
      }

  -- a WRTE
  goes-wrote : (f : ℕ) (remote : RemoteId) (payload rx : List ℕ)
      → Goes (wrote_by p f (slot_in ss f) remote payload rx (wrote_of (slot_in ss f) p (length payload))).step
  unfolding wrote_of wrote_by acks_now buffered_with
  goes-wrote f remote payload rx =
      let s = slot_in ss f in
      let k = length payload in
      let G : Wrote → Type 0 = λ w. Goes (wrote_by p f s remote payload rx w).step in
      pick G (is_opening s.state) (λ o. goes_left (faulted f s remote UnexpectedCommand) tt)
      (λ o. pick G (ltb p.rx_cap (held_of s + k)) (λ h. goes_left (faulted f s remote RxOverflow) tt)
      (λ h. let b = ltb-false p.rx_cap (held_of s + k) h in
      pick G (acks_now s p (held_of s + k))
      (λ a. goes-stored (AckWrite f (ids_in s) k) f (buffered_with s p k 0)
      (fit f, λ d. absurd (true≢false (sym a ∙ cond-true p.delayed _ _ d)))
      (record { local = (fit f).local; remote = (fit f).remote }) (λ e q. buffered-sound s p k 0 b (ok_at f e q)) (clear refl))
      (λ a. goes-stored (DataBuffered f) f _ tt (record { local = (fit f).local; remote = (fit f).remote }) (λ e q. buffered-sound s p k _ b (ok_at f e q)) (quiet refl))))

  goes-write : (remote : RemoteId) (local : LocalId) (payload rx : List ℕ) → Goes (write_of p n ss remote local payload rx).step
  unfolding write_of wrote_at
  goes-write remote local payload rx =
      let f = place_of (Local local) n ss in
      let G : Dispatched → Type 0 = λ d. Goes d.step in
      pick G (ltb f n)
      (λ t. pick G (is_failed (slot_in ss f).failed) (λ u. goes_left Unmatched tt) (λ u. goes-wrote f remote payload rx))
      (λ t. goes_left Unmatched tt)

  -- an OKAY
  goes-granted : (f : ℕ) (remote : RemoteId) (r : Result ChannelSlot CreditFault) → ReadiedIds r → (i ≡ f → Q → ReadiedSound p.rx_cap r) → Goes (granted f (slot_in ss f) remote r)
  unfolding granted
  goes-granted f remote (Ok t) h s = goes-stored (CreditGranted f) f t tt h s (quiet refl)
  goes-granted f remote (Err b) h s = goes_left (faulted f (slot_in ss f) remote (BadCredit b)) tt

  goes-stray : (remote : RemoteId) (local : LocalId) → remote.0 < 2 ^ 32 → local.0 < 2 ^ 32 → Goes (left (stray_of remote local))
  unfolding stray_of
  goes-stray remote local h g =
      pick (λ (o : DispatchOutcome). Goes (left o)) (eqb remote.0 0) (λ t. goes_left Unmatched tt)
      (λ t. pick (λ (o : DispatchOutcome). Goes (left o)) (eqb local.0 0) (λ u. goes_left Unmatched tt)
      (λ u. goes_left (StrayReady (record { local = local; remote = remote })) (record { local = g; remote = h })))

  goes-ready : (remote : RemoteId) (local : LocalId) (payload : List ℕ) → remote.0 < 2 ^ 32 → local.0 < 2 ^ 32 → Goes (grant_of p n ss remote local payload)
  unfolding grant_of ready_at
  goes-ready remote local payload h g =
      let f = place_of (Local local) n ss in
      let s = slot_in ss f in
      pick Goes (ltb f n)
      (λ t. pick Goes (is_failed s.failed) (λ u. goes_left Unmatched tt)
      (λ u. goes-granted f remote (readied_of s remote payload p) (readied-ids s remote payload p (fit f) h) (λ e q. readied-sound s remote payload p p.rx_cap (ok_at f e q))))
      (λ t. goes-stray remote local h g)

  -- a CLSE
  goes-closed : (f : ℕ) (other : DispatchOutcome) → OutFits p other → Goes (closed_at f n ss other)
  unfolding closed_at closed_slot
  goes-closed f other h =
      pick Goes (ltb f n)
      (λ t. goes-stored (SlotClosed f) f (closed_slot (slot_in ss f)) tt (record { local = (fit f).local; remote = (fit f).remote }) (λ e q. closed-sound (slot_in ss f) p.rx_cap (ok_at f e q)) (quiet refl))
      (λ t. goes_left other h)

  goes_close : (remote : RemoteId) (local : LocalId) → Goes (close_of n ss remote local)
  unfolding close_of
  goes_close remote local =
      pick Goes (eqb local.0 0) (λ t. goes-closed (remote_place n ss remote) (CancelQueuedOpen remote) tt)
      (λ t. goes-closed (place_of (Local local) n ss) Unmatched tt)

  -- any packet
  goes-route : (c : Command) (a b : ℕ) (payload rx : List ℕ) → a < 2 ^ 32 → b < 2 ^ 32 → Goes (route_of p n ss c a b payload rx).step
  goes-route c a b payload rx h g =
      by-route p n ss a b payload rx (λ c d. Goes d.step) (λ c e. goes_left Unmatched tt) (goes_left (IncomingOpen (record { 0 = a }) b) h)
      (goes_close (record { 0 = a }) (record { 0 = b })) (goes-write (record { 0 = a }) (record { 0 = b }) payload rx)
      (goes-ready (record { 0 = a }) (record { 0 = b }) payload h g) c

-- ---- the same of `act_on`

-- whether frames are written
abbrev pub some : List Frame → Bool
some [] = false
some (f ∷ fs) = true

-- the header keeps what was negotiated; at most one frame; what it leaves of the slot at place i
pub record Acts (Q : Type 0) (h : Header) (ss : List ChannelSlot) (i : ℕ) (a : Acted) : Type 0 where
  pub agreed : a.header.negotiated ≡ h.negotiated
  pub writes : Few h.negotiated 1 a.frames
  pub own : Own Q (policy_of h.negotiated) (slot_in ss i) (some a.frames) (slot_in (slots_by ss a.changes) i)

-- what changes no slot leaves the slot
own-more : (Q : Type 0) (p : RxPolicy) (s : ChannelSlot) (w : Bool) (ss : List ChannelSlot) (i : ℕ) (xs ys : List Change) → slots_by (slots_by ss xs) ys ≡ slots_by ss xs
    → Own Q p s w (slot_in (slots_by ss xs) i) → Own Q p s w (slot_in (slots_by ss (xs ++ ys)) i)
own-more Q p s w ss i xs ys e o = subst (λ (x : List ChannelSlot). Own Q p s w (slot_in x i)) (sym (slots-append ss xs ys ∙ e)) o

-- a slot that may have rested does
own-quiet : (Q : Type 0) (p : RxPolicy) (s t : ChannelSlot) (w : Bool) → Own Q p s w t → Own Q p s false t
own-quiet Q p s t w o = record { ids = o.ids; sound = o.sound; rests = quiet refl }

module _ (Q : Type 0) (h : Header) (ss : List ChannelSlot) (i : ℕ) (queue : List QueuedOpen) (payload store : List ℕ) (d : Dispatched) where
  abbrev pol : RxPolicy
  pol = policy_of h.negotiated

  abbrev rested : Bool → Type 0
  rested w = Own Q pol (slot_in ss i) w (slot_in (slots_by ss d.step.changes) i)

  calm : {w : Bool} → rested w → rested false
  calm o = own-quiet Q pol (slot_in ss i) (slot_in (slots_by ss d.step.changes) i) _ o

  -- an OPEN that is put behind the others, or refused
  acts-pushed : (remote : RemoteId) (credit : ℕ) → remote.0 < 2 ^ 32 → rested true
      → Acts Q h ss i (pushed_by h store d remote (pushed h queue remote credit payload store) (pushed h queue remote credit payload store).result)
  unfolding pushed pushed_by
  acts-pushed remote credit g o =
      pick (λ (x : PushOutcome). Acts Q h ss i (pushed_by h store d remote x x.result)) (leb h.negotiated.config.channels h.queued)
      (λ t. record { agreed = refl; writes = few-close h.negotiated _ (record { local = omega arith; remote = g }); own = o })
      (λ t. record { agreed = refl; writes = few-none h.negotiated 1; own = own-more Q pol (slot_in ss i) false ss i d.step.changes _ refl (calm o) })

  acts-by : (o : DispatchOutcome) → OutFits pol o → rested (may_write o) → Acts Q h ss i (acted_by h queue payload store d o)
  unfolding acted_by withdrawal policy_of
  acts-by (AckWrite j ids len) f w = record { agreed = refl; writes = few-okay h.negotiated ids len f.0 f.1; own = w }
  acts-by (CreditGranted j) f w = record { agreed = refl; writes = few-none h.negotiated 1; own = w }
  acts-by (SlotClosed j) f w = record { agreed = refl; writes = few-none h.negotiated 1; own = w }
  acts-by (DataBuffered j) f w = record { agreed = refl; writes = few-none h.negotiated 1; own = w }
  acts-by (IncomingOpen remote credit) f w = acts-pushed remote credit f w
  acts-by (CancelQueuedOpen remote) f w =
      record { agreed = refl; writes = few-none h.negotiated 1; own = own-more Q pol (slot_in ss i) false ss i d.step.changes _ refl w }
  acts-by (StrayReady ids) f w = record { agreed = refl; writes = few-close h.negotiated ids f; own = w }
  acts-by (ChannelFault j ids opening g) f w = record { agreed = refl; writes = few-none h.negotiated 1; own = w }
  acts-by Unmatched f w = record { agreed = refl; writes = few-none h.negotiated 1; own = w }

pub acts : (Q : Type 0) (h : Header) (ss : List ChannelSlot) (queue : List QueuedOpen) (rx store : List ℕ) (k : Packet) (payload : List ℕ) (i : ℕ)
    → ((j : ℕ) → IdsFit (ids_in (slot_in ss j))) → i < length ss → (Q → SlotOk (slot_in ss i) (policy_of h.negotiated).rx_cap) → k.arg0 < 2 ^ 32 → k.arg1 < 2 ^ 32
    → Acts Q h ss i (act_on h ss queue rx store k payload)
unfolding act_on table_of dispatch_of
acts Q h ss queue rx store k payload i fit inside ok g0 g1 =
    let p = policy_of h.negotiated in
    let n = h.negotiated.config.channels in
    let g = goes-route Q p n ss i fit inside ok k.command k.arg0 k.arg1 payload rx g0 g1 in
    acts-by Q h ss i queue payload store (table_of h ss rx k payload) (table_of h ss rx k payload).step.result g.result g.own

-- ---- settling

-- nothing is acknowledged, or the ack's length is, and as many bytes as there are and are wanted are set aside
data Settling (s : ChannelSlot) (p : RxPolicy) (want : ℕ) (r : SettledSlot) : Type 0 where
  none : r ≡ acked s None → Settling s p want r
  some-len : (k : ℕ) → ack_len_of s p (min want s.buffered) (s.buffered - min want s.buffered) ≡ Some k
      → r ≡ acked (with_total (with_numbers s (s.unacked - k) (min want s.buffered) s.head s.buffered) (total_with p s.acked_total k)) (Some k) → Settling s p want r

settling-by : (s : ChannelSlot) (p : RxPolicy) (want : ℕ) (a : Option ℕ) → ack_len_of s p (min want s.buffered) (s.buffered - min want s.buffered) ≡ a
    → Settling s p want (settled_by s p (min want s.buffered) a)
unfolding settled_by
settling-by s p want (Some k) e = some-len k e refl
settling-by s p want None e = none refl

settling : (s : ChannelSlot) (p : RxPolicy) (want : ℕ) → Settling s p want (settled_of s p want)
unfolding settled_of settled_some
settling s p want =
    pick (Settling s p want) s.has_remote
    (λ r. pick (Settling s p want) (eqb s.settled 0) (λ z. settling-by s p want _ refl) (λ z. none refl))
    (λ r. none refl)

-- the channel's numbers stay
ids-by : (s : ChannelSlot) (p : RxPolicy) (want : ℕ) → IdsFit (ids_in s) → (r : SettledSlot) → Settling s p want r → IdsFit (ids_in r.slot)
ids-by s p want h r (none e) = subst (λ (x : SettledSlot). IdsFit (ids_in x.slot)) (sym e) h
ids-by s p want h r (some-len k f e) = subst (λ (x : SettledSlot). IdsFit (ids_in x.slot)) (sym e) (record { local = h.local; remote = h.remote })

pub settled-ids : (s : ChannelSlot) (p : RxPolicy) (want : ℕ) → IdsFit (ids_in s) → IdsFit (ids_in (settled_of s p want).slot)
settled-ids s p want h = ids-by s p want h (settled_of s p want) (settling s p want)

some-small : (n : ℕ) → ack_length (some_len n) ≤ n
unfolding some_len ack_length
some-small n = pick (λ (a : Option ℕ). ack_length a ≤ n) (eqb n 0) (λ z. omega arith) (λ z. omega arith)

-- in delayed mode no more is acknowledged than is set aside
ack-small : (s : ChannelSlot) (p : RxPolicy) (n rest : ℕ) → p.delayed ≡ true → ack_length (ack_len_of s p n rest) ≤ n
unfolding ack_len_of ack_length
ack-small s p n rest d =
    let L : Option ℕ → Type 0 = λ a. ack_length a ≤ n in
    let m = some-small (min n s.unacked) in
    pick L (eqb s.unacked 0) (λ z. omega arith)
    (λ z. pick L p.delayed (λ t. omega arith) (λ t. absurd (true≢false (sym d ∙ t))))

small_by : (s : ChannelSlot) (p : RxPolicy) (want cap : ℕ) → SlotOk s cap → p.delayed ≡ true → (r : SettledSlot) → Settling s p want r → ack_length r.ack < 2 ^ 31
unfolding ack_length
small_by s p want cap ok d r (none e) = subst (λ (x : SettledSlot). ack_length x.ack < 2 ^ 31) (sym e) (omega arith)
small_by s p want cap ok d r (some-len k f e) =
    let m = min want s.buffered in
    let a : k ≤ m = subst (λ (x : Option ℕ). ack_length x ≤ m) f (ack-small s p m (s.buffered - m) d) in
    let run = ok.run_fits in
    let c = ok.cap-small in
    subst (λ (x : SettledSlot). ack_length x.ack < 2 ^ 31) (sym e) (omega arith)

pub settled-small : (s : ChannelSlot) (p : RxPolicy) (want cap : ℕ) → SlotOk s cap → p.delayed ≡ true → ack_length (settled_of s p want).ack < 2 ^ 31
settled-small s p want cap ok d = small_by s p want cap ok d (settled_of s p want) (settling s p want)

-- ---- a second settling

acked-is : (s : ChannelSlot) (p : RxPolicy) (n : ℕ) (a : Option ℕ) → (settled_by s p n a).ack ≡ a
unfolding settled_by
acked-is s p n (Some k) = refl
acked-is s p n None = refl

-- with nothing unacknowledged nothing is acknowledged
pub silent-clear : (s : ChannelSlot) (p : RxPolicy) (want : ℕ) → s.unacked ≡ 0 → (settled_of s p want).ack ≡ None
unfolding settled_of settled_some ack_len_of
silent-clear s p want e =
    let G : SettledSlot → Type 0 = λ r. r.ack ≡ None in
    pick G s.has_remote
    (λ r. pick G (eqb s.settled 0) (λ z. acked-is s p _ _ ∙ cond-true (eqb s.unacked 0) _ _ (eq-eqb s.unacked 0 e)) (λ z. refl))
    (λ r. refl)

no-len : {P : Type 0} (k : ℕ) → None ≡ Some k → P
unfolding is_ack
no-len k e = absurd (true≢false (sym (ap is_ack e)))

-- where no bytes are set aside, all that is unacknowledged is acknowledged, or nothing
all-len : (s : ChannelSlot) (p : RxPolicy) (n rest k : ℕ) → n ≡ 0 → ack_len_of s p n rest ≡ Some k → k ≡ s.unacked
unfolding ack_len_of some_len ack_length
all-len s p n rest k z =
    let L : Option ℕ → Type 0 = λ a. a ≡ Some k → k ≡ s.unacked in
    let m : min n s.unacked ≡ 0 = omega arith in
    pick L (eqb s.unacked 0) (λ t e. no-len k e)
    (λ t. pick L p.delayed (λ d e. no-len k (sym (cond-true (eqb (min n s.unacked) 0) _ _ (eq-eqb (min n s.unacked) 0 m)) ∙ e))
    (λ d. pick L (ltb rest p.watermark) (λ w e. sym (ap ack_length e)) (λ w e. no-len k e)))

-- a slot that was settled, with nothing buffered, has nothing to acknowledge
again_by : (s : ChannelSlot) (p : RxPolicy) (want : ℕ) (r : SettledSlot) → Settling s p want r → settled_of s p want ≡ r → r.slot.buffered ≡ 0 → (settled_of r.slot p want).ack ≡ None
again_by s p want r (none e) q h = ap (λ (x : SettledSlot). (settled_of x.slot p want).ack) e ∙ ap (λ (x : SettledSlot). x.ack) (q ∙ e)
again_by s p want r (some-len k f e) q h =
    let b : s.buffered ≡ 0 = sym (ap (λ (x : SettledSlot). x.slot.buffered) e) ∙ h in
    let a = all-len s p (min want s.buffered) (s.buffered - min want s.buffered) k (omega arith) f in
    let u : r.slot.unacked ≡ s.unacked - k = ap (λ (x : SettledSlot). x.slot.unacked) e in
    silent-clear r.slot p want (omega arith)

pub silent-again : (s : ChannelSlot) (p : RxPolicy) (want : ℕ) → (settled_of s p want).slot.buffered ≡ 0 → (settled_of (settled_of s p want).slot p want).ack ≡ None
silent-again s p want z = again_by s p want (settled_of s p want) (settling s p want) refl z

-- ---- taking

pub data Taking (s : ChannelSlot) (room : ℕ) : Result (Option (ChannelSlot × ℕ)) ChannelError → Type 0 where
  took : (t : ChannelSlot) (n : ℕ) → n ≤ room → Taking s room (Ok (Some (t, n)))
  nothing : has_data s ≡ false → Taking s room (Ok None)
  shut : (e : ChannelError) → Taking s room (Err e)

pub taking : (s : ChannelSlot) (room : ℕ) → Taking s room (taken_of s room)
unfolding taken_of
taking s room =
    pick (Taking s room) (has_data s) (λ d. took _ _ (take-room s room))
    (λ d. pick (Taking s room) (is_closed s.state) (λ c. shut _) (λ c. nothing d))

-- a channel with no data has nothing buffered
pub no-data : (s : ChannelSlot) → s.has_remote ≡ true → has_data s ≡ false → s.buffered ≡ 0
unfolding has_data
no-data s r e =
    let f : not (eqb s.buffered 0) ≡ false = sym (cond-true s.has_remote _ _ r) ∙ e in
    eqb-true s.buffered 0 (not-false _ f)

-- ---- what went straight to the reader

pub delivered-ids : (s : ChannelSlot) (p : RxPolicy) (n : ℕ) → IdsFit (ids_in s) → IdsFit (ids_in (delivered_of s p n).slot)
unfolding delivered_of
delivered-ids s p n h =
    let G : SettledSlot → Type 0 = λ r. IdsFit (ids_in r.slot) in
    pick G p.delayed (λ d. pick G s.has_remote (λ r. record { local = h.local; remote = h.remote }) (λ r. h))
    (λ d. pick G (leb p.watermark s.buffered) (λ w. h)
    (λ w. pick G s.has_remote (λ r. record { local = h.local; remote = h.remote }) (λ r. h)))

pub delivered-small : (s : ChannelSlot) (p : RxPolicy) (n : ℕ) → n < 2 ^ 31 → p.delayed ≡ true → ack_length (delivered_of s p n).ack < 2 ^ 31
unfolding delivered_of ack_length
delivered-small s p n h d =
    let G : SettledSlot → Type 0 = λ r. ack_length r.ack < 2 ^ 31 in
    let m = some-small n in
    pick G p.delayed
    (λ t. pick G s.has_remote (λ r. omega arith) (λ r. omega arith))
    (λ t. absurd (true≢false (sym d ∙ t)))
