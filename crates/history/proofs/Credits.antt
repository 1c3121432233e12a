-- The budget of a channel beside the book of what may be sent on it. Assumes nothing.
use mathlib.Core.Path.{◌≡◌, refl, sym, ap, ap₂, subst, ◌∙◌}
use mathlib.Core.Bool.{Bool, true, false, not, cond, ◌&&◌, true≢false}
use mathlib.Core.List.{List, [], ◌∷◌, ◌++◌, append-nil, map}
use Prim.Native.Nat.{ℕ, ◌+◌, ◌^◌, ◌≤◌, ◌<◌, min}
use native.Mathlib.Omega.{arith}
use lib.Dec.{eqb, ltb, leb}
use lib.IntN.{ℤ, pos, negsuc, ◌+ℤ◌, ◌-ℤ◌}
use lib.ListN.{length, set, take}
use borrow.Author.Tests.{eqb-true, eqb-false, eq-eqb, ne_eqb, lt-ltb, ltb-true}
use Rattle.le.proofs.Parts.{by-test}
use Rattle.le.specs.Le.{num_of, part, signed}
use Rattle.config.proofs.Laws.{and-true}
use Rattle.config.specs.declared.negotiated.Negotiated.{Negotiated}
use Rattle.credit.specs.Credit.{credit_of, at_least_zero}
use Rattle.credit.specs.declared.CreditFault.{CreditFault}
use Rattle.protocol.specs.declared.command.Command.{Command}
use Rattle.protocol.specs.declared.command.Command.TheVariants.{Sync, Connect, Open, Ready, Close, Write, Auth, StartTls}
use Rattle.protocol.specs.Command.{is_ready, is_write, is_close, is_the, word_of, letters_of}
use Rattle.saturate.specs.Saturate.{clamp}
use Rattle.slot.proofs.Kept.{pick}
use Rattle.slot.proofs.Laws.{cond-true, cond-false}
use Rattle.connection.specs.Frames.{Frame, okay_frame, close_frame, open_frame, write_frame, frames_bytes}
use Rattle.connection.proofs.Sending.{sent_of}
use Rattle.history.specs.Book.{credit_in}
use Rattle.history.specs.Credits.{added_in, writes_of, is_lost, is_okay}
use Rattle.config.specs.declared.negotiated.RxPolicy.{RxPolicy}
use Rattle.config.specs.Negotiated.{policy_of}
use Rattle.credit.specs.declared.CreditFault.TheVariants.{Short, Long, Negative}
use Rattle.protocol.specs.declared.packet.Packet.{Packet}
use Rattle.protocol.proofs.RoundTrip.{Says}
use Rattle.incoming.specs.Incoming.{PushOutcome, pushed}
use Rattle.slot.specs.declared.ChannelFault.{ChannelFault as SlotFault}
use Rattle.slot.specs.declared.ChannelFault.TheVariants.{BadCredit}
use Rattle.slot.specs.declared.ChannelSlot.{ChannelSlot}
use Rattle.slot.specs.declared.ids.LocalId.{LocalId}
use Rattle.slot.specs.declared.ids.RemoteId.{RemoteId}
use Rattle.slot.specs.Slot.{with_sending, is_failed, is_opening, ready_by, ready_of}
use Rattle.state.specs.declared.Header.{Header}
use Rattle.state.specs.declared.QueuedOpen.{QueuedOpen}
use Rattle.state.specs.Change.{Change, Step, slot_to, header_to}
use Rattle.table.specs.declared.Want.TheVariants.{Local}
use Rattle.table.specs.Table.{place_of, slot_in}
use Rattle.table_dispatch.specs.declared.DispatchOutcome.{DispatchOutcome}
use Rattle.table_dispatch.specs.declared.DispatchOutcome.TheVariants.{AckWrite, CreditGranted, SlotClosed, DataBuffered, IncomingOpen, CancelQueuedOpen, StrayReady, ChannelFault, Unmatched}
use Rattle.table_dispatch.specs.Dispatch.{left, stray_of, readied_of, granted, ready_at, grant_of, Dispatched, with, route_of, dispatch_of}
use Rattle.connection.specs.declared.Answer.{Answer}
use Rattle.connection.specs.Act.{Acted, pushed_by, acted_by, table_of, act_on}
use Rattle.connection.specs.Answer.{answer_number}
use Rattle.credit.proofs.CreditLaws.{by_number}
use Rattle.incoming.specs.Incoming.{popped, returned}
use Rattle.protocol.specs.Packet.{payload_limit}
use Rattle.slot.specs.declared.ChannelError.{ChannelError}
use Rattle.slot.specs.declared.Settled.{Settled}
use Rattle.slot.specs.declared.Spending.{Spending}
use Rattle.slot.specs.Ids.{closed_by}
use Rattle.slot.proofs.Stays.{settled-stays, settled-state}
use Rattle.state.specs.Change.{changed_all}
use Rattle.connection.proofs.Slots.{slots-by, slots_length}
use Rattle.history.proofs.Marks.{Mark, there-filled, tame-act, tame-at}
use Rattle.history.proofs.Steps.{unless-is, settled-run, table-settled}
use lib.Seq.{length-take-le}
use Rattle.slot.specs.Slot.{empty_slot, emptied_slot, closed_slot, opening_slot, is_closed, opened_by, opened_of, settled_of, has_data, take_len, took_of, taken_of, error_of, delivered_of, leave_of, spent_of}
use Rattle.state.specs.State.{is_ours}
use Rattle.table.specs.declared.ChannelId.{ChannelId}
use Rattle.table.specs.declared.NoFreeChannels.{NoFreeChannels as NoFree}
use Rattle.table.specs.Table.{numbered, allocated}
use Rattle.connection.specs.declared.Answer.TheVariants.{Done, Waiting, Read, Written, Refused}
use Rattle.connection.specs.declared.Refusal.TheVariants.{OutShort, ChannelClosed}
use Rattle.connection.specs.Calls.{Lent, Outcome, Work, begun, then, then_acted, ends, looked, dropped, pending_for, policy, ids_in, is_there, slot_for, ack_frames, fault_refusal, unless_fault, received_of, body_of, frame_len, dispatch_by, dispatch_step, settled_as, settle_step, taken_by, take_step, close_step, take_front_by, take_front_step, open_on, still_pending, open_readied, open_acted, open_by, open_step, offer_in, is_offered, reject_on, accept_on, accept_step, reject_step, verdict_step, let_go_step, error_refusal, reread, read_settled, read_acted, is_direct, read_direct, read_by, read_taken, read_first, read_step, send_len, send_some, send_by, send_again, write_readied, write_acted, write_act, write_by, write_first, write_on, write_step}
use Rattle.connection.proofs.Slots.{slots_by, slots-append, slot-set-same, slot-set-other}
use Rattle.history.specs.Book.{header_at, payload_at}
use Rattle.history.proofs.Accepts.{allocated-vacant}
use Rattle.history.proofs.Budgets.{exact-more, exact-less, AtLeast0, credit-least, SameBudget, closed-budget, delivered-budget, settled-budget, other-budget, touches_of}
use Rattle.history.proofs.Opens.{and-false}
use Rattle.history.proofs.Packets.{Stops, Got, stopped, packet, got, set_same, ready-no-write, reads-arg1, reads-payload}
use Rattle.history.proofs.Places.{TableOk, own-place}
use Rattle.std.specs.Prelude.{Option, Some, None, Result, Ok, Err}

-- ---- numbers

-- y is z with a added and n sent, while the sums are of 63 bits
abbrev pub Track : ℤ → ℤ → ℕ → ℕ → Type 0
Track z y a n = (x s : ℕ) → x + a < 2 ^ 63 → s + n < 2 ^ 63 → z ≡ pos x -ℤ pos s → y ≡ pos (x + a) -ℤ pos (s + n)

track-same : (z y : ℤ) → y ≡ z → Track z y 0 0
track-same z y e x s h k f =
    let p : x ≡ x + 0 = omega arith in
    let q : s ≡ s + 0 = omega arith in
    e ∙ f ∙ ap₂ (λ (c d : ℕ). pos c -ℤ pos d) p q

track-more : (z y : ℤ) (c : ℕ) → y ≡ clamp (z +ℤ pos c) → Track z y c 0
track-more z y c e x s h k f =
    let q : s ≡ s + 0 = omega arith in
    e ∙ exact-more z x s c h (omega arith) f ∙ ap (λ (d : ℕ). pos (x + c) -ℤ pos d) q

track-less : (z y w : ℤ) (a n : ℕ) → Track z y a 0 → w ≡ clamp (y -ℤ pos (min n 9223372036854775807)) → Track z w a n
track-less z y w a n t e x s h k f =
    let q : s + 0 ≡ s = omega arith in
    e ∙ exact-less y (x + a) s n h k (t x s h (omega arith) f ∙ ap (λ (d : ℕ). pos (x + a) -ℤ pos d) q)

track-as : (z y w : ℤ) (a b n m : ℕ) → Track z y a n → w ≡ y → b ≡ a → m ≡ n → Track z w b m
track-as z y w a b n m t e f g = subst (λ (v : ℤ). Track z v b m) (sym e) (subst (λ (c : ℕ). Track z y c m) (sym f) (subst (λ (c : ℕ). Track z y a c) (sym g) t))

-- ---- frames

-- the bytes of the WRTEs with a local number, as `writes_of` reads them
abbrev pub writes_in : ℕ → List Frame → ℕ
writes_in l [] = 0
writes_in l (okay_frame ids n ∷ fs) = writes_in l fs
writes_in l (close_frame ids ∷ fs) = writes_in l fs
writes_in l (open_frame local credit destination ∷ fs) = writes_in l fs
writes_in l (write_frame ids bytes ∷ fs) = cond (eqb ids.local.0 l) (length bytes) 0 + writes_in l fs

pub heard-writes : (n : Negotiated) (l : ℕ) (fs : List Frame) → writes_of l (map (sent_of n) fs) ≡ writes_in l fs
unfolding writes_of is_write is_the word_of letters_of num_of
heard-writes n l [] = refl
heard-writes n l (okay_frame ids len ∷ fs) = let e = heard-writes n l fs in omega arith
heard-writes n l (close_frame ids ∷ fs) = let e = heard-writes n l fs in omega arith
heard-writes n l (open_frame local credit destination ∷ fs) = let e = heard-writes n l fs in omega arith
heard-writes n l (write_frame ids bytes ∷ fs) = ap (λ (x : ℕ). cond (eqb ids.local.0 l) (length bytes) 0 + x) (heard-writes n l fs)

pub writes-append : (l : ℕ) (xs ys : List Frame) → writes_in l (xs ++ ys) ≡ writes_in l xs + writes_in l ys
writes-append l [] ys = omega arith
writes-append l (okay_frame ids n ∷ fs) ys = writes-append l fs ys
writes-append l (close_frame ids ∷ fs) ys = writes-append l fs ys
writes-append l (open_frame local credit destination ∷ fs) ys = writes-append l fs ys
writes-append l (write_frame ids bytes ∷ fs) ys = let e = writes-append l fs ys in omega arith

-- ---- the credit that is read

abbrev credit-read : Result ℤ CreditFault → ℕ
credit-read (Ok (pos k)) = k
credit-read (Ok (negsuc k)) = 0
credit-read (Err f) = 0

abbrev is-read : Result ℤ CreditFault → Bool
is-read (Ok z) = true
is-read (Err f) = false

not-read : (f : CreditFault) (z : ℤ) → Err f ≡ Ok z → ⊥
not-read f z e = true≢false (sym (ap is-read e))

reads-signed : (n c : ℕ) → at_least_zero (signed 31 n) ≡ Ok (pos c) → (n ≡ c) × (c < 2 ^ 31)
unfolding at_least_zero signed
reads-signed n c =
    pick (λ (z : ℤ). at_least_zero z ≡ Ok (pos c) → (n ≡ c) × (c < 2 ^ 31)) (ltb n (2 ^ 31))
    (λ t e. let q : n ≡ c = ap credit-read e in let h = ltb-true n (2 ^ 31) t in (q, omega arith)) (λ t e. absurd (not-read Negative (pos c) e))

-- a credit that reads is the payload's number, of 31 bits
pub credit-whole : (payload : List ℕ) (c : ℕ) → credit_of payload ≡ Ok (pos c) → (credit_in payload ≡ c) × (c < 2 ^ 31)
unfolding credit_of credit_in
credit-whole payload c e =
    let n = num_of (part payload 0 4) in
    let short = ltb (length payload) 4 in
    let long = ltb 4 (length payload) in
    by-test short
    (λ t. absurd (not-read Short (pos c) (sym (cond-true short _ _ t) ∙ e)))
    (λ t. let f = sym (cond-false short _ _ t) ∙ e in
    by-test long (λ u. absurd (not-read Long (pos c) (sym (cond-true long _ _ u) ∙ f)))
    (λ u. let z = reads-signed n c (sym (cond-false long _ _ u) ∙ f) in (cond-false short 0 n t ∙ z.0, z.1)))

pub credit-reads : (payload : List ℕ) (c : ℕ) → credit_of payload ≡ Ok (pos c) → credit_in payload ≡ c
credit-reads payload c e = (credit-whole payload c e).0

pub word-ready : (c : Command) → eqb (word_of c) (word_of Ready) ≡ is_ready c
unfolding word_of letters_of num_of is_ready is_the
word-ready Sync = refl
word-ready Connect = refl
word-ready Open = refl
word-ready Ready = refl
word-ready Close = refl
word-ready Write = refl
word-ready Auth = refl
word-ready StartTls = refl

ready-is : (c : Command) → is_ready c ≡ true → c ≡ Ready
unfolding word_of letters_of num_of is_ready is_the
ready-is Sync e = absurd (true≢false (sym e))
ready-is Connect e = absurd (true≢false (sym e))
ready-is Open e = absurd (true≢false (sym e))
ready-is Ready e = refl
ready-is Close e = absurd (true≢false (sym e))
ready-is Write e = absurd (true≢false (sym e))
ready-is Auth e = absurd (true≢false (sym e))
ready-is StartTls e = absurd (true≢false (sym e))

no-ready-write : (c : Command) → is_write c ≡ true → is_ready c ≡ false
no-ready-write c e = by-test (is_ready c) (λ t. absurd (true≢false (sym e ∙ (ready-no-write c t).0))) (λ t. t)

no-ready-close : (c : Command) → is_close c ≡ true → is_ready c ≡ false
no-ready-close c e = by-test (is_ready c) (λ t. absurd (true≢false (sym e ∙ (ready-no-write c t).1))) (λ t. t)

-- what a packet adds to a channel, by the answer's number
abbrev pub adds : ℕ → Bool → List ℕ → ℕ
adds number own payload = cond (is_lost number) 0 (cond own (credit_in payload) 0)

pub adds-packet : (received : List ℕ) (limit : ℕ) (k : Packet) → Says received limit k → (number l : ℕ)
    → added_in received number (frame_len k) l ≡ adds number (is_ready k.command && eqb k.arg1 l) (body_of received k)
unfolding added_in
adds-packet received limit k sy number l =
    let r : is_okay (header_at received) ≡ is_ready k.command = ap (λ (x : ℕ). eqb x (word_of Ready)) sy.word-is ∙ word-ready k.command in
    cond-false (eqb (frame_len k) 0) _ _ (ne_eqb (frame_len k) 0 (λ e. omega arith))
    ∙ ap (λ (x : Bool). cond (is_lost number) 0 (cond (x && eqb (header_at received).arg1 l) (credit_in (payload_at received (frame_len k))) 0)) r
    ∙ ap (λ (x : ℕ). cond (is_lost number) 0 (cond (is_ready k.command && eqb x l) (credit_in (payload_at received (frame_len k))) 0)) (reads-arg1 received limit k sy)
    ∙ ap (λ (x : List ℕ). cond (is_lost number) 0 (cond (is_ready k.command && eqb k.arg1 l) (credit_in x) 0)) (reads-payload received limit k sy)

-- no bytes add none
pub adds-unused : (received : List ℕ) (number l : ℕ) → added_in received number 0 l ≡ 0
unfolding added_in
adds-unused received number l = refl

adds-stopped : (received : List ℕ) (a : Answer) (used l : ℕ) → Stops a used → added_in received (answer_number a) used l ≡ 0
unfolding added_in
adds-stopped received a used l st =
    let number = answer_number a in
    pick (λ (x : ℕ). x ≡ 0) (eqb used 0) (λ t. refl)
    (λ t. pick (λ (x : ℕ). x ≡ 0) (is_lost number) (λ u. refl)
    (λ u. by-test (eqb number 4)
    (λ v. absurd (true≢false (sym (ap (λ (x : ℕ). is_lost x) (eqb-true number 4 v)) ∙ u)))
    (λ v. absurd (eqb-false used 0 t (st.quiet v)))))

not-own : (number : ℕ) (own : Bool) (payload : List ℕ) → own ≡ false → adds number own payload ≡ 0
not-own number own payload e = pick (λ (x : ℕ). x ≡ 0) (is_lost number) (λ t. refl) (λ t. cond-false own _ 0 e)

lost-none : (number : ℕ) (own : Bool) (payload : List ℕ) → is_lost number ≡ true → adds number own payload ≡ 0
lost-none number own payload e = cond-true (is_lost number) 0 _ e

kept-all : (number : ℕ) (own : Bool) (payload : List ℕ) → is_lost number ≡ false → adds number own payload ≡ cond own (credit_in payload) 0
kept-all number own payload e = cond-false (is_lost number) 0 _ e

-- ---- a packet that is dispatched, to the slot at place i

data Paid (ss ts : List ChannelSlot) (i : ℕ) (payload : List ℕ) (own : Bool) (fault : Option SlotFault) : Type 0 where
  passed : own ≡ false → SameBudget (slot_in ss i) (slot_in ts i) → Paid ss ts i payload own fault
  paid : (c : ℕ) → own ≡ true → credit_in payload ≡ c
      → ts ≡ set ss i (with_sending (slot_in ss i) (slot_in ss i).wrte_acked (clamp ((slot_in ss i).send_budget +ℤ pos c))) → fault ≡ None → Paid ss ts i payload own fault
  unpaid : (f : CreditFault) → own ≡ true → ts ≡ ss → fault ≡ Some (BadCredit f) → Paid ss ts i payload own fault

module _ (h : Header) (ss : List ChannelSlot) (queue : List QueuedOpen) (rx store : List ℕ) (k : Packet) (payload : List ℕ) where
  abbrev p : RxPolicy
  p = policy_of h.negotiated

  abbrev n : ℕ
  n = h.negotiated.config.channels

  abbrev act : Acted
  act = act_on h ss queue rx store k payload

  pushed-writes : (l : ℕ) (d : Dispatched) (remote : RemoteId) (o : PushOutcome) (r : Option Header) → writes_in l (pushed_by h store d remote o r).frames ≡ 0
  unfolding pushed_by
  pushed-writes l d remote o (Some more) = refl
  pushed-writes l d remote o None = refl

  writes-by : (l : ℕ) (d : Dispatched) (o : DispatchOutcome) → writes_in l (acted_by h queue payload store d o).frames ≡ 0
  unfolding acted_by
  writes-by l d (AckWrite i ids len) = refl
  writes-by l d (CreditGranted i) = refl
  writes-by l d (SlotClosed i) = refl
  writes-by l d (DataBuffered i) = refl
  writes-by l d (IncomingOpen remote credit) = pushed-writes l d remote (pushed h queue remote credit payload store) (pushed h queue remote credit payload store).result
  writes-by l d (CancelQueuedOpen remote) = refl
  writes-by l d (StrayReady ids) = refl
  writes-by l d (ChannelFault i ids opening f) = refl
  writes-by l d Unmatched = refl

  -- no WRTE is written
  acted-writes : (l : ℕ) → writes_in l act.frames ≡ 0
  unfolding act_on
  acted-writes l = writes-by l (table_of h ss rx k payload) (table_of h ss rx k payload).step.result

  module _ (ok : TableOk p n ss rx) (delayed : p.delayed ≡ true) (i : ℕ) (there : (slot_in ss i).filled ≡ true) where
    abbrev s : ChannelSlot
    s = slot_in ss i

    abbrev own : Bool
    own = is_ready k.command && eqb k.arg1 s.local.0

    abbrev by-table : Dispatched → Type 0
    by-table d = Paid ss (slots_by ss (acted_by h queue payload store d d.step.result).changes) i payload own (acted_by h queue payload store d d.step.result).fault

    by-credit : own ≡ true → (r : Result ℤ CreditFault) → credit_of payload ≡ r → AtLeast0 r → by-table (with (granted i s (record { 0 = k.arg0 }) (ready_by s r)) rx)
    unfolding ready_by granted acted_by
    by-credit o (Ok (pos c)) e a = paid c o (credit-reads payload c e) refl refl
    by-credit o (Ok (negsuc c)) e a = absurd a
    by-credit o (Err f) e a = unpaid f o refl refl

    own-table : own ≡ true → table_of h ss rx k payload ≡ with (granted i s (record { 0 = k.arg0 }) (ready_by s (credit_of payload))) rx
    unfolding table_of dispatch_of route_of grant_of ready_at readied_of ready_of
    own-table o =
        let o2 = and-true (is_ready k.command) (eqb k.arg1 s.local.0) o in
        let remote : RemoteId = record { 0 = k.arg0 } in
        let local : LocalId = record { 0 = k.arg1 } in
        let f = place_of (Local local) n ss in
        let e : f ≡ i = own-place p n ss rx ok i local there (sym (eqb-true k.arg1 s.local.0 o2.1)) in
        let R : Result ChannelSlot CreditFault → Dispatched = λ r. with (granted i s remote r) rx in
        ap (λ (c : Command). route_of p n ss c k.arg0 k.arg1 payload rx) (ready-is k.command o2.0)
        ∙ ap (λ (x : ℕ). with (cond (ltb x n) (ready_at p x (slot_in ss x) remote payload) (left (stray_of remote local))) rx) e
        ∙ ap (λ (x : Step DispatchOutcome). with x rx) (cond-true (ltb i n) _ _ (lt-ltb i n (ok.below i there)) ∙ cond-false (is_failed s.failed) _ _ (ok.unfailed i there))
        ∙ ap R (cond-false (is_opening s.state) _ _ (ok.opened i there) ∙ cond-true p.delayed _ _ delayed)

    -- what it does to the slot
    pays : Paid ss (slots_by ss act.changes) i payload own act.fault
    unfolding act_on
    pays =
        let m = ok.most in
        let z = ok.size in
        let b = ok.below i there in
        by-test own
        (λ o. subst by-table (sym (own-table o)) (by-credit o (credit_of payload) refl (credit-least payload)))
        (λ o. passed o (other-budget p n ss payload k.command (record { 0 = k.arg1 }) i (omega arith) (omega arith) o act.changes (touches_of h ss queue rx store k payload)))

-- the budget then, by the answer's number
paid-track : (ss ts : List ChannelSlot) (i : ℕ) (payload : List ℕ) (own : Bool) (fault : Option SlotFault) → Paid ss ts i payload own fault → i < length ss → (number : ℕ)
    → (own ≡ true → fault ≡ None → is_lost number ≡ false) → ((f : CreditFault) → own ≡ true → fault ≡ Some (BadCredit f) → is_lost number ≡ true)
    → Track (slot_in ss i).send_budget (slot_in ts i).send_budget (adds number own payload) 0
paid-track ss ts i payload own fault (passed o e) h number f g =
    track-as _ _ _ 0 _ 0 0 (track-same (slot_in ss i).send_budget _ e) refl (not-own number own payload o) refl
paid-track ss ts i payload own fault (paid c o r e q) h number f g =
    let y = clamp ((slot_in ss i).send_budget +ℤ pos c) in
    let u : (slot_in ts i).send_budget ≡ y =
    ap (λ (x : List ChannelSlot). (slot_in x i).send_budget) e ∙ ap (λ (x : ChannelSlot). x.send_budget) (slot-set-same ss i (with_sending (slot_in ss i) (slot_in ss i).wrte_acked y) h) in
    track-as _ _ _ c _ 0 0 (track-more (slot_in ss i).send_budget _ c u) refl (kept-all number own payload (f o q) ∙ cond-true own _ 0 o ∙ r) refl
paid-track ss ts i payload own fault (unpaid b o e q) h number f g =
    track-as _ _ _ 0 _ 0 0 (track-same (slot_in ss i).send_budget _ (ap (λ (x : List ChannelSlot). (slot_in x i).send_budget) e)) refl (lost-none number own payload (g b o q)) refl

emptied-none : (s : ChannelSlot) → (emptied_slot s).filled ≡ false
unfolding emptied_slot empty_slot
emptied-none s = refl

abbrev no-fault : Option SlotFault → Bool
no-fault None = true
no-fault (Some f) = false

cond-first : (x y : Bool) → cond x y false ≡ true → x ≡ true
cond-first true y e = refl
cond-first false y e = e

-- ---- the calls, beside a channel that is there

module _ (l : Lent) (ok : TableOk (policy l) l.state.header.negotiated.config.channels l.state.slots l.rx) (delayed : (policy l).delayed ≡ true) (i : ℕ) (there : (slot_in l.state.slots i).filled ≡ true) where
  abbrev ss : List ChannelSlot
  ss = l.state.slots

  abbrev z0 : ℤ
  z0 = (slot_in ss i).send_budget

  abbrev own_local : ℕ
  own_local = (slot_in ss i).local.0

  abbrev h0 : Header
  h0 = dropped l.state.header

  abbrev budget_by : List ChannelSlot → ℤ
  budget_by ts = (slot_in ts i).send_budget

  abbrev pub goes : List ℕ → Outcome → Type 0
  goes received o = Track z0 (budget_by (slots_by ss o.changes)) (added_in received (answer_number o.answer) o.used own_local) (writes_in own_local o.frames)

  inside : i < length ss
  inside = let z = ok.size in let m = ok.most in let b = ok.below i there in omega arith

  -- what a call has done so far: a added, none sent
  record So (w : Work) (a : ℕ) : Type 0 where
    track : Track z0 (budget_by (slots_by ss w.changes)) a 0
    quiet : writes_in own_local w.frames ≡ 0

  so-begun : (h : Header) → So (begun h l) 0
  so-begun h = record { track = track-same z0 z0 refl; quiet = refl }

  so-frames : (w : Work) (a : ℕ) (fs : List Frame) → So w a → writes_in own_local fs ≡ 0 → So (then w [] fs) a
  so-frames w a fs g e =
      record {
        track = subst (λ (x : List Change). Track z0 (budget_by (slots_by ss x)) a 0) (sym (append-nil w.changes)) g.track;
        quiet = let z = writes-append own_local w.frames fs in let q = g.quiet in omega arith;
      }

  so-slot : (w : Work) (a j : ℕ) (t : ChannelSlot) (fs : List Frame) → So w a → SameBudget (slot_in (slots_by ss w.changes) j) t → writes_in own_local fs ≡ 0 → So (then w (slot_to j t ∷ []) fs) a
  so-slot w a j t fs g b e =
      record {
        track =
            track-as z0 _ _ a a 0 0 g.track
            (ap budget_by (slots-append ss w.changes (slot_to j t ∷ [])) ∙ set_same (λ (s : ChannelSlot). s.send_budget) (slots_by ss w.changes) j i t b) refl refl;
        quiet = let z = writes-append own_local w.frames fs in let q = g.quiet in omega arith;
      }

  ends-goes : (received : List ℕ) (w : Work) (a : Answer) (used : ℕ) (handed : List ℕ) → Track z0 (budget_by (slots_by ss w.changes)) (added_in received (answer_number a) used own_local) (writes_in own_local w.frames)
      → goes received (ends w a used handed)
  unfolding ends
  ends-goes received w a used handed t = track-as z0 _ _ _ _ _ _ t (ap budget_by (slots-append ss w.changes (header_to w.header ∷ []))) refl refl

  so-ends : (received : List ℕ) (w : Work) (c : ℕ) (a : Answer) (used : ℕ) (handed : List ℕ) → So w c → added_in received (answer_number a) used own_local ≡ c → goes received (ends w a used handed)
  so-ends received w c a used handed g e = ends-goes received w a used handed (track-as z0 _ _ c _ 0 _ g.track refl e g.quiet)

  -- none used
  so-unused : (received : List ℕ) (w : Work) (a : Answer) (handed : List ℕ) → So w 0 → goes received (ends w a 0 handed)
  so-unused received w a handed g = so-ends received w 0 a 0 handed g (adds-unused received (answer_number a) own_local)

  pub idle : (received : List ℕ) (a : Answer) → goes received (looked l a)
  idle received a = track-as z0 _ _ 0 _ 0 0 (track-same z0 z0 refl) refl (adds-unused received (answer_number a) own_local) refl

  plain-goes : (received : List ℕ) (h : Header) (a : Answer) → goes received (ends (begun h l) a 0 [])
  plain-goes received h a = so-unused received (begun h l) a [] (so-begun h)

  ack-quiet : (s : ChannelSlot) (a : Option ℕ) → writes_in own_local (ack_frames s a) ≡ 0
  unfolding ack_frames
  ack-quiet s (Some n) = refl
  ack-quiet s None = refl

  -- ---- a packet that is dispatched on the lent slots

  fault-number : (fault : Option SlotFault) (a : Answer) → is_lost (answer_number a) ≡ false → fault ≡ None → is_lost (answer_number (unless_fault fault a)) ≡ false
  unfolding unless_fault
  fault-number fault a e q = ap (λ (x : Option SlotFault). is_lost (answer_number (unless_fault x a))) q ∙ e

  bad-number : (f : CreditFault) → is_lost (answer_number (Refused (fault_refusal (BadCredit f)))) ≡ true
  unfolding answer_number
  bad-number f = by_number (λ n. is_lost n ≡ true) refl refl refl f

  fault-lost : (fault : Option SlotFault) (a : Answer) (f : CreditFault) → fault ≡ Some (BadCredit f) → is_lost (answer_number (unless_fault fault a)) ≡ true
  unfolding unless_fault
  fault-lost fault a f q = ap (λ (x : Option SlotFault). is_lost (answer_number (unless_fault x a))) q ∙ bad-number f

  module _ (h : Header) (e : h.negotiated ≡ l.state.header.negotiated) (received : List ℕ) (k : Packet) (sy : Says received l.state.header.negotiated.config.max_payload k) where
    abbrev body : List ℕ
    body = body_of received k

    abbrev acts : Acted
    acts = act_on h ss l.state.queue l.rx l.store k body

    abbrev mine : Bool
    mine = is_ready k.command && eqb k.arg1 own_local

    act-pays : Paid ss (slots_by ss acts.changes) i body mine acts.fault
    act-pays =
        pays h ss l.state.queue l.rx l.store k body (subst (λ (m : Negotiated). TableOk (policy_of m) m.config.channels ss l.rx) (sym e) ok)
        (ap (λ (m : Negotiated). (policy_of m).delayed) e ∙ delayed) i there

    -- at a call's end, by its answer
    act-ends : (w : Work) → w.changes ≡ acts.changes → w.frames ≡ acts.frames → (a : Answer) → (mine ≡ true → acts.fault ≡ None → is_lost (answer_number a) ≡ false)
        → ((f : CreditFault) → mine ≡ true → acts.fault ≡ Some (BadCredit f) → is_lost (answer_number a) ≡ true) → goes received (ends w a (frame_len k) [])
    act-ends w ec ef a f g =
        ends-goes received w a (frame_len k) []
        (track-as z0 _ _ _ _ 0 _ (paid-track ss (slots_by ss acts.changes) i body mine acts.fault act-pays inside (answer_number a) f g)
        (ap (λ (x : List Change). budget_by (slots_by ss x)) ec) (adds-packet received _ k sy (answer_number a) own_local)
        (ap (writes_in own_local) ef ∙ acted-writes h ss l.state.queue l.rx l.store k body own_local))

    act-unless : (w : Work) → w.changes ≡ acts.changes → w.frames ≡ acts.frames → (a : Answer) → is_lost (answer_number a) ≡ false → goes received (ends w (unless_fault acts.fault a) (frame_len k) [])
    act-unless w ec ef a n = act-ends w ec ef (unless_fault acts.fault a) (λ m q. fault-number acts.fault a n q) (λ f m q. fault-lost acts.fault a f q)

  -- ---- dispatch, settle, take, close, take_front

  dispatch-by : (received : List ℕ) (r : Result Packet (Answer × ℕ)) → Got received l.state.header.negotiated.config.max_payload r → goes received (dispatch_by l h0 received r)
  unfolding dispatch_by answer_number
  dispatch-by received r (stopped a used st) = so-ends received (begun h0 l) 0 a used [] (so-begun h0) (adds-stopped received a used own_local st)
  dispatch-by received r (packet k sy) = act-unless h0 refl received k sy (then_acted (begun h0 l) (acts h0 refl received k sy)) refl refl Done refl

  pub dispatch-goes : (received : List ℕ) → goes received (dispatch_step l received)
  unfolding dispatch_step
  dispatch-goes received = dispatch-by received (received_of l received) (got l received)

  pub settle-goes : (ch : ChannelId) (want : ℕ) → goes [] (settle_step l ch want)
  unfolding settle_step settled_as slot_for
  settle-goes ch want =
      let r = settled_of (slot_in ss ch.slot) (policy l) want in
      pick (goes []) (is_there l ch)
      (λ t. so-unused [] _ _ [] (so-slot (begun h0 l) 0 ch.slot r.slot (ack_frames r.slot r.ack) (so-begun h0) (settled-budget (slot_in ss ch.slot) (policy l) want) (ack-quiet r.slot r.ack)))
      (λ t. plain-goes [] h0 _)

  abbrev Took : ChannelSlot → Result (Option (ChannelSlot × ℕ)) ChannelError → Type 0
  Took s (Ok (Some (t, k))) = SameBudget s t
  Took s (Ok None) = Unit {0}
  Took s (Err e) = Unit {0}

  takes-budget : (s : ChannelSlot) (room : ℕ) → Took s (taken_of s room)
  unfolding taken_of took_of
  takes-budget s room = pick (Took s) (has_data s) (λ d. refl) (λ d. pick (Took s) (is_closed s.state) (λ c. tt) (λ c. tt))

  taken-goes : (ch : ChannelId) (r : Result (Option (ChannelSlot × ℕ)) ChannelError) → Took (slot_in ss ch.slot) r → goes [] (taken_by l ch (slot_in ss ch.slot) (begun h0 l) r)
  unfolding taken_by
  taken-goes ch (Ok (Some (t, k))) b = so-unused [] _ _ _ (so-slot (begun h0 l) 0 ch.slot t [] (so-begun h0) b refl)
  taken-goes ch (Ok None) b = plain-goes [] h0 _
  taken-goes ch (Err e) b = plain-goes [] h0 _

  pub take-goes : (ch : ChannelId) (room : ℕ) → goes [] (take_step l ch room)
  unfolding take_step slot_for
  take-goes ch room = pick (goes []) (is_there l ch) (λ t. taken-goes ch (taken_of (slot_in ss ch.slot) room) (takes-budget (slot_in ss ch.slot) room)) (λ t. plain-goes [] h0 _)

  -- a channel that is closed is there no more
  abbrev closing : ChannelId → Outcome
  closing ch = ends (then (begun h0 l) (slot_to ch.slot (emptied_slot (slot_in ss ch.slot)) ∷ []) (close_frame (ids_in (slot_in ss ch.slot)) ∷ [])) Done 0 []

  close-done : (ch : ChannelId) → (slot_in (slots_by ss (closing ch).changes) i).filled ≡ true → goes [] (closing ch)
  unfolding ends
  close-done ch f =
      let t = emptied_slot (slot_in ss ch.slot) in
      by-test (eqb ch.slot i)
      (λ v. let e = eqb-true ch.slot i v in
      absurd (true≢false (sym f ∙ ap (λ (x : ℕ). (slot_in (set ss x t) i).filled) e ∙ ap (λ (s : ChannelSlot). s.filled) (slot-set-same ss i t inside) ∙ emptied-none (slot_in ss ch.slot))))
      (λ v. track-as z0 z0 _ 0 _ 0 0 (track-same z0 z0 refl) (ap (λ (s : ChannelSlot). s.send_budget) (slot-set-other ss ch.slot i t (λ e. eqb-false ch.slot i v (sym e)))) (adds-unused [] (answer_number Done) own_local) refl)

  pub close-goes : (ch : ChannelId) → (slot_in (slots_by ss (close_step l ch).changes) i).filled ≡ true → goes [] (close_step l ch)
  unfolding close_step slot_for
  close-goes ch =
      pick (λ (o : Outcome). (slot_in (slots_by ss o.changes) i).filled ≡ true → goes [] o) (is_there l ch && (slot_in ss ch.slot).has_remote)
      (λ u. close-done ch) (λ u f. plain-goes [] h0 _)

  front-by : (xs : List Change) (f : Option (QueuedOpen × Header)) → budget_by (slots_by ss xs) ≡ z0 → goes [] (take_front_by l h0 xs f)
  unfolding take_front_by
  front-by xs (Some (q, less)) e = so-unused [] _ _ [] (record { track = track-same z0 _ e; quiet = refl })
  front-by xs None e = plain-goes [] h0 _

  pub front-goes : goes [] (take_front_step l)
  unfolding take_front_step popped
  front-goes =
      front-by (popped h0 l.state.queue).changes (popped h0 l.state.queue).result
      (pick (λ (x : Step (Option (QueuedOpen × Header))). budget_by (slots_by ss x.changes) ≡ z0) (eqb h0.queued 0) (λ t. refl) (λ t. refl))

  -- ---- verdicts

  reject-goes-on : (remote : RemoteId) (a : Answer) → goes [] (reject_on l h0 remote a)
  unfolding reject_on
  reject-goes-on remote a = so-unused [] _ a [] (so-frames (begun h0 l) 0 (close_frame (record { local = record { 0 = 0 }; remote = remote }) ∷ []) (so-begun h0) refl)

  -- the place that is filled is empty before
  allocated-empty : (ch : ChannelId) → allocated l.state.header ss ≡ Ok ch → i ≡ ch.slot → ⊥
  allocated-empty ch e q =
      true≢false (sym there ∙ ap (λ (x : ℕ). (slot_in ss x).filled) q ∙ allocated-vacant (policy l) l.state.header ss l.rx ok ch e)

  accept-goes-on : (remote : RemoteId) (credit : ℕ) (r : Result ChannelId NoFree) → allocated l.state.header ss ≡ r → goes [] (accept_on l h0 remote credit r)
  unfolding accept_on ends
  accept-goes-on remote credit (Err _) e = reject-goes-on remote _
  accept-goes-on remote credit (Ok ch) e =
      track-as z0 _ _ 0 _ 0 0 (track-same z0 z0 refl) (ap (λ (s : ChannelSlot). s.send_budget) (slot-set-other ss ch.slot i _ (allocated-empty ch e))) (adds-unused [] _ own_local) refl

  pub accept-goes : goes [] (accept_step l)
  unfolding accept_step
  accept-goes = pick (goes []) (is_offered l) (λ t. accept-goes-on (offer_in l).remote (offer_in l).credit (allocated l.state.header ss) refl) (λ t. plain-goes [] h0 _)

  pub reject-goes : goes [] (reject_step l)
  unfolding reject_step
  reject-goes = pick (goes []) (is_offered l) (λ t. reject-goes-on (offer_in l).remote _) (λ t. plain-goes [] h0 _)

  pub verdict-goes : (take : Bool) (remote : RemoteId) (credit : ℕ) → goes [] (verdict_step l take remote credit)
  unfolding verdict_step
  verdict-goes take remote credit = pick (goes []) take (λ t. accept-goes-on remote credit (allocated l.state.header ss) refl) (λ t. reject-goes-on remote _)

  pub let-go-goes : goes [] (let_go_step l)
  unfolding let_go_step returned
  let-go-goes = pick (goes []) (is_offered l) (λ t. so-unused [] _ _ [] (record { track = track-same z0 z0 refl; quiet = refl })) (λ t. plain-goes [] h0 _)

  -- ---- open

  module _ (out : ℕ) (destination received : List ℕ) where
    open-goes-on : (r : Result ChannelId NoFree) → goes received (open_on l out destination r)
    unfolding open_on
    open-goes-on (Err _) = plain-goes received h0 _
    open-goes-on (Ok ch) =
        pick (goes received) (ltb payload_limit (length destination)) (λ t. plain-goes received (numbered h0) _)
        (λ t. pick (goes received) (ltb out (24 + length destination)) (λ u. idle received (Refused OutShort))
        (λ u. so-unused received _ _ [] (so-frames (begun (pending_for (numbered h0) ch) l) 0 _ (so-begun _) refl)))

    abbrev wslot : ℕ
    wslot = l.state.header.pending.slot

    abbrev wlocal : LocalId
    wlocal = l.state.header.pending.local

    abbrev wch : ChannelId
    wch = record { slot = wslot; local = wlocal }

    -- no two channels share a number after it
    abbrev pub Alone : Outcome → Type 0
    Alone o = (j : ℕ) → (slot_in (slots_by ss o.changes) j).filled ≡ true → (slot_in (slots_by ss o.changes) j).local.0 ≡ (slot_in (slots_by ss o.changes) i).local.0 → j ≡ i

    abbrev OpenedAs : Result ChannelSlot CreditFault → Type 0
    OpenedAs (Ok t) = (t.filled ≡ true) × (t.local.0 ≡ wlocal.0)
    OpenedAs (Err f) = Unit {0}

    opened-as-by : (r : RemoteId) (c : Result ℤ CreditFault) → OpenedAs (opened_by (opening_slot wlocal) r c)
    unfolding opened_by opening_slot
    opened-as-by r (Ok z) = (refl, refl)
    opened-as-by r (Err f) = tt

    opened-as : (r : RemoteId) (payload : List ℕ) → OpenedAs (opened_of (opening_slot wlocal) r payload (policy l))
    unfolding opened_of opening_slot
    opened-as r payload = pick OpenedAs (policy l).delayed (λ d. opened-as-by r (credit_of payload)) (λ d. (refl, refl))

    module _ (place : wslot < length ss) (empty : i ≡ wslot → ⊥) (k : Packet) (sy : Says received l.state.header.negotiated.config.max_payload k) where
      -- the open's own OKAY
      readied-goes : (r : Result ChannelSlot CreditFault) → OpenedAs r → k.arg1 ≡ wlocal.0 → Alone (open_readied l wch k.arg0 (frame_len k) r) → goes received (open_readied l wch k.arg0 (frame_len k) r)
      unfolding open_readied ends answer_number
      readied-goes (Ok t) a m alone =
          let o : (is_ready k.command && eqb k.arg1 own_local) ≡ false =
          by-test (eqb k.arg1 own_local)
          (λ u. let v = slot-set-same ss wslot t place in
          absurd (empty (sym (alone wslot (ap (λ (s : ChannelSlot). s.filled) v ∙ a.0) (ap (λ (s : ChannelSlot). s.local.0) v ∙ a.1 ∙ sym m ∙ eqb-true k.arg1 own_local u ∙ ap (λ (s : ChannelSlot). s.local.0) (sym (slot-set-other ss wslot i t empty)))))))
          (λ u. ap (λ (x : Bool). is_ready k.command && x) u ∙ and-false (is_ready k.command)) in
          track-as z0 _ _ 0 _ 0 0 (track-same z0 z0 refl) (ap (λ (s : ChannelSlot). s.send_budget) (slot-set-other ss wslot i t empty))
          (adds-packet received _ k sy 0 own_local ∙ not-own 0 (is_ready k.command && eqb k.arg1 own_local) (body_of received k) o) refl
      readied-goes (Err f) a m alone =
          track-as z0 _ _ 0 _ 0 0 (track-same z0 z0 refl) refl (adds-packet received _ k sy _ own_local ∙ lost-none (answer_number (Refused (fault_refusal (BadCredit f)))) (is_ready k.command && eqb k.arg1 own_local) (body_of received k) (bad-number f)) refl

      -- a packet that is no OKAY
      other-goes : (w : Work) (a : Answer) → is_ready k.command ≡ false → So w 0 → goes received (ends w a (frame_len k) [])
      other-goes w a e g =
          so-ends received w 0 a (frame_len k) [] g
          (adds-packet received _ k sy (answer_number a) own_local ∙ not-own (answer_number a) _ (body_of received k) (ap (λ (x : Bool). x && eqb k.arg1 own_local) e))

      open-packet : Alone (open_by l wch received (Ok k)) → goes received (open_by l wch received (Ok k))
      unfolding open_by open_acted answer_number
      open-packet =
          let own = eqb k.arg1 wlocal.0 in
          let G : Outcome → Type 0 = λ o. Alone o → goes received o in
          pick G (is_ready k.command && own)
          (λ t. readied-goes _ (opened-as (record { 0 = k.arg0 }) (body_of received k)) (eqb-true k.arg1 wlocal.0 (and-true (is_ready k.command) own t).1))
          (λ t. pick G (is_write k.command && own)
          (λ u alone. other-goes _ _ (no-ready-write k.command (and-true (is_write k.command) own u).0) (so-frames (begun h0 l) 0 (close_frame (record { local = wlocal; remote = record { 0 = k.arg0 } }) ∷ []) (so-begun h0) refl))
          (λ u. pick G (is_close k.command && own) (λ v alone. other-goes _ _ (no-ready-close k.command (and-true (is_close k.command) own v).0) (so-begun h0))
          (λ v alone. act-unless l.state.header refl received k sy _ refl refl Waiting refl)))

    open-received : wslot < length ss → (i ≡ wslot → ⊥) → (r : Result Packet (Answer × ℕ)) → Got received l.state.header.negotiated.config.max_payload r → Alone (open_by l wch received r) → goes received (open_by l wch received r)
    unfolding open_by
    open-received place empty r (stopped a used st) alone = so-ends received (begun (still_pending a l.state.header) l) 0 a used [] (so-begun _) (adds-stopped received a used own_local st)
    open-received place empty r (packet k sy) alone = open-packet place empty k sy alone

    pub open-goes : (is_ours l.state.header.pending.what ≡ true → (wslot < length ss) × (i ≡ wslot → ⊥)) → Alone (open_step l out destination received) → goes received (open_step l out destination received)
    unfolding open_step
    open-goes pend =
        pick (λ (o : Outcome). Alone o → goes received o) (is_ours l.state.header.pending.what)
        (λ t. let q = pend t in open-received q.0 q.1 (received_of l received) (got l received)) (λ t alone. open-goes-on (allocated l.state.header ss))

  -- ---- read

  module _ (ch : ChannelId) (room : ℕ) (received : List ℕ) (at : is_there l ch ≡ true) where
    abbrev j : ℕ
    j = ch.slot

    filled : (slot_in ss j).filled ≡ true
    filled = there-filled l ok ch at

    within : j < length ss
    within = let z = ok.size in let m = ok.most in let b = ok.below j filled in omega arith

    abbrev r1 : Settled
    r1 = settled_of (slot_in ss j) (policy l) room

    abbrev ts : List ChannelSlot
    ts = set ss j r1.slot

    abbrev w1 : Work
    w1 = then (begun h0 l) [] (ack_frames r1.slot r1.ack)

    so1 : So w1 0
    so1 = so-frames (begun h0 l) 0 (ack_frames r1.slot r1.ack) (so-begun h0) (ack-quiet r1.slot r1.ack)

    same1 : SameBudget (slot_in ss j) r1.slot
    same1 = settled-budget (slot_in ss j) (policy l) room

    -- a slot with the budget that it had, stored at the end
    last_goes : (t : ChannelSlot) (fs : List Frame) (a : Answer) (used : ℕ) (handed : List ℕ) → SameBudget (slot_in ss j) t → writes_in own_local fs ≡ 0 → added_in received (answer_number a) used own_local ≡ 0
        → goes received (ends (then w1 (slot_to j t ∷ []) fs) a used handed)
    last_goes t fs a used handed b q e = so-ends received _ 0 a used handed (so-slot w1 0 j t fs so1 b q) e

    last_unused : (t : ChannelSlot) (a : Answer) (handed : List ℕ) → SameBudget (slot_in ss j) t → goes received (ends (then w1 (slot_to j t ∷ []) []) a 0 handed)
    last_unused t a handed b = last_goes t [] a 0 handed b refl (adds-unused received (answer_number a) own_local)

    ok1 : TableOk (policy l) l.state.header.negotiated.config.channels ts l.rx
    ok1 = table-settled (policy l) l.state.header.negotiated.config.channels ss l.rx j room ok filled

    stays1 : SameBudget (slot_in ss i) (slot_in ts i)
    stays1 = set_same (λ (s : ChannelSlot). s.send_budget) ss j i r1.slot same1

    there1 : (slot_in ts i).filled ≡ true
    there1 = set_same (λ (s : ChannelSlot). s.filled) ss j i r1.slot (settled-stays (slot_in ss j) (policy l) room).filled ∙ there

    local1 : (slot_in ts i).local.0 ≡ own_local
    local1 = set_same (λ (s : ChannelSlot). s.local.0) ss j i r1.slot (ap (λ (x : LocalId). x.0) (settled-stays (slot_in ss j) (policy l) room).local)

    inside1 : i < length ts
    inside1 = let z = ok1.size in let m = ok1.most in let b = ok1.below i there1 in omega arith

    module _ (k : Packet) (sy : Says received l.state.header.negotiated.config.max_payload k) where
      abbrev read-body : List ℕ
      read-body = body_of received k

      abbrev act1 : Acted
      act1 = act_on h0 ts l.state.queue l.rx l.store k read-body

      abbrev us : List ChannelSlot
      us = slots_by ts act1.changes

      abbrev own1 : Bool
      own1 = is_ready k.command && eqb k.arg1 (slot_in ts i).local.0

      pays1 : Paid ts us i read-body own1 act1.fault
      pays1 = pays h0 ts l.state.queue l.rx l.store k read-body ok1 delayed i there1

      -- the second settling
      abbrev r3 : Settled
      r3 = settled_of (slot_in us j) (policy l) room

      abbrev w3 : Work
      w3 = then (then_acted (then w1 (slot_to j r1.slot ∷ []) []) act1) [] (ack_frames r3.slot r3.ack)

      quiet3 : writes_in own_local w3.frames ≡ 0
      quiet3 =
          let a = writes-append own_local ((ack_frames r1.slot r1.ack ++ []) ++ act1.frames) (ack_frames r3.slot r3.ack) in
          let b = writes-append own_local (ack_frames r1.slot r1.ack ++ []) act1.frames in
          let c = ap (writes_in own_local) (append-nil (ack_frames r1.slot r1.ack)) in
          let d = ack-quiet r1.slot r1.ack in
          let e = ack-quiet r3.slot r3.ack in
          let f = acted-writes h0 ts l.state.queue l.rx l.store k read-body own_local in
          omega arith

      -- what is stored at the end keeps the budget that the packet left
      final : (t : ChannelSlot) (a : Answer) (handed : List ℕ) → SameBudget r3.slot t → (own1 ≡ true → act1.fault ≡ None → is_lost (answer_number a) ≡ false)
          → ((f : CreditFault) → own1 ≡ true → act1.fault ≡ Some (BadCredit f) → is_lost (answer_number a) ≡ true) → goes received (ends (then w3 (slot_to j t ∷ []) []) a (frame_len k) handed)
      final t a handed b f g =
          let xs = act1.changes ++ [] in
          let e0 : slots_by ts xs ≡ us = ap (slots_by ts) (append-nil act1.changes) in
          let e1 : budget_by (slots_by ts (xs ++ slot_to j t ∷ [])) ≡ budget_by us =
          ap budget_by (slots-append ts xs (slot_to j t ∷ [])) ∙ ap (λ (x : List ChannelSlot). budget_by (set x j t)) e0
          ∙ set_same (λ (s : ChannelSlot). s.send_budget) us j i t (b ∙ settled-budget (slot_in us j) (policy l) room) in
          let e2 : added_in received (answer_number a) (frame_len k) own_local ≡ adds (answer_number a) own1 read-body =
          adds-packet received _ k sy (answer_number a) own_local ∙ ap (λ (x : ℕ). adds (answer_number a) (is_ready k.command && eqb k.arg1 x) read-body) (sym local1) in
          ends-goes received (then w3 (slot_to j t ∷ []) []) a (frame_len k) handed
          (subst (λ (z : ℤ). Track z (budget_by (slots_by ts (xs ++ slot_to j t ∷ []))) (added_in received (answer_number a) (frame_len k) own_local) (writes_in own_local (w3.frames ++ []))) stays1
          (track-as _ _ _ _ _ 0 _ (paid-track ts us i read-body own1 act1.fault pays1 inside1 (answer_number a) f g) e1 e2
          (ap (writes_in own_local) (append-nil w3.frames) ∙ quiet3)))

      -- there is nothing to hand over, and the channel is not closed, before the packet
      module _ (nodata : has_data r1.slot ≡ false) (live : is_closed r1.slot.state ≡ false) where
        at1 : slot_in ts j ≡ r1.slot
        at1 = slot-set-same ss j r1.slot within

        no-data3 : us ≡ ts → has_data r3.slot ≡ false
        unfolding has_data
        no-data3 e =
            let u : slot_in us j ≡ r1.slot = ap (λ (x : List ChannelSlot). slot_in x j) e ∙ at1 in
            let known : (slot_in us j).has_remote ≡ true = ap (λ (s : ChannelSlot). s.has_remote) u ∙ (settled-stays (slot_in ss j) (policy l) room).known ∙ ok.known j filled in
            ap₂ (λ (x : Bool) (y : ℕ). cond x (not (eqb y 0)) false)
            ((settled-stays (slot_in us j) (policy l) room).known ∙ ap (λ (s : ChannelSlot). s.has_remote) u)
            ((settled-run (slot_in us j) (policy l) room known).more ∙ ap (λ (s : ChannelSlot). s.buffered) u) ∙ nodata

        live3 : (slot_in us j).state ≡ (slot_in ts j).state → is_closed r3.slot.state ≡ false
        live3 e = ap is_closed (settled-state (slot_in us j) (policy l) room ∙ e ∙ ap (λ (s : ChannelSlot). s.state) at1) ∙ live

        unpaid-none : Paid ts us i read-body own1 act1.fault → (f : CreditFault) → own1 ≡ true → act1.fault ≡ Some (BadCredit f) → has_data r3.slot ≡ false
        unpaid-none (passed o e) f m q = absurd (true≢false (sym m ∙ o))
        unpaid-none (paid c o r e q0) f m q = absurd (true≢false (ap no-fault (sym q0 ∙ q)))
        unpaid-none (unpaid b o e q0) f m q = no-data3 e

        paid-live : Paid ts us i read-body own1 act1.fault → own1 ≡ true → act1.fault ≡ None → is_closed r3.slot.state ≡ false
        paid-live (passed o e) m q = absurd (true≢false (sym m ∙ o))
        paid-live (paid c o r e q0) m q =
            live3 (ap (λ (x : List ChannelSlot). (slot_in x j).state) e
            ∙ set_same (λ (s : ChannelSlot). s.state) ts i j (with_sending (slot_in ts i) (slot_in ts i).wrte_acked (clamp ((slot_in ts i).send_budget +ℤ pos c))) refl)
        paid-live (unpaid b o e q0) m q = absurd (true≢false (ap no-fault (sym q ∙ q0)))

        again : goes received (reread ch (policy l).rx_cap (frame_len k) act1.fault w3 r3.slot (taken_of r3.slot room))
        unfolding reread taken_of took_of answer_number
        again =
            let n = take_len r3.slot room in
            let P : Result (Option (ChannelSlot × ℕ)) ChannelError → Type 0 = λ y. goes received (reread ch (policy l).rx_cap (frame_len k) act1.fault w3 r3.slot y) in
            pick P (has_data r3.slot)
            (λ d. final (took_of r3.slot n) (Read n) _ refl (λ m q. refl) (λ f m q. absurd (true≢false (sym d ∙ unpaid-none pays1 f m q))))
            (λ d. pick P (is_closed r3.slot.state)
            (λ c. let a = Refused (error_refusal (error_of r3.slot.failed)) in
            final r3.slot (unless_fault act1.fault a) [] refl (λ m q. absurd (true≢false (sym c ∙ paid-live pays1 m q))) (λ f m q. fault-lost act1.fault a f q))
            (λ c. final r3.slot (unless_fault act1.fault Waiting) [] refl (λ m q. fault-number act1.fault Waiting refl q) (λ f m q. fault-lost act1.fault Waiting f q)))

        acted-goes : goes received (read_acted l ch room (frame_len k) (then w1 (slot_to j r1.slot ∷ []) []) act1)
        unfolding read_acted read_settled
        acted-goes =
            let e : slot_in (changed_all l.state (slot_to j r1.slot ∷ act1.changes)).slots j ≡ slot_in us j = ap (λ (x : List ChannelSlot). slot_in x j) (slots-by l.state (slot_to j r1.slot ∷ act1.changes)) in
            subst (λ (x : ChannelSlot). goes received (read_settled l ch room (frame_len k) act1.fault (then_acted (then w1 (slot_to j r1.slot ∷ []) []) act1) (settled_of x (policy l) room))) (sym e) again

        -- a packet that is no OKAY
        kept-goes : (t : ChannelSlot) (fs : List Frame) (a : Answer) (handed : List ℕ) → SameBudget (slot_in ss j) t → writes_in own_local fs ≡ 0 → is_ready k.command ≡ false
            → goes received (ends (then w1 (slot_to j t ∷ []) fs) a (frame_len k) handed)
        kept-goes t fs a handed b q e =
            last_goes t fs a (frame_len k) handed b q
            (adds-packet received _ k sy (answer_number a) own_local ∙ not-own (answer_number a) _ read-body (ap (λ (x : Bool). x && eqb k.arg1 own_local) e))

        packet-goes : goes received (read_by l ch room w1 r1.slot received (Ok k))
        unfolding read_by read_direct closed_by is_direct
        packet-goes =
            let d = delivered_of r1.slot (policy l) k.data_length in
            pick (goes received) (is_direct r1.slot room k)
            (λ t. kept-goes d.slot (ack_frames d.slot d.ack) _ _ (delivered-budget r1.slot (policy l) k.data_length ∙ same1) (ack-quiet d.slot d.ack)
            (no-ready-write k.command (and-true (is_write k.command) _ (and-true (is_write k.command && eqb k.arg1 r1.slot.local.0) (leb k.data_length room) t).0).0))
            (λ t. pick (goes received) (closed_by (ids_in r1.slot) k)
            (λ u. kept-goes (closed_slot r1.slot) [] _ [] (closed-budget r1.slot ∙ same1) refl (no-ready-close k.command (cond-first (is_close k.command) _ u)))
            (λ u. acted-goes))

    received-goes : has_data r1.slot ≡ false → is_closed r1.slot.state ≡ false → (r : Result Packet (Answer × ℕ)) → Got received l.state.header.negotiated.config.max_payload r → goes received (read_by l ch room w1 r1.slot received r)
    unfolding read_by
    received-goes nodata live r (stopped a used st) = last_goes r1.slot [] a used [] same1 refl (adds-stopped received a used own_local st)
    received-goes nodata live r (packet k sy) = packet-goes k sy nodata live

    first-goes : goes received (read_first l ch room received r1)
    unfolding read_first read_taken taken_of took_of
    first-goes =
        let P : Result (Option (ChannelSlot × ℕ)) ChannelError → Type 0 = λ y. goes received (read_taken l ch room w1 r1.slot received y) in
        pick P (has_data r1.slot) (λ d. last_unused (took_of r1.slot (take_len r1.slot room)) _ _ same1)
        (λ d. pick P (is_closed r1.slot.state) (λ c. last_unused r1.slot _ [] same1)
        (λ c. pick (goes received) r1.slot.has_remote (λ t. received-goes d c (received_of l received) (got l received)) (λ t. last_unused r1.slot _ [] same1)))

  pub read-goes : (ch : ChannelId) (room : ℕ) (received : List ℕ) → goes received (read_step l ch room received)
  unfolding read_step slot_for
  read-goes ch room received = pick (goes received) (is_there l ch) (λ t. first-goes ch room received t) (λ t. plain-goes received h0 _)

  -- ---- write

  module _ (spending : Spending) (ch : ChannelId) (out : ℕ) (given received : List ℕ) (at : is_there l ch ≡ true) where
    abbrev s0 : ChannelSlot
    s0 = slot_in ss ch.slot

    here : s0.filled ≡ true
    here = there-filled l ok ch at

    -- from a slot u in the place of the channel's; c: what the packet that was used adds
    module _ (used c : ℕ) (counts : (number : ℕ) → is_lost number ≡ false → added_in received number used own_local ≡ c) where
      -- what is kept while nothing is sent
      record Ready-to (w : Work) (u : ChannelSlot) : Type 0 where
        base : Track z0 (budget_by (set (slots_by ss w.changes) ch.slot u)) c 0
        quiet : writes_in own_local w.frames ≡ 0
        same : u.local.0 ≡ s0.local.0

      stored-goes : (w : Work) (u : ChannelSlot) (a : Answer) → Ready-to w u → is_lost (answer_number a) ≡ false → goes received (ends (then w (slot_to ch.slot u ∷ []) []) a used [])
      stored-goes w u a g e =
          ends-goes received (then w (slot_to ch.slot u ∷ []) []) a used []
          (track-as z0 _ _ c _ 0 _ g.base (ap budget_by (slots-append ss w.changes (slot_to ch.slot u ∷ []))) (counts (answer_number a) e) (ap (writes_in own_local) (append-nil w.frames) ∙ g.quiet))

      module _ (w : Work) (u : ChannelSlot) (n : ℕ) (most : n ≤ length given) (g : Ready-to w u) where
        abbrev vs : List ChannelSlot
        vs = slots_by ss w.changes

        abbrev left-in : ChannelSlot
        left-in = spent_of u (policy l) n

        abbrev wrote-in : List Frame
        wrote-in = w.frames ++ write_frame (ids_in u) (take n given) ∷ []

        wrote-sum : writes_in own_local wrote-in ≡ cond (eqb u.local.0 own_local) n 0
        wrote-sum =
            let a = writes-append own_local w.frames (write_frame (ids_in u) (take n given) ∷ []) in
            let q = g.quiet in
            let t : cond (eqb u.local.0 own_local) (length (take n given)) 0 ≡ cond (eqb u.local.0 own_local) n 0 = ap (λ (x : ℕ). cond (eqb u.local.0 own_local) x 0) (length-take-le n given most) in
            omega arith

        spent-is : left-in.send_budget ≡ clamp (u.send_budget -ℤ pos (min n 9223372036854775807))
        unfolding spent_of
        spent-is = ap (λ (x : ChannelSlot). x.send_budget) (cond-true (policy l).delayed _ _ delayed)

        put-in : ch.slot ≡ i → (t : ChannelSlot) → slot_in (set vs ch.slot t) i ≡ t
        put-in e t =
            let z = slots_length ss w.changes in
            let b = inside in
            ap (λ (x : ℕ). slot_in (set vs x t) i) e ∙ slot-set-same vs i t (omega arith)

        spent-track : Track z0 (budget_by (set vs ch.slot left-in)) c (writes_in own_local wrote-in)
        spent-track =
            by-test (eqb ch.slot i)
            (λ v. let e = eqb-true ch.slot i v in
            track-as z0 _ _ c c n _
            (track-less z0 u.send_budget left-in.send_budget c n (track-as z0 _ _ c c 0 0 g.base (ap (λ (x : ChannelSlot). x.send_budget) (sym (put-in e u))) refl refl) spent-is)
            (ap (λ (x : ChannelSlot). x.send_budget) (put-in e left-in)) refl
            (wrote-sum ∙ cond-true (eqb u.local.0 own_local) n 0 (eq-eqb _ _ (g.same ∙ ap (λ (x : ℕ). (slot_in ss x).local.0) e))))
            (λ v. let d : i ≡ ch.slot → ⊥ = λ e. eqb-false ch.slot i v (sym e) in
            track-as z0 _ _ c c 0 _ g.base (ap (λ (x : ChannelSlot). x.send_budget) (slot-set-other vs ch.slot i left-in d ∙ sym (slot-set-other vs ch.slot i u d))) refl
            (wrote-sum ∙ cond-false (eqb u.local.0 own_local) n 0 (ne_eqb _ _ (λ q. d (sym (ok.apart ch.slot i here there (sym g.same ∙ q)))))))

        some-goes : goes received (send_some l ch out given used w u n)
        unfolding send_some answer_number
        some-goes =
            pick (goes received) (ltb out (length (frames_bytes w.header.negotiated w.frames) + 24 + n)) (λ t. idle received (Refused OutShort))
            (λ t. ends-goes received (then w (slot_to ch.slot left-in ∷ []) (write_frame (ids_in u) (take n given) ∷ [])) (Written n) used []
            (track-as z0 _ _ c _ _ _ spent-track (ap budget_by (slots-append ss w.changes (slot_to ch.slot left-in ∷ []))) (counts 0 refl) refl))

      by-goes : (w : Work) (u : ChannelSlot) → Ready-to w u → (b : Option ℕ) → goes received (send_by l ch out given used w u b)
      unfolding send_by send_len answer_number
      by-goes w u g (Some most) = some-goes w u (send_len l given most) (omega arith) g
      by-goes w u g None = stored-goes w u Waiting g refl

      again-goes : (w : Work) (u : ChannelSlot) → Ready-to w u → goes received (send_again spending l ch out given used w u)
      unfolding send_again answer_number
      again-goes w u g = pick (goes received) (is_closed u.state) (λ t. stored-goes w u (Refused ChannelClosed) g refl) (λ t. by-goes w u g (leave_of spending u (policy l)))

    begun-ready : (c : ℕ) → c ≡ 0 → (counts : (number : ℕ) → is_lost number ≡ false → added_in received number 0 own_local ≡ c) → Ready-to 0 c counts (begun h0 l) s0
    begun-ready c e counts =
        record {
          base = track-as z0 z0 _ 0 c 0 0 (track-same z0 z0 refl) (set_same (λ (s : ChannelSlot). s.send_budget) ss ch.slot i s0 refl) e refl;
          quiet = refl;
          same = refl;
        }

    module _ (k : Packet) (sy : Says received l.state.header.negotiated.config.max_payload k) where
      abbrev write-body : List ℕ
      write-body = body_of received k

      abbrev ours : Bool
      ours = is_ready k.command && eqb k.arg1 own_local

      abbrev adds-all : ℕ
      adds-all = cond ours (credit_in write-body) 0

      counts-all : (number : ℕ) → is_lost number ≡ false → added_in received number (frame_len k) own_local ≡ adds-all
      counts-all number e = adds-packet received _ k sy number own_local ∙ kept-all number ours write-body e

      -- the channel's own OKAY
      module _ (okay : is_ready k.command ≡ true) (named : k.arg1 ≡ s0.local.0) where
        with-credit : (c : ℕ) → credit_of write-body ≡ Ok (pos c) → Track z0 (budget_by (set ss ch.slot (with_sending s0 s0.wrte_acked (clamp (s0.send_budget +ℤ pos c))))) adds-all 0
        with-credit c e =
            let t = with_sending s0 s0.wrte_acked (clamp (s0.send_budget +ℤ pos c)) in
            by-test (eqb ch.slot i)
            (λ v. let q = eqb-true ch.slot i v in
            let b : budget_by (set ss ch.slot t) ≡ clamp (z0 +ℤ pos c) =
            ap (λ (x : ℕ). (slot_in (set ss x t) i).send_budget) q ∙ ap (λ (x : ChannelSlot). x.send_budget) (slot-set-same ss i t inside)
            ∙ ap (λ (x : ℕ). clamp ((slot_in ss x).send_budget +ℤ pos c)) q in
            let o : ours ≡ true = ap (λ (x : Bool). x && eqb k.arg1 own_local) okay ∙ eq-eqb _ _ (named ∙ ap (λ (x : ℕ). (slot_in ss x).local.0) q) in
            track-as z0 _ _ c _ 0 0 (track-more z0 _ c b) refl (cond-true ours _ 0 o ∙ credit-reads write-body c e) refl)
            (λ v. let d : i ≡ ch.slot → ⊥ = λ q. eqb-false ch.slot i v (sym q) in
            let o : ours ≡ false =
            ap (λ (x : Bool). is_ready k.command && x) (ne_eqb _ _ (λ q. d (sym (ok.apart ch.slot i here there (sym named ∙ q))))) ∙ and-false (is_ready k.command) in
            track-as z0 z0 _ 0 _ 0 0 (track-same z0 z0 refl) (ap (λ (x : ChannelSlot). x.send_budget) (slot-set-other ss ch.slot i t d)) (cond-false ours _ 0 o) refl)

        readied-by : (r : Result ℤ CreditFault) → credit_of write-body ≡ r → AtLeast0 r → goes received (write_readied spending l ch out given (frame_len k) (begun h0 l) s0 (ready_by s0 r))
        unfolding write_readied ready_by
        readied-by (Ok (pos c)) e a =
            again-goes (frame_len k) adds-all counts-all (begun h0 l) (with_sending s0 s0.wrte_acked (clamp (s0.send_budget +ℤ pos c)))
            (record { base = with-credit c e; quiet = refl; same = refl })
        readied-by (Ok (negsuc c)) e a = absurd a
        readied-by (Err f) e a =
            so-ends received (begun h0 l) 0 (Refused (fault_refusal (BadCredit f))) (frame_len k) [] (so-begun h0)
            (adds-packet received _ k sy _ own_local ∙ lost-none (answer_number (Refused (fault_refusal (BadCredit f)))) ours write-body (bad-number f))

        own-goes : goes received (write_readied spending l ch out given (frame_len k) (begun h0 l) s0 (ready_of s0 write-body (policy l)))
        unfolding ready_of
        own-goes =
            subst (λ (r : Result ChannelSlot CreditFault). goes received (write_readied spending l ch out given (frame_len k) (begun h0 l) s0 r)) (sym (cond-true (policy l).delayed _ _ delayed))
            (readied-by (credit_of write-body) refl (credit-least write-body))

      -- any other
      abbrev act2 : Acted
      act2 = acts h0 refl received k sy

      abbrev ys : List ChannelSlot
      ys = slots_by ss act2.changes

      after-act : act2.fault ≡ None → Ready-to (frame_len k) adds-all counts-all (then_acted (begun h0 l) act2) (slot_in ys ch.slot)
      after-act q =
          record {
            base =
                track-as z0 _ _ adds-all adds-all 0 0
                (paid-track ss ys i write-body ours act2.fault (act-pays h0 refl received k sy) inside 0 (λ m e. refl) (λ f m e. absurd (true≢false (ap no-fault (sym q ∙ e)))))
                (set_same (λ (s : ChannelSlot). s.send_budget) ys ch.slot i (slot_in ys ch.slot) refl) refl refl;
            quiet = acted-writes h0 ss l.state.queue l.rx l.store k write-body own_local;
            same = ap (λ (m : Mark). m.local) (tame-at ss act2.changes (tame-act h0 ss l.state.queue l.rx l.store k write-body ok) ch.slot);
          }

      acted-by : (f : Option SlotFault) → act2.fault ≡ f → goes received (write_acted spending l ch out given (frame_len k) (begun h0 l) act2 f)
      unfolding write_acted answer_number
      acted-by (Some f) e =
          subst (λ (a : Answer). goes received (ends (then_acted (begun h0 l) act2) a (frame_len k) [])) (unless-is act2.fault f e)
          (act-unless h0 refl received k sy (then_acted (begun h0 l) act2) refl refl Waiting refl)
      acted-by None e =
          subst (λ (u : ChannelSlot). goes received (send_again spending l ch out given (frame_len k) (then_acted (begun h0 l) act2) u))
          (sym (ap (λ (x : List ChannelSlot). slot_in x ch.slot) (slots-by l.state act2.changes)))
          (again-goes (frame_len k) adds-all counts-all (then_acted (begun h0 l) act2) (slot_in ys ch.slot) (after-act e))

      write-packet : goes received (write_by spending l ch out given (begun h0 l) s0 received (Ok k))
      unfolding write_by write_act closed_by
      write-packet =
          pick (goes received) (is_ready k.command && eqb k.arg1 s0.local.0)
          (λ t. let z = and-true (is_ready k.command) _ t in own-goes z.0 (eqb-true _ _ z.1))
          (λ t. pick (goes received) (closed_by (ids_in s0) k)
          (λ u. so-ends received _ 0 _ (frame_len k) [] (so-slot (begun h0 l) 0 ch.slot (closed_slot s0) [] (so-begun h0) (closed-budget s0) refl)
          (adds-packet received _ k sy _ own_local ∙ not-own (answer_number (Refused ChannelClosed)) ours write-body (ap (λ (x : Bool). x && eqb k.arg1 own_local) (no-ready-close k.command (cond-first (is_close k.command) _ u)))))
          (λ u. acted-by act2.fault refl))

    write-received : (r : Result Packet (Answer × ℕ)) → Got received l.state.header.negotiated.config.max_payload r → goes received (write_by spending l ch out given (begun h0 l) s0 received r)
    unfolding write_by
    write-received r (stopped a used st) = so-ends received (begun h0 l) 0 a used [] (so-begun h0) (adds-stopped received a used own_local st)
    write-received r (packet k sy) = write-packet k sy

    none-counts : (number : ℕ) → is_lost number ≡ false → added_in received number 0 own_local ≡ 0
    none-counts number e = adds-unused received number own_local

    write-first : (b : Option ℕ) → goes received (write_first spending l ch out given received (begun h0 l) s0 b)
    unfolding write_first send_len
    write-first (Some most) = some-goes 0 0 none-counts (begun h0 l) s0 (send_len l given most) (omega arith) (begun-ready 0 refl none-counts)
    write-first None = pick (goes received) s0.has_remote (λ t. write-received (received_of l received) (got l received)) (λ t. plain-goes received h0 _)

    write-here : goes received (write_on spending l ch out given received (begun h0 l) s0)
    unfolding write_on
    write-here = pick (goes received) (is_closed s0.state) (λ t. plain-goes received h0 _) (λ t. write-first (leave_of spending s0 (policy l)))

  pub write-goes : (spending : Spending) (ch : ChannelId) (out : ℕ) (given received : List ℕ) → goes received (write_step spending l ch out given received)
  unfolding write_step slot_for
  write-goes spending ch out given received =
      pick (goes received) (eqb (length given) 0) (λ z. plain-goes received h0 _)
      (λ z. pick (goes received) (is_there l ch) (λ t. write-here spending ch out given received t) (λ t. plain-goes received h0 _))
