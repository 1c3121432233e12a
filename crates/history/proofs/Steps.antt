-- Each call beside the book of a channel: parts that the calls share. Assumes nothing.
use mathlib.Core.Path.{◌≡◌, refl, sym, ap, subst, ◌∙◌}
use mathlib.Core.Bool.{Bool, true, false, ◌&&◌, true≢false}
use mathlib.Core.List.{List, [], ◌∷◌, ◌++◌}
use Prim.Native.Nat.{ℕ, ◌≤◌, ◌<◌, min}
use native.Mathlib.Omega.{arith}
use lib.Dec.{eqb, leb}
use lib.ListN.{length, set, length-set}
use borrow.Author.Tests.{eqb-true, eqb-false, ne_eqb}
use Rattle.le.proofs.Parts.{by-test}
use Rattle.config.specs.declared.negotiated.RxPolicy.{RxPolicy}
use Rattle.config.specs.Negotiated.{policy_of}
use Rattle.protocol.specs.declared.packet.Packet.{Packet}
use Rattle.protocol.specs.declared.message.Message.{Message}
use Rattle.protocol.proofs.RoundTrip.{Says}
use Rattle.protocol.specs.Command.{is_write}
use Rattle.slot.specs.declared.ChannelError.{ChannelError}
use Rattle.slot.specs.declared.ChannelError.TheVariants.{Closed as ErrorClosed, Fault}
use Rattle.slot.specs.declared.ChannelFault.{ChannelFault}
use Rattle.credit.proofs.CreditLaws.{by_number}
use Rattle.credit.specs.declared.CreditFault.{CreditFault}
use Rattle.connection.specs.declared.Refusal.TheVariants.{BadCredit as CreditRefused}
use Rattle.slot.specs.declared.ChannelFault.TheVariants.{RxOverflow, BadCredit, UnexpectedCommand}
use Rattle.slot.specs.declared.ChannelSlot.{ChannelSlot}
use Rattle.slot.specs.declared.Settled.{Settled}
use Rattle.slot.specs.Slot.{is_opening, is_failed, spent_of, delivered_of, settled_of, SlotOk}
use Rattle.slot.proofs.Kept.{pick, settled-sound}
use Rattle.slot.proofs.Laws.{cond-false}
use Rattle.slot.proofs.Stays.{Stays, settled-stays}
use Rattle.state.specs.Change.{Change, header_to, changed, changed_all}
use Rattle.state.specs.State.{Connection}
use Rattle.state.specs.declared.Header.{Header}
use Rattle.state.specs.declared.QueuedOpen.{QueuedOpen}
use Rattle.table.specs.Table.{slot_in}
use Rattle.connection.specs.declared.Answer.{Answer}
use Rattle.connection.specs.declared.Answer.TheVariants.{Waiting, Refused}
use Rattle.connection.specs.Act.{act_on}
use Rattle.connection.specs.Answer.{answer_number, answer_values}
use Rattle.connection.specs.Calls.{Outcome, Work, ends, body_of, frame_len, unless_fault, error_refusal, fault_refusal}
use Rattle.connection.specs.Frames.{Sent}
use Rattle.history.specs.Seen.{Seen}
use Rattle.history.specs.Book.{Book, is_refused, is_early, is_wrte, header_at, payload_at, damaged_b, frame_b, packet_b}
use Rattle.history.specs.Demand3.{run_of}
use Rattle.history.proofs.Acts.{mine_of, ends_of, acted-at, Tells, good-by, at-good, faulty}
use Rattle.history.proofs.Good.{Terms, Good, Limits, Settles, already, not-due, due, settles, sent-good}
use Rattle.history.proofs.Packets.{Stops, Marked, reads-write, reads-arg1, reads-payload, body-small, closes-agree}
use Rattle.connection.proofs.Slots.{slots_by, slots-append, slot-set-same, slot-set-other}
use Rattle.history.proofs.Places.{SameRun, TableOk}
use Rattle.std.specs.Prelude.{Option, Some, None}

-- ---- what a caller sees

-- with these frames in the outgoing buffer and these bytes in the reader's
abbrev pub saw : Answer → ℕ → List Sent → List ℕ → Seen
saw a used fs got = record { number = answer_number a; values = answer_values a; used = used; sent = fs; got = got }

-- what an outcome says is seen
abbrev pub saw_of : Outcome → List Sent → Seen
saw_of x fs = saw x.answer x.used fs x.handed

pub nil-of : (l : List ℕ) → length l ≡ 0 → l ≡ []
nil-of [] e = refl
nil-of (x ∷ l) e = absurd (omega arith)

last-header : (c : Connection) (xs : List Change) (h : Header) → (changed_all c (xs ++ header_to h ∷ [])).header ≡ h
last-header c [] h = refl
last-header c (x ∷ xs) h = last-header (changed c x) xs h

-- the header after a call's end is the one that it had in hand
pub ends-header : (c : Connection) (w : Work) (a : Answer) (used : ℕ) (bs : List ℕ) → (changed_all c (ends w a used bs).changes).header ≡ w.header
unfolding ends
ends-header c w a used bs = last-header c w.changes w.header

-- ---- a settling leaves the run

run_by : (s : ChannelSlot) (p : RxPolicy) (n : ℕ) (r : Settled) → Settles s p n r → SameRun s r.slot
run_by s p n r (already z e) = subst (λ (x : Settled). SameRun s x.slot) (sym e) (record { head = refl; more = refl })
run_by s p n r (not-due z f e) = subst (λ (x : Settled). SameRun s x.slot) (sym e) (record { head = refl; more = refl })
run_by s p n r (due k z f e) = subst (λ (x : Settled). SameRun s x.slot) (sym e) (record { head = refl; more = refl })

pub settled-run : (s : ChannelSlot) (p : RxPolicy) (want : ℕ) → s.has_remote ≡ true → SameRun s (settled_of s p want).slot
settled-run s p want k = run_by s p (min want s.buffered) (settled_of s p want) (settles s p want k)

-- sending leaves the run
pub spent-run : (s : ChannelSlot) (p : RxPolicy) (n : ℕ) → SameRun s (spent_of s p n)
unfolding spent_of
spent-run s p n = pick (SameRun s) p.delayed (λ d. record { head = refl; more = refl }) (λ d. record { head = refl; more = refl })

-- delivering leaves the run and the numbers of the channel
pub delivered-same : (s : ChannelSlot) (p : RxPolicy) (n : ℕ) → SameRun s (delivered_of s p n).slot × ((delivered_of s p n).slot.local ≡ s.local)
unfolding delivered_of
delivered-same s p n =
    let P : Settled → Type 0 = λ r. SameRun s r.slot × (r.slot.local ≡ s.local) in
    pick P p.delayed (λ d. pick P s.has_remote (λ k. (record { head = refl; more = refl }, refl)) (λ k. (record { head = refl; more = refl }, refl)))
    (λ d. pick P (leb p.watermark s.buffered) (λ t. (record { head = refl; more = refl }, refl))
    (λ t. pick P s.has_remote (λ k. (record { head = refl; more = refl }, refl)) (λ k. (record { head = refl; more = refl }, refl))))

-- a table stays one where a channel's slot changes in its numbers
pub table-set : (p : RxPolicy) (n : ℕ) (ss : List ChannelSlot) (rx : List ℕ) (j : ℕ) (t : ChannelSlot) → TableOk p n ss rx → (slot_in ss j).filled ≡ true
    → Stays (slot_in ss j) t → SlotOk t p.rx_cap → TableOk p n (set ss j t) rx
table-set p n ss rx j t ok there a sound =
    record {
      size = length-set ss j t ∙ ok.size;
      most = ok.most;
      small = ok.small;
      shares = ok.shares;
      below = λ k f. at k (λ (s : ChannelSlot). s.filled ≡ true → k < n) (λ e f. subst (λ (x : ℕ). x < n) (sym e) (ok.below j there)) (ok.below k) f;
      sound = λ k f. at k (λ (s : ChannelSlot). s.filled ≡ true → SlotOk s p.rx_cap) (λ e f. sound) (ok.sound k) f;
      unfailed = λ k f. at k (λ (s : ChannelSlot). s.filled ≡ true → is_failed s.failed ≡ false) (λ e f. ap is_failed a.failed ∙ ok.unfailed j there) (ok.unfailed k) f;
      opened = λ k f. at k (λ (s : ChannelSlot). s.filled ≡ true → is_opening s.state ≡ false) (λ e f. a.opening (ok.opened j there)) (ok.opened k) f;
      known = λ k f. at k (λ (s : ChannelSlot). s.filled ≡ true → s.has_remote ≡ true) (λ e f. a.known ∙ ok.known j there) (ok.known k) f;
      apart = λ x y f g e. ok.apart x y (sym (same-filled x) ∙ f) (sym (same-filled y) ∙ g) (sym (same-local x) ∙ e ∙ same-local y);
    }
  where
    inside : j < length ss
    inside = let z = ok.size in let y = ok.most in let b = ok.below j there in omega arith

    at : (k : ℕ) (P : ChannelSlot → Type 0) → (k ≡ j → P t) → P (slot_in ss k) → P (slot_in (set ss j t) k)
    at k P f g =
        by-test (eqb k j)
        (λ u. let e = eqb-true k j u in subst P (sym (ap (λ (x : ℕ). slot_in (set ss j t) x) e ∙ slot-set-same ss j t inside)) (f e))
        (λ u. subst P (sym (slot-set-other ss j k t (eqb-false k j u))) g)

    same-filled : (x : ℕ) → (slot_in (set ss j t) x).filled ≡ (slot_in ss x).filled
    same-filled x = at x (λ (s : ChannelSlot). s.filled ≡ (slot_in ss x).filled) (λ e. a.filled ∙ ap (λ (y : ℕ). (slot_in ss y).filled) (sym e)) refl

    same-local : (x : ℕ) → (slot_in (set ss j t) x).local.0 ≡ (slot_in ss x).local.0
    same-local x = at x (λ (s : ChannelSlot). s.local.0 ≡ (slot_in ss x).local.0) (λ e. ap (λ y. y.0) a.local ∙ ap (λ (y : ℕ). (slot_in ss y).local.0) (sym e)) refl

-- as it does where one is settled
pub table-settled : (p : RxPolicy) (n : ℕ) (ss : List ChannelSlot) (rx : List ℕ) (j room : ℕ) → TableOk p n ss rx → (slot_in ss j).filled ≡ true
    → TableOk p n (set ss j (settled_of (slot_in ss j) p room).slot) rx
table-settled p n ss rx j room ok there =
    table-set p n ss rx j (settled_of (slot_in ss j) p room).slot ok there (settled-stays (slot_in ss j) p room)
    (settled-sound (slot_in ss j) p room p.rx_cap (ok.sound j there))

-- ---- a packet, or none, to a call that is on no channel or on another

module _ (p : RxPolicy) (credit : Terms) (most : ℕ) (lim : Limits p credit most) (s : ChannelSlot) (q : List ℕ) (b : Book) (g : Good p credit s q b)
    (d : List Book) (i : ℕ) (received : List ℕ) (mine : Message → Bool) where
  -- a frame refused by 4
  pub damaged-good : (before : ℕ) (m : Message) (bs : List ℕ) → Good p credit s q (damaged_b before m bs b)
  unfolding damaged_b
  damaged-good before m bs = pick (Good p credit s q) (is_wrte m && eqb m.arg1 b.local) (λ t. sent-good p credit s q b g before (length bs)) (λ t. g)

  -- none
  pub stop-good : (a : Answer) (used : ℕ) (fs : List Sent) (got : List ℕ) → Stops a used → Good p credit s q (packet_b d i received mine (saw a used fs got) b)
  unfolding packet_b
  stop-good a used fs got st =
      pick (Good p credit s q) (eqb used 0) (λ t. g)
      (λ t. pick (Good p credit s q) (eqb (answer_number a) 4) (λ u. damaged-good b.acked (header_at received) (payload_at received used))
      (λ u. absurd (eqb-false used 0 t (st.quiet u))))

  -- one that was dispatched
  pub packet-good : (limit : ℕ) (k : Packet) (a : Answer) (fs : List Sent) (got : List ℕ) (t : ChannelSlot) (r : List ℕ) → Says received limit k → eqb (answer_number a) 4 ≡ false → mine (header_at received) ≡ false
      → Good p credit t r (frame_b d i b.acked (header_at received) (body_of received k) (answer_number a) b)
      → Good p credit t r (packet_b d i received mine (saw a (frame_len k) fs got) b)
  unfolding packet_b
  packet-good limit k a fs got t r sy four other h =
      good-by p credit t t r r _ _ refl refl
      (cond-false (eqb (frame_len k) 0) _ _ (ne_eqb (frame_len k) 0 (λ e. omega arith)) ∙ cond-false (eqb (answer_number a) 4) _ _ four ∙ cond-false (mine (header_at received)) _ _ other
      ∙ ap (λ (x : List ℕ). frame_b d i b.acked (header_at received) x (answer_number a) b) (reads-payload received limit k sy)) h

-- an answer after dispatching: 11 where a WRTE did not fit
pub not-four : (fault : Option ChannelFault) (a : Answer) → eqb (answer_number a) 4 ≡ false → eqb (answer_number (unless_fault fault a)) 4 ≡ false
unfolding unless_fault answer_number
not-four None a e = e
not-four (Some RxOverflow) a e = refl
not-four (Some (BadCredit b)) a e = by_number (λ n. eqb n 4 ≡ false) refl refl refl b
not-four (Some UnexpectedCommand) a e = refl

-- nor is that of a credit
pub bad-four : (b : CreditFault) → eqb (answer_number (Refused (CreditRefused b))) 4 ≡ false
unfolding answer_number
bad-four b = by_number (λ n. eqb n 4 ≡ false) refl refl refl b

pub tells-fault : (mine : Bool) (fault : Option ChannelFault) (a : Answer) → is_refused (answer_number a) ≡ false → Tells mine fault (unless_fault fault a)
unfolding unless_fault answer_number
tells-fault mine fault a e =
    record {
      taken = λ m f. ap (λ (x : Option ChannelFault). is_refused (answer_number (unless_fault x a))) f ∙ e;
      over = λ m f. (ap (λ (x : Option ChannelFault). is_refused (answer_number (unless_fault x a))) f, ap (λ (x : Option ChannelFault). eqb (answer_number (unless_fault x a)) 11) f);
    }

-- the other half of it, whatever else the answer would be
pub over-told : (fault : Option ChannelFault) (a : Answer) → fault ≡ Some RxOverflow → (is_refused (answer_number (unless_fault fault a)) ≡ true) × (eqb (answer_number (unless_fault fault a)) 11 ≡ true)
unfolding unless_fault answer_number
over-told fault a e = (ap (λ (x : Option ChannelFault). is_refused (answer_number (unless_fault x a))) e, ap (λ (x : Option ChannelFault). eqb (answer_number (unless_fault x a)) 11) e)

pub fault-apart : None ≡ Some RxOverflow → ⊥
fault-apart e = true≢false (sym (ap faulty e))

pub unless-is : (fault : Option ChannelFault) (f : ChannelFault) → fault ≡ Some f → unless_fault fault Waiting ≡ Refused (fault_refusal f)
unfolding unless_fault
unless-is fault f e = ap (λ (x : Option ChannelFault). unless_fault x Waiting) e

pub waiting-four : eqb (answer_number Waiting) 4 ≡ false
unfolding answer_number
waiting-four = refl

-- these answers are none of 8, 9 and 13, nor 4
pub late-error : (e : ChannelError) → is_early (answer_number (Refused (error_refusal e))) ≡ false
unfolding answer_number
late-error ErrorClosed = refl
late-error (Fault RxOverflow) = refl
late-error (Fault (BadCredit b)) = by_number (λ n. is_early n ≡ false) refl refl refl b
late-error (Fault UnexpectedCommand) = refl

pub late-unless : (f : Option ChannelFault) (a : Answer) → is_early (answer_number a) ≡ false → is_early (answer_number (unless_fault f a)) ≡ false
unfolding unless_fault answer_number
late-unless None a e = e
late-unless (Some RxOverflow) a e = refl
late-unless (Some (BadCredit b)) a e = by_number (λ n. is_early n ≡ false) refl refl refl b
late-unless (Some UnexpectedCommand) a e = refl

pub four-error : (x : ChannelError) → eqb (answer_number (Refused (error_refusal x))) 4 ≡ false
unfolding answer_number
four-error ErrorClosed = refl
four-error (Fault RxOverflow) = refl
four-error (Fault (BadCredit b)) = by_number (λ n. eqb n 4 ≡ false) refl refl refl b
four-error (Fault UnexpectedCommand) = refl

-- ---- the place of one channel in a call

-- the slot at place i after an outcome, beside a book
abbrev pub Fine : RxPolicy → Terms → List ChannelSlot → ℕ → Outcome → Book → Type 0
Fine p credit ss i x b = Good p credit (slot_in (slots_by ss x.changes) i) (run_of x.rx p.rx_cap i (slot_in (slots_by ss x.changes) i)) b

-- what a call's end leaves of the slots: the header is no slot
pub ends-fine : (p : RxPolicy) (credit : Terms) (ss : List ChannelSlot) (i : ℕ) (w : Work) (a : Answer) (used : ℕ) (handed : List ℕ) (b : Book)
    → Good p credit (slot_in (slots_by ss w.changes) i) (run_of w.rx p.rx_cap i (slot_in (slots_by ss w.changes) i)) b → Fine p credit ss i (ends w a used handed) b
unfolding ends
ends-fine p credit ss i w a used handed b g =
    let e : slots_by ss (w.changes ++ header_to w.header ∷ []) ≡ slots_by ss w.changes = slots-append ss w.changes (header_to w.header ∷ []) in
    good-by p credit _ _ _ _ b b (ap (λ (x : List ChannelSlot). slot_in x i) e) (ap (λ (x : List ChannelSlot). run_of w.rx p.rx_cap i (slot_in x i)) e) refl g

-- a packet that is dispatched: the slot at place i, and its book
module _ (h : Header) (ss : List ChannelSlot) (queue : List QueuedOpen) (rx store : List ℕ) (ok : TableOk (policy_of h.negotiated) h.negotiated.config.channels ss rx)
    (credit : Terms) (lim : Limits (policy_of h.negotiated) credit h.negotiated.config.max_payload) (i : ℕ) (there : (slot_in ss i).filled ≡ true)
    (b : Book) (g : Good (policy_of h.negotiated) credit (slot_in ss i) (run_of rx (policy_of h.negotiated).rx_cap i (slot_in ss i)) b) where
  pub acted-good : (d : List Book) → Marked d ss → (received : List ℕ) (k : Packet) → Says received h.negotiated.config.max_payload k → (before : ℕ) → before ≤ b.acked → (a : Answer)
      → Tells (mine_of ss i k) (act_on h ss queue rx store k (body_of received k)).fault a
      → Good (policy_of h.negotiated) credit (slot_in (slots_by ss (act_on h ss queue rx store k (body_of received k)).changes) i)
      (run_of (act_on h ss queue rx store k (body_of received k)).rx (policy_of h.negotiated).rx_cap i (slot_in (slots_by ss (act_on h ss queue rx store k (body_of received k)).changes) i))
      (frame_b d i before (header_at received) (body_of received k) (answer_number a) b)
  acted-good d mk received k sy before early a tells =
      let limit = h.negotiated.config.max_payload in
      let n = h.negotiated.config.channels in
      let p = policy_of h.negotiated in
      let m = header_at received in
      at-good p credit limit lim (slot_in ss i) (run_of rx p.rx_cap i (slot_in ss i)) b g (ok.opened i there) (body_of received k) (body-small received limit k sy) before early d i m a
      (mine_of ss i k) (ends_of n ss i k) _ _ _ (acted-at h ss queue rx store k (body_of received k) ok i there) tells
      (ap (λ (x : Bool). x && eqb m.arg1 b.local) (reads-write received limit k sy)
      ∙ ap (λ (x : ℕ). is_write k.command && eqb x b.local) (reads-arg1 received limit k sy)
      ∙ ap (λ (x : ℕ). is_write k.command && eqb k.arg1 x) g.loc)
      (closes-agree p n ss rx ok d mk i there b received limit k sy g.loc)
