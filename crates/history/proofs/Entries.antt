-- Each call beside the book of a channel that is in the table. Assumes nothing.
use mathlib.Core.Path.{◌≡◌, refl, sym, ap, ap₂, subst, ◌∙◌}
use mathlib.Core.Bool.{Bool, true, false, not, cond, ◌&&◌, true≢false}
use mathlib.Core.List.{List, [], ◌∷◌, ◌++◌, append-nil}
use Prim.Native.Nat.{ℕ, ◌+◌, ◌-◌, ◌*◌, ◌≤◌, ◌<◌}
use native.Mathlib.Omega.{arith}
use lib.Dec.{eqb, ltb, leb}
use lib.ListN.{length, take, drop, set}
use borrow.Author.Tests.{eqb-true, eqb-false, eq-eqb, ne_eqb, lt-ltb}
use Rattle.le.specs.Le.{part}
use lib.Seq.{take-take}
use Rattle.le.proofs.Parts.{by-test, length_part}
use Rattle.rx_store.proofs.Laws.{part-taken}
use Rattle.rx_store.proofs.ShareLaws.{share_in}
use Rattle.config.specs.declared.negotiated.RxPolicy.{RxPolicy}
use Rattle.config.proofs.Laws.{and-true}
use Rattle.protocol.specs.declared.packet.Packet.{Packet}
use Rattle.protocol.specs.declared.message.Message.{Message}
use Rattle.protocol.proofs.RoundTrip.{Says}
use Rattle.protocol.specs.Command.{is_ready, is_close, is_write}
use Rattle.slot.specs.declared.ChannelSlot.{ChannelSlot}
use Rattle.slot.specs.declared.Spending.{Spending}
use Rattle.slot.specs.declared.Settled.{Settled}
use Rattle.slot.specs.declared.ChannelError.{ChannelError}
use Rattle.slot.specs.declared.ids.LocalId.{LocalId}
use Rattle.slot.specs.Ids.{closed_by}
use Rattle.slot.specs.Slot.{leave_of, spent_of, ready_of, closed_slot, delivered_of, emptied_slot, settled_of, took_of, taken_of, take_len, has_data, is_closed, error_of, held_of, SlotOk}
use Rattle.slot.proofs.Stays.{Stays, settled-state, settled-stays}
use Rattle.slot.proofs.Kept.{pick, settled-sound}
use Rattle.slot.proofs.Laws.{cond-true, cond-false, take-held}
use Rattle.state.specs.declared.Header.{Header}
use Rattle.state.specs.Change.{changed_all, Step, Change, slot_to}
use Rattle.incoming.specs.Incoming.{popped, returned}
use Rattle.connection.specs.Frames.{Frame, close_frame, write_frame, frames_bytes, Sent}
use Rattle.table.specs.Table.{slot_in, wanted_by}
use Rattle.rx_store.specs.RxStore.{share_of, front_of}
use Rattle.connection.specs.declared.Answer.{Answer}
use Rattle.connection.specs.declared.Answer.TheVariants.{Done, Waiting, Nothing, Settled as SettledIs, Read, Written, Front as FrontIs, Refused}
use Rattle.connection.specs.declared.Refusal.TheVariants.{ChannelClosed, OutShort, BadCredit as CreditRefused}
use Rattle.connection.specs.Act.{Acted, act_on}
use Rattle.connection.specs.Answer.{answer_number}
use Rattle.table.specs.declared.ChannelId.{ChannelId}
use Rattle.table_dispatch.specs.Dispatch.{named_place}
use Rattle.connection.specs.Calls.{untouched, send_len, send_some, send_by, send_again, write_readied, write_acted, write_act, write_by, write_first, write_on, write_step, fault_refusal, read_direct, read_acted, read_settled, reread, is_direct, read_by, read_taken, read_first, read_step, ids_in, close_step, take_front_by, take_front_step, error_refusal, taken_by, take_step, ack_frames, settled_as, settle_step, is_there, slot_for, Lent, Outcome, Work, begun, then, then_acted, ends, dropped, policy, body_of, frame_len, received_of, unless_fault, dispatch_by, dispatch_step, offer_in, is_offered, reject_on, reject_step, let_go_step}
use Rattle.history.specs.Book.{write_b, is_clse, named_in, ends_other, own_end, accepted_b, sent_b, closed_b, damaged_b, is_wrte, payload_at, read_b, read_used_b, is_refused, handed_b, is_early, settle_b, is_on, Book, acked_b, acks_of, packet_b, frame_b, header_at, never}
use Rattle.history.specs.Demand3.{run_of}
use Rattle.history.proofs.Acts.{frame-none, at-keeps, at-stays, at_named, at-sound, at-fits, at-live, acted-length, acks-own, acks-other, acks_in, acks-append, mine_of, ends_of, acted-acks, acted-at, Tells, good-by}
use Rattle.history.proofs.Good.{Terms, settled-takes, ready-good, spent-good, Leaves, deliver-good, shut-good, settle-empty, acked-drop, took-good, handed-none, Good, Limits, acked-none, carried, settle-good}
use Rattle.history.proofs.Packets.{Stops, Got, stopped, packet, got, Marked, marked-set, reads-write, reads-close, reads-arg1, reads-payload, ready-no-write, write-no-close, reads_end, body-length, body-small}
use Rattle.connection.proofs.Slots.{slots-by, slots-append, slots_length, slots_by, slot-set-same, slot-set-other}
use Rattle.history.proofs.Places.{closed_run, ready-run, At, SameRun, TableOk}
use Rattle.history.proofs.Steps.{fault-apart, unless-is, waiting-four, spent-run, late-error, late-unless, four-error, over-told, table-set, delivered-same, damaged-good, nil-of, settled-run, acted-good, saw, saw_of, stop-good, packet-good, not-four, tells-fault, Fine, ends-fine, bad-four}
use Rattle.slot.specs.declared.ids.RemoteId.{RemoteId}
use Rattle.slot.specs.declared.ChannelFault.{ChannelFault}
use Rattle.std.specs.Prelude.{Option, Some, None, Result, Ok, Err}
use Rattle.credit.specs.declared.CreditFault.{CreditFault}
use Rattle.state.specs.declared.QueuedOpen.{QueuedOpen}

module _ (l : Lent) (credit : Terms) (ok : TableOk (policy l) l.state.header.negotiated.config.channels l.state.slots l.rx)
    (lim : Limits (policy l) credit l.state.header.negotiated.config.max_payload) (i : ℕ) (there : (slot_in l.state.slots i).filled ≡ true)
    (b : Book) (g : Good (policy l) credit (slot_in l.state.slots i) (run_of l.rx (policy l).rx_cap i (slot_in l.state.slots i)) b)
    (books : List Book) (mk : Marked books l.state.slots) where
  abbrev p : RxPolicy
  p = policy l

  abbrev ss : List ChannelSlot
  ss = l.state.slots

  -- ---- dispatch

  -- credit that a call wrote for another channel
  quiet-acks : (x : Outcome) (fs : List Sent) (c : Book) → acks_of b.local fs ≡ acks_in p b.local x.frames → acks_in p b.local x.frames ≡ 0
      → Fine p credit ss i x c → Fine p credit ss i x (acked_b (acks_of b.local fs) c)
  quiet-acks x fs c e z f = acked-none p credit _ _ c f (acks_of b.local fs) (e ∙ z)

  abbrev dispatched : List ℕ → List Sent → Outcome → Book
  dispatched received fs x = acked_b (acks_of b.local fs) (packet_b books i received never (saw_of x fs) b)

  dispatch-by : (received : List ℕ) (fs : List Sent) (r : Result Packet (Answer × ℕ)) → Got received l.state.header.negotiated.config.max_payload r
      → acks_of b.local fs ≡ acks_in p b.local (dispatch_by l (dropped l.state.header) received r).frames
      → Fine p credit ss i (dispatch_by l (dropped l.state.header) received r) (dispatched received fs (dispatch_by l (dropped l.state.header) received r))
  unfolding dispatch_by ends answer_number
  dispatch-by received fs r (stopped a used st) e =
      let x = ends (begun (dropped l.state.header) l) a used [] in
      quiet-acks x fs _ e refl (ends-fine p credit ss i (begun (dropped l.state.header) l) a used [] _ (stop-good p credit _ lim _ _ b g books i received never a used fs [] st))
  dispatch-by received fs r (packet k sy) e =
      let h = dropped l.state.header in
      let act = act_on h ss l.state.queue l.rx l.store k (body_of received k) in
      let w = then_acted (begun h l) act in
      let a = unless_fault act.fault Done in
      let x = ends w a (frame_len k) [] in
      quiet-acks x fs _ e (acted-acks h ss l.state.queue l.rx l.store k (body_of received k) b.local)
      (ends-fine p credit ss i w a (frame_len k) [] _
      (packet-good p credit _ lim _ _ b g books i received never l.state.header.negotiated.config.max_payload k a fs [] _ _ sy (not-four act.fault Done refl) refl
      (acted-good h ss l.state.queue l.rx l.store ok credit lim i there b g books mk received k sy b.acked (omega arith) a (tells-fault (mine_of ss i k) act.fault Done refl))))

  pub dispatch-good : (received : List ℕ) (fs : List Sent) → acks_of b.local fs ≡ acks_in p b.local (dispatch_step l received).frames
      → Fine p credit ss i (dispatch_step l received) (dispatched received fs (dispatch_step l received))
  unfolding dispatch_step
  dispatch-good received fs e = dispatch-by received fs (received_of l received) (got l received) e

  -- ---- which channel a call is on

  -- the channel that a call names: this one, another one in the table, or none
  pub data On (ch : ChannelId) : Type 0 where
    this : ch.slot ≡ i → is_there l ch ≡ true → is_on i b ch ≡ true → On ch
    another : (i ≡ ch.slot → ⊥) → is_there l ch ≡ true → (slot_in ss ch.slot).filled ≡ true → ((slot_in ss ch.slot).local.0 ≡ b.local → ⊥) → is_on i b ch ≡ false → On ch
    none : is_there l ch ≡ false → is_on i b ch ≡ false → On ch

  pub on : (ch : ChannelId) → On ch
  unfolding is_there wanted_by
  on ch =
      let n = l.state.header.negotiated.config.channels in
      let s = slot_in ss ch.slot in
      by-test (is_there l ch)
      (λ t. let t1 = and-true (ltb ch.slot n) (s.filled && eqb s.local.0 ch.local.0) t in
      let t2 = and-true s.filled (eqb s.local.0 ch.local.0) t1.1 in
      let e = eqb-true s.local.0 ch.local.0 t2.1 in
      by-test (eqb ch.slot i)
      (λ u. let d = eqb-true ch.slot i u in
      this d t (ap (λ (x : Bool). x && eqb b.local ch.local.0) u ∙ eq-eqb _ _ (g.loc ∙ ap (λ (x : ℕ). (slot_in ss x).local.0) (sym d) ∙ e)))
      (λ u. another (λ d. eqb-false ch.slot i u (sym d)) t t2.0
      (λ d. eqb-false ch.slot i u (ok.apart ch.slot i t2.0 there (d ∙ g.loc)))
      (ap (λ (x : Bool). x && eqb b.local ch.local.0) u)))
      (λ t. none t
      (by-test (is_on i b ch)
      (λ v. let v1 = and-true (eqb ch.slot i) (eqb b.local ch.local.0) v in
      let d = eqb-true ch.slot i v1.0 in
      let e = eqb-true b.local ch.local.0 v1.1 in
      let y : is_there l ch ≡ true =
      ap (λ (x : Bool). x && (s.filled && eqb s.local.0 ch.local.0)) (lt-ltb ch.slot n (subst (λ (x : ℕ). x < n) (sym d) (ok.below i there)))
      ∙ ap (λ (x : Bool). x && eqb s.local.0 ch.local.0) (ap (λ (x : ℕ). (slot_in ss x).filled) d ∙ there)
      ∙ eq-eqb _ _ (ap (λ (x : ℕ). (slot_in ss x).local.0) d ∙ sym g.loc ∙ e) in
      absurd (true≢false (sym y ∙ t)))
      (λ v. v)))

  -- a channel in the table has the number that it is named by
  there-local : (ch : ChannelId) → is_there l ch ≡ true → (slot_in ss ch.slot).local.0 ≡ ch.local.0
  unfolding is_there wanted_by
  there-local ch t =
      let s = slot_in ss ch.slot in
      let t1 = and-true (ltb ch.slot l.state.header.negotiated.config.channels) (s.filled && eqb s.local.0 ch.local.0) t in
      eqb-true s.local.0 ch.local.0 (and-true s.filled (eqb s.local.0 ch.local.0) t1.1).1

  none-acks : acks_in p b.local (ends (begun (dropped l.state.header) l) (Refused ChannelClosed) 0 []).frames ≡ 0
  unfolding ends
  none-acks = refl

  -- and uses nothing
  none-taken : (ch : ChannelId) (fs : List Sent) (received : List ℕ)
      → Good p credit (slot_in ss i) (run_of l.rx p.rx_cap i (slot_in ss i))
      (packet_b books i received (ends_other books ch) (saw_of (ends (begun (dropped l.state.header) l) (Refused ChannelClosed) 0 []) fs) b)
  unfolding packet_b ends
  none-taken ch fs received = g

  -- a call on no channel leaves the slots
  none-fine : (a : Answer) (c : Book) → Good p credit (slot_in ss i) (run_of l.rx p.rx_cap i (slot_in ss i)) c → Fine p credit ss i (ends (begun (dropped l.state.header) l) a 0 []) c
  none-fine a c f = ends-fine p credit ss i (begun (dropped l.state.header) l) a 0 [] c f

  -- a slot stored at the call's place: this one's, or another's
  good-this : (j : ℕ) (t : ChannelSlot) (r : List ℕ) (c : Book) → j ≡ i → Good p credit t (run_of r p.rx_cap i t) c
      → Good p credit (slot_in (set ss j t) i) (run_of r p.rx_cap i (slot_in (set ss j t) i)) c
  good-this j t r c e f =
      let z = ok.size in
      let y = ok.most in
      let h = ok.below i there in
      let u : slot_in (set ss j t) i ≡ t = ap (λ (x : ℕ). slot_in (set ss x t) i) e ∙ slot-set-same ss i t (omega arith) in
      good-by p credit t _ _ _ c c u (ap (run_of r p.rx_cap i) u) refl f

  good-other : (j : ℕ) (t : ChannelSlot) (r : List ℕ) (c : Book) → (i ≡ j → ⊥) → Good p credit (slot_in ss i) (run_of r p.rx_cap i (slot_in ss i)) c
      → Good p credit (slot_in (set ss j t) i) (run_of r p.rx_cap i (slot_in (set ss j t) i)) c
  good-other j t r c e f =
      let u = slot-set-other ss j i t e in
      good-by p credit (slot_in ss i) _ _ _ c c u (ap (run_of r p.rx_cap i) u) refl f

  -- the run stays where its numbers do
  run-stays : (t : ChannelSlot) (c : Book) → SameRun (slot_in ss i) t → Good p credit t (run_of l.rx p.rx_cap i (slot_in ss i)) c → Good p credit t (run_of l.rx p.rx_cap i t) c
  unfolding run_of
  run-stays t c w f =
      good-by p credit t t _ _ c c refl
      (ap (λ (x : ℕ). part (share_of l.rx p.rx_cap i) x t.buffered) w.head ∙ ap (part (share_of l.rx p.rx_cap i) (slot_in ss i).head) w.more) refl f

  -- ---- settle

  abbrev settling : Settled → ChannelId → ℕ → Work
  settling r ch used = then (begun (dropped l.state.header) l) (slot_to ch.slot r.slot ∷ []) (ack_frames r.slot r.ack)

  settled-slot : (j want : ℕ) → j ≡ i → Good p credit (settled_of (slot_in ss j) p want).slot (run_of l.rx p.rx_cap i (settled_of (slot_in ss j) p want).slot) (acked_b (carried p (settled_of (slot_in ss j) p want).ack) (settle_b p want b))
  settled-slot j want e =
      subst (λ (x : ℕ). Good p credit (settled_of (slot_in ss x) p want).slot (run_of l.rx p.rx_cap i (settled_of (slot_in ss x) p want).slot) (acked_b (carried p (settled_of (slot_in ss x) p want).ack) (settle_b p want b))) (sym e)
      (run-stays _ _ (settled-run (slot_in ss i) p want g.known) (settle-good p credit (slot_in ss i) _ b want g))

  settled-local : (j want : ℕ) → j ≡ i → (settled_of (slot_in ss j) p want).slot.local.0 ≡ b.local
  settled-local j want e =
      ap (λ (x : ℕ). (settled_of (slot_in ss x) p want).slot.local.0) e ∙ ap (λ x. x.0) (settled-stays (slot_in ss i) p want).local ∙ sym g.loc

  module _ (ch : ChannelId) (want : ℕ) (fs : List Sent) where
    abbrev settles-fine : Outcome → Type 0
    settles-fine x =
        acks_of b.local fs ≡ acks_in p b.local x.frames
        → Fine p credit ss i x (acked_b (acks_of b.local fs) (cond (is_on i b ch && not (is_early (answer_number x.answer))) (settle_b p want b) b))

    settle-by : On ch → settles-fine (settle_step l ch want)
    unfolding settle_step settled_as slot_for ends answer_number
    settle-by (this d t o) =
        subst settles-fine (sym (cond-true (is_there l ch) _ _ t))
        (λ e.
        let r = settled_of (slot_in ss ch.slot) p want in
        ends-fine p credit ss i (settling r ch 0) (SettledIs r.ack) 0 [] _
        (good-this ch.slot r.slot l.rx _ d
        (good-by p credit _ _ _ _ (acked_b (carried p r.ack) (settle_b p want b)) _ refl refl
        (ap (λ (x : Bool). acked_b (acks_of b.local fs) (cond (x && true) (settle_b p want b) b)) o
        ∙ ap (λ (k : ℕ). acked_b k (settle_b p want b)) (e ∙ acks-own p b.local r.slot r.ack (settled-local ch.slot want d)))
        (settled-slot ch.slot want d))))
    settle-by (another d t f ne o) =
        subst settles-fine (sym (cond-true (is_there l ch) _ _ t))
        (λ e.
        let r = settled_of (slot_in ss ch.slot) p want in
        let a = settled-stays (slot_in ss ch.slot) p want in
        let z = acks-other p b.local r.slot r.ack (λ x. ne (sym (ap (λ y. y.0) a.local) ∙ x)) in
        quiet-acks (settled_as l ch r) fs _ e z
        (ends-fine p credit ss i (settling r ch 0) (SettledIs r.ack) 0 [] _
        (good-other ch.slot r.slot l.rx _ d (good-by p credit _ _ _ _ b _ refl refl (ap (λ (x : Bool). cond (x && true) (settle_b p want b) b) o) g))))
    settle-by (none t o) =
        subst settles-fine (sym (cond-false (is_there l ch) _ _ t))
        (λ e. quiet-acks (ends (begun (dropped l.state.header) l) (Refused ChannelClosed) 0 []) fs _ e refl
        (none-fine (Refused ChannelClosed) _ (good-by p credit _ _ _ _ b _ refl refl (ap (λ (x : Bool). cond (x && true) (settle_b p want b) b) o) g)))

    pub settle-call : settles-fine (settle_step l ch want)
    settle-call = settle-by (on ch)

  -- ---- take

  -- n bytes from the front of a run: what is handed over, and what stays
  module _ (rx : List ℕ) (len : length rx ≡ length l.rx) (s : ChannelSlot) (sound : SlotOk s p.rx_cap) (n : ℕ) (h : n ≤ s.buffered) where
    share-long : length (share_of rx p.rx_cap i) ≡ 2 * p.rx_cap
    unfolding share_of
    share-long =
        length_part rx (i * (2 * p.rx_cap)) (2 * p.rx_cap) (share_in i l.state.header.negotiated.config.channels (2 * p.rx_cap) (length rx) (ok.below i there) (let z = ok.shares in omega arith))

    front-is : front_of rx p.rx_cap i s.head n ≡ take n (run_of rx p.rx_cap i s)
    unfolding front_of run_of part
    front-is = sym (take-take n s.buffered (drop s.head (share_of rx p.rx_cap i)) h)

    rest-is : run_of rx p.rx_cap i (took_of s n) ≡ drop n (run_of rx p.rx_cap i s)
    unfolding run_of took_of
    rest-is = let e = share-long in let r = sound.run_fits in part-taken (share_of rx p.rx_cap i) s.head s.buffered n h (omega arith)

    -- taken, beside the book
    taken-slot : (c : Book) → Good p credit s (run_of rx p.rx_cap i s) c → (credit.reads ≡ true → p.delayed ≡ true → c.closed ≡ false → n ≤ s.settled)
        → Good p credit (took_of s n) (run_of rx p.rx_cap i (took_of s n)) (handed_b (front_of rx p.rx_cap i s.head n) c)
    taken-slot c f most = good-by p credit _ _ _ _ _ _ refl rest-is (ap (λ (x : List ℕ). handed_b x c) front-is) (took-good p credit s _ c f n most)

  -- the channel at this place, as a caller names it
  abbrev me : LocalId → ChannelId
  me local = record { slot = i; local = local }

  is-me : (ch : ChannelId) → ch.slot ≡ i → ch ≡ me ch.local
  is-me ch d = ap (λ (x : ℕ). record { slot = x; local = ch.local }) d

  module _ (room : ℕ) where
    abbrev takes-fine : ChannelId → Outcome → Type 0
    takes-fine ch x = Fine p credit ss i x (cond (is_on i b ch) (handed_b x.handed b) b)

    take-me : (local : LocalId) → is_on i b (me local) ≡ true → (credit.reads ≡ true → ⊥) → takes-fine (me local) (taken_by l (me local) (slot_in ss i) (begun (dropped l.state.header) l) (taken_of (slot_in ss i) room))
    unfolding taken_of taken_by ends
    take-me local o only =
        let s = slot_in ss i in
        let w = begun (dropped l.state.header) l in
        let P : Result (Option (ChannelSlot × ℕ)) ChannelError → Type 0 = λ t. takes-fine (me local) (taken_by l (me local) s w t) in
        let n = take_len s room in
        let sound = ok.sound i there in
        let book : (bs : List ℕ) → cond (is_on i b (me local)) (handed_b bs b) b ≡ handed_b bs b = λ bs. cond-true (is_on i b (me local)) _ _ o in
        pick P (has_data s)
        (λ d. ends-fine p credit ss i (then w (slot_to i (took_of s n) ∷ []) []) (Read n) 0 (front_of l.rx p.rx_cap i s.head n) _
        (good-this i (took_of s n) l.rx _ refl
        (good-by p credit _ _ _ _ _ _ refl refl (book (front_of l.rx p.rx_cap i s.head n)) (taken-slot l.rx refl s sound n (take-held s room sound.settled-buffered) b g (λ t d c. absurd (only t))))))
        (λ d. pick P (is_closed s.state)
        (λ c. ends-fine p credit ss i w (Refused (error_refusal (error_of s.failed))) 0 [] _ (good-by p credit _ _ _ _ _ _ refl refl (book []) (handed-none p credit _ _ b g)))
        (λ c. ends-fine p credit ss i w Nothing 0 [] _ (good-by p credit _ _ _ _ _ _ refl refl (book []) (handed-none p credit _ _ b g))))

    take-else : (ch : ChannelId) (s : ChannelSlot) (t : Result (Option (ChannelSlot × ℕ)) ChannelError) → (i ≡ ch.slot → ⊥) → is_on i b ch ≡ false → takes-fine ch (taken_by l ch s (begun (dropped l.state.header) l) t)
    unfolding taken_by ends
    take-else ch s (Ok (Some (t, n))) d o =
        ends-fine p credit ss i (then (begun (dropped l.state.header) l) (slot_to ch.slot t ∷ []) []) (Read n) 0 (front_of l.rx p.rx_cap ch.slot s.head n) _
        (good-other ch.slot t l.rx _ d (good-by p credit _ _ _ _ b _ refl refl (cond-false (is_on i b ch) _ _ o) g))
    take-else ch s (Ok None) d o = none-fine Nothing _ (good-by p credit _ _ _ _ b _ refl refl (cond-false (is_on i b ch) _ _ o) g)
    take-else ch s (Err e) d o = none-fine (Refused (error_refusal e)) _ (good-by p credit _ _ _ _ b _ refl refl (cond-false (is_on i b ch) _ _ o) g)

    take_by : (ch : ChannelId) → On ch → (is_on i b ch ≡ true → credit.reads ≡ true → ⊥) → takes-fine ch (take_step l ch room)
    unfolding take_step slot_for ends
    take_by ch (this d t o) only =
        subst (takes-fine ch) (sym (cond-true (is_there l ch) _ _ t))
        (subst (λ (x : ChannelId). takes-fine x (taken_by l x (slot_in ss x.slot) (begun (dropped l.state.header) l) (taken_of (slot_in ss x.slot) room))) (sym (is-me ch d))
        (take-me ch.local (ap (is_on i b) (sym (is-me ch d)) ∙ o) (only o)))
    take_by ch (another d t f ne o) only =
        subst (takes-fine ch) (sym (cond-true (is_there l ch) _ _ t)) (take-else ch (slot_in ss ch.slot) (taken_of (slot_in ss ch.slot) room) d o)
    take_by ch (none t o) only =
        subst (takes-fine ch) (sym (cond-false (is_there l ch) _ _ t)) (none-fine (Refused ChannelClosed) _ (good-by p credit _ _ _ _ b _ refl refl (cond-false (is_on i b ch) _ _ o) g))

    pub take-call : (ch : ChannelId) → (is_on i b ch ≡ true → credit.reads ≡ true → ⊥) → takes-fine ch (take_step l ch room)
    take-call ch only = take_by ch (on ch) only

  -- ---- close

  abbrev closing : ChannelId → Work
  closing ch = then (begun (dropped l.state.header) l) (slot_to ch.slot (emptied_slot (slot_for l ch)) ∷ []) (close_frame (ids_in (slot_for l ch)) ∷ [])

  -- on this channel: its slot is empty but for the total, and the book has the channel no more
  pub close-this : (ch : ChannelId) → On ch → is_on i b ch ≡ true → (slot_in (slots_by ss (close_step l ch).changes) i ≡ emptied_slot (slot_in ss i)) × (is_refused (answer_number (close_step l ch).answer) ≡ false)
  unfolding close_step slot_for ends answer_number
  close-this ch (this d t o) _ =
      let C : Outcome → Type 0 = λ x. (slot_in (slots_by ss x.changes) i ≡ emptied_slot (slot_in ss i)) × (is_refused (answer_number x.answer) ≡ false) in
      let z = ok.size in
      let y = ok.most in
      let h = ok.below i there in
      subst C
      (sym (cond-true (is_there l ch && (slot_in ss ch.slot).has_remote) _ _ (ap (λ (x : Bool). x && (slot_in ss ch.slot).has_remote) t ∙ ap (λ (x : ℕ). (slot_in ss x).has_remote) d ∙ g.known)))
      (ap (λ (x : ℕ). slot_in (set ss x (emptied_slot (slot_in ss x))) i) d ∙ slot-set-same ss i (emptied_slot (slot_in ss i)) (omega arith), refl)
  close-this ch (another d t f ne o) e = absurd (true≢false (sym e ∙ o))
  close-this ch (none t o) e = absurd (true≢false (sym e ∙ o))

  -- on another, or on none
  pub close-else : (ch : ChannelId) → On ch → is_on i b ch ≡ false → Fine p credit ss i (close_step l ch) b
  unfolding close_step ends
  close-else ch (this d t o) e = absurd (true≢false (sym o ∙ e))
  close-else ch (another d t f ne o) e =
      pick (λ (x : Outcome). Fine p credit ss i x b) (is_there l ch && (slot_for l ch).has_remote)
      (λ u. ends-fine p credit ss i (closing ch) Done 0 [] b (good-other ch.slot (emptied_slot (slot_for l ch)) l.rx b d g))
      (λ u. none-fine (Refused ChannelClosed) b g)
  close-else ch (none t o) e =
      subst (λ (x : Outcome). Fine p credit ss i x b) (sym (cond-false (is_there l ch && (slot_for l ch).has_remote) _ _ (ap (λ (x : Bool). x && (slot_for l ch).has_remote) t)))
      (none-fine (Refused ChannelClosed) b g)

  -- ---- take_front

  front_by : (h : Header) (xs : List Change) (f : Option (QueuedOpen × Header)) → slots_by ss xs ≡ ss → Fine p credit ss i (take_front_by l h xs f) b
  unfolding take_front_by ends
  front_by h xs (Some (q, less)) e =
      ends-fine p credit ss i (then (begun less l) xs []) (FrontIs q.remote q.credit (q.share * h.negotiated.config.max_payload) q.length) 0 [] b
      (good-by p credit _ _ _ _ b b (ap (λ (x : List ChannelSlot). slot_in x i) e) (ap (λ (x : List ChannelSlot). run_of l.rx p.rx_cap i (slot_in x i)) e) refl g)
  front_by h xs None e = ends-fine p credit ss i (begun h l) Nothing 0 [] b g

  pub front-call : Fine p credit ss i (take_front_step l) b
  unfolding take_front_step popped
  front-call =
      let h = dropped l.state.header in
      front_by h (popped h l.state.queue).changes (popped h l.state.queue).result
      (pick (λ (x : Step (Option (QueuedOpen × Header))). slots_by ss x.changes ≡ ss) (eqb h.queued 0) (λ t. refl) (λ t. refl))

  -- ---- reject, let go

  pub reject-on : (remote : RemoteId) (a : Answer) → Fine p credit ss i (reject_on l (dropped l.state.header) remote a) b
  unfolding reject_on
  reject-on remote a = ends-fine p credit ss i (then (begun (dropped l.state.header) l) [] (close_frame (record { local = record { 0 = 0 }; remote = remote }) ∷ [])) a 0 [] b g

  pub reject-call : Fine p credit ss i (reject_step l) b
  unfolding reject_step
  reject-call = pick (λ (x : Outcome). Fine p credit ss i x b) (is_offered l) (λ t. reject-on (offer_in l).remote Done) (λ t. none-fine Nothing b g)

  pub let-go-call : Fine p credit ss i (let_go_step l) b
  unfolding let_go_step returned
  let-go-call =
      let back = returned (dropped l.state.header) l.state.queue (offer_in l) in
      pick (λ (x : Outcome). Fine p credit ss i x b) (is_offered l) (λ t. ends-fine p credit ss i (then (begun back.result l) back.changes []) Done 0 [] b g) (λ t. none-fine Nothing b g)

  -- ---- read, on this channel

  module _ (room : ℕ) (received : List ℕ) (fs : List Sent) (local : LocalId) where
    abbrev r1 : Settled
    r1 = settled_of (slot_in ss i) p room

    abbrev s1 : ChannelSlot
    s1 = (settled_of (slot_in ss i) p room).slot

    abbrev q1 : List ℕ
    q1 = run_of l.rx p.rx_cap i (settled_of (slot_in ss i) p room).slot

    abbrev B0 : Book
    B0 = settle_b p room b

    alike1 : Stays (slot_in ss i) s1
    alike1 = settled-stays (slot_in ss i) p room

    sound1 : SlotOk s1 p.rx_cap
    sound1 = settled-sound (slot_in ss i) p room p.rx_cap (ok.sound i there)

    local1 : s1.local.0 ≡ b.local
    local1 = settled-local i room refl

    good1 : Good p credit s1 q1 (acked_b (carried p r1.ack) B0)
    good1 = settled-slot i room refl

    acks1 : acks_in p b.local (ack_frames s1 r1.ack) ≡ carried p r1.ack
    acks1 = acks-own p b.local s1 r1.ack local1

    -- what the first settling wrote
    abbrev w1 : Work
    w1 = then (begun (dropped l.state.header) l) [] (ack_frames s1 r1.ack)

    abbrev reads-fine : Outcome → Type 0
    reads-fine x = acks_of b.local fs ≡ acks_in p b.local x.frames → Fine p credit ss i x (acked_b (acks_of b.local fs) (read_b p books i room received (saw_of x fs) b))

    -- the book of a read that used nothing
    unused-book : (a : Answer) (bs : List ℕ) → is_early (answer_number a) ≡ false → read_b p books i room received (saw a 0 fs bs) b ≡ handed_b bs B0
    unfolding read_b
    unused-book a bs e = cond-false (is_early (answer_number a)) _ _ e

    -- and of one that used a packet
    used-book : (a : Answer) (used : ℕ) (bs : List ℕ) → is_early (answer_number a) ≡ false → (used ≡ 0 → ⊥)
        → read_b p books i room received (saw a used fs bs) b ≡ read_used_b p books i b.acked room received (saw a used fs bs) B0
    unfolding read_b
    used-book a used bs e ne = cond-false (is_early (answer_number a)) _ _ e ∙ cond-false (eqb used 0) _ _ (ne_eqb used 0 ne)

    -- a slot stored at the end of a read that used nothing
    unused-fine : (t : ChannelSlot) (a : Answer) (bs : List ℕ) → is_early (answer_number a) ≡ false → Good p credit t (run_of l.rx p.rx_cap i t) (handed_b bs (acked_b (carried p r1.ack) B0))
        → reads-fine (ends (then w1 (slot_to i t ∷ []) []) a 0 bs)
    unfolding ends
    unused-fine t a bs late f e =
        let k : acks_of b.local fs ≡ carried p r1.ack = e ∙ ap (acks_in p b.local) (append-nil (ack_frames s1 r1.ack)) ∙ acks1 in
        ends-fine p credit ss i (then w1 (slot_to i t ∷ []) []) a 0 bs _
        (good-this i t l.rx _ refl (good-by p credit _ _ _ _ _ _ refl refl (ap (acked_b (acks_of b.local fs)) (unused-book a bs late) ∙ ap (λ (x : ℕ). handed_b bs (acked_b x B0)) k) f))

    -- data at once
    read-data : (n : ℕ) → n ≡ take_len s1 room → reads-fine (ends (then w1 (slot_to i (took_of s1 n) ∷ []) []) (Read n) 0 (front_of l.rx p.rx_cap i s1.head n))
    unfolding answer_number
    read-data n e =
        unused-fine (took_of s1 n) (Read n) (front_of l.rx p.rx_cap i s1.head n) refl
        (taken-slot l.rx refl s1 sound1 n (subst (λ (x : ℕ). x ≤ s1.buffered) (sym e) (take-held s1 room sound1.settled-buffered)) _ good1
        (λ t d c. subst (λ (x : ℕ). x ≤ s1.settled) (sym e) (settled-takes p credit (slot_in ss i) _ b room g d c)))

    -- an answer with nothing handed over
    read_plain : (a : Answer) → is_early (answer_number a) ≡ false → reads-fine (ends (then w1 (slot_to i s1 ∷ []) []) a 0 [])
    read_plain a late = unused-fine s1 a [] late (handed-none p credit s1 q1 _ good1)

    damaged-book : (a : Answer) (used : ℕ) → eqb (answer_number a) 4 ≡ true
        → read_used_b p books i b.acked room received (saw a used fs []) B0 ≡ damaged_b b.acked (header_at received) (payload_at received used) B0
    unfolding read_used_b
    damaged-book a used u = cond-true (eqb (answer_number a) 4) _ _ u

    -- with nothing buffered, a packet is looked at
    module _ (nodata : has_data s1 ≡ false) (live : is_closed s1.state ≡ false) where
      none1 : s1.buffered ≡ 0
      unfolding has_data
      none1 =
          eqb-true s1.buffered 0
          (by-test (eqb s1.buffered 0) (λ t. t)
          (λ t. absurd (true≢false (sym (cond-true s1.has_remote _ _ (alike1.known ∙ g.known) ∙ ap not t) ∙ nodata))))

      zero1 : carried p r1.ack ≡ 0
      zero1 = settle-empty (slot_in ss i) p room g.known (sym (settled-run (slot_in ss i) p room g.known).more ∙ none1)

      good0 : Good p credit s1 q1 B0
      good0 = acked-drop p credit s1 q1 B0 _ zero1 good1

      nil1 : q1 ≡ []
      nil1 = nil-of q1 (good0.run ∙ none1)

      -- no credit but that of `more`
      acks2 : (more : List Frame) → acks_in p b.local (ack_frames s1 r1.ack ++ more) ≡ acks_in p b.local more
      acks2 more = let e = acks-append p b.local (ack_frames s1 r1.ack) more in let a = acks1 in let z = zero1 in omega arith

      read-stop : (a : Answer) (used : ℕ) → Stops a used → reads-fine (ends (then w1 (slot_to i s1 ∷ []) []) a used [])
      unfolding ends
      read-stop a used st e =
          by-test (eqb used 0)
          (λ t. let z = eqb-true used 0 t in
          subst (λ (x : ℕ). Fine p credit ss i (ends (then w1 (slot_to i s1 ∷ []) []) a x []) (acked_b (acks_of b.local fs) (read_b p books i room received (saw_of (ends (then w1 (slot_to i s1 ∷ []) []) a x []) fs) b))) (sym z)
          (read_plain a st.late e))
          (λ t. let ne = eqb-false used 0 t in
          by-test (eqb (answer_number a) 4)
          (λ u. ends-fine p credit ss i (then w1 (slot_to i s1 ∷ []) []) a used [] _
          (good-this i s1 l.rx _ refl
          (good-by p credit _ _ _ _ _ _ refl refl (ap (acked_b (acks_of b.local fs)) (used-book a used [] st.late ne ∙ damaged-book a used u))
          (acked-none p credit s1 q1 _ (damaged-good p credit _ lim s1 q1 B0 good0 books i received never b.acked (header_at received) (payload_at received used)) (acks_of b.local fs) (e ∙ acks2 [])))))
          (λ u. absurd (ne (st.quiet u))))

      -- packets
      module _ (k : Packet) (sy : Says received l.state.header.negotiated.config.max_payload k) where
        abbrev limit : ℕ
        limit = l.state.header.negotiated.config.max_payload

        abbrev m : Message
        m = header_at received

        abbrev body : List ℕ
        body = body_of received k

        used-some : frame_len k ≡ 0 → ⊥
        used-some e = omega arith

        direct-test : (is_wrte m && eqb m.arg1 b.local && leb (frame_len k - 24) room) ≡ is_direct s1 room k
        unfolding is_direct
        direct-test =
            let e : frame_len k - 24 ≡ k.data_length = omega arith in
            ap (λ (x : Bool). x && eqb m.arg1 b.local && leb (frame_len k - 24) room) (reads-write received limit k sy)
            ∙ ap (λ (x : ℕ). is_write k.command && eqb x b.local && leb (frame_len k - 24) room) (reads-arg1 received limit k sy)
            ∙ ap (λ (x : ℕ). is_write k.command && eqb k.arg1 x && leb (frame_len k - 24) room) (sym local1)
            ∙ ap (λ (x : ℕ). is_write k.command && eqb k.arg1 s1.local.0 && leb x room) e

        -- straight to the reader
        abbrev delivered : Settled
        delivered = delivered_of s1 p k.data_length

        direct-book : is_direct s1 room k ≡ true → read_used_b p books i b.acked room received (saw (Read (length body)) (frame_len k) fs body) B0
            ≡ handed_b body (accepted_b body (sent_b b.acked (length body) B0))
        unfolding read_used_b answer_number
        direct-book t =
            cond-true (is_wrte m && eqb m.arg1 b.local && leb (frame_len k - 24) room) _ _ (direct-test ∙ t)
            ∙ ap (λ (x : List ℕ). handed_b body (accepted_b x (sent_b b.acked (length x) B0))) (reads-payload received limit k sy)

        delivered-good : Good p credit delivered.slot (run_of l.rx p.rx_cap i delivered.slot) (acked_b (carried p delivered.ack) (handed_b body (accepted_b body (sent_b b.acked (length body) B0))))
        unfolding run_of
        delivered-good =
            let w = (delivered-same s1 p k.data_length).0 in
            good-by p credit _ _ q1 _ _ _ refl
            (ap (λ (x : ℕ). part (share_of l.rx p.rx_cap i) x delivered.slot.buffered) w.head ∙ ap (part (share_of l.rx p.rx_cap i) s1.head) w.more) refl
            (subst (λ (x : ℕ). Good p credit (delivered_of s1 p x).slot q1 (acked_b (carried p (delivered_of s1 p x).ack) (handed_b body (accepted_b body (sent_b b.acked (length body) B0))))) (body-length received limit k sy)
            (deliver-good p credit s1 q1 B0 good0 b.acked body nil1))

        read-direct : is_direct s1 room k ≡ true → reads-fine (read_direct (me local) (frame_len k) w1 body delivered)
        unfolding read_direct ends answer_number
        read-direct t e =
            let c : acks_of b.local fs ≡ carried p delivered.ack =
            e ∙ acks2 (ack_frames delivered.slot delivered.ack)
            ∙ acks-own p b.local delivered.slot delivered.ack (ap (λ x. x.0) (delivered-same s1 p k.data_length).1 ∙ local1) in
            ends-fine p credit ss i (then w1 (slot_to i delivered.slot ∷ []) (ack_frames delivered.slot delivered.ack)) (Read (length body)) (frame_len k) body _
            (good-this i delivered.slot l.rx _ refl
            (good-by p credit _ _ _ _ _ _ refl refl (ap (acked_b (acks_of b.local fs)) (used-book (Read (length body)) (frame_len k) body refl used-some ∙ direct-book t) ∙ ap (λ (x : ℕ). acked_b x (handed_b body (accepted_b body (sent_b b.acked (length body) B0)))) c) delivered-good))

        -- its own end
        end_test : own_end b.local b.remote m ≡ closed_by (ids_in s1) k
        end_test = reads_end received limit k sy b.local b.remote (ids_in s1) (sym local1) (g.rem ∙ sym (ap (λ x. x.0) alike1.remote))

        end-book : is_direct s1 room k ≡ false → closed_by (ids_in s1) k ≡ true → read_used_b p books i b.acked room received (saw (Refused ChannelClosed) (frame_len k) fs []) B0 ≡ closed_b B0
        unfolding read_used_b answer_number
        end-book t u =
            cond-false (is_wrte m && eqb m.arg1 b.local && leb (frame_len k - 24) room) _ _ (direct-test ∙ t) ∙ cond-true (own_end b.local b.remote m) _ _ (end_test ∙ u)

        read-end : is_direct s1 room k ≡ false → closed_by (ids_in s1) k ≡ true → reads-fine (ends (then w1 (slot_to i (closed_slot s1) ∷ []) []) (Refused ChannelClosed) (frame_len k) [])
        unfolding ends answer_number run_of closed_slot
        read-end t u e =
            ends-fine p credit ss i (then w1 (slot_to i (closed_slot s1) ∷ []) []) (Refused ChannelClosed) (frame_len k) [] _
            (good-this i (closed_slot s1) l.rx _ refl
            (good-by p credit (closed_slot s1) _ q1 _ _ _ refl refl (ap (acked_b (acks_of b.local fs)) (used-book (Refused ChannelClosed) (frame_len k) [] refl used-some ∙ end-book t u))
            (acked-none p credit _ _ _ (shut-good p credit s1 q1 B0 good0) (acks_of b.local fs) (e ∙ acks2 []))))

        -- any other packet: dispatched, then settled and taken again
        abbrev ss1 : List ChannelSlot
        ss1 = set ss i s1

        u1 : slot_in ss1 i ≡ s1
        u1 = let z = ok.size in let y = ok.most in let h = ok.below i there in slot-set-same ss i s1 (omega arith)

        ok1 : TableOk p l.state.header.negotiated.config.channels ss1 l.rx
        ok1 = table-set p l.state.header.negotiated.config.channels ss l.rx i s1 ok there alike1 sound1

        there1 : (slot_in ss1 i).filled ≡ true
        there1 = ap (λ (x : ChannelSlot). x.filled) u1 ∙ alike1.filled ∙ there

        marked1 : Marked books ss1
        marked1 = marked-set books ss i s1 mk alike1.filled alike1.remote (ap is_closed (settled-state (slot_in ss i) p room))

        abbrev act : Acted
        act = act_on (dropped l.state.header) ss1 l.state.queue l.rx l.store k body

        abbrev ts : List ChannelSlot
        ts = slots_by ss1 act.changes

        good-in : Good p credit (slot_in ss1 i) (run_of l.rx p.rx_cap i (slot_in ss1 i)) B0
        good-in = good-by p credit s1 _ q1 _ B0 B0 u1 (ap (run_of l.rx p.rx_cap i) u1) refl good0

        at2 : At p (slot_in ss1 i) (run_of l.rx p.rx_cap i (slot_in ss1 i)) body (mine_of ss1 i k) (ends_of l.state.header.negotiated.config.channels ss1 i k) (slot_in ts i) (run_of act.rx p.rx_cap i (slot_in ts i)) act.fault
        at2 = acted-at (dropped l.state.header) ss1 l.state.queue l.rx l.store k body ok1 i there1

        good2 : (a : Answer) → Tells (mine_of ss1 i k) act.fault a → Good p credit (slot_in ts i) (run_of act.rx p.rx_cap i (slot_in ts i)) (frame_b books i b.acked m body (answer_number a) B0)
        good2 a tells = acted-good (dropped l.state.header) ss1 l.state.queue l.rx l.store ok1 credit lim i there1 B0 good-in books marked1 received k sy b.acked (omega arith) a tells

        sound2 : SlotOk (slot_in ts i) p.rx_cap
        sound2 = at-sound p (slot_in ss1 i) _ body (ok1.sound i there1) _ _ _ _ _ at2

        length2 : length act.rx ≡ length l.rx
        length2 = acted-length (dropped l.state.header) ss1 l.state.queue l.rx l.store k body ok1

        abbrev r3 : Settled
        r3 = settled_of (slot_in ts i) p room

        -- what the frames carry: the second settling's credit
        acks3 : (more : List Frame) → acks_in p b.local (((ack_frames s1 r1.ack ++ []) ++ act.frames) ++ more) ≡ acks_in p b.local more
        acks3 more =
            let e1 = acks-append p b.local ((ack_frames s1 r1.ack ++ []) ++ act.frames) more in
            let e2 = acks-append p b.local (ack_frames s1 r1.ack ++ []) act.frames in
            let e3 = acks2 [] in
            let e4 = acted-acks (dropped l.state.header) ss1 l.state.queue l.rx l.store k body b.local in
            omega arith

        -- the book of it
        acted-book : (a : Answer) (bs : List ℕ) → is_direct s1 room k ≡ false → closed_by (ids_in s1) k ≡ false → eqb (answer_number a) 4 ≡ false
            → read_used_b p books i b.acked room received (saw a (frame_len k) fs bs) B0 ≡ handed_b bs (settle_b p room (frame_b books i b.acked m body (answer_number a) B0))
        unfolding read_used_b
        acted-book a bs t u four =
            cond-false (eqb (answer_number a) 4) _ _ four
            ∙ cond-false (is_wrte m && eqb m.arg1 b.local && leb (frame_len k - 24) room) _ _ (direct-test ∙ t) ∙ cond-false (own_end b.local b.remote m) _ _ (end_test ∙ u)
            ∙ ap (λ (x : List ℕ). handed_b bs (settle_b p room (frame_b books i b.acked m x (answer_number a) B0))) (reads-payload received limit k sy)

        -- after the second settling
        module _ (t : is_direct s1 room k ≡ false) (u : closed_by (ids_in s1) k ≡ false) where
          good3 : (a : Answer) → Tells (mine_of ss1 i k) act.fault a
              → Good p credit r3.slot (run_of act.rx p.rx_cap i r3.slot) (acked_b (carried p r3.ack) (settle_b p room (frame_b books i b.acked m body (answer_number a) B0)))
          unfolding run_of
          good3 a tells =
              let gg = good2 a tells in
              let w = settled-run (slot_in ts i) p room gg.known in
              good-by p credit _ _ _ _ _ _ refl
              (ap (λ (x : ℕ). part (share_of act.rx p.rx_cap i) x r3.slot.buffered) w.head ∙ ap (part (share_of act.rx p.rx_cap i) (slot_in ts i).head) w.more) refl
              (settle-good p credit (slot_in ts i) _ _ room gg)

          named2 : Stays (slot_in ss1 i) (slot_in ts i)
          named2 = at_named p _ _ _ _ _ _ _ _ at2

          known2 : (slot_in ts i).has_remote ≡ true
          known2 = named2.known ∙ ok1.known i there1

          local3 : r3.slot.local.0 ≡ b.local
          local3 =
              ap (λ x. x.0) (settled-stays (slot_in ts i) p room).local ∙ ap (λ x. x.0) named2.local
              ∙ ap (λ (x : ChannelSlot). x.local.0) u1 ∙ local1

          abbrev w3 : Work
          w3 = then (then_acted (then w1 (slot_to i s1 ∷ []) []) act) [] (ack_frames r3.slot r3.ack)

          slot3 : (t : ChannelSlot) → slot_in (slots_by ss (then w3 (slot_to i t ∷ []) []).changes) i ≡ t
          slot3 t =
              let xs = act.changes ++ [] in
              let e = slots-append ss1 xs (slot_to i t ∷ []) in
              let n1 = slots_length ss1 xs in
              let z = ok1.size in
              let y = ok.most in
              let h = ok.below i there in
              ap (λ (x : List ChannelSlot). slot_in x i) e ∙ slot-set-same (slots_by ss1 xs) i t (omega arith)

          final-fine : (t : ChannelSlot) (a : Answer) (bs : List ℕ) → is_early (answer_number a) ≡ false → eqb (answer_number a) 4 ≡ false
              → Good p credit t (run_of act.rx p.rx_cap i t) (handed_b bs (acked_b (carried p r3.ack) (settle_b p room (frame_b books i b.acked m body (answer_number a) B0))))
              → reads-fine (ends (then w3 (slot_to i t ∷ []) []) a (frame_len k) bs)
          unfolding ends
          final-fine t' a bs late four f e =
              let c : acks_of b.local fs ≡ carried p r3.ack =
              e ∙ ap (acks_in p b.local) (append-nil w3.frames) ∙ acks3 (ack_frames r3.slot r3.ack) ∙ acks-own p b.local r3.slot r3.ack local3 in
              let s3 = slot3 t' in
              ends-fine p credit ss i (then w3 (slot_to i t' ∷ []) []) a (frame_len k) bs _
              (good-by p credit t' _ _ _ _ _ s3 (ap (run_of act.rx p.rx_cap i) s3)
              (ap (acked_b (acks_of b.local fs)) (used-book a (frame_len k) bs late used-some ∙ acted-book a bs t u four) ∙ ap (λ (x : ℕ). handed_b bs (acked_b x (settle_b p room (frame_b books i b.acked m body (answer_number a) B0)))) c) f)

          -- what was not there before the packet
          held1 : held_of (slot_in ss1 i) + length body ≤ p.rx_cap
          unfolding held_of
          held1 =
              let e : (slot_in ss1 i).buffered ≡ 0 = ap (λ (x : ChannelSlot). x.buffered) u1 ∙ none1 in
              let c = body-small received limit k sy in
              let d = lim.payload in
              omega arith

          live1 : is_closed (slot_in ss1 i).state ≡ false
          live1 = ap (λ (x : ChannelSlot). is_closed x.state) u1 ∙ live

          tells-read : (n : ℕ) → Tells (mine_of ss1 i k) act.fault (Read n)
          unfolding answer_number
          tells-read n =
              record {
                taken = λ own e. refl;
                over = λ own e. absurd (at-fits p _ _ _ _ _ _ _ _ at2 own held1 e);
              }

          tells-error : (x : ChannelError) → is_closed r3.slot.state ≡ true → Tells (mine_of ss1 i k) act.fault (unless_fault act.fault (Refused (error_refusal x)))
          tells-error x c =
              record {
                taken = λ own e.
                    absurd (true≢false (sym c ∙ ap is_closed (settled-state (slot_in ts i) p room) ∙ at-live p _ _ _ _ _ _ _ _ at2 own live1));
                over = λ own e. absurd (at-fits p _ _ _ _ _ _ _ _ at2 own held1 e);
              }

          abbrev rereads : Result (Option (ChannelSlot × ℕ)) ChannelError → Outcome
          rereads y = reread (me local) p.rx_cap (frame_len k) act.fault w3 r3.slot y

          sound3 : SlotOk r3.slot p.rx_cap
          sound3 = settled-sound (slot_in ts i) p room p.rx_cap sound2

          read_again : reads-fine (rereads (taken_of r3.slot room))
          unfolding taken_of reread answer_number
          read_again =
              let n = take_len r3.slot room in
              pick (λ (y : Result (Option (ChannelSlot × ℕ)) ChannelError). reads-fine (rereads y)) (has_data r3.slot)
              (λ d. final-fine (took_of r3.slot n) (Read n) (front_of act.rx p.rx_cap i r3.slot.head n) refl refl
              (taken-slot act.rx length2 r3.slot sound3 n (take-held r3.slot room sound3.settled-buffered) _ (good3 (Read n) (tells-read n))
              (λ x d c. settled-takes p credit (slot_in ts i) _ _ room (good2 (Read n) (tells-read n)) d c)))
              (λ d. pick (λ (y : Result (Option (ChannelSlot × ℕ)) ChannelError). reads-fine (rereads y)) (is_closed r3.slot.state)
              (λ c. let x = error_of r3.slot.failed in
              let a = unless_fault act.fault (Refused (error_refusal x)) in
              final-fine r3.slot a [] (late-unless act.fault (Refused (error_refusal x)) (late-error x)) (not-four act.fault (Refused (error_refusal x)) (four-error x))
              (handed-none p credit _ _ _ (good3 a (tells-error x c))))
              (λ c. let a = unless_fault act.fault Waiting in
              final-fine r3.slot a [] (late-unless act.fault Waiting refl) (not-four act.fault Waiting refl)
              (handed-none p credit _ _ _ (good3 a (tells-fault (mine_of ss1 i k) act.fault Waiting refl)))))

        read-acted : is_direct s1 room k ≡ false → closed_by (ids_in s1) k ≡ false → reads-fine (read_acted l (me local) room (frame_len k) (then w1 (slot_to i s1 ∷ []) []) act)
        unfolding read_acted read_settled
        read-acted t u =
            let e : slot_in (changed_all l.state (slot_to i s1 ∷ act.changes)).slots i ≡ slot_in ts i = ap (λ (x : List ChannelSlot). slot_in x i) (slots-by l.state (slot_to i s1 ∷ act.changes)) in
            subst (λ (x : ChannelSlot). reads-fine (read_settled l (me local) room (frame_len k) act.fault (then_acted (then w1 (slot_to i s1 ∷ []) []) act) (settled_of x p room))) (sym e) (read_again t u)

        read-packet : reads-fine (read_by l (me local) room w1 s1 received (Ok k))
        unfolding read_by
        read-packet =
            by-test (is_direct s1 room k)
            (λ t. subst reads-fine (sym (cond-true (is_direct s1 room k) _ _ t)) (read-direct t))
            (λ t. by-test (closed_by (ids_in s1) k)
            (λ u. subst reads-fine (sym (cond-false (is_direct s1 room k) _ _ t ∙ cond-true (closed_by (ids_in s1) k) _ _ u)) (read-end t u))
            (λ u. subst reads-fine (sym (cond-false (is_direct s1 room k) _ _ t ∙ cond-false (closed_by (ids_in s1) k) _ _ u)) (read-acted t u)))

      read-received : (r : Result Packet (Answer × ℕ)) → Got received l.state.header.negotiated.config.max_payload r → reads-fine (read_by l (me local) room w1 s1 received r)
      unfolding read_by
      read-received r (stopped a used st) = read-stop a used st
      read-received r (packet k sy) = read-packet k sy

    -- a read on this channel
    read-this : reads-fine (read_first l (me local) room received r1)
    unfolding read_first read_taken taken_of
    read-this =
        let P : Result (Option (ChannelSlot × ℕ)) ChannelError → Type 0 = λ y. reads-fine (read_taken l (me local) room w1 s1 received y) in
        by-test (has_data s1)
        (λ d. subst P (sym (cond-true (has_data s1) _ _ d)) (read-data (take_len s1 room) refl))
        (λ d. by-test (is_closed s1.state)
        (λ c. subst P (sym (cond-false (has_data s1) _ _ d ∙ cond-true (is_closed s1.state) _ _ c)) (read_plain (Refused (error_refusal (error_of s1.failed))) (late-error (error_of s1.failed))))
        (λ c. subst P (sym (cond-false (has_data s1) _ _ d ∙ cond-false (is_closed s1.state) _ _ c))
        (subst reads-fine (sym (cond-true s1.has_remote _ _ (alike1.known ∙ g.known))) (read-received d c (received_of l received) (got l received)))))

  -- ---- read, on another channel

  module _ (ch : ChannelId) (away : i ≡ ch.slot → ⊥) (in_table : is_there l ch ≡ true) (fill : (slot_in ss ch.slot).filled ≡ true) (ne : (slot_in ss ch.slot).local.0 ≡ b.local → ⊥) (fs : List Sent) (received : List ℕ) where
    abbrev j : ℕ
    j = ch.slot

    -- what the book takes of a packet
    abbrev taken : Answer → ℕ → List ℕ → Book
    taken a used bs = packet_b books i received (ends_other books ch) (saw a used fs bs) b

    abbrev else-fine : Outcome → Type 0
    else-fine x = acks_of b.local fs ≡ acks_in p b.local x.frames → Fine p credit ss i x (acked_b (acks_of b.local fs) (taken x.answer x.used x.handed))

    -- a call's end that leaves this slot
    else-ends : (w : Work) (a : Answer) (used : ℕ) (bs : List ℕ) → slot_in (slots_by ss w.changes) i ≡ slot_in ss i → w.rx ≡ l.rx → acks_in p b.local w.frames ≡ 0
        → Good p credit (slot_in ss i) (run_of l.rx p.rx_cap i (slot_in ss i)) (taken a used bs) → else-fine (ends w a used bs)
    unfolding ends
    else-ends w a used bs e1 e2 z f e =
        ends-fine p credit ss i w a used bs _
        (acked-none p credit _ _ _
        (good-by p credit _ _ _ _ _ _ e1 (ap (λ (x : List ℕ). run_of x p.rx_cap i (slot_in (slots_by ss w.changes) i)) e2 ∙ ap (run_of l.rx p.rx_cap i) e1) refl f) (acks_of b.local fs) (e ∙ z))

    unused : (a : Answer) (bs : List ℕ) → Good p credit (slot_in ss i) (run_of l.rx p.rx_cap i (slot_in ss i)) (taken a 0 bs)
    unfolding packet_b
    unused a bs = g

    module _ (room : ℕ) where
      abbrev rj : Settled
      rj = settled_of (slot_in ss j) p room

      abbrev sj : ChannelSlot
      sj = (settled_of (slot_in ss j) p room).slot

      alikej : Stays (slot_in ss j) sj
      alikej = settled-stays (slot_in ss j) p room

      localj : sj.local.0 ≡ (slot_in ss j).local.0
      localj = ap (λ x. x.0) alikej.local

      acksj : acks_in p b.local (ack_frames sj rj.ack) ≡ 0
      acksj = acks-other p b.local sj rj.ack (λ e. ne (sym localj ∙ e))

      abbrev wj : Work
      wj = then (begun (dropped l.state.header) l) [] (ack_frames sj rj.ack)

      other-slot : (t : ChannelSlot) → slot_in (set ss j t) i ≡ slot_in ss i
      other-slot t = slot-set-other ss j i t away

      no-acks : acks_in p b.local (ack_frames sj rj.ack ++ []) ≡ 0
      no-acks = ap (acks_in p b.local) (append-nil (ack_frames sj rj.ack)) ∙ acksj

      -- nothing was used
      else-plain : (t : ChannelSlot) (a : Answer) (bs : List ℕ) → else-fine (ends (then wj (slot_to j t ∷ []) []) a 0 bs)
      else-plain t a bs = else-ends (then wj (slot_to j t ∷ []) []) a 0 bs (other-slot t) refl no-acks (unused a bs)

      else-stop : (a : Answer) (used : ℕ) → Stops a used → else-fine (ends (then wj (slot_to j sj ∷ []) []) a used [])
      else-stop a used st =
          else-ends (then wj (slot_to j sj ∷ []) []) a used [] (other-slot sj) refl no-acks (stop-good p credit _ lim _ _ b g books i received (ends_other books ch) a used fs [] st)

      module _ (k : Packet) (sy : Says received l.state.header.negotiated.config.max_payload k) where
        abbrev limit_e : ℕ
        limit_e = l.state.header.negotiated.config.max_payload

        -- the other channel's own end
        else-test : ends_other books ch (header_at received) ≡ closed_by (ids_in sj) k
        else-test =
            reads_end received limit_e k sy ch.local.0 _ (ids_in sj) (sym (localj ∙ there-local ch in_table))
            (mk.remote j fill ∙ sym (ap (λ x. x.0) alikej.remote))

        -- a packet that is not for this slot
        else-none : (a : Answer) (bs : List ℕ) → eqb (answer_number a) 4 ≡ false → ends_other books ch (header_at received) ≡ true → taken a (frame_len k) bs ≡ b
        unfolding packet_b
        else-none a bs four e =
            cond-false (eqb (frame_len k) 0) _ _ (ne_eqb (frame_len k) 0 (λ x. omega arith)) ∙ cond-false (eqb (answer_number a) 4) _ _ four ∙ cond-true (ends_other books ch (header_at received)) _ _ e

        else-end : closed_by (ids_in sj) k ≡ true → else-fine (ends (then wj (slot_to j (closed_slot sj) ∷ []) []) (Refused ChannelClosed) (frame_len k) [])
        unfolding answer_number
        else-end t =
            else-ends (then wj (slot_to j (closed_slot sj) ∷ []) []) (Refused ChannelClosed) (frame_len k) [] (other-slot (closed_slot sj)) refl no-acks
            (good-by p credit _ _ _ _ b _ refl refl (else-none (Refused ChannelClosed) [] refl (else-test ∙ t)) g)

        -- a packet that the call took for itself, and that is no end
        else-mine : (a : Answer) (bs : List ℕ) → eqb (answer_number a) 4 ≡ false → is_write k.command ≡ true → (k.arg1 ≡ b.local → ⊥)
            → Good p credit (slot_in ss i) (run_of l.rx p.rx_cap i (slot_in ss i)) (taken a (frame_len k) bs)
        unfolding closed_by
        else-mine a bs four wr dif =
            let m = header_at received in
            let nc : is_close k.command ≡ false = write-no-close k.command wr in
            let ec : is_clse m ≡ false = reads-close received limit_e k sy ∙ nc in
            packet-good p credit _ lim _ _ b g books i received (ends_other books ch) limit_e k a fs bs _ _ sy four (else-test ∙ cond-false (is_close k.command) _ false nc)
            (good-by p credit _ _ _ _ b _ refl refl
            (frame-none books i b.acked m (body_of received k) a b
            (by-test (is_wrte m && eqb m.arg1 b.local)
            (λ t. absurd (dif (sym (reads-arg1 received limit_e k sy) ∙ eqb-true m.arg1 b.local (and-true (is_wrte m) (eqb m.arg1 b.local) t).1))) (λ t. t))
            (ap (λ (x : Bool). x && cond (eqb m.arg1 0) (not (eqb m.arg0 0) && (eqb (named_in m.arg0 books) i)) (eqb m.arg1 b.local)) ec)) g)

        else-direct : is_direct sj room k ≡ true → else-fine (read_direct ch (frame_len k) wj (body_of received k) (delivered_of sj p k.data_length))
        unfolding read_direct is_direct answer_number
        else-direct t =
            let d = delivered_of sj p k.data_length in
            let t1 = and-true (is_write k.command && eqb k.arg1 sj.local.0) (leb k.data_length room) t in
            let t2 = and-true (is_write k.command) (eqb k.arg1 sj.local.0) t1.0 in
            let e2 = eqb-true k.arg1 sj.local.0 t2.1 in
            let ad = acks-other p b.local d.slot d.ack (λ e. ne (sym localj ∙ sym (ap (λ x. x.0) (delivered-same sj p k.data_length).1) ∙ e)) in
            let aa = acks-append p b.local (ack_frames sj rj.ack) (ack_frames d.slot d.ack) in
            let az = acksj in
            else-ends (then wj (slot_to j d.slot ∷ []) (ack_frames d.slot d.ack)) (Read (length (body_of received k))) (frame_len k) (body_of received k) (other-slot d.slot) refl (omega arith)
            (else-mine (Read (length (body_of received k))) (body_of received k) refl t2.0 (λ e. ne (sym localj ∙ sym e2 ∙ e)))

        -- any other packet: dispatched, then the other channel settles and takes again
        abbrev ssj : List ChannelSlot
        ssj = set ss j sj

        okj : TableOk p l.state.header.negotiated.config.channels ssj l.rx
        okj = table-set p l.state.header.negotiated.config.channels ss l.rx j sj ok fill alikej (settled-sound (slot_in ss j) p room p.rx_cap (ok.sound j fill))

        uj : slot_in ssj j ≡ sj
        uj = let z = ok.size in let y = ok.most in let h = ok.below j fill in slot-set-same ss j sj (omega arith)

        ui : slot_in ssj i ≡ slot_in ss i
        ui = other-slot sj

        therei : (slot_in ssj i).filled ≡ true
        therei = ap (λ (x : ChannelSlot). x.filled) ui ∙ there

        therej : (slot_in ssj j).filled ≡ true
        therej = ap (λ (x : ChannelSlot). x.filled) uj ∙ alikej.filled ∙ fill

        markedj : Marked books ssj
        markedj = marked-set books ss j sj mk alikej.filled alikej.remote (ap is_closed (settled-state (slot_in ss j) p room))

        abbrev actj : Acted
        actj = act_on (dropped l.state.header) ssj l.state.queue l.rx l.store k (body_of received k)

        abbrev tsj : List ChannelSlot
        tsj = slots_by ssj actj.changes

        good-i : Good p credit (slot_in ssj i) (run_of l.rx p.rx_cap i (slot_in ssj i)) b
        good-i = good-by p credit _ _ _ _ b b ui (ap (run_of l.rx p.rx_cap i) ui) refl g

        -- this slot after the packet, and its book
        acted-i : (a : Answer) (bs : List ℕ) → eqb (answer_number a) 4 ≡ false → closed_by (ids_in sj) k ≡ false → Tells (mine_of ssj i k) actj.fault a
            → Good p credit (slot_in tsj i) (run_of actj.rx p.rx_cap i (slot_in tsj i)) (taken a (frame_len k) bs)
        acted-i a bs four u tells =
            packet-good p credit _ lim _ _ b good-i books i received (ends_other books ch) limit_e k a fs bs _ _ sy four (else-test ∙ u)
            (acted-good (dropped l.state.header) ssj l.state.queue l.rx l.store okj credit lim i therei b good-i books markedj received k sy b.acked (omega arith) a tells)

        atj : At p (slot_in ssj j) (run_of l.rx p.rx_cap j (slot_in ssj j)) (body_of received k) (mine_of ssj j k) (ends_of l.state.header.negotiated.config.channels ssj j k) (slot_in tsj j) (run_of actj.rx p.rx_cap j (slot_in tsj j)) actj.fault
        atj = acted-at (dropped l.state.header) ssj l.state.queue l.rx l.store k (body_of received k) okj j therej

        knownj : (slot_in tsj j).has_remote ≡ true
        knownj = (at_named p _ _ _ _ _ _ _ _ atj).known ∙ okj.known j therej

        abbrev rj3 : Settled
        rj3 = settled_of (slot_in tsj j) p room

        localj3 : rj3.slot.local.0 ≡ (slot_in ss j).local.0
        localj3 =
            ap (λ x. x.0) (settled-stays (slot_in tsj j) p room).local ∙ ap (λ x. x.0) (at_named p _ _ _ _ _ _ _ _ atj).local
            ∙ ap (λ (x : ChannelSlot). x.local.0) uj ∙ localj

        abbrev wj3 : Work
        wj3 = then (then_acted (then wj (slot_to j sj ∷ []) []) actj) [] (ack_frames rj3.slot rj3.ack)

        acksj3 : acks_in p b.local (wj3.frames ++ []) ≡ 0
        acksj3 =
            let e0 = ap (acks_in p b.local) (append-nil wj3.frames) in
            let e1 = acks-append p b.local ((ack_frames sj rj.ack ++ []) ++ actj.frames) (ack_frames rj3.slot rj3.ack) in
            let e2 = acks-append p b.local (ack_frames sj rj.ack ++ []) actj.frames in
            let e3 = no-acks in
            let e4 = acted-acks (dropped l.state.header) ssj l.state.queue l.rx l.store k (body_of received k) b.local in
            let e5 = acks-other p b.local rj3.slot rj3.ack (λ e. ne (sym localj3 ∙ e)) in
            omega arith

        slot-i : (t : ChannelSlot) → slot_in (slots_by ss (then wj3 (slot_to j t ∷ []) []).changes) i ≡ slot_in tsj i
        slot-i t =
            let xs = actj.changes ++ [] in
            ap (λ (x : List ChannelSlot). slot_in x i) (slots-append ssj xs (slot_to j t ∷ [])) ∙ slot-set-other (slots_by ssj xs) j i t away
            ∙ ap (λ (x : List Change). slot_in (slots_by ssj x) i) (append-nil actj.changes)

        final-else : (t : ChannelSlot) (a : Answer) (bs : List ℕ) → Good p credit (slot_in tsj i) (run_of actj.rx p.rx_cap i (slot_in tsj i)) (taken a (frame_len k) bs)
            → else-fine (ends (then wj3 (slot_to j t ∷ []) []) a (frame_len k) bs)
        unfolding ends
        final-else t a bs f e =
            let s = slot-i t in
            ends-fine p credit ss i (then wj3 (slot_to j t ∷ []) []) a (frame_len k) bs _
            (acked-none p credit _ _ _ (good-by p credit _ _ _ _ _ _ s (ap (run_of actj.rx p.rx_cap i) s) refl f) (acks_of b.local fs) (e ∙ acksj3))

        -- a WRTE for this slot leaves the other as it was
        module _ (nodata : has_data sj ≡ false) (live : is_closed sj.state ≡ false) (own : mine_of ssj i k ≡ true) where
          own-write : is_write k.command ≡ true
          own-write = (and-true (is_write k.command) (eqb k.arg1 (slot_in ssj i).local.0) own).0

          not-j : mine_of ssj j k ≡ false
          not-j =
              by-test (mine_of ssj j k)
              (λ t. let x = eqb-true k.arg1 (slot_in ssj i).local.0 (and-true (is_write k.command) (eqb k.arg1 (slot_in ssj i).local.0) own).1 in
              let y = eqb-true k.arg1 (slot_in ssj j).local.0 (and-true (is_write k.command) (eqb k.arg1 (slot_in ssj j).local.0) t).1 in
              absurd (away (okj.apart i j therei therej (sym x ∙ y))))
              (λ t. t)

          still-none : has_data rj3.slot ≡ false
          unfolding has_data
          still-none =
              let e0 : rj3.slot.buffered ≡ sj.buffered = (settled-run (slot_in tsj j) p room knownj).more ∙ at-keeps p _ _ _ _ _ _ _ _ atj not-j ∙ ap (λ (x : ChannelSlot). x.buffered) uj in
              let e1 : rj3.slot.has_remote ≡ sj.has_remote = (settled-stays (slot_in tsj j) p room).known ∙ (at_named p _ _ _ _ _ _ _ _ atj).known ∙ ap (λ (x : ChannelSlot). x.has_remote) uj in
              ap₂ (λ (x : Bool) (y : ℕ). cond x (not (eqb y 0)) false) e1 e0 ∙ nodata

          still-live : is_closed rj3.slot.state ≡ false
          still-live =
              let nc = write-no-close k.command own-write in
              ap is_closed (settled-state (slot_in tsj j) p room)
              ∙ at-stays p _ _ _ _ _ _ _ _ atj (ap (λ (x : Bool). x && cond (eqb k.arg1 0) (not (eqb k.arg0 0) && eqb (named_place (record { 0 = k.arg0 }) l.state.header.negotiated.config.channels ssj) j) (eqb k.arg1 (slot_in ssj j).local.0)) nc)
              (ap (λ (x : ChannelSlot). is_closed x.state) uj ∙ live)

        else-again : has_data sj ≡ false → is_closed sj.state ≡ false → closed_by (ids_in sj) k ≡ false → else-fine (reread ch p.rx_cap (frame_len k) actj.fault wj3 rj3.slot (taken_of rj3.slot room))
        unfolding taken_of reread answer_number
        else-again nodata live u =
            let n = take_len rj3.slot room in
            let P : Result (Option (ChannelSlot × ℕ)) ChannelError → Type 0 = λ y. else-fine (reread ch p.rx_cap (frame_len k) actj.fault wj3 rj3.slot y) in
            pick P (has_data rj3.slot)
            (λ d. final-else (took_of rj3.slot n) (Read n) _
            (acted-i (Read n) _ refl u (record { taken = λ own e. refl; over = λ own e. absurd (true≢false (sym d ∙ still-none nodata live own)) })))
            (λ d. pick P (is_closed rj3.slot.state)
            (λ c. let x = error_of rj3.slot.failed in
            let a = unless_fault actj.fault (Refused (error_refusal x)) in
            final-else rj3.slot a []
            (acted-i a [] (not-four actj.fault (Refused (error_refusal x)) (four-error x)) u
            (record { taken = λ own e. absurd (true≢false (sym c ∙ still-live nodata live own)); over = λ own e. over-told actj.fault (Refused (error_refusal x)) e })))
            (λ c. let a = unless_fault actj.fault Waiting in
            final-else rj3.slot a [] (acted-i a [] (not-four actj.fault Waiting refl) u (tells-fault (mine_of ssj i k) actj.fault Waiting refl))))

        else-acted : has_data sj ≡ false → is_closed sj.state ≡ false → closed_by (ids_in sj) k ≡ false → else-fine (read_acted l ch room (frame_len k) (then wj (slot_to j sj ∷ []) []) actj)
        unfolding read_acted read_settled
        else-acted nodata live u =
            let e : slot_in (changed_all l.state (slot_to j sj ∷ actj.changes)).slots j ≡ slot_in tsj j = ap (λ (x : List ChannelSlot). slot_in x j) (slots-by l.state (slot_to j sj ∷ actj.changes)) in
            subst (λ (x : ChannelSlot). else-fine (read_settled l ch room (frame_len k) actj.fault (then_acted (then wj (slot_to j sj ∷ []) []) actj) (settled_of x p room))) (sym e) (else-again nodata live u)

        else-packet : has_data sj ≡ false → is_closed sj.state ≡ false → else-fine (read_by l ch room wj sj received (Ok k))
        unfolding read_by
        else-packet nodata live =
            by-test (is_direct sj room k)
            (λ t. subst else-fine (sym (cond-true (is_direct sj room k) _ _ t)) (else-direct t))
            (λ t. by-test (closed_by (ids_in sj) k)
            (λ u. subst else-fine (sym (cond-false (is_direct sj room k) _ _ t ∙ cond-true (closed_by (ids_in sj) k) _ _ u)) (else-end u))
            (λ u. subst else-fine (sym (cond-false (is_direct sj room k) _ _ t ∙ cond-false (closed_by (ids_in sj) k) _ _ u)) (else-acted nodata live u)))

      else-received : has_data sj ≡ false → is_closed sj.state ≡ false → (r : Result Packet (Answer × ℕ)) → Got received l.state.header.negotiated.config.max_payload r → else-fine (read_by l ch room wj sj received r)
      unfolding read_by
      else-received nodata live r (stopped a used st) = else-stop a used st
      else-received nodata live r (packet k sy) = else-packet k sy nodata live

      -- a read on another channel
      read-else : else-fine (read_first l ch room received rj)
      unfolding read_first read_taken taken_of
      read-else =
          let P : Result (Option (ChannelSlot × ℕ)) ChannelError → Type 0 = λ y. else-fine (read_taken l ch room wj sj received y) in
          by-test (has_data sj)
          (λ d. subst P (sym (cond-true (has_data sj) _ _ d)) (else-plain (took_of sj (take_len sj room)) (Read (take_len sj room)) _))
          (λ d. by-test (is_closed sj.state)
          (λ c. subst P (sym (cond-false (has_data sj) _ _ d ∙ cond-true (is_closed sj.state) _ _ c)) (else-plain sj (Refused (error_refusal (error_of sj.failed))) []))
          (λ c. subst P (sym (cond-false (has_data sj) _ _ d ∙ cond-false (is_closed sj.state) _ _ c))
          (subst else-fine (sym (cond-true sj.has_remote _ _ (alikej.known ∙ ok.known j fill))) (else-received d c (received_of l received) (got l received)))))

  -- ---- read

  module _ (room : ℕ) (received : List ℕ) (fs : List Sent) where
    abbrev read-fine : ChannelId → Outcome → Type 0
    read-fine ch x =
        acks_of b.local fs ≡ acks_in p b.local x.frames
        → Fine p credit ss i x
        (acked_b (acks_of b.local fs) (cond (is_on i b ch) (read_b p books i room received (saw_of x fs) b) (packet_b books i received (ends_other books ch) (saw_of x fs) b)))

    read-by : (ch : ChannelId) → On ch → read-fine ch (read_step l ch room received)
    unfolding read_step slot_for
    read-by ch (this d t o) =
        subst (read-fine ch) (sym (cond-true (is_there l ch) _ _ t))
        (subst (λ (x : ChannelId). read-fine x (read_first l x room received (settled_of (slot_in ss x.slot) p room))) (sym (is-me ch d))
        (λ e. good-by p credit _ _ _ _ _ _ refl refl (ap (acked_b (acks_of b.local fs)) (cond-true (is_on i b (me ch.local)) _ _ (ap (is_on i b) (sym (is-me ch d)) ∙ o))) (read-this room received fs ch.local e)))
    read-by ch (another d t f ne o) =
        subst (read-fine ch) (sym (cond-true (is_there l ch) _ _ t))
        (λ e. good-by p credit _ _ _ _ _ _ refl refl (ap (acked_b (acks_of b.local fs)) (cond-false (is_on i b ch) _ _ o)) (read-else ch d t f ne fs received room e))
    read-by ch (none t o) =
        subst (read-fine ch) (sym (cond-false (is_there l ch) _ _ t))
        (λ e. good-by p credit _ _ _ _ _ _ refl refl (ap (acked_b (acks_of b.local fs)) (cond-false (is_on i b ch) _ _ o))
        (quiet-acks (ends (begun (dropped l.state.header) l) (Refused ChannelClosed) 0 []) fs _ e none-acks (none-fine (Refused ChannelClosed) _ (none-taken ch fs received))))

    pub read-call : (ch : ChannelId) → read-fine ch (read_step l ch room received)
    read-call ch = read-by ch (on ch)

  -- ---- write

  module _ (spending : Spending) (ch : ChannelId) (out : ℕ) (bytes received : List ℕ) (fs : List Sent) where
    -- the book, before the credit that was written
    abbrev entered : Answer → ℕ → List ℕ → Book
    entered a used bs =
        cond (is_on i b ch) (write_b books i received (saw a used fs bs) b)
        (packet_b books i received (ends_other books ch) (saw a used fs bs) b)

    abbrev write-fine : Outcome → Type 0
    write-fine x = acks_of b.local fs ≡ acks_in p b.local x.frames → Fine p credit ss i x (acked_b (acks_of b.local fs) (entered x.answer x.used x.handed))

    -- with no packet used the book stays
    entered-none : (a : Answer) (bs : List ℕ) → entered a 0 bs ≡ b
    unfolding write_b packet_b
    entered-none a bs = by-test (is_on i b ch) (λ t. cond-true (is_on i b ch) _ _ t) (λ t. cond-false (is_on i b ch) _ _ t)

    -- nothing was changed
    write-untouched : write-fine (untouched l OutShort)
    write-untouched e = acked-none p credit _ _ _ (good-by p credit _ _ _ _ b _ refl refl (entered-none (Refused OutShort) []) g) (acks_of b.local fs) e

    -- the slot at this place after a call's end, beside the book
    abbrev Left : Work → Answer → ℕ → Type 0
    Left w a used = Good p credit (slot_in (slots_by ss w.changes) i) (run_of w.rx p.rx_cap i (slot_in (slots_by ss w.changes) i)) (entered a used [])

    write-ends : (w : Work) (a : Answer) (used : ℕ) → acks_in p b.local w.frames ≡ 0 → Left w a used → write-fine (ends w a used [])
    unfolding ends
    write-ends w a used z f e = ends-fine p credit ss i w a used [] _ (acked-none p credit _ _ _ f (acks_of b.local fs) (e ∙ z))

    -- a turn of the loop: closed, sent, or waiting
    module _ (used : ℕ) (w : Work) (s : ChannelSlot) (quiet : acks_in p b.local w.frames ≡ 0) where
      still-quiet : (f : List Frame) → acks_in p b.local f ≡ 0 → acks_in p b.local (w.frames ++ f) ≡ 0
      still-quiet f z = let e = acks-append p b.local w.frames f in omega arith

      sent-fine : (n : ℕ) → Left (then w (slot_to ch.slot (spent_of s p n) ∷ []) (write_frame (ids_in s) (take n bytes) ∷ [])) (Written n) used → write-fine (send_some l ch out bytes used w s n)
      unfolding send_some
      sent-fine n f =
          pick write-fine (ltb out (length (frames_bytes w.header.negotiated w.frames) + 24 + n)) (λ t. write-untouched)
          (λ t. write-ends (then w (slot_to ch.slot (spent_of s p n) ∷ []) (write_frame (ids_in s) (take n bytes) ∷ [])) (Written n) used (still-quiet (write_frame (ids_in s) (take n bytes) ∷ []) refl) f)

      module _ (h2 : (n : ℕ) → Left (then w (slot_to ch.slot (spent_of s p n) ∷ []) (write_frame (ids_in s) (take n bytes) ∷ [])) (Written n) used)
          (h3 : Left (then w (slot_to ch.slot s ∷ []) []) Waiting used) where
        by-budget : (x : Option ℕ) → write-fine (send_by l ch out bytes used w s x)
        unfolding send_by
        by-budget (Some most) = sent-fine (send_len l bytes most) (h2 (send_len l bytes most))
        by-budget None = write-ends (then w (slot_to ch.slot s ∷ []) []) Waiting used (still-quiet [] refl) h3

        turn-fine : (is_closed s.state ≡ true → Left (then w (slot_to ch.slot s ∷ []) []) (Refused ChannelClosed) used) → write-fine (send_again spending l ch out bytes used w s)
        unfolding send_again
        turn-fine h1 =
            pick write-fine (is_closed s.state)
            (λ t. write-ends (then w (slot_to ch.slot s ∷ []) []) (Refused ChannelClosed) used (still-quiet [] refl) (h1 t))
            (λ t. by-budget (leave_of spending s p))

    -- ---- write, on this channel

    module _ (d : ch.slot ≡ i) (o : is_on i b ch ≡ true) where
      abbrev s0 : ChannelSlot
      s0 = slot_in ss i

      abbrev q0 : List ℕ
      q0 = run_of l.rx p.rx_cap i (slot_in ss i)

      abbrev w0 : Work
      w0 = begun (dropped l.state.header) l

      this-book : (a : Answer) (used : ℕ) (bs : List ℕ) → entered a used bs ≡ write_b books i received (saw a used fs bs) b
      this-book a used bs = cond-true (is_on i b ch) _ _ o

      -- a slot stored at the end
      this-left : (t : ChannelSlot) (f : List Frame) (a : Answer) (used : ℕ) → SameRun s0 t → Good p credit t q0 (entered a used []) → Left (then w0 (slot_to ch.slot t ∷ []) f) a used
      this-left t f a used w x = good-this ch.slot t l.rx _ d (run-stays t _ w x)

      sent-run : (n : ℕ) → SameRun s0 (spent_of s0 p n)
      sent-run n = spent-run s0 p n

      -- sent at once
      first-sent : (n : ℕ) → Left (then w0 (slot_to ch.slot (spent_of s0 p n) ∷ []) (write_frame (ids_in s0) (take n bytes) ∷ [])) (Written n) 0
      first-sent n =
          this-left (spent_of s0 p n) (write_frame (ids_in s0) (take n bytes) ∷ []) (Written n) 0 (spent-run s0 p n)
          (good-by p credit _ _ _ _ _ _ refl refl (entered-none (Written n) []) (spent-good p credit s0 q0 b g n))

      this-plain : (a : Answer) → write-fine (ends w0 a 0 [])
      this-plain a = write-ends w0 a 0 refl (good-by p credit _ _ _ _ _ _ refl refl (entered-none a []) g)

      stopped-book : (a : Answer) (used : ℕ) → Stops a used → Good p credit s0 q0 (write_b books i received (saw a used fs []) b)
      unfolding write_b
      stopped-book a used st =
          pick (Good p credit s0 q0) (eqb used 0) (λ t. g)
          (λ t. pick (Good p credit s0 q0) (eqb (answer_number a) 4) (λ u. damaged-good p credit _ lim s0 q0 b g books i received never b.acked (header_at received) (payload_at received used))
          (λ u. absurd (eqb-false used 0 t (st.quiet u))))

      this-stop : (a : Answer) (used : ℕ) → Stops a used → write-fine (ends w0 a used [])
      this-stop a used st = write-ends w0 a used refl (good-by p credit _ _ _ _ _ _ refl refl (this-book a used []) (stopped-book a used st))

      module _ (open0 : is_closed s0.state ≡ false) (k : Packet) (sy : Says received l.state.header.negotiated.config.max_payload k) where
        abbrev lim_w : ℕ
        lim_w = l.state.header.negotiated.config.max_payload

        abbrev m_w : Message
        m_w = header_at received

        abbrev body_w : List ℕ
        body_w = body_of received k

        end-test_w : own_end b.local b.remote m_w ≡ closed_by (ids_in s0) k
        end-test_w = reads_end received lim_w k sy b.local b.remote (ids_in s0) g.loc g.rem

        used-book-end : (a : Answer) → eqb (answer_number a) 4 ≡ false → closed_by (ids_in s0) k ≡ true → entered a (frame_len k) [] ≡ closed_b b
        unfolding write_b
        used-book-end a four u =
            this-book a (frame_len k) [] ∙ cond-false (eqb (frame_len k) 0) _ _ (ne_eqb (frame_len k) 0 (λ x. omega arith)) ∙ cond-false (eqb (answer_number a) 4) _ _ four ∙ cond-true (own_end b.local b.remote m_w) _ _ (end-test_w ∙ u)

        used-book-frame : (a : Answer) → eqb (answer_number a) 4 ≡ false → closed_by (ids_in s0) k ≡ false → entered a (frame_len k) [] ≡ frame_b books i b.acked m_w body_w (answer_number a) b
        unfolding write_b
        used-book-frame a four u =
            this-book a (frame_len k) [] ∙ cond-false (eqb (frame_len k) 0) _ _ (ne_eqb (frame_len k) 0 (λ x. omega arith)) ∙ cond-false (eqb (answer_number a) 4) _ _ four ∙ cond-false (own_end b.local b.remote m_w) _ _ (end-test_w ∙ u)
            ∙ ap (λ (x : List ℕ). frame_b books i b.acked m_w x (answer_number a) b) (reads-payload received lim_w k sy)

        this-end : closed_by (ids_in s0) k ≡ true → write-fine (ends (then w0 (slot_to ch.slot (closed_slot s0) ∷ []) []) (Refused ChannelClosed) (frame_len k) [])
        unfolding answer_number
        this-end u =
            write-ends (then w0 (slot_to ch.slot (closed_slot s0) ∷ []) []) (Refused ChannelClosed) (frame_len k) refl
            (this-left (closed_slot s0) [] (Refused ChannelClosed) (frame_len k) (closed_run s0)
            (good-by p credit _ _ _ _ _ _ refl refl (used-book-end (Refused ChannelClosed) refl u) (shut-good p credit s0 q0 b g)))

        -- its own OKAY
        module _ (rd : is_ready k.command ≡ true) where
          not_end : closed_by (ids_in s0) k ≡ false
          unfolding closed_by
          not_end = cond-false (is_close k.command) _ false (ready-no-write k.command rd).1

          ready-book : (a : Answer) → eqb (answer_number a) 4 ≡ false → entered a (frame_len k) [] ≡ b
          ready-book a four =
              used-book-frame a four not_end
              ∙ frame-none books i b.acked m_w body_w a b
              (ap (λ (x : Bool). x && eqb m_w.arg1 b.local) (reads-write received lim_w k sy ∙ (ready-no-write k.command rd).0))
              (ap (λ (x : Bool). x && cond (eqb m_w.arg1 0) (not (eqb m_w.arg0 0) && (eqb (named_in m_w.arg0 books) i)) (eqb m_w.arg1 b.local)) (reads-close received lim_w k sy ∙ (ready-no-write k.command rd).1))

          readied-left : (t : ChannelSlot) (f : List Frame) (a : Answer) → eqb (answer_number a) 4 ≡ false → SameRun s0 t → Good p credit t q0 b → Left (then w0 (slot_to ch.slot t ∷ []) f) a (frame_len k)
          readied-left t f a four w x = this-left t f a (frame_len k) w (good-by p credit _ _ _ _ _ _ refl refl (ready-book a four) x)

          readied-by : (r : Result ChannelSlot CreditFault) → Leaves (SameRun s0) r → Leaves (λ (t : ChannelSlot). Good p credit t q0 b) r → write-fine (write_readied spending l ch out bytes (frame_len k) w0 s0 r)
          unfolding write_readied answer_number
          readied-by (Ok t) w x =
              turn-fine (frame_len k) w0 t refl
              (λ n. readied-left (spent_of t p n) (write_frame (ids_in t) (take n bytes) ∷ []) (Written n) refl (record { head = (spent-run t p n).head ∙ w.head; more = (spent-run t p n).more ∙ w.more }) (spent-good p credit t q0 b x n))
              (readied-left t [] Waiting refl w x)
              (λ c. readied-left t [] (Refused ChannelClosed) refl w x)
          readied-by (Err c) w x = write-ends w0 (Refused (CreditRefused c)) (frame_len k) refl (good-by p credit _ _ _ _ _ _ refl refl (ready-book (Refused (CreditRefused c)) (bad-four c)) g)

          this-readied : write-fine (write_readied spending l ch out bytes (frame_len k) w0 s0 (ready_of s0 body_w p))
          this-readied = readied-by (ready_of s0 body_w p) (ready-run s0 body_w p) (ready-good p credit s0 q0 b g body_w)

        -- any other packet: dispatched, and another turn
        module _ (u : closed_by (ids_in s0) k ≡ false) where
          abbrev act_w : Acted
          act_w = act_on (dropped l.state.header) ss l.state.queue l.rx l.store k body_w

          abbrev ts_w : List ChannelSlot
          ts_w = slots_by ss act_w.changes

          abbrev s_w : ChannelSlot
          s_w = slot_in ts_w i

          at_w : At p s0 q0 body_w (mine_of ss i k) (ends_of l.state.header.negotiated.config.channels ss i k) s_w (run_of act_w.rx p.rx_cap i s_w) act_w.fault
          at_w = acted-at (dropped l.state.header) ss l.state.queue l.rx l.store k body_w ok i there

          quiet_w : acks_in p b.local (then_acted w0 act_w).frames ≡ 0
          quiet_w = acted-acks (dropped l.state.header) ss l.state.queue l.rx l.store k body_w b.local

          good_w : (a : Answer) → eqb (answer_number a) 4 ≡ false → Tells (mine_of ss i k) act_w.fault a → Good p credit s_w (run_of act_w.rx p.rx_cap i s_w) (entered a (frame_len k) [])
          good_w a four tells =
              good-by p credit _ _ _ _ _ _ refl refl (used-book-frame a four u)
              (acted-good (dropped l.state.header) ss l.state.queue l.rx l.store ok credit lim i there b g books mk received k sy b.acked (omega arith) a tells)

          -- a slot stored after it
          slot_w : (t : ChannelSlot) → slot_in (slots_by ss (act_w.changes ++ slot_to ch.slot t ∷ [])) i ≡ t
          slot_w t =
              let n1 = slots_length ss act_w.changes in
              let z = ok.size in
              let y = ok.most in
              let h = ok.below i there in
              ap (λ (x : List ChannelSlot). slot_in x i) (slots-append ss act_w.changes (slot_to ch.slot t ∷ [])) ∙ ap (λ (x : ℕ). slot_in (set ts_w x t) i) d ∙ slot-set-same ts_w i t (omega arith)

          left_w : (t : ChannelSlot) (f : List Frame) (a : Answer) → SameRun s_w t → Good p credit t (run_of act_w.rx p.rx_cap i s_w) (entered a (frame_len k) []) → Left (then (then_acted w0 act_w) (slot_to ch.slot t ∷ []) f) a (frame_len k)
          unfolding run_of
          left_w t f a w x =
              let e = slot_w t in
              good-by p credit t _ _ _ _ _ e
              (ap (run_of act_w.rx p.rx_cap i) e ∙ ap (λ (y : ℕ). part (share_of act_w.rx p.rx_cap i) y t.buffered) w.head ∙ ap (part (share_of act_w.rx p.rx_cap i) s_w.head) w.more) refl x

          tells-no : (a : Answer) → act_w.fault ≡ None → is_refused (answer_number a) ≡ false → Tells (mine_of ss i k) act_w.fault a
          tells-no a e r = record { taken = λ own f. r; over = λ own f. absurd (fault-apart (sym e ∙ f)) }

          tells-closed : is_closed s_w.state ≡ true → act_w.fault ≡ None → Tells (mine_of ss i k) act_w.fault (Refused ChannelClosed)
          tells-closed c e =
              record { taken = λ own f. absurd (true≢false (sym c ∙ at-live p _ _ _ _ _ _ _ _ at_w own open0)); over = λ own f. absurd (fault-apart (sym e ∙ f)) }

          this-again : act_w.fault ≡ None → write-fine (send_again spending l ch out bytes (frame_len k) (then_acted w0 act_w) s_w)
          unfolding answer_number
          this-again e =
              turn-fine (frame_len k) (then_acted w0 act_w) s_w quiet_w
              (λ n. left_w (spent_of s_w p n) (write_frame (ids_in s_w) (take n bytes) ∷ []) (Written n) (spent-run s_w p n) (spent-good p credit s_w _ _ (good_w (Written n) refl (tells-no (Written n) e refl)) n))
              (left_w s_w [] Waiting (record { head = refl; more = refl }) (good_w Waiting refl (tells-no Waiting e refl)))
              (λ c. left_w s_w [] (Refused ChannelClosed) (record { head = refl; more = refl }) (good_w (Refused ChannelClosed) refl (tells-closed c e)))

          acted-by : (f : Option ChannelFault) → act_w.fault ≡ f → write-fine (write_acted spending l ch out bytes (frame_len k) w0 act_w f)
          unfolding write_acted answer_number
          acted-by (Some f) e =
              let a : Answer = Refused (fault_refusal f) in
              let z : unless_fault act_w.fault Waiting ≡ a = unless-is act_w.fault f e in
              write-ends (then_acted w0 act_w) a (frame_len k) quiet_w
              (subst (λ (x : Answer). Left (then_acted w0 act_w) x (frame_len k)) z (good_w (unless_fault act_w.fault Waiting) (not-four act_w.fault Waiting waiting-four) (tells-fault (mine_of ss i k) act_w.fault Waiting refl)))
          acted-by None e =
              let sl : slot_in (changed_all l.state act_w.changes).slots ch.slot ≡ s_w = ap (λ (x : List ChannelSlot). slot_in x ch.slot) (slots-by l.state act_w.changes) ∙ ap (slot_in ts_w) d in
              subst (λ (x : ChannelSlot). write-fine (send_again spending l ch out bytes (frame_len k) (then_acted w0 act_w) x)) (sym sl) (this-again e)

        this-packet : write-fine (write_by spending l ch out bytes w0 s0 received (Ok k))
        unfolding write_by write_act
        this-packet =
            pick write-fine (is_ready k.command && eqb k.arg1 s0.local.0)
            (λ t. this-readied (and-true (is_ready k.command) (eqb k.arg1 s0.local.0) t).0)
            (λ t. by-test (closed_by (ids_in s0) k)
            (λ u. subst write-fine (sym (cond-true (closed_by (ids_in s0) k) _ _ u)) (this-end u))
            (λ u. subst write-fine (sym (cond-false (closed_by (ids_in s0) k) _ _ u)) (acted-by u (act_on (dropped l.state.header) ss l.state.queue l.rx l.store k body_w).fault refl)))

      this-received : is_closed s0.state ≡ false → (r : Result Packet (Answer × ℕ)) → Got received l.state.header.negotiated.config.max_payload r → write-fine (write_by spending l ch out bytes w0 s0 received r)
      unfolding write_by
      this-received op r (stopped a used st) = this-stop a used st
      this-received op r (packet k sy) = this-packet op k sy

      this-first : is_closed s0.state ≡ false → (x : Option ℕ) → write-fine (write_first spending l ch out bytes received w0 s0 x)
      unfolding write_first
      this-first op (Some most) = sent-fine 0 w0 s0 refl (send_len l bytes most) (first-sent (send_len l bytes most))
      this-first op None = subst write-fine (sym (cond-true s0.has_remote _ _ g.known)) (this-received op (received_of l received) (got l received))

      -- a write on this channel
      write-this : write-fine (write_on spending l ch out bytes received w0 s0)
      unfolding write_on
      write-this =
          by-test (is_closed s0.state)
          (λ c. subst write-fine (sym (cond-true (is_closed s0.state) _ _ c)) (this-plain (Refused ChannelClosed)))
          (λ c. subst write-fine (sym (cond-false (is_closed s0.state) _ _ c)) (this-first c (leave_of spending s0 p)))

    -- ---- write, on another channel

    module _ (away : i ≡ ch.slot → ⊥) (in_table : is_there l ch ≡ true) (fill : (slot_in ss ch.slot).filled ≡ true) (ne : (slot_in ss ch.slot).local.0 ≡ b.local → ⊥) (o : is_on i b ch ≡ false) where
      abbrev j-else : ℕ
      j-else = ch.slot

      abbrev s-else : ChannelSlot
      s-else = slot_in ss j-else

      abbrev w-else : Work
      w-else = begun (dropped l.state.header) l

      else-book : (a : Answer) (used : ℕ) (bs : List ℕ) → entered a used bs ≡ packet_b books i received (ends_other books ch) (saw a used fs bs) b
      else-book a used bs = cond-false (is_on i b ch) _ _ o

      -- a slot stored at the other place
      else-left : (t : ChannelSlot) (f : List Frame) (a : Answer) (used : ℕ) → Good p credit (slot_in ss i) (run_of l.rx p.rx_cap i (slot_in ss i)) (entered a used []) → Left (then w-else (slot_to j-else t ∷ []) f) a used
      else-left t f a used x = good-other j-else t l.rx _ away x

      none-else : (a : Answer) → Good p credit (slot_in ss i) (run_of l.rx p.rx_cap i (slot_in ss i)) (entered a 0 [])
      none-else a = good-by p credit _ _ _ _ _ _ refl refl (entered-none a []) g

      stop-else : (a : Answer) (used : ℕ) → Stops a used → write-fine (ends w-else a used [])
      stop-else a used st =
          write-ends w-else a used refl (good-by p credit _ _ _ _ _ _ refl refl (else-book a used []) (stop-good p credit _ lim _ _ b g books i received (ends_other books ch) a used fs [] st))

      module _ (open-else : is_closed s-else.state ≡ false) (k : Packet) (sy : Says received l.state.header.negotiated.config.max_payload k) where
        abbrev lim-else : ℕ
        lim-else = l.state.header.negotiated.config.max_payload

        abbrev m-else : Message
        m-else = header_at received

        abbrev body-else : List ℕ
        body-else = body_of received k

        test-else : ends_other books ch m-else ≡ closed_by (ids_in s-else) k
        test-else =
            reads_end received lim-else k sy ch.local.0 _ (ids_in s-else) (sym (there-local ch in_table))
            (mk.remote j-else fill)

        -- it ended the other channel's write
        end-else : closed_by (ids_in s-else) k ≡ true → write-fine (ends (then w-else (slot_to j-else (closed_slot s-else) ∷ []) []) (Refused ChannelClosed) (frame_len k) [])
        unfolding packet_b answer_number
        end-else u =
            write-ends (then w-else (slot_to j-else (closed_slot s-else) ∷ []) []) (Refused ChannelClosed) (frame_len k) refl
            (else-left (closed_slot s-else) [] (Refused ChannelClosed) (frame_len k)
            (good-by p credit _ _ _ _ b _ refl refl
            (else-book (Refused ChannelClosed) (frame_len k) [] ∙ cond-false (eqb (frame_len k) 0) _ _ (ne_eqb (frame_len k) 0 (λ x. omega arith)) ∙ cond-true (ends_other books ch m-else) _ _ (test-else ∙ u)) g))

        -- the other channel's OKAY
        module _ (rd : is_ready k.command ≡ true) where
          ready-else : (a : Answer) → eqb (answer_number a) 4 ≡ false → Good p credit (slot_in ss i) (run_of l.rx p.rx_cap i (slot_in ss i)) (entered a (frame_len k) [])
          unfolding closed_by
          ready-else a four =
              let rw2 = ready-no-write k.command rd in
              good-by p credit _ _ _ _ _ _ refl refl (else-book a (frame_len k) [])
              (packet-good p credit _ lim _ _ b g books i received (ends_other books ch) lim-else k a fs [] _ _ sy four (test-else ∙ cond-false (is_close k.command) _ false rw2.1)
              (good-by p credit _ _ _ _ b _ refl refl
              (frame-none books i b.acked m-else body-else a b
              (ap (λ (x : Bool). x && eqb m-else.arg1 b.local) (reads-write received lim-else k sy ∙ rw2.0))
              (ap (λ (x : Bool). x && cond (eqb m-else.arg1 0) (not (eqb m-else.arg0 0) && (eqb (named_in m-else.arg0 books) i)) (eqb m-else.arg1 b.local)) (reads-close received lim-else k sy ∙ rw2.1))) g))

          readied-else : (r : Result ChannelSlot CreditFault) → write-fine (write_readied spending l ch out bytes (frame_len k) w-else s-else r)
          unfolding write_readied answer_number
          readied-else (Ok t) =
              turn-fine (frame_len k) w-else t refl
              (λ n. else-left (spent_of t p n) (write_frame (ids_in t) (take n bytes) ∷ []) (Written n) (frame_len k) (ready-else (Written n) refl))
              (else-left t [] Waiting (frame_len k) (ready-else Waiting refl))
              (λ c. else-left t [] (Refused ChannelClosed) (frame_len k) (ready-else (Refused ChannelClosed) refl))
          readied-else (Err c) = write-ends w-else (Refused (CreditRefused c)) (frame_len k) refl (ready-else (Refused (CreditRefused c)) (bad-four c))

        -- any other packet
        module _ (u : closed_by (ids_in s-else) k ≡ false) where
          abbrev act-else : Acted
          act-else = act_on (dropped l.state.header) ss l.state.queue l.rx l.store k body-else

          abbrev ts-else : List ChannelSlot
          ts-else = slots_by ss act-else.changes

          at-else : At p s-else (run_of l.rx p.rx_cap j-else s-else) body-else (mine_of ss j-else k) (ends_of l.state.header.negotiated.config.channels ss j-else k) (slot_in ts-else j-else) (run_of act-else.rx p.rx_cap j-else (slot_in ts-else j-else)) act-else.fault
          at-else = acted-at (dropped l.state.header) ss l.state.queue l.rx l.store k body-else ok j-else fill

          quiet-else : acks_in p b.local (then_acted w-else act-else).frames ≡ 0
          quiet-else = acted-acks (dropped l.state.header) ss l.state.queue l.rx l.store k body-else b.local

          good-else : (a : Answer) → eqb (answer_number a) 4 ≡ false → Tells (mine_of ss i k) act-else.fault a → Good p credit (slot_in ts-else i) (run_of act-else.rx p.rx_cap i (slot_in ts-else i)) (entered a (frame_len k) [])
          good-else a four tells =
              good-by p credit _ _ _ _ _ _ refl refl (else-book a (frame_len k) [])
              (packet-good p credit _ lim _ _ b g books i received (ends_other books ch) lim-else k a fs [] _ _ sy four (test-else ∙ u)
              (acted-good (dropped l.state.header) ss l.state.queue l.rx l.store ok credit lim i there b g books mk received k sy b.acked (omega arith) a tells))

          left-else : (t : ChannelSlot) (f : List Frame) (a : Answer) → Good p credit (slot_in ts-else i) (run_of act-else.rx p.rx_cap i (slot_in ts-else i)) (entered a (frame_len k) []) → Left (then (then_acted w-else act-else) (slot_to j-else t ∷ []) f) a (frame_len k)
          left-else t f a x =
              let e : slot_in (slots_by ss (act-else.changes ++ slot_to j-else t ∷ [])) i ≡ slot_in ts-else i = ap (λ (y : List ChannelSlot). slot_in y i) (slots-append ss act-else.changes (slot_to j-else t ∷ [])) ∙ slot-set-other ts-else j-else i t away in
              good-by p credit _ _ _ _ _ _ e (ap (run_of act-else.rx p.rx_cap i) e) refl x

          no-else : (a : Answer) → act-else.fault ≡ None → is_refused (answer_number a) ≡ false → Tells (mine_of ss i k) act-else.fault a
          no-else a e r = record { taken = λ own f. r; over = λ own f. absurd (fault-apart (sym e ∙ f)) }

          closed-else : is_closed (slot_in ts-else j-else).state ≡ true → act-else.fault ≡ None → Tells (mine_of ss i k) act-else.fault (Refused ChannelClosed)
          closed-else c e =
              record {
                taken = λ own f.
                    let nc = write-no-close k.command (and-true (is_write k.command) (eqb k.arg1 (slot_in ss i).local.0) own).0 in
                    absurd (true≢false (sym c ∙ at-stays p _ _ _ _ _ _ _ _ at-else (ap (λ (x : Bool). x && cond (eqb k.arg1 0) (not (eqb k.arg0 0) && eqb (named_place (record { 0 = k.arg0 }) l.state.header.negotiated.config.channels ss) j-else) (eqb k.arg1 (slot_in ss j-else).local.0)) nc) open-else));
                over = λ own f. absurd (fault-apart (sym e ∙ f));
              }

          again-else : act-else.fault ≡ None → write-fine (send_again spending l ch out bytes (frame_len k) (then_acted w-else act-else) (slot_in ts-else j-else))
          unfolding answer_number
          again-else e =
              turn-fine (frame_len k) (then_acted w-else act-else) (slot_in ts-else j-else) quiet-else
              (λ n. left-else (spent_of (slot_in ts-else j-else) p n) (write_frame (ids_in (slot_in ts-else j-else)) (take n bytes) ∷ []) (Written n) (good-else (Written n) refl (no-else (Written n) e refl)))
              (left-else (slot_in ts-else j-else) [] Waiting (good-else Waiting refl (no-else Waiting e refl)))
              (λ c. left-else (slot_in ts-else j-else) [] (Refused ChannelClosed) (good-else (Refused ChannelClosed) refl (closed-else c e)))

          acted-else : (f : Option ChannelFault) → act-else.fault ≡ f → write-fine (write_acted spending l ch out bytes (frame_len k) w-else act-else f)
          unfolding write_acted answer_number
          acted-else (Some f) e =
              let a : Answer = Refused (fault_refusal f) in
              let z : unless_fault act-else.fault Waiting ≡ a = unless-is act-else.fault f e in
              write-ends (then_acted w-else act-else) a (frame_len k) quiet-else
              (subst (λ (x : Answer). Left (then_acted w-else act-else) x (frame_len k)) z (good-else (unless_fault act-else.fault Waiting) (not-four act-else.fault Waiting waiting-four) (tells-fault (mine_of ss i k) act-else.fault Waiting refl)))
          acted-else None e =
              let sl : slot_in (changed_all l.state act-else.changes).slots j-else ≡ slot_in ts-else j-else = ap (λ (x : List ChannelSlot). slot_in x j-else) (slots-by l.state act-else.changes) in
              subst (λ (x : ChannelSlot). write-fine (send_again spending l ch out bytes (frame_len k) (then_acted w-else act-else) x)) (sym sl) (again-else e)

        packet-else : write-fine (write_by spending l ch out bytes w-else s-else received (Ok k))
        unfolding write_by write_act
        packet-else =
            pick write-fine (is_ready k.command && eqb k.arg1 s-else.local.0)
            (λ t. readied-else (and-true (is_ready k.command) (eqb k.arg1 s-else.local.0) t).0 (ready_of s-else body-else p))
            (λ t. by-test (closed_by (ids_in s-else) k)
            (λ u. subst write-fine (sym (cond-true (closed_by (ids_in s-else) k) _ _ u)) (end-else u))
            (λ u. subst write-fine (sym (cond-false (closed_by (ids_in s-else) k) _ _ u)) (acted-else u (act_on (dropped l.state.header) ss l.state.queue l.rx l.store k body-else).fault refl)))

      received-else : is_closed s-else.state ≡ false → (r : Result Packet (Answer × ℕ)) → Got received l.state.header.negotiated.config.max_payload r → write-fine (write_by spending l ch out bytes w-else s-else received r)
      unfolding write_by
      received-else op r (stopped a used st) = stop-else a used st
      received-else op r (packet k sy) = packet-else op k sy

      first_else : is_closed s-else.state ≡ false → (x : Option ℕ) → write-fine (write_first spending l ch out bytes received w-else s-else x)
      unfolding write_first
      first_else op (Some most) =
          sent-fine 0 w-else s-else refl (send_len l bytes most)
          (else-left (spent_of s-else p (send_len l bytes most)) (write_frame (ids_in s-else) (take (send_len l bytes most) bytes) ∷ []) (Written (send_len l bytes most)) 0 (none-else (Written (send_len l bytes most))))
      first_else op None = subst write-fine (sym (cond-true s-else.has_remote _ _ (ok.known j-else fill))) (received-else op (received_of l received) (got l received))

      write-else : write-fine (write_on spending l ch out bytes received w-else s-else)
      unfolding write_on
      write-else =
          by-test (is_closed s-else.state)
          (λ c. subst write-fine (sym (cond-true (is_closed s-else.state) _ _ c)) (write-ends w-else (Refused ChannelClosed) 0 refl (none-else (Refused ChannelClosed))))
          (λ c. subst write-fine (sym (cond-false (is_closed s-else.state) _ _ c)) (first_else c (leave_of spending s-else p)))

    plain-else : (a : Answer) → write-fine (ends (begun (dropped l.state.header) l) a 0 [])
    plain-else a = write-ends (begun (dropped l.state.header) l) a 0 refl (good-by p credit _ _ _ _ _ _ refl refl (entered-none a []) g)

    write-by : On ch → write-fine (write_step spending l ch out bytes received)
    unfolding write_step slot_for
    write-by (this d t o) =
        pick write-fine (eqb (length bytes) 0) (λ z. plain-else (Written 0))
        (λ z. subst write-fine (sym (cond-true (is_there l ch) _ _ t)) (subst (λ (x : ℕ). write-fine (write_on spending l ch out bytes received (begun (dropped l.state.header) l) (slot_in ss x))) (sym d) (write-this d o)))
    write-by (another d t f ne o) =
        pick write-fine (eqb (length bytes) 0) (λ z. plain-else (Written 0)) (λ z. subst write-fine (sym (cond-true (is_there l ch) _ _ t)) (write-else d t f ne o))
    write-by (none t o) =
        pick write-fine (eqb (length bytes) 0) (λ z. plain-else (Written 0)) (λ z. subst write-fine (sym (cond-false (is_there l ch) _ _ t)) (plain-else (Refused ChannelClosed)))

    pub write-call : write-fine (write_step spending l ch out bytes received)
    write-call = write-by (on ch)
