-- An open beside the books: of a channel that is in the table, and of the one that it fills. Assumes nothing.
use mathlib.Core.Path.{◌≡◌, refl, sym, ap, subst, ◌∙◌}
use mathlib.Core.Bool.{Bool, true, false, not, cond, ◌&&◌}
use mathlib.Core.List.{List, [], ◌∷◌}
use Prim.Native.Nat.{ℕ, ◌+◌}
use native.Mathlib.Omega.{arith}
use lib.Dec.{eqb, ltb}
use borrow.Author.Tests.{eqb-true}
use lib.ListN.{length, set}
use borrow.Author.Tests.{ne_eqb, not-true}
use Rattle.le.proofs.Parts.{by-test}
use Rattle.config.specs.declared.negotiated.RxPolicy.{RxPolicy}
use Rattle.config.specs.Negotiated.{offered_credit}
use Rattle.config.proofs.Laws.{and-true}
use Rattle.protocol.specs.declared.message.Message.{Message}
use Rattle.protocol.specs.declared.packet.Packet.{Packet}
use Rattle.protocol.specs.Packet.{payload_limit}
use Rattle.protocol.proofs.RoundTrip.{Says}
use Rattle.protocol.specs.Command.{is_ready, is_close, is_write}
use Rattle.slot.specs.declared.ChannelSlot.{ChannelSlot}
use Rattle.credit.proofs.CreditLaws.{by_number}
use Rattle.slot.specs.Slot.{opening_slot, opened_of}
use Rattle.slot.proofs.Kept.{pick}
use Rattle.slot.proofs.Laws.{cond-true, cond-false}
use Rattle.state.specs.declared.Header.{Header}
use Rattle.state.specs.Change.{slot_to, changed_all}
use Rattle.state.specs.State.{is_ours}
use Rattle.table.specs.declared.ChannelId.{ChannelId}
use Rattle.table.specs.Table.{allocated, numbered, slot_in}
use Rattle.connection.specs.declared.Answer.{Answer}
use Rattle.connection.specs.declared.Answer.TheVariants.{Waiting, Opened, Refused}
use Rattle.connection.specs.declared.Refusal.{Refusal}
use Rattle.connection.specs.declared.Refusal.TheVariants.{InvalidCommand, InvalidMagic, PayloadTooLarge, InvalidChecksum, BadCredit, UnexpectedCommand, BadConfig, StoreShort, OutShort, ChannelClosed, ChannelRxOverflow, NoFreeChannels, BrokenState}
use Rattle.connection.specs.Act.{Acted, act_on}
use Rattle.connection.specs.Answer.{refusal_number, answer_number}
use Rattle.connection.specs.Calls.{Lent, Outcome, Work, begun, then, then_acted, storing, ends, untouched, dropped, pending_for, policy, body_of, frame_len, received_of, unless_fault, fault_refusal, still_pending, open_on, open_readied, open_acted, open_by, open_step}
use Rattle.connection.specs.Frames.{close_frame, open_frame, Sent}
use Rattle.history.specs.Book.{Book, named_in, acked_b, acks_of, packet_b, frame_b, header_at, is_wrte, is_clse, is_refused, ends_open}
use Rattle.history.specs.Demand3.{run_of}
use Rattle.history.proofs.Acts.{acks_in, mine_of, acted-acks, good-by, frame-none, close-fault}
use Rattle.history.proofs.Good.{Terms, Good, Limits, sent-good, quiet-good, acked-none}
use Rattle.history.proofs.Marks.{Tame, tame-ends, tame-act}
use Rattle.history.proofs.Packets.{Got, stopped, packet, got, Marked, reads-write, reads-close, write-no-close, ready-no-write}
use Rattle.connection.proofs.Slots.{slots_by, slot-set-other}
use Rattle.history.proofs.Places.{TableOk}
use Rattle.history.proofs.Steps.{saw, saw_of, stop-good, packet-good, acted-good, not-four, tells-fault, waiting-four, Fine, ends-fine, bad-four}
use Rattle.slot.specs.declared.ChannelFault.{ChannelFault}
use Rattle.std.specs.Prelude.{Option, Some, None, Result, Ok, Err}
use Rattle.credit.specs.declared.CreditFault.{CreditFault}
use Rattle.table.specs.declared.NoFreeChannels.{NoFreeChannels as NoFree}

pub and-false : (x : Bool) → (x && false) ≡ false
and-false true = refl
and-false false = refl

module _ (l : Lent) (credit : Terms) (ok : TableOk (policy l) l.state.header.negotiated.config.channels l.state.slots l.rx)
    (lim : Limits (policy l) credit l.state.header.negotiated.config.max_payload) (i : ℕ) (there : (slot_in l.state.slots i).filled ≡ true)
    (b : Book) (g : Good (policy l) credit (slot_in l.state.slots i) (run_of l.rx (policy l).rx_cap i (slot_in l.state.slots i)) b)
    (books : List Book) (mk : Marked books l.state.slots) (received : List ℕ) (fs : List Sent) where
  abbrev p : RxPolicy
  p = policy l

  abbrev ss : List ChannelSlot
  ss = l.state.slots

  abbrev h : Header
  h = l.state.header

  abbrev taken : Answer → ℕ → Book
  taken a used = packet_b books i received (ends_open (answer_number a)) (saw a used fs []) b

  abbrev open-fine : Outcome → Type 0
  open-fine x = acks_of b.local fs ≡ acks_in p b.local x.frames → Fine p credit ss i x (acked_b (acks_of b.local fs) (packet_b books i received (ends_open (answer_number x.answer)) (saw_of x fs) b))

  abbrev here : Book → Type 0
  here c = Good p credit (slot_in ss i) (run_of l.rx p.rx_cap i (slot_in ss i)) c

  -- an end that leaves this slot
  open-ends : (w : Work) (a : Answer) (used : ℕ) → slot_in (slots_by ss w.changes) i ≡ slot_in ss i → w.rx ≡ l.rx → acks_in p b.local w.frames ≡ 0 → here (taken a used) → open-fine (ends w a used [])
  unfolding ends
  open-ends w a used e1 e2 z f e =
      ends-fine p credit ss i w a used [] _
      (acked-none p credit _ _ _
      (good-by p credit _ _ _ _ _ _ e1 (ap (λ (x : List ℕ). run_of x p.rx_cap i (slot_in (slots_by ss w.changes) i)) e2 ∙ ap (run_of l.rx p.rx_cap i) e1) refl f) (acks_of b.local fs) (e ∙ z))

  unused : (a : Answer) → here (taken a 0)
  unfolding packet_b
  unused a = g

  on_fine : (out : ℕ) (destination : List ℕ) (a : Result ChannelId NoFree) → open-fine (open_on l out destination a)
  unfolding open_on
  on_fine out destination (Err _) = open-ends (begun (dropped h) l) (Refused NoFreeChannels) 0 refl refl refl (unused (Refused NoFreeChannels))
  on_fine out destination (Ok ch) =
      pick open-fine (ltb payload_limit (length destination)) (λ t. open-ends (begun (numbered (dropped h)) l) (Refused PayloadTooLarge) 0 refl refl refl (unused (Refused PayloadTooLarge)))
      (λ t. pick open-fine (ltb out (24 + length destination))
      (λ u e. acked-none p credit _ _ _ (unused (Refused OutShort)) (acks_of b.local fs) e)
      (λ u. open-ends (then (begun (pending_for (numbered (dropped h)) ch) l) [] (open_frame ch.local (offered_credit h.negotiated) destination ∷ [])) Waiting 0 refl refl refl (unused Waiting)))

  -- the pending open, at another place
  module _ (ch : ChannelId) (away : i ≡ ch.slot → ⊥) where
    module _ (k : Packet) (sy : Says received h.negotiated.config.max_payload k) where
      abbrev lim9 : ℕ
      lim9 = h.negotiated.config.max_payload

      abbrev m : Message
      m = header_at received

      abbrev body : List ℕ
      body = body_of received k

      -- a packet that is neither a WRTE nor a CLSE
      okay-taken : (a : Answer) → eqb (answer_number a) 4 ≡ false → is_ready k.command ≡ true → here (taken a (frame_len k))
      okay-taken a four rd =
          let r = ready-no-write k.command rd in
          let ec : is_clse m ≡ false = reads-close received lim9 k sy ∙ r.1 in
          packet-good p credit _ lim _ _ b g books i received (ends_open (answer_number a)) lim9 k a fs [] _ _ sy four (ap (λ (x : Bool). x && is_refused (answer_number a)) ec)
          (good-by p credit _ _ _ _ b _ refl refl
          (frame-none books i b.acked m body a b (ap (λ (x : Bool). x && eqb m.arg1 b.local) (reads-write received lim9 k sy ∙ r.0))
          (ap (λ (x : Bool). x && cond (eqb m.arg1 0) (not (eqb m.arg0 0) && (eqb (named_in m.arg0 books) i)) (eqb m.arg1 b.local)) ec)) g)

      readied-fine : is_ready k.command ≡ true → (r : Result ChannelSlot CreditFault) → open-fine (open_readied l ch k.arg0 (frame_len k) r)
      unfolding open_readied answer_number
      readied-fine rd (Ok t) = open-ends (then (begun (dropped h) l) (slot_to ch.slot t ∷ []) []) (Opened ch) (frame_len k) (slot-set-other ss ch.slot i t away) refl refl (okay-taken (Opened ch) refl rd)
      readied-fine rd (Err b) =
          open-ends (then (begun (dropped h) l) [] (close_frame (record { local = ch.local; remote = record { 0 = k.arg0 } }) ∷ [])) (Refused (BadCredit b)) (frame_len k) refl refl refl (okay-taken (Refused (BadCredit b)) (bad-four b) rd)

      -- a WRTE too early, whose number a channel may share
      early-fine : is_write k.command ≡ true → open-fine (ends (then (begun (dropped h) l) [] (close_frame (record { local = ch.local; remote = record { 0 = k.arg0 } }) ∷ [])) (Refused UnexpectedCommand) (frame_len k) [])
      unfolding answer_number frame_b
      early-fine wr =
          let a : Answer = Refused UnexpectedCommand in
          let nc = write-no-close k.command wr in
          let ec : is_clse m ≡ false = reads-close received lim9 k sy ∙ nc in
          let e0 : (is_clse m && cond (eqb m.arg1 0) (not (eqb m.arg0 0) && (eqb (named_in m.arg0 books) i)) (eqb m.arg1 b.local)) ≡ false =
          ap (λ (x : Bool). x && cond (eqb m.arg1 0) (not (eqb m.arg0 0) && (eqb (named_in m.arg0 books) i)) (eqb m.arg1 b.local)) ec in
          open-ends (then (begun (dropped h) l) [] (close_frame (record { local = ch.local; remote = record { 0 = k.arg0 } }) ∷ [])) a (frame_len k) refl refl refl
          (packet-good p credit _ lim _ _ b g books i received (ends_open (answer_number a)) lim9 k a fs [] _ _ sy refl (ap (λ (x : Bool). x && true) ec)
          (pick here (is_wrte m && eqb m.arg1 b.local)
          (λ t. quiet-good p credit _ _ _ (sent-good p credit _ _ b g b.acked (length body)))
          (λ t. good-by p credit _ _ _ _ b _ refl refl (cond-false _ _ _ e0) g)))

      -- a CLSE ends it, and closes no book
      ended-fine : is_close k.command ≡ true → open-fine (ends (begun (dropped h) l) (Refused ChannelClosed) (frame_len k) [])
      unfolding answer_number packet_b
      ended-fine cl =
          let ec : (is_clse m && true) ≡ true = ap (λ (x : Bool). x && true) (reads-close received lim9 k sy ∙ cl) in
          open-ends (begun (dropped h) l) (Refused ChannelClosed) (frame_len k) refl refl refl
          (good-by p credit _ _ _ _ b _ refl refl (cond-false (eqb (frame_len k) 0) _ _ (ne_eqb (frame_len k) 0 (λ x. omega arith)) ∙ cond-true (is_clse m && true) _ _ ec) g)

      -- any other packet
      abbrev act : Acted
      act = act_on h ss l.state.queue l.rx l.store k body

      not-ended : ends_open (answer_number (unless_fault act.fault Waiting)) m ≡ false
      unfolding unless_fault answer_number
      not-ended =
          by-test (is_close k.command)
          (λ t. let e = close-fault h ss l.state.queue l.rx l.store k body t in
          ap (λ (x : Option ChannelFault). is_clse m && is_refused (answer_number (unless_fault x Waiting))) e ∙ and-false (is_clse m))
          (λ t. ap (λ (x : Bool). x && is_refused (answer_number (unless_fault act.fault Waiting))) (reads-close received lim9 k sy ∙ t))

      acted-fine : open-fine (open_acted l (frame_len k) act)
      unfolding open_acted ends answer_number
      acted-fine e =
          let a = unless_fault act.fault Waiting in
          let w = then_acted (begun h l) act in
          ends-fine p credit ss i (storing w (still_pending a act.header)) a (frame_len k) [] _
          (acked-none p credit _ _ _
          (packet-good p credit _ lim _ _ b g books i received (ends_open (answer_number a)) lim9 k a fs [] _ _ sy (not-four act.fault Waiting waiting-four) not-ended
          (acted-good h ss l.state.queue l.rx l.store ok credit lim i there b g books mk received k sy b.acked (omega arith) a (tells-fault (mine_of ss i k) act.fault Waiting refl)))
          (acks_of b.local fs) (e ∙ acted-acks h ss l.state.queue l.rx l.store k body b.local))

      packet-fine : open-fine (open_by l ch received (Ok k))
      unfolding open_by
      packet-fine =
          let mine = eqb k.arg1 ch.local.0 in
          pick open-fine (is_ready k.command && mine) (λ t. readied-fine (and-true (is_ready k.command) mine t).0 (opened_of (opening_slot ch.local) (record { 0 = k.arg0 }) body p))
          (λ t. pick open-fine (is_write k.command && mine) (λ u. early-fine (and-true (is_write k.command) mine u).0)
          (λ u. pick open-fine (is_close k.command && mine) (λ v. ended-fine (and-true (is_close k.command) mine v).0) (λ v. acted-fine)))

    by-fine : (r : Result Packet (Answer × ℕ)) → Got received h.negotiated.config.max_payload r → open-fine (open_by l ch received r)
    unfolding open_by
    by-fine r (stopped a used st) = open-ends (begun (still_pending a h) l) a used refl refl refl (stop-good p credit _ lim _ _ b g books i received (ends_open (answer_number a)) a used fs [] st)
    by-fine r (packet k sy) = packet-fine k sy

  -- an open beside the book of a channel that is in the table
  pub open-call : (out : ℕ) (destination : List ℕ) → (is_ours h.pending.what ≡ true → i ≡ h.pending.slot → ⊥) → open-fine (open_step l out destination received)
  unfolding open_step
  open-call out destination away =
      by-test (is_ours h.pending.what)
      (λ t. subst open-fine (sym (cond-true (is_ours h.pending.what) _ _ t)) (by-fine (record { slot = h.pending.slot; local = h.pending.local }) (away t) (received_of l received) (got l received)))
      (λ t. subst open-fine (sym (cond-false (is_ours h.pending.what) _ _ t)) (on_fine out destination (allocated h ss)))

-- ---- the slot that an open fills

-- a refusal's number is one
pub refused-is : (r : Refusal) → is_refused (refusal_number r) ≡ true
refused-is (InvalidCommand word) = refl
refused-is InvalidMagic = refl
refused-is PayloadTooLarge = refl
refused-is InvalidChecksum = refl
refused-is (BadCredit b) = by_number (λ n. is_refused n ≡ true) refl refl refl b
refused-is UnexpectedCommand = refl
refused-is BadConfig = refl
refused-is StoreShort = refl
refused-is OutShort = refl
refused-is ChannelClosed = refl
refused-is ChannelRxOverflow = refl
refused-is NoFreeChannels = refl
refused-is BrokenState = refl

-- and not 0
pub refused-some : (r : Refusal) → eqb (refusal_number r) 0 ≡ false
refused-some r = not-true (eqb (refusal_number r) 0) (and-true (not (eqb (refusal_number r) 0)) (ltb (refusal_number r) 100) (refused-is r)).0

-- a slot is filled, or none is
pub data Opens (l : Lent) (received : List ℕ) : Outcome → Type 0 where
  fills : (x : Outcome) (t : ChannelSlot) (k : Packet) → Says received l.state.header.negotiated.config.max_payload k
      → x.answer ≡ Opened (record { slot = l.state.header.pending.slot; local = l.state.header.pending.local })
      → slots_by l.state.slots x.changes ≡ set l.state.slots l.state.header.pending.slot t → x.rx ≡ l.rx → x.frames ≡ [] → is_ours l.state.header.pending.what ≡ true
      → is_ours (changed_all l.state x.changes).header.pending.what ≡ false
      → opened_of (opening_slot l.state.header.pending.local) (record { 0 = k.arg0 }) (body_of received k) (policy l) ≡ Ok t
      → is_ready k.command ≡ true → k.arg1 ≡ l.state.header.pending.local.0 → x.used ≡ frame_len k → Opens l received x
  leaves : (x : Outcome) → eqb (answer_number x.answer) 0 ≡ false → Tame l.state.slots x.changes → Opens l received x

module _ (l : Lent) (ok : TableOk (policy l) l.state.header.negotiated.config.channels l.state.slots l.rx) (received : List ℕ) where
  abbrev hh : Header
  hh = l.state.header

  abbrev ws : List ChannelSlot
  ws = l.state.slots

  plain : (w : Work) (a : Answer) (used : ℕ) → eqb (answer_number a) 0 ≡ false → Tame ws w.changes → Opens l received (ends w a used [])
  unfolding ends
  plain w a used e t = leaves (ends w a used []) e (tame-ends ws w a used [] t)

  opens-on : (out : ℕ) (destination : List ℕ) (a : Result ChannelId NoFree) → Opens l received (open_on l out destination a)
  unfolding open_on answer_number
  opens-on out destination (Err _) = plain (begun (dropped hh) l) (Refused NoFreeChannels) 0 refl tt
  opens-on out destination (Ok ch) =
      pick (Opens l received) (ltb payload_limit (length destination)) (λ t. plain (begun (numbered (dropped hh)) l) (Refused PayloadTooLarge) 0 refl tt)
      (λ t. pick (Opens l received) (ltb out (24 + length destination)) (λ u. leaves (untouched l OutShort) refl tt)
      (λ u. plain (then (begun (pending_for (numbered (dropped hh)) ch) l) [] (open_frame ch.local (offered_credit hh.negotiated) destination ∷ [])) Waiting 0 refl tt))

  abbrev wch : ChannelId
  wch = record { slot = hh.pending.slot; local = hh.pending.local }

  opens-readied : is_ours hh.pending.what ≡ true → (k : Packet) → Says received hh.negotiated.config.max_payload k
      → is_ready k.command ≡ true → k.arg1 ≡ hh.pending.local.0 → (r : Result ChannelSlot CreditFault)
      → opened_of (opening_slot hh.pending.local) (record { 0 = k.arg0 }) (body_of received k) (policy l) ≡ r → Opens l received (open_readied l wch k.arg0 (frame_len k) r)
  unfolding open_readied ends answer_number
  opens-readied on k sy rd mine (Ok t) e = fills _ t k sy refl refl refl refl on refl e rd mine refl
  opens-readied on k sy rd mine (Err b) e = plain (then (begun (dropped hh) l) [] (close_frame (record { local = hh.pending.local; remote = record { 0 = k.arg0 } }) ∷ [])) (Refused (BadCredit b)) (frame_len k) (by_number (λ n. eqb n 0 ≡ false) refl refl refl b) tt

  not_opened : (f : Option ChannelFault) → eqb (answer_number (unless_fault f Waiting)) 0 ≡ false
  unfolding unless_fault answer_number
  not_opened None = refl
  not_opened (Some f) = refused-some (fault_refusal f)

  opens-acted : (k : Packet) → Opens l received (open_acted l (frame_len k) (act_on hh ws l.state.queue l.rx l.store k (body_of received k)))
  unfolding open_acted
  opens-acted k =
      let b = act_on hh ws l.state.queue l.rx l.store k (body_of received k) in
      let a = unless_fault b.fault Waiting in
      plain (storing (then_acted (begun hh l) b) (still_pending a b.header)) a (frame_len k) (not_opened b.fault) (tame-act hh ws l.state.queue l.rx l.store k (body_of received k) ok)

  opens_by : is_ours hh.pending.what ≡ true → (r : Result Packet (Answer × ℕ)) → Got received hh.negotiated.config.max_payload r → Opens l received (open_by l wch received r)
  unfolding open_by answer_number
  opens_by on r (stopped a used st) = plain (begun (still_pending a hh) l) a used st.undone tt
  opens_by on r (packet k sy) =
      let mine = eqb k.arg1 hh.pending.local.0 in
      pick (Opens l received) (is_ready k.command && mine) (λ t. let m = and-true (is_ready k.command) mine t in opens-readied on k sy m.0 (eqb-true k.arg1 hh.pending.local.0 m.1) (opened_of (opening_slot hh.pending.local) (record { 0 = k.arg0 }) (body_of received k) (policy l)) refl)
      (λ t. pick (Opens l received) (is_write k.command && mine)
      (λ u. plain (then (begun (dropped hh) l) [] (close_frame (record { local = hh.pending.local; remote = record { 0 = k.arg0 } }) ∷ [])) (Refused UnexpectedCommand) (frame_len k) refl tt)
      (λ u. pick (Opens l received) (is_close k.command && mine) (λ v. plain (begun (dropped hh) l) (Refused ChannelClosed) (frame_len k) refl tt) (λ v. opens-acted k)))

  pub opens : (out : ℕ) (destination : List ℕ) → Opens l received (open_step l out destination received)
  unfolding open_step
  opens out destination =
      by-test (is_ours hh.pending.what)
      (λ t. subst (Opens l received) (sym (cond-true (is_ours hh.pending.what) _ _ t)) (opens_by t (received_of l received) (got l received)))
      (λ t. subst (Opens l received) (sym (cond-false (is_ours hh.pending.what) _ _ t)) (opens-on out destination (allocated hh ws)))
