-- What becomes of the packet that a call uses. Assumes nothing.
use mathlib.Core.Path.{◌≡◌, refl, sym, ap, subst, ◌∙◌}
use mathlib.Core.Bool.{Bool, true, false, not, cond, ◌&&◌, true≢false}
use mathlib.Core.List.{List, [], ◌∷◌, ◌++◌}
use Prim.Native.Nat.{ℕ, ◌+◌, min}
use native.Mathlib.Omega.{arith}
use lib.Dec.{eqb, ltb}
use lib.ListN.{length, set}
use borrow.Author.Tests.{eqb-true, eq-eqb, ltb-true, le-ltb}
use Rattle.le.specs.Le.{num_of}
use Rattle.le.proofs.Parts.{by-test}
use Rattle.config.proofs.Laws.{and-true}
use Rattle.config.specs.declared.negotiated.RxPolicy.{RxPolicy}
use Rattle.config.specs.Config.{stores_fit}
use Rattle.config.specs.Negotiated.{policy_of}
use Rattle.credit.proofs.CreditLaws.{by_number}
use Rattle.credit.specs.Credit.{credit_of}
use Rattle.credit.specs.declared.CreditFault.{CreditFault}
use Rattle.incoming.specs.Incoming.{popped}
use Rattle.protocol.specs.declared.command.Command.{Command}
use Rattle.protocol.specs.declared.packet.DecodeError.{DecodeError}
use Rattle.protocol.specs.declared.packet.DecodeError.TheVariants.{InvalidCommand as WordInvalid, InvalidMagic as MagicInvalid, PayloadTooLarge as LengthTooLarge, InvalidChecksum as SumInvalid}
use Rattle.protocol.specs.declared.packet.Packet.{Packet}
use Rattle.protocol.specs.Command.{word_of, letters_of, magic_of, command_of, is_the, is_ready, is_write, is_close}
use Rattle.protocol.specs.Message.{message_of}
use Rattle.protocol.specs.Packet.{payload_limit, payload_of, check_passes, known_of, named_of, decode_of}
use Rattle.protocol.proofs.CommandLaws.{word-names}
use Rattle.protocol.proofs.RoundTrip.{Says, says}
use Rattle.slot.specs.declared.ChannelError.{ChannelError}
use Rattle.slot.specs.declared.ChannelFault.{ChannelFault as SlotFault}
use Rattle.slot.specs.declared.ChannelFault.TheVariants.{RxOverflow, BadCredit, UnexpectedCommand as WriteEarly}
use Rattle.slot.specs.declared.ChannelSlot.{ChannelSlot}
use Rattle.slot.specs.declared.Spending.{Spending}
use Rattle.slot.specs.declared.ids.ChannelIds.{ChannelIds}
use Rattle.slot.specs.declared.ids.LocalId.{LocalId}
use Rattle.slot.specs.declared.ids.RemoteId.{RemoteId}
use Rattle.slot.specs.Ids.{closed_by}
use Rattle.slot.specs.Wrote.{Wrote}
use Rattle.slot.specs.Slot.{is_failed, is_opening, is_closed, error_of, has_data, take_len, taken_of, settled_of, leave_of, opening_slot, opened_by, opened_of, ready_by, ready_of}
use Rattle.slot.proofs.Kept.{pick}
use Rattle.slot.proofs.Laws.{cond-true, cond-false}
use Rattle.slot.proofs.Stays.{settled-stays, settled-state}
use Rattle.state.specs.declared.Header.{Header}
use Rattle.state.specs.declared.QueuedOpen.{QueuedOpen}
use Rattle.state.specs.Change.{Step, Change, slot_to, changed_all}
use Rattle.state.specs.State.{is_ours}
use Rattle.table.specs.declared.ChannelId.{ChannelId}
use Rattle.table.specs.declared.NoFreeChannels.{NoFreeChannels as NoFree}
use Rattle.table.specs.declared.Want.TheVariants.{Local}
use Rattle.table.specs.Table.{allocated, place_of, slot_in}
use Rattle.table_dispatch.specs.declared.DispatchOutcome.{DispatchOutcome}
use Rattle.table_dispatch.specs.Dispatch.{named_place, readied_of, granted, ready_at, stray_of, grant_of, Dispatched, buffered_at, wrote_by, wrote_at, write_of, route_of, dispatch_of}
use Rattle.table_dispatch.proofs.RouteLaws.{by-route}
use Rattle.connection.specs.declared.Answer.{Answer}
use Rattle.connection.specs.declared.Answer.TheVariants.{Done, Waiting, Opened, Read, Written, Refused}
use Rattle.connection.specs.declared.Refusal.TheVariants.{InvalidChecksum, BadCredit as CreditRefused, UnexpectedCommand, ChannelClosed}
use Rattle.connection.specs.Act.{Acted, table_of, act_on}
use Rattle.connection.specs.Answer.{answer_number}
use Rattle.connection.specs.Calls.{Lent, Outcome, Work, begun, then, then_acted, ends, checked, checked_out, dropped, policy, ids_in, is_there, slot_for, fault_refusal, error_refusal, unless_fault, received_by, received_of, body_of, frame_len, dispatch_by, dispatch_step, settled_as, settle_step, taken_by, take_step, reread, read_settled, read_acted, is_direct, read_direct, read_by, read_taken, read_first, read_step, send_some, send_by, send_again, write_readied, write_acted, write_act, write_by, write_first, write_on, write_step, close_step, take_front_by, take_front_step, open_on, open_readied, open_acted, open_by, open_step, is_offered, reject_on, accept_on, offer_in, accept_step, reject_step, verdict_step, let_go_step, open_outcome, dispatch_outcome, settle_outcome, take_outcome, read_outcome, write_outcome, close_outcome, take_front_outcome, numbers_outcome, accept_outcome, reject_outcome, verdict_outcome, let_go_outcome}
use Rattle.connection.specs.Frames.{frames_bytes}
use Rattle.connection.proofs.Slots.{slots_by, slots-by, slot-set-same}
use Rattle.history.specs.Run.{Call, open_call, dispatch_call, settle_call, take_call, read_call, write_call, close_call, front_taken, look_call, numbers_look, accept_call, reject_call, let_go_call, verdict_call, received_in, World, lent, look_outcome, outcome}
use Rattle.history.specs.Book.{is_refused, is_early}
use Rattle.history.specs.Credits.{is_lost}
use Rattle.history.proofs.Acts.{acted-fault, acted-at, at_named, at-stays}
use Rattle.history.proofs.Marks.{there-filled}
use Rattle.history.proofs.Packets.{write-no-close, ready-no-write}
use Rattle.history.proofs.Places.{TableOk, fault_of, found-filled, Decides, buffers, overflows, decides}
use Rattle.history.proofs.Steps.{table-settled, bad-four}
use Rattle.std.specs.Prelude.{ℤ, Option, Some, None, Result, Ok, Err}

-- ---- what is said of a call

-- nothing is used, or a damaged frame, or the packet that the received bytes begin with
pub data UsedBy (received : List ℕ) (limit : ℕ) (o : Outcome) : Type 0 where
  nothing : o.used ≡ 0 → UsedBy received limit o
  damaged : (n : ℕ) → decode_of received limit ≡ Err (SumInvalid n) → UsedBy received limit o
  whole : (k : Packet) → decode_of received limit ≡ Ok (Some k) → Says received limit k → o.used ≡ frame_len k → eqb (answer_number o.answer) 4 ≡ false
      → UsedBy received limit o

-- by an answer's number, a WRTE was taken, or it did not fit
pub data FitsBy (number : ℕ) : Type 0 where
  taken : is_refused number ≡ false → FitsBy number
  too-much : number ≡ 11 → FitsBy number

-- the same of a call's answer
abbrev pub Fits11 : Outcome → Type 0
Fits11 o = FitsBy (answer_number o.answer)

-- what a call's answer tells of the packet that it used, on a table before the call
pub record Receipt (l : Lent) (received : List ℕ) (o : Outcome) : Type 0 where
  pub uses : UsedBy received l.state.header.negotiated.config.max_payload o
  -- refused by 8, 9 or 13 it uses nothing
  pub early : is_early (answer_number o.answer) ≡ true → o.used ≡ 0
  -- a WRTE of a channel in the table is taken, or answered by 11
  pub wrote : (k : Packet) → Says received l.state.header.negotiated.config.max_payload k → o.used ≡ frame_len k → (i : ℕ)
      → (slot_in l.state.slots i).filled ≡ true → is_write k.command ≡ true → k.arg1 ≡ (slot_in l.state.slots i).local.0 → Fits11 o
  -- an OKAY with a credit that reads is not refused by 4, 5, 20 or 21
  pub readied : (k : Packet) → Says received l.state.header.negotiated.config.max_payload k → o.used ≡ frame_len k → is_ready k.command ≡ true
      → (z : ℤ) → credit_of (body_of received k) ≡ Ok z → is_lost (answer_number o.answer) ≡ false

-- ---- bytes that a packet is said of

-- they are decoded to it
pub decodes : (s : List ℕ) (limit : ℕ) (k : Packet) → Says s limit k → decode_of s limit ≡ Ok (Some k)
unfolding decode_of named_of known_of
decodes s limit k r =
    let m = message_of s in
    let n : command_of m.command ≡ Ok k.command = ap command_of r.word-is ∙ word-names k.command in
    let q = r.known in
    cond-false (ltb (length s) 24) _ _ (le-ltb (length s) 24 r.long) ∙ ap (named_of s limit m) n
    ∙ cond-false (not (eqb m.magic (magic_of k.command))) _ _ (ap not (eq-eqb m.magic (magic_of k.command) q.magic-is))
    ∙ cond-false (ltb (min limit payload_limit) m.data_length) _ _ (le-ltb (min limit payload_limit) m.data_length q.within)
    ∙ cond-false (ltb (length s) (24 + m.data_length)) _ _ (le-ltb (length s) (24 + m.data_length) q.whole)
    ∙ cond-true (check_passes m.data_check (payload_of s m.data_length)) _ _ q.passes ∙ ap (λ (p : Packet). Ok (Some p)) (sym q.packet-is)

-- so two packets that are said of the same bytes are equal
pub said-same : (s : List ℕ) (limit : ℕ) (j k : Packet) → decode_of s limit ≡ Ok (Some j) → Says s limit k → j ≡ k
said-same s limit j k e r = let f = decodes s limit k r in cc

-- and no frame of theirs is damaged
pub said-whole : (s : List ℕ) (limit n : ℕ) (k : Packet) → decode_of s limit ≡ Err (SumInvalid n) → Says s limit k → ⊥
said-whole s limit n k e r = let f = decodes s limit k r in absurd (cc)

-- ---- a credit that reads

abbrev is-given : Result ChannelSlot CreditFault → Bool
is-given (Ok t) = true
is-given (Err b) = false

-- it is taken
ready-given : (s : ChannelSlot) (payload : List ℕ) (p : RxPolicy) (z : ℤ) → credit_of payload ≡ Ok z → is-given (ready_of s payload p) ≡ true
unfolding ready_of ready_by
ready-given s payload p z e =
    pick (λ (r : Result ChannelSlot CreditFault). is-given r ≡ true) p.delayed (λ d. ap (λ (c : Result ℤ CreditFault). is-given (ready_by s c)) e) (λ d. refl)

opened-given : (s : ChannelSlot) (remote : RemoteId) (payload : List ℕ) (p : RxPolicy) (z : ℤ) → credit_of payload ≡ Ok z
    → is-given (opened_of s remote payload p) ≡ true
unfolding opened_of opened_by
opened-given s remote payload p z e =
    pick (λ (r : Result ChannelSlot CreditFault). is-given r ≡ true) p.delayed (λ d. ap (λ (c : Result ℤ CreditFault). is-given (opened_by s remote c)) e) (λ d. refl)

-- ---- the faults of packets that are dispatched

-- none, or a WRTE that does not fit
abbrev is-mild : Option SlotFault → Bool
is-mild None = true
is-mild (Some RxOverflow) = true
is-mild (Some (BadCredit b)) = false
is-mild (Some WriteEarly) = false

-- a credit that does not read
abbrev is-unread : Option SlotFault → Bool
is-unread None = false
is-unread (Some RxOverflow) = false
is-unread (Some (BadCredit b)) = true
is-unread (Some WriteEarly) = false

record Calm (c : Command) (payload : List ℕ) (f : Option SlotFault) : Type 0 where
  wrote : is_write c ≡ true → is-mild f ≡ true
  readied : is_ready c ≡ true → (z : ℤ) → credit_of payload ≡ Ok z → is-unread f ≡ false

granted-calm : (f : ℕ) (s : ChannelSlot) (remote : RemoteId) (r : Result ChannelSlot CreditFault) → is-given r ≡ true
    → is-unread (fault_of (granted f s remote r).result) ≡ false
unfolding granted
granted-calm f s remote (Ok t) e = refl
granted-calm f s remote (Err b) e = absurd (true≢false (sym e))

kept-mild : (f : ℕ) (s : ChannelSlot) (due : Option ℕ) → is-mild (fault_of (buffered_at f s due)) ≡ true
kept-mild f s (Some len) = refl
kept-mild f s None = refl

module _ (p : RxPolicy) (n : ℕ) (ss : List ChannelSlot) (rx : List ℕ) (ok : TableOk p n ss rx) (payload : List ℕ) where
  grant-calm : (remote : RemoteId) (local : LocalId) (z : ℤ) → credit_of payload ≡ Ok z
      → is-unread (fault_of (grant_of p n ss remote local payload).result) ≡ false
  unfolding grant_of ready_at readied_of stray_of
  grant-calm remote local z e =
      let f = place_of (Local local) n ss in
      let s = slot_in ss f in
      let P : Step DispatchOutcome → Type 0 = λ x. is-unread (fault_of x.result) ≡ false in
      let Q : DispatchOutcome → Type 0 = λ x. is-unread (fault_of x) ≡ false in
      pick P (ltb f n)
      (λ t. pick P (is_failed s.failed) (λ u. refl)
      (λ u. granted-calm f s remote _
      (pick (λ (r : Result ChannelSlot CreditFault). is-given r ≡ true) (is_opening s.state) (λ o. opened-given s remote payload p z e) (λ o. ready-given s payload p z e))))
      (λ t. pick Q (eqb remote.0 0) (λ u. refl) (λ u. pick Q (eqb local.0 0) (λ v. refl) (λ v. refl)))

  wrote-mild : (f : ℕ) (s : ChannelSlot) (remote : RemoteId) (r : Wrote) → Decides s p (length payload) r
      → is-mild (fault_of (wrote_by p f s remote payload rx r).step.result) ≡ true
  unfolding wrote_by
  wrote-mild f s remote (Ok w) (buffers e h) = kept-mild f s w.ack
  wrote-mild f s remote (Err why) (buffers e h) = absurd (true≢false (sym e))
  wrote-mild f s remote r (overflows e h) = subst (λ (x : Wrote). is-mild (fault_of (wrote_by p f s remote payload rx x).step.result) ≡ true) (sym e) refl

  write-mild : (remote : RemoteId) (local : LocalId) → is-mild (fault_of (write_of p n ss remote local payload rx).step.result) ≡ true
  unfolding write_of wrote_at
  write-mild remote local =
      let f = place_of (Local local) n ss in
      let P : Dispatched → Type 0 = λ d. is-mild (fault_of d.step.result) ≡ true in
      pick P (ltb f n)
      (λ t. let fill = found-filled p n ss rx ok local (ltb-true f n t) in
      pick P (is_failed (slot_in ss f).failed) (λ u. refl) (λ u. wrote-mild f (slot_in ss f) remote _ (decides (slot_in ss f) p (length payload) (ok.opened f fill))))
      (λ t. refl)

  route-calm : (c : Command) (a l : ℕ) → Calm c payload (fault_of (route_of p n ss c a l payload rx).step.result)
  unfolding is_write is_ready is_the word_of letters_of num_of
  route-calm c a l =
      by-route p n ss a l payload rx (λ c d. Calm c payload (fault_of d.step.result)) (λ c h. record { wrote = λ e. refl; readied = λ e z f. refl })
      (record { wrote = λ e. refl; readied = λ e z f. refl })
      (record { wrote = λ e. absurd (true≢false (sym e)); readied = λ e z f. absurd (true≢false (sym e)) })
      (record { wrote = λ e. write-mild (record { 0 = a }) (record { 0 = l }); readied = λ e z f. absurd (true≢false (sym e)) })
      (record { wrote = λ e. absurd (true≢false (sym e)); readied = λ e z f. grant-calm (record { 0 = a }) (record { 0 = l }) z f }) c

module _ (h : Header) (ss : List ChannelSlot) (queue : List QueuedOpen) (rx store : List ℕ) (k : Packet) (payload : List ℕ)
    (ok : TableOk (policy_of h.negotiated) h.negotiated.config.channels ss rx) where
  act-calm : Calm k.command payload (act_on h ss queue rx store k payload).fault
  unfolding table_of dispatch_of
  act-calm =
      subst (Calm k.command payload) (sym (acted-fault h ss queue rx store k payload))
      (route-calm (policy_of h.negotiated) h.negotiated.config.channels ss rx ok payload k.command k.arg0 k.arg1)

  -- a WRTE closes no channel
  act-open : (j : ℕ) → (slot_in ss j).filled ≡ true → is_write k.command ≡ true → is_closed (slot_in ss j).state ≡ false
      → is_closed (slot_in (slots_by ss (act_on h ss queue rx store k payload).changes) j).state ≡ false
  act-open j there e live =
      at-stays (policy_of h.negotiated) _ _ _ _ _ _ _ _ (acted-at h ss queue rx store k payload ok j there)
      (ap (λ (x : Bool). x && cond (eqb k.arg1 0) (not (eqb k.arg0 0) && eqb (named_place (record { 0 = k.arg0 }) h.negotiated.config.channels ss) j) (eqb k.arg1 (slot_in ss j).local.0))
      (write-no-close k.command e)) live

-- a CLSE is no WRTE
close-no-write : (c : Command) → is_close c ≡ true → is_write c ≡ false
close-no-write c e = by-test (is_write c) (λ w. absurd (true≢false (sym e ∙ write-no-close c w))) (λ w. w)

closed-no-write : (ids : ChannelIds) (k : Packet) → closed_by ids k ≡ true → is_write k.command ≡ false
unfolding closed_by
closed-no-write ids k e = by-test (is_write k.command) (λ w. absurd (true≢false (sym e ∙ cond-false (is_close k.command) _ _ (write-no-close k.command w)))) (λ w. w)

-- ---- answers

-- what the answer of a call that used a packet tells of it
record Fate (l : Lent) (received : List ℕ) (k : Packet) (a : Answer) : Type 0 where
  late : is_early (answer_number a) ≡ false
  four : eqb (answer_number a) 4 ≡ false
  wrote : (i : ℕ) → (slot_in l.state.slots i).filled ≡ true → is_write k.command ≡ true → k.arg1 ≡ (slot_in l.state.slots i).local.0 → FitsBy (answer_number a)
  readied : is_ready k.command ≡ true → (z : ℤ) → credit_of (body_of received k) ≡ Ok z → is_lost (answer_number a) ≡ false

-- what a call uses, with that
data Took (l : Lent) (received : List ℕ) (o : Outcome) : Type 0 where
  unused : o.used ≡ 0 → Took l received o
  broken : (n : ℕ) → decode_of received l.state.header.negotiated.config.max_payload ≡ Err (SumInvalid n) → is_early (answer_number o.answer) ≡ false
      → Took l received o
  used-whole : (k : Packet) → decode_of received l.state.header.negotiated.config.max_payload ≡ Ok (Some k) → o.used ≡ frame_len k
      → Fate l received k o.answer → Took l received o

module _ (l : Lent) (received : List ℕ) where
  abbrev limit : ℕ
  limit = l.state.header.negotiated.config.max_payload

  receipt-of : (o : Outcome) → Took l received o → Receipt l received o
  receipt-of o (unused z) =
      record {
        uses = nothing z;
        early = λ e. z;
        wrote = λ k sy u i fill w n. absurd (omega arith);
        readied = λ k sy u r c e. absurd (omega arith);
      }
  receipt-of o (broken n e late) =
      record {
        uses = damaged n e;
        early = λ t. absurd (true≢false (sym t ∙ late));
        wrote = λ k sy u i fill w m. absurd (said-whole received limit n k e sy);
        readied = λ k sy u r c f. absurd (said-whole received limit n k e sy);
      }
  receipt-of o (used-whole j e u0 fate) =
      record {
        uses = whole j e (says received limit j e) u0 fate.four;
        early = λ t. absurd (true≢false (sym t ∙ fate.late));
        wrote = λ k sy u i fill w n. (subst (λ (x : Packet). Fate l received x o.answer) (said-same received limit j k e sy) fate).wrote i fill w n;
        readied = λ k sy u r z f. (subst (λ (x : Packet). Fate l received x o.answer) (said-same received limit j k e sy) fate).readied r z f;
      }

  -- an answer that is no refusal
  free : (k : Packet) (a : Answer) → is_early (answer_number a) ≡ false → eqb (answer_number a) 4 ≡ false → is_refused (answer_number a) ≡ false
      → is_lost (answer_number a) ≡ false → Fate l received k a
  free k a e f g h = record { late = e; four = f; wrote = λ i fill w n. taken g; readied = λ r z c. h }

  -- one after dispatching
  after-fault : (k : Packet) (f : Option SlotFault) (a : Answer) → Calm k.command (body_of received k) f → Fate l received k a
      → Fate l received k (unless_fault f a)
  unfolding unless_fault answer_number
  after-fault k None a c g = g
  after-fault k (Some RxOverflow) a c g = record { late = refl; four = refl; wrote = λ i fill w n. too-much refl; readied = λ r z e. refl }
  after-fault k (Some (BadCredit b)) a c g =
      record {
        late = by_number (λ n. is_early n ≡ false) refl refl refl b;
        four = bad-four b;
        wrote = λ i fill w n. absurd (true≢false (sym (c.wrote w)));
        readied = λ r z e. absurd (true≢false (c.readied r z e));
      }
  after-fault k (Some WriteEarly) a c g =
      record { late = refl; four = refl; wrote = λ i fill w n. absurd (true≢false (sym (c.wrote w))); readied = λ r z e. refl }

  -- a closed channel, for no WRTE
  closed-fate : (k : Packet) → is_write k.command ≡ false → Fate l received k (Refused ChannelClosed)
  unfolding answer_number
  closed-fate k unwritten = record { late = refl; four = refl; wrote = λ i fill w n. absurd (true≢false (sym w ∙ unwritten)); readied = λ r z e. refl }

  closed-error : (k : Packet) (f : Option SlotFault) → is_failed f ≡ false → is_write k.command ≡ false
      → Fate l received k (Refused (error_refusal (error_of f)))
  unfolding is_failed error_of
  closed-error k None e unwritten = closed-fate k unwritten
  closed-error k (Some f) e unwritten = absurd (true≢false e)

  -- a credit that does not read
  bad-credit : (k : Packet) (b : CreditFault) → is_write k.command ≡ false → ((z : ℤ) → credit_of (body_of received k) ≡ Ok z → ⊥)
      → Fate l received k (Refused (CreditRefused b))
  unfolding answer_number
  bad-credit k b unwritten none =
      record {
        late = by_number (λ n. is_early n ≡ false) refl refl refl b;
        four = bad-four b;
        wrote = λ i fill w n. absurd (true≢false (sym w ∙ unwritten));
        readied = λ r z e. absurd (none z e);
      }

  free-waiting : (k : Packet) → Fate l received k Waiting
  unfolding answer_number
  free-waiting k = free k Waiting refl refl refl refl

  free-read : (k : Packet) (n : ℕ) → Fate l received k (Read n)
  unfolding answer_number
  free-read k n = free k (Read n) refl refl refl refl

  -- ---- a call's end

  ended : (k : Packet) → decode_of received limit ≡ Ok (Some k) → (w : Work) (a : Answer) (bs : List ℕ) → Fate l received k a
      → Took l received (ends w a (frame_len k) bs)
  unfolding ends
  ended k e w a bs x = used-whole k e refl x

  -- what is so of no packet, of a damaged one and of a whole one
  module _ (f : Result Packet (Answer × ℕ) → Outcome) (g : (a : Answer) (u : ℕ) → ((f (Err (a, u))).answer ≡ a) × ((f (Err (a, u))).used ≡ u))
      (some : (k : Packet) → decode_of received limit ≡ Ok (Some k) → Took l received (f (Ok k))) where
    through : (d : Result (Option Packet) DecodeError) → decode_of received limit ≡ d → Took l received (f (received_by d))
    unfolding received_by answer_number
    through (Ok None) e = unused (g Waiting 0).1
    through (Ok (Some k)) e = some k e
    through (Err (WordInvalid word)) e = unused (g _ 0).1
    through (Err MagicInvalid) e = unused (g _ 0).1
    through (Err LengthTooLarge) e = unused (g _ 0).1
    through (Err (SumInvalid u)) e = broken u e (ap (λ (a : Answer). is_early (answer_number a)) (g (Refused InvalidChecksum) u).0)

    received-through : Took l received (f (received_of l received))
    unfolding received_of
    received-through = through (decode_of received limit) refl

-- ---- calls that are handed no received bytes, and what stands ahead of each step

module _ (l : Lent) where
  abbrev Idle : Outcome → Type 0
  Idle = Took l []

  settle-took : (ch : ChannelId) (want : ℕ) → Idle (settle_step l ch want)
  unfolding settle_step settled_as ends
  settle-took ch want = pick Idle (is_there l ch) (λ t. unused refl) (λ t. unused refl)

  taken-took : (ch : ChannelId) (s : ChannelSlot) (w : Work) (r : Result (Option (ChannelSlot × ℕ)) ChannelError) → Idle (taken_by l ch s w r)
  unfolding taken_by ends
  taken-took ch s w (Ok (Some (t, n))) = unused refl
  taken-took ch s w (Ok None) = unused refl
  taken-took ch s w (Err e) = unused refl

  take-took : (ch : ChannelId) (room : ℕ) → Idle (take_step l ch room)
  unfolding take_step ends
  take-took ch room = pick Idle (is_there l ch) (λ t. taken-took ch (slot_for l ch) _ _) (λ t. unused refl)

  close-took : (ch : ChannelId) → Idle (close_step l ch)
  unfolding close_step ends
  close-took ch = pick Idle (is_there l ch && (slot_for l ch).has_remote) (λ t. unused refl) (λ t. unused refl)

  front-by : (h : Header) (xs : List Change) (f : Option (QueuedOpen × Header)) → Idle (take_front_by l h xs f)
  unfolding take_front_by ends
  front-by h xs (Some (q, less)) = unused refl
  front-by h xs None = unused refl

  front-took : Idle (take_front_step l)
  unfolding take_front_step
  front-took = front-by (dropped l.state.header) (popped (dropped l.state.header) l.state.queue).changes (popped (dropped l.state.header) l.state.queue).result

  accept-on : (remote : RemoteId) (credit : ℕ) (r : Result ChannelId NoFree) → Idle (accept_on l (dropped l.state.header) remote credit r)
  unfolding accept_on reject_on ends
  accept-on remote credit (Err _) = unused refl
  accept-on remote credit (Ok ch) = unused refl

  accept-took : Idle (accept_step l)
  unfolding accept_step ends
  accept-took = pick Idle (is_offered l) (λ t. accept-on (offer_in l).remote (offer_in l).credit (allocated l.state.header l.state.slots)) (λ t. unused refl)

  reject-took : Idle (reject_step l)
  unfolding reject_step reject_on ends
  reject-took = pick Idle (is_offered l) (λ t. unused refl) (λ t. unused refl)

  verdict-took : (take : Bool) (remote : RemoteId) (credit : ℕ) → Idle (verdict_step l take remote credit)
  unfolding verdict_step reject_on ends
  verdict-took take remote credit = pick Idle take (λ t. accept-on remote credit (allocated l.state.header l.state.slots)) (λ t. unused refl)

  let-go-took : Idle (let_go_step l)
  unfolding let_go_step ends
  let-go-took = pick Idle (is_offered l) (λ t. unused refl) (λ t. unused refl)

  checked-took : (received : List ℕ) (t : Bool) (o : Outcome) → Took l received o → Took l received (checked t l o)
  unfolding checked
  checked-took received t o h =
      pick (Took l received) t (λ a. pick (Took l received) (stores_fit l.state.header.negotiated.config (length l.rx) (length l.store)) (λ b. h) (λ b. unused refl)) (λ a. unused refl)

  out-took : (received : List ℕ) (t : Bool) (out : ℕ) (o : Outcome) → Took l received o → Took l received (checked_out t l out o)
  unfolding checked_out
  out-took received t out o h = checked-took received t _ (pick (Took l received) (ltb out 56) (λ a. unused refl) (λ a. h))

-- ---- calls that are handed received bytes

module _ (l : Lent) (ok : TableOk (policy l) l.state.header.negotiated.config.channels l.state.slots l.rx) (received : List ℕ) where
  abbrev p : RxPolicy
  p = policy l

  abbrev ss : List ChannelSlot
  ss = l.state.slots

  abbrev h0 : Header
  h0 = dropped l.state.header

  abbrev most : ℕ
  most = l.state.header.negotiated.config.max_payload

  abbrev Fares : Outcome → Type 0
  Fares = Took l received

  dispatch-took : Fares (dispatch_step l received)
  unfolding dispatch_step dispatch_by ends answer_number
  dispatch-took =
      received-through l received (dispatch_by l h0 received) (λ a u. (refl, refl))
      (λ k e. used-whole k e refl (after-fault l received k _ Done (act-calm h0 ss l.state.queue l.rx l.store k (body_of received k) ok) (free l received k Done refl refl refl refl)))

  -- ---- read

  module _ (ch : ChannelId) (room : ℕ) (fill : (slot_in ss ch.slot).filled ≡ true) where
    abbrev s1 : ChannelSlot
    s1 = (settled_of (slot_in ss ch.slot) p room).slot

    abbrev ss1 : List ChannelSlot
    ss1 = set ss ch.slot s1

    ok1 : TableOk p l.state.header.negotiated.config.channels ss1 l.rx
    ok1 = table-settled p l.state.header.negotiated.config.channels ss l.rx ch.slot room ok fill

    here1 : slot_in ss1 ch.slot ≡ s1
    here1 = let z = ok.size in let y = ok.most in let b = ok.below ch.slot fill in slot-set-same ss ch.slot s1 (omega arith)

    there1 : (slot_in ss1 ch.slot).filled ≡ true
    there1 = ap (λ (x : ChannelSlot). x.filled) here1 ∙ (settled-stays (slot_in ss ch.slot) p room).filled ∙ fill

    module _ (live : is_closed s1.state ≡ false) (k : Packet) (e : decode_of received most ≡ Ok (Some k)) where
      abbrev act : Acted
      act = act_on h0 ss1 l.state.queue l.rx l.store k (body_of received k)

      calm1 : Calm k.command (body_of received k) act.fault
      calm1 = act-calm h0 ss1 l.state.queue l.rx l.store k (body_of received k) ok1

      -- the slot after the packet did not fail
      fine2 : is_failed (slot_in (slots_by ss1 act.changes) ch.slot).failed ≡ false
      fine2 =
          let a = acted-at h0 ss1 l.state.queue l.rx l.store k (body_of received k) ok1 ch.slot there1 in
          ap is_failed (at_named p _ _ _ _ _ _ _ _ a).failed ∙ ok1.unfailed ch.slot there1

      -- and no WRTE closed it
      shut2 : is_closed (slot_in (slots_by ss1 act.changes) ch.slot).state ≡ true → is_write k.command ≡ false
      shut2 c =
          by-test (is_write k.command)
          (λ w. absurd (true≢false (sym c ∙ act-open h0 ss1 l.state.queue l.rx l.store k (body_of received k) ok1 ch.slot there1 w
          (ap (λ (x : ChannelSlot). is_closed x.state) here1 ∙ live)))) (λ w. w)

      reread-took : (w : Work) (t : ChannelSlot) → is_failed t.failed ≡ false → (is_closed t.state ≡ true → is_write k.command ≡ false)
          → Fares (reread ch p.rx_cap (frame_len k) act.fault w t (taken_of t room))
      unfolding reread taken_of
      reread-took w t f unwritten =
          let P : Result (Option (ChannelSlot × ℕ)) ChannelError → Type 0 = λ y. Fares (reread ch p.rx_cap (frame_len k) act.fault w t y) in
          pick P (has_data t) (λ d. ended l received k e _ (Read (take_len t room)) _ (free-read l received k (take_len t room)))
          (λ d. pick P (is_closed t.state)
          (λ c. ended l received k e _ _ [] (after-fault l received k act.fault (Refused (error_refusal (error_of t.failed))) calm1 (closed-error l received k t.failed f (unwritten c))))
          (λ c. ended l received k e _ _ [] (after-fault l received k act.fault Waiting calm1 (free-waiting l received k))))

      acted-took : (w : Work) → w.changes ≡ slot_to ch.slot s1 ∷ [] → Fares (read_acted l ch room (frame_len k) w act)
      unfolding read_acted read_settled
      acted-took w d =
          let t = slot_in (changed_all l.state (w.changes ++ act.changes)).slots ch.slot in
          let z : t ≡ slot_in (slots_by ss1 act.changes) ch.slot =
          ap (λ (x : List Change). slot_in (changed_all l.state (x ++ act.changes)).slots ch.slot) d
          ∙ ap (λ (x : List ChannelSlot). slot_in x ch.slot) (slots-by l.state (slot_to ch.slot s1 ∷ act.changes)) in
          reread-took _ (settled_of t p room).slot (ap is_failed ((settled-stays t p room).failed ∙ ap (λ (x : ChannelSlot). x.failed) z) ∙ fine2)
          (λ c. shut2 (sym (ap is_closed (settled-state t p room ∙ ap (λ (x : ChannelSlot). x.state) z)) ∙ c))

      packet-took : (w : Work) → w.header ≡ h0 → w.changes ≡ [] → Fares (read_by l ch room w s1 received (Ok k))
      unfolding read_by read_direct
      packet-took w eh d =
          pick Fares (is_direct s1 room k) (λ t. ended l received k e _ (Read (length (body_of received k))) (body_of received k) (free-read l received k (length (body_of received k))))
          (λ t. pick Fares (closed_by (ids_in s1) k) (λ u. ended l received k e _ (Refused ChannelClosed) [] (closed-fate l received k (closed-no-write (ids_in s1) k u)))
          (λ u. subst (λ (h : Header). Fares (read_acted l ch room (frame_len k) (then w (slot_to ch.slot s1 ∷ []) []) (act_on h ss1 l.state.queue l.rx l.store k (body_of received k)))) (sym eh)
          (acted-took (then w (slot_to ch.slot s1 ∷ []) []) (ap (λ (x : List Change). x ++ slot_to ch.slot s1 ∷ []) d))))

    by-took : (w : Work) → w.header ≡ h0 → w.changes ≡ [] → is_closed s1.state ≡ false → Fares (read_by l ch room w s1 received (received_of l received))
    unfolding read_by ends
    by-took w eh d live = received-through l received (read_by l ch room w s1 received) (λ a u. (refl, refl)) (λ k e. packet-took live k e w eh d)

    first-took : (w : Work) → w.header ≡ h0 → w.changes ≡ [] → Fares (read_taken l ch room w s1 received (taken_of s1 room))
    unfolding read_taken taken_of ends
    first-took w eh d =
        let P : Result (Option (ChannelSlot × ℕ)) ChannelError → Type 0 = λ y. Fares (read_taken l ch room w s1 received y) in
        pick P (has_data s1) (λ t. unused refl)
        (λ t. pick P (is_closed s1.state) (λ c. unused refl) (λ c. pick Fares s1.has_remote (λ u. by-took w eh d c) (λ u. unused refl)))

  read-took : (ch : ChannelId) (room : ℕ) → Fares (read_step l ch room received)
  unfolding read_step read_first slot_for ends
  read-took ch room = pick Fares (is_there l ch) (λ t. first-took ch room (there-filled l ok ch t) _ refl refl) (λ t. unused refl)

  -- ---- write

  module _ (spending : Spending) (ch : ChannelId) (out : ℕ) (bytes : List ℕ) where
    some-unused : (w : Work) (s : ChannelSlot) (n : ℕ) → Fares (send_some l ch out bytes 0 w s n)
    unfolding send_some ends
    some-unused w s n = pick Fares (ltb out (length (frames_bytes w.header.negotiated w.frames) + 24 + n)) (λ t. unused refl) (λ t. unused refl)

    module _ (k : Packet) (e : decode_of received most ≡ Ok (Some k)) where
      some-took : (w : Work) (s : ChannelSlot) (n : ℕ) → Fares (send_some l ch out bytes (frame_len k) w s n)
      unfolding send_some answer_number
      some-took w s n =
          pick Fares (ltb out (length (frames_bytes w.header.negotiated w.frames) + 24 + n)) (λ t. unused refl)
          (λ t. ended l received k e _ (Written n) [] (free l received k (Written n) refl refl refl refl))

      send-took : (w : Work) (s : ChannelSlot) (x : Option ℕ) → Fares (send_by l ch out bytes (frame_len k) w s x)
      unfolding send_by
      send-took w s (Some m) = some-took w s _
      send-took w s None = ended l received k e _ Waiting [] (free-waiting l received k)

      again-took : (w : Work) (s : ChannelSlot) → (is_closed s.state ≡ true → is_write k.command ≡ false)
          → Fares (send_again spending l ch out bytes (frame_len k) w s)
      unfolding send_again
      again-took w s unwritten =
          pick Fares (is_closed s.state) (λ t. ended l received k e _ (Refused ChannelClosed) [] (closed-fate l received k (unwritten t))) (λ t. send-took w s (leave_of spending s p))

      -- the channel's own OKAY
      readied-took : (w : Work) (s : ChannelSlot) (r : Result ChannelSlot CreditFault) → is_write k.command ≡ false
          → ((z : ℤ) → credit_of (body_of received k) ≡ Ok z → is-given r ≡ true)
          → Fares (write_readied spending l ch out bytes (frame_len k) w s r)
      unfolding write_readied
      readied-took w s (Ok t) unwritten g = again-took w t (λ c. unwritten)
      readied-took w s (Err b) unwritten g = ended l received k e _ (Refused (CreditRefused b)) [] (bad-credit l received k b unwritten (λ z c. true≢false (sym (g z c))))

      -- a packet that was dispatched
      abbrev act0 : Acted
      act0 = act_on h0 ss l.state.queue l.rx l.store k (body_of received k)

      acted-by : (fill : (slot_in ss ch.slot).filled ≡ true) → is_closed (slot_in ss ch.slot).state ≡ false → (f : Option SlotFault)
          → Calm k.command (body_of received k) f
          → Fares (write_acted spending l ch out bytes (frame_len k) (begun h0 l) act0 f)
      unfolding write_acted unless_fault
      acted-by fill live (Some f) c = ended l received k e _ (Refused (fault_refusal f)) [] (after-fault l received k (Some f) Waiting c (free-waiting l received k))
      acted-by fill live None c =
          let z : slot_in (changed_all l.state act0.changes).slots ch.slot ≡ slot_in (slots_by ss act0.changes) ch.slot =
          ap (λ (x : List ChannelSlot). slot_in x ch.slot) (slots-by l.state act0.changes) in
          again-took (then_acted (begun h0 l) act0) (slot_in (changed_all l.state act0.changes).slots ch.slot)
          (λ d. by-test (is_write k.command)
          (λ w. absurd (true≢false (sym d ∙ ap (λ (x : ChannelSlot). is_closed x.state) z ∙ act-open h0 ss l.state.queue l.rx l.store k (body_of received k) ok ch.slot fill w live))) (λ w. w))

      write-packet : (fill : (slot_in ss ch.slot).filled ≡ true) → is_closed (slot_in ss ch.slot).state ≡ false
          → Fares (write_by spending l ch out bytes (begun h0 l) (slot_in ss ch.slot) received (Ok k))
      unfolding write_by write_act
      write-packet fill live =
          let s = slot_in ss ch.slot in
          pick Fares (is_ready k.command && eqb k.arg1 s.local.0)
          (λ t. readied-took (begun h0 l) s _ (ready-no-write k.command (and-true (is_ready k.command) (eqb k.arg1 s.local.0) t).0).0 (λ z c. ready-given s (body_of received k) p z c))
          (λ t. pick Fares (closed_by (ids_in s) k) (λ u. ended l received k e _ (Refused ChannelClosed) [] (closed-fate l received k (closed-no-write (ids_in s) k u)))
          (λ u. acted-by fill live act0.fault (act-calm h0 ss l.state.queue l.rx l.store k (body_of received k) ok)))

    module _ (fill : (slot_in ss ch.slot).filled ≡ true) (live : is_closed (slot_in ss ch.slot).state ≡ false) where
      write-by : Fares (write_by spending l ch out bytes (begun h0 l) (slot_in ss ch.slot) received (received_of l received))
      unfolding write_by ends
      write-by = received-through l received (write_by spending l ch out bytes (begun h0 l) (slot_in ss ch.slot) received) (λ a u. (refl, refl)) (λ k e. write-packet k e fill live)

      write-first : (x : Option ℕ) → Fares (write_first spending l ch out bytes received (begun h0 l) (slot_in ss ch.slot) x)
      unfolding write_first ends
      write-first (Some m) = some-unused (begun h0 l) (slot_in ss ch.slot) _
      write-first None = pick Fares (slot_in ss ch.slot).has_remote (λ t. write-by) (λ t. unused refl)

    write-took : Fares (write_step spending l ch out bytes received)
    unfolding write_step write_on slot_for ends
    write-took =
        pick Fares (eqb (length bytes) 0) (λ z. unused refl)
        (λ z. pick Fares (is_there l ch)
        (λ t. pick Fares (is_closed (slot_in ss ch.slot).state) (λ c. unused refl) (λ c. write-first (there-filled l ok ch t) c (leave_of spending (slot_in ss ch.slot) p))) (λ t. unused refl))

  -- ---- open

  open-on : (out : ℕ) (destination : List ℕ) (r : Result ChannelId NoFree) → Fares (open_on l out destination r)
  unfolding open_on ends
  open-on out destination (Err _) = unused refl
  open-on out destination (Ok ch) =
      pick Fares (ltb payload_limit (length destination)) (λ t. unused refl) (λ t. pick Fares (ltb out (24 + length destination)) (λ u. unused refl) (λ u. unused refl))

  abbrev pch : ChannelId
  pch = record { slot = l.state.header.pending.slot; local = l.state.header.pending.local }

  module _ (away : (i : ℕ) → (slot_in ss i).filled ≡ true → (slot_in ss i).local.0 ≡ l.state.header.pending.local.0 → ⊥)
      (k : Packet) (e : decode_of received most ≡ Ok (Some k)) where
    -- the open's own OKAY
    open-readied : (remote : ℕ) (r : Result ChannelSlot CreditFault) → is_write k.command ≡ false
        → ((z : ℤ) → credit_of (body_of received k) ≡ Ok z → is-given r ≡ true)
        → Fares (open_readied l pch remote (frame_len k) r)
    unfolding open_readied answer_number
    open-readied remote (Ok t) unwritten g = ended l received k e _ (Opened pch) [] (free l received k (Opened pch) refl refl refl refl)
    open-readied remote (Err b) unwritten g = ended l received k e _ (Refused (CreditRefused b)) [] (bad-credit l received k b unwritten (λ z c. true≢false (sym (g z c))))

    -- its WRTE, which is no channel's
    early-fate : k.arg1 ≡ l.state.header.pending.local.0 → Fate l received k (Refused UnexpectedCommand)
    unfolding answer_number
    early-fate m = record { late = refl; four = refl; wrote = λ i fill w n. absurd (away i fill (sym n ∙ m)); readied = λ r z c. refl }

    open-packet : Fares (open_by l pch received (Ok k))
    unfolding open_by open_acted
    open-packet =
        let own = eqb k.arg1 l.state.header.pending.local.0 in
        let s = opening_slot l.state.header.pending.local in
        pick Fares (is_ready k.command && own)
        (λ t. open-readied k.arg0 _ (ready-no-write k.command (and-true (is_ready k.command) own t).0).0 (λ z c. opened-given s (record { 0 = k.arg0 }) (body_of received k) p z c))
        (λ t. pick Fares (is_write k.command && own)
        (λ u. ended l received k e _ (Refused UnexpectedCommand) [] (early-fate (eqb-true k.arg1 l.state.header.pending.local.0 (and-true (is_write k.command) own u).1)))
        (λ u. pick Fares (is_close k.command && own)
        (λ v. ended l received k e _ (Refused ChannelClosed) [] (closed-fate l received k (close-no-write k.command (and-true (is_close k.command) own v).0)))
        (λ v. ended l received k e _ _ [] (after-fault l received k _ Waiting (act-calm l.state.header ss l.state.queue l.rx l.store k (body_of received k) ok) (free-waiting l received k)))))

  open-took : (out : ℕ) (destination : List ℕ)
      → (is_ours l.state.header.pending.what ≡ true → (i : ℕ) → (slot_in ss i).filled ≡ true → (slot_in ss i).local.0 ≡ l.state.header.pending.local.0 → ⊥)
      → Fares (open_step l out destination received)
  unfolding open_step open_by ends
  open-took out destination away =
      pick Fares (is_ours l.state.header.pending.what)
      (λ t. received-through l received (open_by l pch received) (λ a u. (refl, refl)) (λ k e. open-packet (away t) k e))
      (λ t. open-on out destination (allocated l.state.header ss))

-- ---- one call

module _ (w : World) (ok : TableOk (policy (lent w)) (lent w).state.header.negotiated.config.channels (lent w).state.slots (lent w).rx)
    -- the pending open's number is no channel's
    (away : is_ours (lent w).state.header.pending.what ≡ true → (i : ℕ) → (slot_in (lent w).state.slots i).filled ≡ true
    → (slot_in (lent w).state.slots i).local.0 ≡ (lent w).state.header.pending.local.0 → ⊥) where
  took-call : (x : Call) → Took (lent w) (received_in x) (outcome w x)
  unfolding received_in outcome open_outcome dispatch_outcome settle_outcome take_outcome read_outcome write_outcome close_outcome take_front_outcome look_outcome numbers_outcome accept_outcome reject_outcome let_go_outcome verdict_outcome
  took-call (open_call out destination received) = out-took (lent w) _ _ _ _ (open-took (lent w) ok _ (length out) _ away)
  took-call (dispatch_call out received) = out-took (lent w) _ _ _ _ (dispatch-took (lent w) ok _)
  took-call (settle_call out ch want) = out-took (lent w) _ _ _ _ (settle-took (lent w) ch want)
  took-call (take_call ch buf) = checked-took (lent w) _ _ _ (take-took (lent w) ch (length buf))
  took-call (read_call out ch buf received) = out-took (lent w) _ _ _ _ (read-took (lent w) ok _ ch (length buf))
  took-call (write_call spending out ch bytes received) = out-took (lent w) _ _ _ _ (write-took (lent w) ok _ spending ch (length out) _)
  took-call (close_call out ch) = out-took (lent w) _ _ _ _ (close-took (lent w) ch)
  took-call front_taken = checked-took (lent w) _ _ _ (front-took (lent w))
  took-call (look_call (numbers_look ch)) = checked-took (lent w) _ _ _ (unused refl)
  took-call (accept_call out) = out-took (lent w) _ _ _ _ (accept-took (lent w))
  took-call (reject_call out) = out-took (lent w) _ _ _ _ (reject-took (lent w))
  took-call let_go_call = checked-took (lent w) _ _ _ (let-go-took (lent w))
  took-call (verdict_call out take remote credit) = out-took (lent w) _ _ _ _ (verdict-took (lent w) take _ _)

  pub receipts : (x : Call) → Receipt (lent w) (received_in x) (outcome w x)
  receipts x = receipt-of (lent w) (received_in x) (outcome w x) (took-call x)
