-- Where a call answers 11: it used a WRTE that carries the number of a channel in the table. Assumes nothing.
use mathlib.Core.Path.{◌≡◌, refl, sym, ap, subst, ◌∙◌}
use mathlib.Core.Bool.{Bool, true, false, ◌&&◌, true≢false}
use mathlib.Core.List.{List, [], ◌∷◌, ◌++◌}
use Prim.Native.Nat.{ℕ, ◌+◌}
use native.Mathlib.Omega.{arith}
use lib.Dec.{eqb, ltb}
use lib.ListN.{length, take, set}
use borrow.Author.Tests.{ltb-true}
use Rattle.le.specs.Le.{num_of}
use Rattle.config.specs.declared.negotiated.RxPolicy.{RxPolicy}
use Rattle.config.specs.Negotiated.{policy_of, offered_credit}
use Rattle.incoming.specs.Incoming.{popped}
use Rattle.protocol.specs.declared.command.Command.{Command}
use Rattle.protocol.specs.declared.command.Command.TheVariants.{Write}
use Rattle.protocol.specs.declared.packet.Packet.{Packet}
use Rattle.protocol.specs.Packet.{payload_limit}
use Rattle.protocol.proofs.RoundTrip.{Says}
use Rattle.protocol.specs.Command.{is_ready, is_close, is_write, is_the, word_of, letters_of}
use Rattle.credit.proofs.CreditLaws.{by_number}
use Rattle.credit.specs.declared.CreditFault.{CreditFault}
use Rattle.slot.specs.declared.ChannelFault.TheVariants.{RxOverflow, BadCredit, UnexpectedCommand as WriteEarly}
use Rattle.slot.specs.declared.ChannelSlot.{ChannelSlot}
use Rattle.slot.specs.declared.Spending.{Spending}
use Rattle.slot.specs.declared.ids.LocalId.{LocalId}
use Rattle.slot.specs.declared.ids.RemoteId.{RemoteId}
use Rattle.slot.specs.Ids.{closed_by}
use Rattle.slot.specs.Slot.{is_failed, is_closed, error_of, has_data, take_len, took_of, taken_of, settled_of, leave_of, spent_of, ready_of, opening_slot, opened_of}
use Rattle.slot.proofs.Kept.{pick}
use Rattle.slot.proofs.Stays.{settled-stays}
use Rattle.state.specs.declared.Header.{Header}
use Rattle.state.specs.Change.{Step, Change, slot_to, changed_all}
use Rattle.state.specs.State.{is_ours}
use Rattle.table.specs.declared.ChannelId.{ChannelId}
use Rattle.table_dispatch.specs.declared.DispatchOutcome.{DispatchOutcome}
use Rattle.table_dispatch.specs.declared.DispatchOutcome.TheVariants.{CancelQueuedOpen, Unmatched}
use Rattle.table.specs.declared.Want.TheVariants.{Local}
use Rattle.table.specs.Table.{allocated, numbered, place_of, slot_in}
use Rattle.table_dispatch.specs.Dispatch.{remote_place, closed_at, close_of, readied_of, granted, ready_at, stray_of, grant_of, Dispatched, write_of, route_of, dispatch_of}
use Rattle.table_dispatch.proofs.RouteLaws.{by-route}
use Rattle.connection.specs.declared.Answer.{Answer}
use Rattle.connection.specs.declared.Answer.TheVariants.{Done, Waiting, Opened, Read, Written, Refused}
use Rattle.connection.specs.declared.Refusal.TheVariants.{ChannelClosed, NoFreeChannels, PayloadTooLarge, BadCredit as CreditRefused, UnexpectedCommand}
use Rattle.connection.specs.Act.{Acted, table_of, act_on}
use Rattle.connection.specs.Answer.{answer_number}
use Rattle.connection.specs.Calls.{looked, numbers_for, numbers_in, Lent, Outcome, Work, begun, then, then_acted, ends, dropped, pending_for, policy, ids_in, is_there, slot_for, error_refusal, unless_fault, received_of, body_of, frame_len, is_direct, dispatch_by, dispatch_step, settled_as, settle_step, taken_by, take_step, reread, read_settled, read_acted, read_direct, read_by, read_taken, read_first, read_step, send_some, send_by, send_again, write_readied, write_acted, write_act, write_by, write_first, write_on, write_step, close_step, take_front_by, take_front_step, open_on, still_pending, open_readied, open_acted, open_by, open_step, offer_in, is_offered, reject_on, accept_on, accept_step, reject_step, let_go_step, verdict_step}
use Rattle.connection.specs.Frames.{open_frame, write_frame, frames_bytes}
use Rattle.connection.proofs.Slots.{slots_by, slots-by, slot-set-same}
use Rattle.history.proofs.Acts.{acted-fault, acted-at, at_named}
use Rattle.history.proofs.Marks.{there-filled}
use Rattle.history.proofs.Packets.{Got, stopped, packet, got, set_same}
use Rattle.history.proofs.Places.{TableOk, fault_of, found-filled, found_local}
use Rattle.history.proofs.Steps.{table-settled}
use Rattle.slot.specs.declared.ChannelFault.{ChannelFault}
use Rattle.std.specs.Prelude.{Option, Some, None, Result, Ok, Err}
use Rattle.slot.specs.declared.ChannelError.{ChannelError}
use Rattle.state.specs.declared.QueuedOpen.{QueuedOpen}
use Rattle.table.specs.declared.NoFreeChannels.{NoFreeChannels as NoFree}

-- a fault that is answered by 11
abbrev pub over_in : Option ChannelFault → Bool
over_in None = false
over_in (Some RxOverflow) = true
over_in (Some (BadCredit b)) = false
over_in (Some WriteEarly) = false

-- a packet that does not fit: a WRTE with the number of a channel in the table
pub record Over (ss : List ChannelSlot) (c : Command) (local : ℕ) : Type 0 where
  pub write : is_write c ≡ true
  pub place : ℕ
  pub filled : (slot_in ss place).filled ≡ true
  pub named : local ≡ (slot_in ss place).local.0

module _ (p : RxPolicy) (n : ℕ) (ss : List ChannelSlot) (rx : List ℕ) (ok : TableOk p n ss rx) (payload : List ℕ) where
  abbrev Calm : Step DispatchOutcome → Type 0
  Calm x = over_in (fault_of x.result) ≡ false

  calm-closed : (f : ℕ) (other : DispatchOutcome) → over_in (fault_of other) ≡ false → Calm (closed_at f n ss other)
  unfolding closed_at
  calm-closed f other e = pick Calm (ltb f n) (λ t. refl) (λ t. e)

  calm-close : (remote : RemoteId) (local : LocalId) → Calm (close_of n ss remote local)
  unfolding close_of
  calm-close remote local =
      pick Calm (eqb local.0 0) (λ t. calm-closed (remote_place n ss remote) (CancelQueuedOpen remote) refl) (λ t. calm-closed (place_of (Local local) n ss) Unmatched refl)

  calm-granted : (f : ℕ) (s : ChannelSlot) (remote : RemoteId) (r : Result ChannelSlot CreditFault) → Calm (granted f s remote r)
  unfolding granted
  calm-granted f s remote (Ok t) = refl
  calm-granted f s remote (Err b) = refl

  calm-stray : (remote : RemoteId) (local : LocalId) → over_in (fault_of (stray_of remote local)) ≡ false
  unfolding stray_of
  calm-stray remote local =
      pick (λ (o : DispatchOutcome). over_in (fault_of o) ≡ false) (eqb remote.0 0) (λ t. refl) (λ t. pick (λ (o : DispatchOutcome). over_in (fault_of o) ≡ false) (eqb local.0 0) (λ u. refl) (λ u. refl))

  calm-ready : (remote : RemoteId) (local : LocalId) → Calm (grant_of p n ss remote local payload)
  unfolding grant_of ready_at
  calm-ready remote local =
      let f = place_of (Local local) n ss in
      pick Calm (ltb f n) (λ t. pick Calm (is_failed (slot_in ss f).failed) (λ u. refl) (λ u. calm-granted f (slot_in ss f) remote (readied_of (slot_in ss f) remote payload p))) (λ t. calm-stray remote local)

  -- a WRTE finds its channel by the number
  over-write : (remote : RemoteId) (local : LocalId) → over_in (fault_of (write_of p n ss remote local payload rx).step.result) ≡ true → Over ss Write local.0
  unfolding write_of is_write is_the word_of letters_of num_of
  over-write remote local =
      let f = place_of (Local local) n ss in
      pick (λ (d : Dispatched). over_in (fault_of d.step.result) ≡ true → Over ss Write local.0) (ltb f n)
      (λ t e. let h = ltb-true f n t in
      record { write = refl; place = f; filled = found-filled p n ss rx ok local h; named = sym (found_local p n ss rx ok local h) })
      (λ t e. absurd (true≢false (sym e)))

  over-route : (c : Command) (a l : ℕ) → over_in (fault_of (route_of p n ss c a l payload rx).step.result) ≡ true → Over ss c l
  over-route c a l =
      by-route p n ss a l payload rx (λ c d. over_in (fault_of d.step.result) ≡ true → Over ss c l) (λ c h e. absurd (true≢false (sym e)))
      (λ e. absurd (true≢false (sym e))) (λ e. absurd (true≢false (sym e ∙ calm-close (record { 0 = a }) (record { 0 = l }))))
      (over-write (record { 0 = a }) (record { 0 = l })) (λ e. absurd (true≢false (sym e ∙ calm-ready (record { 0 = a }) (record { 0 = l })))) c

-- what `act_on` refuses so
over-act : (h : Header) (ss : List ChannelSlot) (l : Lent) (k : Packet) (payload : List ℕ) → TableOk (policy_of h.negotiated) h.negotiated.config.channels ss l.rx
    → over_in (act_on h ss l.state.queue l.rx l.store k payload).fault ≡ true → Over ss k.command k.arg1
unfolding table_of dispatch_of
over-act h ss l k payload ok e =
    over-route (policy_of h.negotiated) h.negotiated.config.channels ss l.rx ok payload k.command k.arg0 k.arg1
    (ap over_in (sym (acted-fault h ss l.state.queue l.rx l.store k payload)) ∙ e)

-- ---- answers

abbrev Other : Answer → Type 0
Other a = answer_number a ≡ 11 → ⊥

bad-other : (b : CreditFault) → Other (Refused (CreditRefused b))
unfolding answer_number
bad-other b = by_number (λ n. n ≡ 11 → ⊥) (λ e. omega arith) (λ e. omega arith) (λ e. omega arith) b

unless-over : (f : Option ChannelFault) (a : Answer) → Other a → answer_number (unless_fault f a) ≡ 11 → over_in f ≡ true
unfolding unless_fault answer_number
unless-over None a h e = absurd (h e)
unless-over (Some RxOverflow) a h e = refl
unless-over (Some (BadCredit b)) a h e = absurd (bad-other b e)
unless-over (Some WriteEarly) a h e = absurd (omega arith)

-- a channel that did not fail is closed by 10
error-other : (f : Option ChannelFault) → is_failed f ≡ false → Other (Refused (error_refusal (error_of f)))
unfolding is_failed error_of answer_number
error-other None e h = omega arith
error-other (Some f) e h = true≢false e

-- ---- the calls

module _ (l : Lent) (ok : TableOk (policy l) l.state.header.negotiated.config.channels l.state.slots l.rx) where
  abbrev p : RxPolicy
  p = policy l

  abbrev ss : List ChannelSlot
  ss = l.state.slots

  abbrev h0 : Header
  h0 = dropped l.state.header

  abbrev Never : Outcome → Type 0
  Never x = answer_number x.answer ≡ 11 → ⊥

  never_ends : (w : Work) (a : Answer) (used : ℕ) (bs : List ℕ) → Other a → Never (ends w a used bs)
  unfolding ends
  never_ends w a used bs f = f

  pub settle-never : (ch : ChannelId) (want : ℕ) → Never (settle_step l ch want)
  unfolding settle_step settled_as ends answer_number
  settle-never ch want = pick Never (is_there l ch) (λ t e. omega arith) (λ t e. omega arith)

  pub take-never : (ch : ChannelId) (room : ℕ) → Never (take_step l ch room)
  unfolding take_step taken_of taken_by slot_for ends answer_number
  take-never ch room =
      let s = slot_in ss ch.slot in
      let P : Result (Option (ChannelSlot × ℕ)) ChannelError → Type 0 = λ y. Never (taken_by l ch s (begun h0 l) y) in
      pick Never (is_there l ch)
      (λ t. pick P (has_data s) (λ d e. omega arith)
      (λ d. pick P (is_closed s.state) (λ c. error-other s.failed (ok.unfailed ch.slot (there-filled l ok ch t))) (λ c e. omega arith)))
      (λ t e. omega arith)

  pub close_never : (ch : ChannelId) → Never (close_step l ch)
  unfolding close_step ends answer_number
  close_never ch = pick Never (is_there l ch && (slot_for l ch).has_remote) (λ t e. omega arith) (λ t e. omega arith)

  front_by : (h : Header) (xs : List Change) (f : Option (QueuedOpen × Header)) → Never (take_front_by l h xs f)
  unfolding take_front_by ends answer_number
  front_by h xs (Some (q, less)) e = omega arith
  front_by h xs None e = omega arith

  pub front-never : Never (take_front_step l)
  unfolding take_front_step
  front-never = front_by h0 (popped h0 l.state.queue).changes (popped h0 l.state.queue).result

  pub numbers-never : (ch : ChannelId) → Never (looked l (numbers_for l ch))
  unfolding numbers_for numbers_in answer_number
  numbers-never ch =
      let N : ℕ → Type 0 = λ n. n ≡ 11 → ⊥ in
      pick (λ (a : Answer). N (answer_number a)) (is_there l ch)
      (λ t. pick N (is_closed (slot_for l ch).state) (λ c e. omega arith) (λ c e. omega arith)) (λ t e. omega arith)

  pub reject-never : Never (reject_step l)
  unfolding reject_step reject_on ends answer_number
  reject-never = pick Never (is_offered l) (λ t e. omega arith) (λ t e. omega arith)

  pub let-go-never : Never (let_go_step l)
  unfolding let_go_step ends answer_number
  let-go-never = pick Never (is_offered l) (λ t e. omega arith) (λ t e. omega arith)

  accept-on : (remote : RemoteId) (credit : ℕ) (x : Result ChannelId NoFree) → Never (accept_on l h0 remote credit x)
  unfolding accept_on reject_on ends answer_number
  accept-on remote credit (Err _) e = omega arith
  accept-on remote credit (Ok ch) e = omega arith

  pub accept-never : Never (accept_step l)
  unfolding accept_step ends answer_number
  accept-never = pick Never (is_offered l) (λ t. accept-on (offer_in l).remote (offer_in l).credit (allocated l.state.header ss)) (λ t e. omega arith)

  reject-on : (remote : RemoteId) (a : Answer) → Other a → Never (reject_on l h0 remote a)
  unfolding reject_on ends
  reject-on remote a f = f

  pub verdict-never : (take : Bool) (remote : RemoteId) (credit : ℕ) → Never (verdict_step l take remote credit)
  unfolding verdict_step answer_number
  verdict-never take remote credit = pick Never take (λ t. accept-on remote credit (allocated l.state.header ss)) (λ t. reject-on remote Done (λ e. omega arith))

  -- ---- calls that are handed received bytes

  module _ (received : List ℕ) where
    abbrev limit : ℕ
    limit = l.state.header.negotiated.config.max_payload

    -- the packet that a call used
    pub record Notes (x : Outcome) : Type 0 where
      pub packet-of : Packet
      pub says : Says received l.state.header.negotiated.config.max_payload packet-of
      pub over : Over l.state.slots packet-of.command packet-of.arg1
      pub used : x.used ≡ frame_len packet-of

    abbrev E : Outcome → Type 0
    E x = answer_number x.answer ≡ 11 → Notes x

    other : (w : Work) (a : Answer) (used : ℕ) (bs : List ℕ) → Other a → E (ends w a used bs)
    unfolding ends
    other w a used bs f e = absurd (f e)

    -- a packet that was dispatched
    acted : (w : Work) (f : Option ChannelFault) (a : Answer) (k : Packet) (bs : List ℕ) → Says received limit k → Other a → (over_in f ≡ true → Over ss k.command k.arg1) → E (ends w (unless_fault f a) (frame_len k) bs)
    unfolding ends
    acted w f a k bs s o v e = record { packet-of = k; says = s; over = v (unless-over f a o e); used = refl }

    dispatch-by : (r : Result Packet (Answer × ℕ)) → Got received limit r → E (dispatch_by l h0 received r)
    unfolding dispatch_by answer_number
    dispatch-by r (stopped a used s) = other (begun h0 l) a used [] s.under
    dispatch-by r (packet k s) = acted _ _ Done k [] s (λ e. omega arith) (over-act h0 ss l k (body_of received k) ok)

    pub dispatch-notes : E (dispatch_step l received)
    unfolding dispatch_step
    dispatch-notes = dispatch-by (received_of l received) (got l received)

    -- ---- read

    module _ (ch : ChannelId) (room : ℕ) (fill : (slot_in ss ch.slot).filled ≡ true) where
      abbrev s1 : ChannelSlot
      s1 = (settled_of (slot_in ss ch.slot) p room).slot

      abbrev ss1 : List ChannelSlot
      ss1 = set ss ch.slot s1

      ok1 : TableOk p l.state.header.negotiated.config.channels ss1 l.rx
      ok1 = table-settled p l.state.header.negotiated.config.channels ss l.rx ch.slot room ok fill

      stays1 : (j : ℕ) → ((slot_in ss1 j).filled ≡ (slot_in ss j).filled) × ((slot_in ss1 j).local.0 ≡ (slot_in ss j).local.0)
      stays1 j =
          let t = settled-stays (slot_in ss ch.slot) p room in
          (set_same (λ (s : ChannelSlot). s.filled) ss ch.slot j s1 t.filled, set_same (λ (s : ChannelSlot). s.local.0) ss ch.slot j s1 (ap (λ (x : LocalId). x.0) t.local))

      over_first : (k : Packet) → Over ss1 k.command k.arg1 → Over ss k.command k.arg1
      over_first k o =
          let z = stays1 o.place in
          record { write = o.write; place = o.place; filled = sym z.0 ∙ o.filled; named = o.named ∙ z.1 }

      fine1 : is_failed s1.failed ≡ false
      fine1 = ap is_failed (settled-stays (slot_in ss ch.slot) p room).failed ∙ ok.unfailed ch.slot fill

      here1 : slot_in ss1 ch.slot ≡ s1
      here1 = let z = ok.size in let y = ok.most in let b = ok.below ch.slot fill in slot-set-same ss ch.slot s1 (omega arith)

      module _ (k : Packet) (s : Says received limit k) where
        abbrev act : Acted
        act = act_on h0 ss1 l.state.queue l.rx l.store k (body_of received k)

        over1 : over_in act.fault ≡ true → Over ss k.command k.arg1
        over1 e = over_first k (over-act h0 ss1 l k (body_of received k) ok1 e)

        -- the slot after the packet did not fail
        fine2 : is_failed (slot_in (slots_by ss1 act.changes) ch.slot).failed ≡ false
        fine2 =
            let there = ap (λ (x : ChannelSlot). x.filled) here1 ∙ (settled-stays (slot_in ss ch.slot) p room).filled ∙ fill in
            let a = acted-at h0 ss1 l.state.queue l.rx l.store k (body_of received k) ok1 ch.slot there in
            ap is_failed ((at_named p _ _ _ _ _ _ _ _ a).failed ∙ ap (λ (x : ChannelSlot). x.failed) here1) ∙ fine1

        reread-notes : (w : Work) (t : ChannelSlot) → is_failed t.failed ≡ false → E (reread ch p.rx_cap (frame_len k) act.fault w t (taken_of t room))
        unfolding reread taken_of answer_number
        reread-notes w t f =
            let P : Result (Option (ChannelSlot × ℕ)) ChannelError → Type 0 = λ y. E (reread ch p.rx_cap (frame_len k) act.fault w t y) in
            pick P (has_data t) (λ d. other (then w (slot_to ch.slot (took_of t (take_len t room)) ∷ []) []) (Read (take_len t room)) (frame_len k) _ (λ e. omega arith))
            (λ d. pick P (is_closed t.state)
            (λ c. acted (then w (slot_to ch.slot t ∷ []) []) act.fault (Refused (error_refusal (error_of t.failed))) k [] s (error-other t.failed f) over1)
            (λ c. acted (then w (slot_to ch.slot t ∷ []) []) act.fault Waiting k [] s (λ e. omega arith) over1))

        acted-notes : (w : Work) → w.changes ≡ slot_to ch.slot s1 ∷ [] → E (read_acted l ch room (frame_len k) w act)
        unfolding read_acted read_settled
        acted-notes w e =
            let t = slot_in (changed_all l.state (w.changes ++ act.changes)).slots ch.slot in
            let z : t ≡ slot_in (slots_by ss1 act.changes) ch.slot =
            ap (λ (x : List Change). slot_in (changed_all l.state (x ++ act.changes)).slots ch.slot) e ∙ ap (λ (x : List ChannelSlot). slot_in x ch.slot) (slots-by l.state (slot_to ch.slot s1 ∷ act.changes)) in
            reread-notes _ (settled_of t p room).slot (ap is_failed ((settled-stays t p room).failed ∙ ap (λ (x : ChannelSlot). x.failed) z) ∙ fine2)

        packet-notes : (w : Work) → w.header ≡ h0 → w.changes ≡ [] → E (read_by l ch room w s1 received (Ok k))
        unfolding read_by read_direct answer_number
        packet-notes w eh e =
            pick E (is_direct s1 room k) (λ t. other _ (Read (length (body_of received k))) (frame_len k) (body_of received k) (λ e. omega arith))
            (λ t. pick E (closed_by (ids_in s1) k) (λ u. other _ (Refused ChannelClosed) (frame_len k) [] (λ e. omega arith))
            (λ u. subst (λ (h : Header). E (read_acted l ch room (frame_len k) (then w (slot_to ch.slot s1 ∷ []) []) (act_on h ss1 l.state.queue l.rx l.store k (body_of received k)))) (sym eh)
            (acted-notes (then w (slot_to ch.slot s1 ∷ []) []) (ap (λ (x : List Change). x ++ slot_to ch.slot s1 ∷ []) e))))

      received-notes : (w : Work) → w.header ≡ h0 → w.changes ≡ [] → (r : Result Packet (Answer × ℕ)) → Got received limit r → E (read_by l ch room w s1 received r)
      unfolding read_by
      received-notes w eh e r (stopped a used s) = other (then w (slot_to ch.slot s1 ∷ []) []) a used [] s.under
      received-notes w eh e r (packet k s) = packet-notes k s w eh e

      taken-notes : (w : Work) → w.header ≡ h0 → w.changes ≡ [] → E (read_taken l ch room w s1 received (taken_of s1 room))
      unfolding read_taken taken_of answer_number
      taken-notes w eh e =
          let P : Result (Option (ChannelSlot × ℕ)) ChannelError → Type 0 = λ y. E (read_taken l ch room w s1 received y) in
          pick P (has_data s1) (λ d. other (then w (slot_to ch.slot (took_of s1 (take_len s1 room)) ∷ []) []) (Read (take_len s1 room)) 0 _ (λ e. omega arith))
          (λ d. pick P (is_closed s1.state) (λ c. other (then w (slot_to ch.slot s1 ∷ []) []) _ 0 [] (error-other s1.failed fine1))
          (λ c. pick E s1.has_remote (λ t. received-notes w eh e (received_of l received) (got l received)) (λ t. other (then w (slot_to ch.slot s1 ∷ []) []) (Refused ChannelClosed) 0 [] (λ e. omega arith))))

    pub read-notes : (ch : ChannelId) (room : ℕ) → E (read_step l ch room received)
    unfolding read_step read_first slot_for answer_number
    read-notes ch room =
        pick E (is_there l ch) (λ t. taken-notes ch room (there-filled l ok ch t) _ refl refl) (λ t. other (begun h0 l) (Refused ChannelClosed) 0 [] (λ e. omega arith))

    -- ---- write

    module _ (spending : Spending) (ch : ChannelId) (out : ℕ) (bytes : List ℕ) where
      some-notes : (used : ℕ) (w : Work) (s : ChannelSlot) (n : ℕ) → E (send_some l ch out bytes used w s n)
      unfolding send_some answer_number
      some-notes used w s n =
          pick E (ltb out (length (frames_bytes w.header.negotiated w.frames) + 24 + n)) (λ t e. absurd (omega arith))
          (λ t. other (then w (slot_to ch.slot (spent_of s p n) ∷ []) (write_frame (ids_in s) (take n bytes) ∷ [])) (Written n) used [] (λ e. omega arith))

      send-notes : (used : ℕ) (w : Work) (s : ChannelSlot) (x : Option ℕ) → E (send_by l ch out bytes used w s x)
      unfolding send_by answer_number
      send-notes used w s (Some most) = some-notes used w s _
      send-notes used w s None = other (then w (slot_to ch.slot s ∷ []) []) Waiting used [] (λ e. omega arith)

      again-notes : (used : ℕ) (w : Work) (s : ChannelSlot) → E (send_again spending l ch out bytes used w s)
      unfolding send_again answer_number
      again-notes used w s =
          pick E (is_closed s.state) (λ t. other (then w (slot_to ch.slot s ∷ []) []) (Refused ChannelClosed) used [] (λ e. omega arith)) (λ t. send-notes used w s (leave_of spending s p))

      readied-notes : (used : ℕ) (w : Work) (s : ChannelSlot) (r : Result ChannelSlot CreditFault) → E (write_readied spending l ch out bytes used w s r)
      unfolding write_readied answer_number
      readied-notes used w s (Ok t) = again-notes used w t
      readied-notes used w s (Err b) = other w (Refused (CreditRefused b)) used [] (bad-other b)

      fault-notes : (k : Packet) → Says received limit k → (w : Work) (a : Acted) (f : Option ChannelFault) → (over_in f ≡ true → Over ss k.command k.arg1) → E (write_acted spending l ch out bytes (frame_len k) w a f)
      unfolding write_acted unless_fault answer_number
      fault-notes k s w a (Some f) v = acted (then_acted w a) (Some f) Waiting k [] s (λ e. omega arith) v
      fault-notes k s w a None v = again-notes (frame_len k) (then_acted w a) _

      write-received-notes : (s : ChannelSlot) (r : Result Packet (Answer × ℕ)) → Got received limit r → E (write_by spending l ch out bytes (begun h0 l) s received r)
      unfolding write_by write_act answer_number
      write-received-notes s r (stopped a used st) = other (begun h0 l) a used [] st.under
      write-received-notes s r (packet k sy) =
          pick E (is_ready k.command && eqb k.arg1 s.local.0) (λ t. readied-notes (frame_len k) (begun h0 l) s (ready_of s (body_of received k) p))
          (λ t. pick E (closed_by (ids_in s) k) (λ u. other _ (Refused ChannelClosed) (frame_len k) [] (λ e. omega arith))
          (λ u. fault-notes k sy (begun h0 l) (act_on h0 ss l.state.queue l.rx l.store k (body_of received k)) _ (over-act h0 ss l k (body_of received k) ok)))

      first-notes : (s : ChannelSlot) (x : Option ℕ) → E (write_first spending l ch out bytes received (begun h0 l) s x)
      unfolding write_first answer_number
      first-notes s (Some most) = some-notes 0 (begun h0 l) s _
      first-notes s None =
          pick E s.has_remote (λ t. write-received-notes s (received_of l received) (got l received)) (λ t. other (begun h0 l) (Refused ChannelClosed) 0 [] (λ e. omega arith))

      pub write-notes : E (write_step spending l ch out bytes received)
      unfolding write_step write_on answer_number
      write-notes =
          pick E (eqb (length bytes) 0) (λ z. other (begun h0 l) (Written 0) 0 [] (λ e. omega arith))
          (λ z. pick E (is_there l ch)
          (λ t. pick E (is_closed (slot_for l ch).state) (λ c. other (begun h0 l) (Refused ChannelClosed) 0 [] (λ e. omega arith)) (λ c. first-notes (slot_for l ch) (leave_of spending (slot_for l ch) p)))
          (λ t. other (begun h0 l) (Refused ChannelClosed) 0 [] (λ e. omega arith)))

    -- ---- open

    on-notes : (out : ℕ) (destination : List ℕ) (a : Result ChannelId NoFree) → E (open_on l out destination a)
    unfolding open_on answer_number
    on-notes out destination (Err _) = other (begun h0 l) (Refused NoFreeChannels) 0 [] (λ e. omega arith)
    on-notes out destination (Ok ch) =
        pick E (ltb payload_limit (length destination)) (λ t. other (begun (numbered h0) l) (Refused PayloadTooLarge) 0 [] (λ e. omega arith))
        (λ t. pick E (ltb out (24 + length destination)) (λ u e. absurd (omega arith))
        (λ u. other (then (begun (pending_for (numbered h0) ch) l) [] (open_frame ch.local (offered_credit l.state.header.negotiated) destination ∷ [])) Waiting 0 [] (λ e. omega arith)))

    open-readied-notes : (ch : ChannelId) (remote used : ℕ) (r : Result ChannelSlot CreditFault) → E (open_readied l ch remote used r)
    unfolding open_readied answer_number
    open-readied-notes ch remote used (Ok t) = other _ (Opened ch) used [] (λ e. omega arith)
    open-readied-notes ch remote used (Err b) = other _ (Refused (CreditRefused b)) used [] (bad-other b)

    open-received-notes : (ch : ChannelId) (r : Result Packet (Answer × ℕ)) → Got received limit r → E (open_by l ch received r)
    unfolding open_by open_acted answer_number
    open-received-notes ch r (stopped a used s) = other (begun (still_pending a l.state.header) l) a used [] s.under
    open-received-notes ch r (packet k s) =
        let mine = eqb k.arg1 ch.local.0 in
        pick E (is_ready k.command && mine) (λ t. open-readied-notes ch k.arg0 (frame_len k) (opened_of (opening_slot ch.local) (record { 0 = k.arg0 }) (body_of received k) p))
        (λ t. pick E (is_write k.command && mine) (λ u. other _ (Refused UnexpectedCommand) (frame_len k) [] (λ e. omega arith))
        (λ u. pick E (is_close k.command && mine) (λ v. other (begun h0 l) (Refused ChannelClosed) (frame_len k) [] (λ e. omega arith))
        (λ v. acted _ _ Waiting k [] s (λ e. omega arith) (over-act l.state.header ss l k (body_of received k) ok))))

    pub open-notes : (out : ℕ) (destination : List ℕ) → E (open_step l out destination received)
    unfolding open_step
    open-notes out destination =
        pick E (is_ours l.state.header.pending.what) (λ t. open-received-notes _ (received_of l received) (got l received)) (λ t. on-notes out destination (allocated l.state.header ss))
