-- No call takes a budget as low as 0 less the longest payload of a WRTE. Assumes nothing.
use mathlib.Core.Path.{◌≡◌, refl, sym, ap, subst}
use mathlib.Core.Bool.{Bool, false, ◌&&◌}
use mathlib.Core.List.{List, [], ◌∷◌, ◌++◌}
use Prim.Native.Nat.{ℕ, zero, suc, ◌+◌, ◌≤◌, ◌<◌, min}
use native.Mathlib.Omega.{arith}
use lib.Dec.{eqb, ltb}
use lib.IntN.{ℤ, pos, negsuc, ◌-ℤ◌}
use lib.ListN.{length, set, drop}
use borrow.Author.Tests.{eqb-false}
use Rattle.config.specs.declared.negotiated.Negotiated.{Negotiated}
use Rattle.config.specs.declared.negotiated.RxPolicy.{RxPolicy}
use Rattle.config.specs.Config.{stores_fit}
use Rattle.config.specs.Negotiated.{policy_of, offered_credit}
use Rattle.credit.specs.Credit.{credit_of}
use Rattle.credit.specs.declared.CreditFault.{CreditFault}
use Rattle.incoming.specs.Incoming.{popped, returned}
use Rattle.le.proofs.RowLaws.{Every, every_set, every_append}
use Rattle.protocol.specs.declared.command.Command.{Command}
use Rattle.protocol.specs.declared.packet.Packet.{Packet}
use Rattle.protocol.specs.Command.{is_ready, is_close, is_write}
use Rattle.protocol.specs.Packet.{payload_limit}
use Rattle.saturate.specs.Saturate.{clamp, positive_part}
use Rattle.slot.specs.declared.ChannelError.{ChannelError}
use Rattle.slot.specs.declared.ChannelFault.{ChannelFault as SlotFault}
use Rattle.slot.specs.declared.ChannelSlot.{ChannelSlot}
use Rattle.slot.specs.declared.Spending.{Spending}
use Rattle.slot.specs.declared.Spending.TheVariants.{Within, Beyond}
use Rattle.slot.specs.declared.ids.ChannelIds.{ChannelIds}
use Rattle.slot.specs.declared.ids.LocalId.{LocalId}
use Rattle.slot.specs.declared.ids.RemoteId.{RemoteId}
use Rattle.slot.specs.Ids.{closed_by}
use Rattle.slot.specs.Slot.{empty_slot, emptied_slot, opening_slot, accepted_slot, is_opening, is_closed, opened_by, opened_of, ready_by, ready_of, some_len, delivered_of, settled_of, has_data, took_of, taken_of, budget_of, leave_by, leave_of, spent_of, closed_slot}
use Rattle.slot.proofs.Kept.{pick}
use Rattle.slot.proofs.Laws.{cond-false}
use Rattle.state.specs.declared.Header.{Header}
use Rattle.state.specs.declared.QueuedOpen.{QueuedOpen}
use Rattle.state.specs.Change.{Change, Step, slot_to, header_to, queued_to, queue_to, changed, changed_all}
use Rattle.state.specs.State.{Connection, is_ours, state_len, state_of}
use Rattle.table.specs.declared.ChannelId.{ChannelId}
use Rattle.table.specs.declared.NoFreeChannels.{NoFreeChannels as NoFree}
use Rattle.table.specs.declared.Want.TheVariants.{Local}
use Rattle.table.specs.Table.{place_of, slot_in, numbered, allocated}
use Rattle.table_dispatch.specs.Dispatch.{readied_of}
use Rattle.connection.specs.declared.Answer.{Answer}
use Rattle.connection.specs.declared.Answer.TheVariants.{Opened}
use Rattle.connection.specs.Act.{Acted, act_on}
use Rattle.connection.specs.Calls.{Lent, Outcome, Work, begun, then, then_acted, storing, ends, checked, checked_out, dropped, policy, ids_in, is_there, slot_for, received_of, body_of, frame_len, dispatch_by, dispatch_step, settled_as, settle_step, taken_by, take_step, reread, read_settled, read_acted, is_direct, read_direct, read_by, read_taken, read_first, read_step, send_len, send_some, send_by, send_again, write_readied, write_acted, write_act, write_by, write_first, write_on, write_step, close_step, take_front_by, take_front_step, open_on, open_readied, open_acted, open_by, open_step, offer_in, is_offered, reject_on, reject_step, accept_on, accept_step, verdict_step, let_go_step, open_outcome, dispatch_outcome, settle_outcome, take_outcome, read_outcome, write_outcome, close_outcome, take_front_outcome, numbers_outcome, accept_outcome, reject_outcome, let_go_outcome, verdict_outcome, fresh}
use Rattle.connection.specs.Frames.{Frame, okay_frame, frames_bytes}
use Rattle.history.specs.Run.{look_outcome, Call, open_call, dispatch_call, settle_call, take_call, read_call, write_call, close_call, front_taken, look_call, numbers_look, accept_call, reject_call, let_go_call, verdict_call, World, lent, outcome, after, after_all, begins, agreed_in}
use Rattle.history.specs.Spending.{longest, Floor}
use Rattle.history.proofs.Acts.{NoSlot}
use Rattle.history.proofs.Budgets.{Above, above-low, above-more, above-spent, AtLeast0, credit-least, SameBudget, closed-budget, delivered-budget, settled-budget, Touches, none, keeps, credits, touches_of}
use Rattle.history.proofs.Good.{Leaves}
use Rattle.history.proofs.Never13.{Holds, holds_after, state-after, made-state, starts, every-replicate}
use Rattle.std.specs.Prelude.{Option, Some, None, Result, Ok, Err}

module _ (n : Negotiated) where
  abbrev p : RxPolicy
  p = policy_of n

  abbrev Afloat : ChannelSlot → Type 0
  Afloat s = Above (longest n) s.send_budget

  -- ---- what is done to a slot

  same-afloat : (s t : ChannelSlot) → SameBudget s t → Afloat s → Afloat t
  same-afloat s t e a = subst (Above (longest n)) (sym e) a

  opened-afloat-by : (s : ChannelSlot) (r : RemoteId) (c : Result ℤ CreditFault) → AtLeast0 c → Leaves Afloat (opened_by s r c)
  unfolding opened_by
  opened-afloat-by s r (Ok (pos k)) z = tt
  opened-afloat-by s r (Ok (negsuc k)) z = absurd z
  opened-afloat-by s r (Err f) z = tt

  opened-afloat : (s : ChannelSlot) (r : RemoteId) (payload : List ℕ) → Afloat s → Leaves Afloat (opened_of s r payload p)
  unfolding opened_of
  opened-afloat s r payload a = pick (Leaves Afloat) p.delayed (λ d. opened-afloat-by s r (credit_of payload) (credit-least payload)) (λ d. a)

  ready-afloat-by : (s : ChannelSlot) (c : Result ℤ CreditFault) → AtLeast0 c → Afloat s → Leaves Afloat (ready_by s c)
  unfolding ready_by
  ready-afloat-by s (Ok (pos k)) z a = above-more (longest n) s.send_budget k a
  ready-afloat-by s (Ok (negsuc k)) z a = absurd z
  ready-afloat-by s (Err f) z a = tt

  ready-afloat : (s : ChannelSlot) (payload : List ℕ) → Afloat s → Leaves Afloat (ready_of s payload p)
  unfolding ready_of
  ready-afloat s payload a = pick (Leaves Afloat) p.delayed (λ d. ready-afloat-by s (credit_of payload) (credit-least payload) a) (λ d. a)

  readied-afloat : (s : ChannelSlot) (r : RemoteId) (payload : List ℕ) → Afloat s → Leaves Afloat (readied_of s r payload p)
  unfolding readied_of
  readied-afloat s r payload a = pick (Leaves Afloat) (is_opening s.state) (λ o. opened-afloat s r payload a) (λ o. ready-afloat s payload a)

  accepted-afloat : (ids : ChannelIds) (credit : ℕ) → Afloat (accepted_slot ids credit p)
  unfolding accepted_slot
  accepted-afloat ids credit = pick (Above (longest n)) p.delayed (λ d. tt) (λ d. tt)

  abbrev Took : Result (Option (ChannelSlot × ℕ)) ChannelError → Type 0
  Took (Ok (Some (t, k))) = Afloat t
  Took (Ok None) = Unit {0}
  Took (Err e) = Unit {0}

  taken-afloat : (s : ChannelSlot) (room : ℕ) → Afloat s → Took (taken_of s room)
  unfolding taken_of took_of
  taken-afloat s room a = pick Took (has_data s) (λ d. a) (λ d. pick Took (is_closed s.state) (λ c. tt) (λ c. tt))

  -- where something may be sent, sending at most the longest keeps it
  abbrev Sends : ChannelSlot → Option ℕ → Type 0
  Sends s (Some most) = (k : ℕ) → k ≤ longest n → Afloat (spent_of s p k)
  Sends s None = Unit {0}

  spent-afloat : (s : ChannelSlot) (b : ℕ) → s.send_budget ≡ pos b → 0 < b → Afloat s → Sends s (Some b)
  unfolding spent_of
  spent-afloat s b e h a k f =
      pick Afloat p.delayed (λ d. subst (λ (z : ℤ). Above (longest n) (clamp (z -ℤ pos (min k 9223372036854775807)))) (sym e) (above-spent (longest n) b k h f)) (λ d. a)

  plain-sends : (s : ChannelSlot) (b : ℕ) → p.delayed ≡ false → Afloat s → Sends s (Some b)
  unfolding spent_of
  plain-sends s b d a k f = subst Afloat (sym (cond-false p.delayed _ _ d)) a

  budget-sends : (s : ChannelSlot) (z : ℤ) → s.send_budget ≡ z → Afloat s → Sends s (some_len (positive_part z))
  unfolding some_len positive_part
  budget-sends s (pos b) e a = pick (Sends s) (eqb b 0) (λ t. tt) (λ t. let z = eqb-false b 0 t in spent-afloat s b e (omega arith) a)
  budget-sends s (negsuc b) e a = tt

  leave-sends-by : (s : ChannelSlot) (spending : Spending) (most : Option ℕ) → Sends s most → Sends s (leave_by spending most)
  unfolding leave_by
  leave-sends-by s Within most h = h
  leave-sends-by s Beyond (Some b) h = h
  leave-sends-by s Beyond None h = tt

  leave-sends : (s : ChannelSlot) (spending : Spending) → Afloat s → Sends s (leave_of spending s p)
  unfolding leave_of budget_of
  leave-sends s spending a =
      leave-sends-by s spending (budget_of s p)
      (pick (Sends s) p.delayed (λ d. budget-sends s s.send_budget refl a) (λ d. pick (Sends s) s.wrte_acked (λ w. plain-sends s 0xffff_ffff_ffff_ffff d a) (λ w. tt)))

  -- ---- changes

  abbrev Puts : Change → Type 0
  Puts (slot_to i t) = Afloat t
  Puts (header_to h) = Unit {0}
  Puts (queued_to i q) = Unit {0}
  Puts (queue_to qs) = Unit {0}

  puts-all : (c : Connection) (xs : List Change) → Every Afloat c.slots → Every Puts xs → Every Afloat (changed_all c xs).slots
  puts-all c [] e f = e
  puts-all c (slot_to i t ∷ xs) e f = puts-all (changed c (slot_to i t)) xs (every_set Afloat c.slots i t e f.0) f.1
  puts-all c (header_to h ∷ xs) e f = puts-all (changed c (header_to h)) xs e f.1
  puts-all c (queued_to i q ∷ xs) e f = puts-all (changed c (queued_to i q)) xs e f.1
  puts-all c (queue_to qs ∷ xs) e f = puts-all (changed c (queue_to qs)) xs e f.1

  puts-none : (xs : List Change) → NoSlot xs → Every Puts xs
  puts-none [] e = tt
  puts-none (slot_to i t ∷ xs) e = absurd e
  puts-none (header_to h ∷ xs) e = (tt, puts-none xs e)
  puts-none (queued_to i q ∷ xs) e = (tt, puts-none xs e)
  puts-none (queue_to qs ∷ xs) e = (tt, puts-none xs e)

  afloat-at : (ss : List ChannelSlot) (i : ℕ) → Every Afloat ss → Afloat (slot_in ss i)
  unfolding slot_in empty_slot
  afloat-at [] i e = tt
  afloat-at (s ∷ ss) zero e = e.0
  afloat-at (s ∷ ss) (suc i) e = afloat-at ss i e.1

  touches-puts : (m : ℕ) (ss : List ChannelSlot) (payload : List ℕ) (c : Command) (local : LocalId) (xs : List Change) → Every Afloat ss → Touches p m ss payload c local xs → Every Puts xs
  touches-puts m ss payload c local _ e (none xs f) = puts-none xs f
  touches-puts m ss payload c local _ e (keeps i t xs f b) = (same-afloat (slot_in ss i) t b (afloat-at ss i e), puts-none xs f)
  touches-puts m ss payload c local _ e (credits remote t xs f o h r) =
      let i = place_of (Local local) m ss in
      (subst (Leaves Afloat) r (readied-afloat (slot_in ss i) remote payload (afloat-at ss i e)), puts-none xs f)

-- ---- the calls

module _ (l : Lent) (all : Every (Afloat l.state.header.negotiated) l.state.slots) where
  abbrev n : Negotiated
  n = l.state.header.negotiated

  abbrev ss : List ChannelSlot
  ss = l.state.slots

  abbrev h0 : Header
  h0 = dropped l.state.header

  abbrev Fine : Work → Type 0
  Fine w = Every (Puts n) w.changes

  abbrev fine : Outcome → Type 0
  fine o = Every (Puts n) o.changes

  here : (i : ℕ) → Afloat n (slot_in ss i)
  here i = afloat-at n ss i all

  at-end : (w : Work) (a : Answer) (used : ℕ) (handed : List ℕ) → Fine w → fine (ends w a used handed)
  unfolding ends
  at-end w a used handed f = every_append (Puts n) w.changes (header_to w.header ∷ []) f (tt, tt)

  at_then : (w : Work) (i : ℕ) (t : ChannelSlot) (fs : List Frame) → Fine w → Afloat n t → Fine (then w (slot_to i t ∷ []) fs)
  at_then w i t fs f a = every_append (Puts n) w.changes (slot_to i t ∷ []) f (a, tt)

  -- a slot stored at a call's end
  at_last : (w : Work) (i : ℕ) (t : ChannelSlot) (fs : List Frame) (a : Answer) (used : ℕ) (handed : List ℕ) → Fine w → Afloat n t → fine (ends (then w (slot_to i t ∷ []) fs) a used handed)
  at_last w i t fs a used handed f h = at-end (then w (slot_to i t ∷ []) fs) a used handed (at_then w i t fs f h)

  plain-end : (h : Header) (a : Answer) (used : ℕ) → fine (ends (begun h l) a used [])
  plain-end h a used = at-end (begun h l) a used [] tt

  acted-fine : (h : Header) (ts : List ChannelSlot) (k : Packet) (payload : List ℕ) → h.negotiated ≡ n → Every (Afloat n) ts → Every (Puts n) (act_on h ts l.state.queue l.rx l.store k payload).changes
  acted-fine h ts k payload e f =
      subst (λ (m : Negotiated). Every (Puts m) (act_on h ts l.state.queue l.rx l.store k payload).changes) e
      (touches-puts h.negotiated h.negotiated.config.channels ts payload k.command (record { 0 = k.arg1 }) _ (subst (λ (m : Negotiated). Every (Afloat m) ts) (sym e) f)
      (touches_of h ts l.state.queue l.rx l.store k payload))

  -- the slot at a place after some changes
  left-afloat : (xs : List Change) (i : ℕ) → Every (Puts n) xs → Afloat n (slot_in (changed_all l.state xs).slots i)
  left-afloat xs i f = afloat-at n (changed_all l.state xs).slots i (puts-all n l.state xs all f)

  -- ---- dispatch, settle, take, close, take_front

  dispatch-by : (received : List ℕ) (r : Result Packet (Answer × ℕ)) → fine (dispatch_by l h0 received r)
  unfolding dispatch_by
  dispatch-by received (Err (a, used)) = plain-end h0 a used
  dispatch-by received (Ok k) =
      at-end (then_acted (begun h0 l) (act_on h0 ss l.state.queue l.rx l.store k (body_of received k))) _ (frame_len k) [] (acted-fine h0 ss k (body_of received k) refl all)

  dispatch-floor : (received : List ℕ) → fine (dispatch_step l received)
  unfolding dispatch_step
  dispatch-floor received = dispatch-by received (received_of l received)

  settled-afloat : (s : ChannelSlot) (want : ℕ) → Afloat n s → Afloat n (settled_of s (policy l) want).slot
  settled-afloat s want a = same-afloat n s (settled_of s (policy l) want).slot (settled-budget s (policy l) want) a

  settle-floor : (ch : ChannelId) (want : ℕ) → fine (settle_step l ch want)
  unfolding settle_step settled_as slot_for
  settle-floor ch want =
      pick fine (is_there l ch) (λ t. at_last (begun h0 l) ch.slot _ _ _ 0 [] tt (settled-afloat (slot_in ss ch.slot) want (here ch.slot))) (λ t. plain-end h0 _ 0)

  taken-by : (ch : ChannelId) (s : ChannelSlot) (r : Result (Option (ChannelSlot × ℕ)) ChannelError) → Took n r → fine (taken_by l ch s (begun h0 l) r)
  unfolding taken_by
  taken-by ch s (Ok (Some (t, k))) a = at_last (begun h0 l) ch.slot t [] _ 0 _ tt a
  taken-by ch s (Ok None) a = plain-end h0 _ 0
  taken-by ch s (Err e) a = plain-end h0 _ 0

  take-floor : (ch : ChannelId) (room : ℕ) → fine (take_step l ch room)
  unfolding take_step slot_for
  take-floor ch room =
      pick fine (is_there l ch) (λ t. taken-by ch (slot_in ss ch.slot) (taken_of (slot_in ss ch.slot) room) (taken-afloat n (slot_in ss ch.slot) room (here ch.slot))) (λ t. plain-end h0 _ 0)

  close-floor : (ch : ChannelId) → fine (close_step l ch)
  unfolding close_step emptied_slot empty_slot
  close-floor ch = pick fine (is_there l ch && (slot_for l ch).has_remote) (λ t. at_last (begun h0 l) ch.slot _ _ _ 0 [] tt tt) (λ t. plain-end h0 _ 0)

  front-by : (xs : List Change) (f : Option (QueuedOpen × Header)) → Every (Puts n) xs → fine (take_front_by l h0 xs f)
  unfolding take_front_by
  front-by xs (Some (q, less)) e = at-end (then (begun less l) xs []) _ 0 [] e
  front-by xs None e = plain-end h0 _ 0

  front-floor : fine (take_front_step l)
  unfolding take_front_step popped
  front-floor =
      front-by (popped h0 l.state.queue).changes (popped h0 l.state.queue).result
      (pick (λ (x : Step (Option (QueuedOpen × Header))). Every (Puts n) x.changes) (eqb h0.queued 0) (λ t. tt) (λ t. (tt, tt)))

  -- ---- read

  module _ (ch : ChannelId) (room : ℕ) (received : List ℕ) where
    reread-floor : (used : ℕ) (fault : Option SlotFault) (w : Work) (s : ChannelSlot) → Fine w → Afloat n s → (r : Result (Option (ChannelSlot × ℕ)) ChannelError) → Took n r
        → fine (reread ch (policy l).rx_cap used fault w s r)
    unfolding reread
    reread-floor used fault w s f a (Ok (Some (t, k))) b = at_last w ch.slot t [] _ used _ f b
    reread-floor used fault w s f a (Ok None) b = at_last w ch.slot s [] _ used [] f a
    reread-floor used fault w s f a (Err e) b = at_last w ch.slot s [] _ used [] f a

    read-acted : (used : ℕ) (w : Work) (a : Acted) → Fine w → Every (Puts n) a.changes → fine (read_acted l ch room used w a)
    unfolding read_acted read_settled
    read-acted used w a f g =
        let k = every_append (Puts n) w.changes a.changes f g in
        let s = settled_of (slot_in (changed_all l.state (w.changes ++ a.changes)).slots ch.slot) (policy l) room in
        let b = settled-afloat (slot_in (changed_all l.state (w.changes ++ a.changes)).slots ch.slot) room (left-afloat (w.changes ++ a.changes) ch.slot k) in
        reread-floor used a.fault _ s.slot (every_append (Puts n) (w.changes ++ a.changes) [] k tt) b (taken_of s.slot room) (taken-afloat n s.slot room b)

    read-by : (w : Work) (s : ChannelSlot) → Fine w → w.header ≡ h0 → Afloat n s → (r : Result Packet (Answer × ℕ)) → fine (read_by l ch room w s received r)
    unfolding read_by read_direct
    read-by w s f e a (Err (x, used)) = at_last w ch.slot s [] x used [] f a
    read-by w s f e a (Ok k) =
        pick fine (is_direct s room k)
        (λ t. at_last w ch.slot _ _ _ (frame_len k) _ f (same-afloat n s (delivered_of s (policy l) k.data_length).slot (delivered-budget s (policy l) k.data_length) a))
        (λ t. pick fine (closed_by (ids_in s) k)
        (λ u. at_last w ch.slot (closed_slot s) [] _ (frame_len k) [] f (same-afloat n s (closed_slot s) (closed-budget s) a))
        (λ u. read-acted (frame_len k) _ _ (at_then w ch.slot s [] f a)
        (acted-fine w.header (set ss ch.slot s) k (body_of received k) (ap (λ (h : Header). h.negotiated) e) (every_set (Afloat n) ss ch.slot s all a))))

    read-taken : (w : Work) (s : ChannelSlot) → Fine w → w.header ≡ h0 → Afloat n s → (r : Result (Option (ChannelSlot × ℕ)) ChannelError) → Took n r → fine (read_taken l ch room w s received r)
    unfolding read_taken
    read-taken w s f e a (Ok (Some (t, k))) b = at_last w ch.slot t [] _ 0 _ f b
    read-taken w s f e a (Ok None) b = pick fine s.has_remote (λ t. read-by w s f e a (received_of l received)) (λ t. at_last w ch.slot s [] _ 0 [] f a)
    read-taken w s f e a (Err x) b = at_last w ch.slot s [] _ 0 [] f a

    read-floor : fine (read_step l ch room received)
    unfolding read_step read_first slot_for
    read-floor =
        let s = settled_of (slot_in ss ch.slot) (policy l) room in
        let a = settled-afloat (slot_in ss ch.slot) room (here ch.slot) in
        pick fine (is_there l ch) (λ t. read-taken _ s.slot tt refl a (taken_of s.slot room) (taken-afloat n s.slot room a)) (λ t. plain-end h0 _ 0)

  -- ---- write

  module _ (spending : Spending) (ch : ChannelId) (out : ℕ) (bytes received : List ℕ) where
    send-by : (used : ℕ) (w : Work) (s : ChannelSlot) → Fine w → Afloat n s → (b : Option ℕ) → Sends n s b → fine (send_by l ch out bytes used w s b)
    unfolding send_by send_some send_len
    send-by used w s f a (Some most) g =
        pick fine (ltb out (length (frames_bytes w.header.negotiated w.frames) + 24 + send_len l bytes most)) (λ t. tt)
        (λ t. at_last w ch.slot _ _ _ used [] f (g (send_len l bytes most) (omega arith)))
    send-by used w s f a None g = at_last w ch.slot s [] _ used [] f a

    send-again : (used : ℕ) (w : Work) (s : ChannelSlot) → Fine w → Afloat n s → fine (send_again spending l ch out bytes used w s)
    unfolding send_again
    send-again used w s f a =
        pick fine (is_closed s.state) (λ t. at_last w ch.slot s [] _ used [] f a) (λ t. send-by used w s f a (leave_of spending s (policy l)) (leave-sends n s spending a))

    write-readied : (used : ℕ) (w : Work) (s : ChannelSlot) → Fine w → (r : Result ChannelSlot CreditFault) → Leaves (Afloat n) r → fine (write_readied spending l ch out bytes used w s r)
    unfolding write_readied
    write-readied used w s f (Ok t) a = send-again used w t f a
    write-readied used w s f (Err b) a = at-end w _ used [] f

    write-acted : (used : ℕ) (a : Acted) → Every (Puts n) a.changes → (f : Option SlotFault) → fine (write_acted spending l ch out bytes used (begun h0 l) a f)
    unfolding write_acted
    write-acted used a e (Some f) = at-end (then_acted (begun h0 l) a) _ used [] e
    write-acted used a e None = send-again used (then_acted (begun h0 l) a) _ e (left-afloat a.changes ch.slot e)

    write-by : (s : ChannelSlot) → Afloat n s → (r : Result Packet (Answer × ℕ)) → fine (write_by spending l ch out bytes (begun h0 l) s received r)
    unfolding write_by write_act
    write-by s a (Err (x, used)) = plain-end h0 x used
    write-by s a (Ok k) =
        pick fine (is_ready k.command && eqb k.arg1 s.local.0)
        (λ t. write-readied (frame_len k) (begun h0 l) s tt (ready_of s (body_of received k) (policy l)) (ready-afloat n s (body_of received k) a))
        (λ t. pick fine (closed_by (ids_in s) k)
        (λ u. at_last (begun h0 l) ch.slot (closed_slot s) [] _ (frame_len k) [] tt (same-afloat n s (closed_slot s) (closed-budget s) a))
        (λ u. write-acted (frame_len k) _ (acted-fine h0 ss k (body_of received k) refl all) _))

    write-first : (s : ChannelSlot) → Afloat n s → (b : Option ℕ) → Sends n s b → fine (write_first spending l ch out bytes received (begun h0 l) s b)
    unfolding write_first send_by
    write-first s a (Some most) g = send-by 0 (begun h0 l) s tt a (Some most) g
    write-first s a None g = pick fine s.has_remote (λ t. write-by s a (received_of l received)) (λ t. plain-end h0 _ 0)

    write-floor : fine (write_step spending l ch out bytes received)
    unfolding write_step write_on slot_for
    write-floor =
        let s = slot_in ss ch.slot in
        pick fine (eqb (length bytes) 0) (λ z. plain-end h0 _ 0)
        (λ z. pick fine (is_there l ch)
        (λ t. pick fine (is_closed s.state) (λ c. plain-end h0 _ 0) (λ c. write-first s (here ch.slot) (leave_of spending s (policy l)) (leave-sends n s spending (here ch.slot))))
        (λ t. plain-end h0 _ 0))

  -- ---- open

  open-on : (out : ℕ) (destination : List ℕ) (r : Result ChannelId NoFree) → fine (open_on l out destination r)
  unfolding open_on
  open-on out destination (Err _) = plain-end h0 _ 0
  open-on out destination (Ok ch) =
      pick fine (ltb payload_limit (length destination)) (λ t. at-end _ _ 0 [] tt) (λ t. pick fine (ltb out (24 + length destination)) (λ u. tt) (λ u. at-end _ _ 0 [] tt))

  open-readied : (ch : ChannelId) (remote used : ℕ) (r : Result ChannelSlot CreditFault) → Leaves (Afloat n) r → fine (open_readied l ch remote used r)
  unfolding open_readied
  open-readied ch remote used (Ok t) a = at_last (begun h0 l) ch.slot t [] _ used [] tt a
  open-readied ch remote used (Err b) a = at-end _ _ used [] tt

  opening-afloat : (local : LocalId) → Afloat n (opening_slot local)
  unfolding opening_slot
  opening-afloat local = tt

  open-by : (ch : ChannelId) (received : List ℕ) (r : Result Packet (Answer × ℕ)) → fine (open_by l ch received r)
  unfolding open_by open_acted
  open-by ch received (Err (a, used)) = at-end _ a used [] tt
  open-by ch received (Ok k) =
      let mine = eqb k.arg1 ch.local.0 in
      pick fine (is_ready k.command && mine)
      (λ t. open-readied ch k.arg0 (frame_len k) _ (opened-afloat n (opening_slot ch.local) (record { 0 = k.arg0 }) (body_of received k) (opening-afloat ch.local)))
      (λ t. pick fine (is_write k.command && mine) (λ u. at-end _ _ (frame_len k) [] tt)
      (λ u. pick fine (is_close k.command && mine) (λ v. at-end _ _ (frame_len k) [] tt)
      (λ v. at-end (storing (then_acted (begun l.state.header l) (act_on l.state.header ss l.state.queue l.rx l.store k (body_of received k))) _) _ (frame_len k) [] (acted-fine l.state.header ss k (body_of received k) refl all))))

  open-floor : (out : ℕ) (destination received : List ℕ) → fine (open_step l out destination received)
  unfolding open_step
  open-floor out destination received =
      pick fine (is_ours l.state.header.pending.what) (λ t. open-by _ received (received_of l received)) (λ t. open-on out destination (allocated l.state.header ss))

  -- ---- verdicts

  reject-on : (remote : RemoteId) (a : Answer) → fine (reject_on l h0 remote a)
  unfolding reject_on
  reject-on remote a = at-end _ a 0 [] tt

  accept-on : (remote : RemoteId) (credit : ℕ) (r : Result ChannelId NoFree) → fine (accept_on l h0 remote credit r)
  unfolding accept_on
  accept-on remote credit (Err _) = reject-on remote _
  accept-on remote credit (Ok ch) =
      let ids : ChannelIds = record { local = ch.local; remote = remote } in
      at_last (begun (numbered h0) l) ch.slot (accepted_slot ids credit (policy l)) (okay_frame ids (offered_credit n) ∷ []) (Opened ch) 0 [] tt (accepted-afloat n ids credit)

  accept-floor : fine (accept_step l)
  unfolding accept_step
  accept-floor = pick fine (is_offered l) (λ t. accept-on (offer_in l).remote (offer_in l).credit (allocated l.state.header ss)) (λ t. plain-end h0 _ 0)

  reject-floor : fine (reject_step l)
  unfolding reject_step
  reject-floor = pick fine (is_offered l) (λ t. reject-on (offer_in l).remote _) (λ t. plain-end h0 _ 0)

  verdict-floor : (take : Bool) (remote : RemoteId) (credit : ℕ) → fine (verdict_step l take remote credit)
  unfolding verdict_step
  verdict-floor take remote credit = pick fine take (λ t. accept-on remote credit (allocated l.state.header ss)) (λ t. reject-on remote _)

  let-go-floor : fine (let_go_step l)
  unfolding let_go_step returned
  let-go-floor = pick fine (is_offered l) (λ t. at-end _ _ 0 [] (tt, tt)) (λ t. plain-end h0 _ 0)

  -- ---- the refusals ahead of every step change nothing

  checked-fine : (t : Bool) (o : Outcome) → fine o → fine (checked t l o)
  unfolding checked
  checked-fine t o f = pick fine t (λ a. pick fine (stores_fit n.config (length l.rx) (length l.store)) (λ b. f) (λ b. tt)) (λ a. tt)

  out-fine : (t : Bool) (out : ℕ) (o : Outcome) → fine o → fine (checked_out t l out o)
  unfolding checked_out
  out-fine t out o f = checked-fine t _ (pick fine (ltb out 56) (λ a. tt) (λ a. f))

call-fine : (w : World) → Every (Afloat (lent w).state.header.negotiated) (lent w).state.slots → (x : Call) → Every (Puts (lent w).state.header.negotiated) (outcome w x).changes
unfolding outcome open_outcome dispatch_outcome settle_outcome take_outcome read_outcome write_outcome close_outcome take_front_outcome look_outcome numbers_outcome accept_outcome reject_outcome let_go_outcome verdict_outcome
call-fine w a (open_call out destination received) = out-fine (lent w) a _ _ _ (open-floor (lent w) a _ _ _)
call-fine w a (dispatch_call out received) = out-fine (lent w) a _ _ _ (dispatch-floor (lent w) a _)
call-fine w a (settle_call out ch want) = out-fine (lent w) a _ _ _ (settle-floor (lent w) a ch want)
call-fine w a (take_call ch buf) = checked-fine (lent w) a _ _ (take-floor (lent w) a ch _)
call-fine w a (read_call out ch buf received) = out-fine (lent w) a _ _ _ (read-floor (lent w) a ch _ _)
call-fine w a (write_call spending out ch bytes received) = out-fine (lent w) a _ _ _ (write-floor (lent w) a spending ch _ _ _)
call-fine w a (close_call out ch) = out-fine (lent w) a _ _ _ (close-floor (lent w) a ch)
call-fine w a front_taken = checked-fine (lent w) a _ _ (front-floor (lent w) a)
call-fine w a (look_call (numbers_look ch)) = checked-fine (lent w) a _ _ tt
call-fine w a (accept_call out) = out-fine (lent w) a _ _ _ (accept-floor (lent w) a)
call-fine w a (reject_call out) = out-fine (lent w) a _ _ _ (reject-floor (lent w) a)
call-fine w a let_go_call = checked-fine (lent w) a _ _ (let-go-floor (lent w) a)
call-fine w a (verdict_call out take remote credit) = out-fine (lent w) a _ _ _ (verdict-floor (lent w) a take _ _)

-- ---- lists of calls

module _ (n : Negotiated) (r : List ℕ) (rx store : ℕ) where
  floor-after : (w : World) → Holds n r rx store w → Every (Afloat n) (state_of w.state).slots → (x : Call) → Every (Afloat n) (state_of (after w x).state).slots
  floor-after w h a x =
      let e = h.facts.header.negotiated in
      let b = subst (λ (m : Negotiated). Every (Afloat m) (state_of w.state).slots) (sym e) a in
      subst (λ (c : Connection). Every (Afloat n) c.slots) (sym (state-after n r rx store w h x))
      (puts-all n (state_of w.state) (outcome w x).changes a (subst (λ (m : Negotiated). Every (Puts m) (outcome w x).changes) e (call-fine w b x)))

  floor-all : (w : World) → Holds n r rx store w → Every (Afloat n) (state_of w.state).slots → (cs : List Call) → Every (Afloat n) (state_of (after_all w cs).state).slots
  unfolding after_all
  floor-all w h a [] = a
  floor-all w h a (x ∷ cs) = floor-all (after w x) (holds_after n r rx store w h x) (floor-after w h a x) cs

pub floor : Floor
unfolding fresh empty_slot
floor s cs i =
    let n = agreed_in s in
    let c = made-state s.config s.version s.most s.host s.device s.state s.rx s.store s.within in
    let a : Every (Afloat n) (state_of (begins s).state).slots = subst (λ (x : Connection). Every (Afloat n) x.slots) (sym c) (every-replicate (Afloat n) 64 empty_slot tt) in
    above-low (longest n) _ (omega arith) (afloat-at n _ i (floor-all n (drop state_len s.state) (length s.rx) (length s.store) (begins s) (starts s) a cs))
