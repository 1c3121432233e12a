-- The WRTE that a call writes, and what it leaves of its channel's budget. Assumes nothing.
use mathlib.Core.Path.{◌≡◌, refl, sym, ap, subst, ◌∙◌}
use mathlib.Core.Bool.{Bool, true, false, ◌&&◌}
use mathlib.Core.List.{List, [], ◌∷◌, ◌++◌}
use Prim.Native.Nat.{ℕ, ◌+◌, ◌≤◌, ◌<◌, min}
use native.Mathlib.Omega.{arith}
use lib.Dec.{eqb, ltb}
use lib.IntN.{ℤ, pos, negsuc, neg_ℤ, ◌-ℤ◌}
use lib.ListN.{length, take}
use lib.Seq.{length-take-le}
use lib.Signed.{◌<ℤ◌}
use borrow.Author.Tests.{eqb-false}
use Rattle.le.proofs.RowLaws.{Every}
use Rattle.config.specs.Config.{stores_fit}
use Rattle.credit.specs.declared.CreditFault.{CreditFault}
use Rattle.protocol.specs.declared.packet.Packet.{Packet}
use Rattle.protocol.specs.Command.{is_ready}
use Rattle.saturate.specs.Saturate.{clamp, positive_part}
use Rattle.slot.specs.declared.ChannelFault.{ChannelFault as SlotFault}
use Rattle.slot.specs.declared.ChannelSlot.{ChannelSlot}
use Rattle.slot.specs.declared.Spending.{Spending}
use Rattle.slot.specs.declared.Spending.TheVariants.{Within, Beyond}
use Rattle.slot.specs.declared.ids.ChannelIds.{ChannelIds}
use Rattle.slot.specs.Ids.{closed_by}
use Rattle.slot.specs.Slot.{with_sending, is_closed, some_len, budget_of, leave_by, leave_of, ready_of, spent_of}
use Rattle.slot.proofs.Kept.{pick}
use Rattle.slot.proofs.Laws.{cond-true}
use Rattle.slot.proofs.Stays.{ReadiedStays, ready-stays}
use Rattle.state.specs.declared.Header.{Header}
use Rattle.state.specs.Change.{slot_to, header_to, changed_all}
use Rattle.table.specs.declared.ChannelId.{ChannelId}
use Rattle.table.specs.Table.{slot_in}
use Rattle.connection.specs.declared.Answer.{Answer}
use Rattle.connection.specs.declared.Answer.TheVariants.{Written}
use Rattle.connection.specs.Act.{Acted, act_on}
use Rattle.connection.specs.Calls.{Lent, Outcome, Work, begun, then, then_acted, ends, checked, checked_out, dropped, policy, ids_in, is_there, slot_for, received_of, body_of, frame_len, send_len, send_some, send_by, send_again, write_readied, write_acted, write_act, write_by, write_first, write_on, write_step, write_outcome}
use Rattle.connection.specs.Frames.{Frame, okay_frame, close_frame, open_frame, write_frame, frames_bytes}
use Rattle.connection.proofs.Slots.{slots_by, slots-by, slots-append, slots_length, slot-set-same}
use Rattle.history.specs.Run.{Call, open_call, dispatch_call, settle_call, take_call, read_call, write_call, close_call, front_taken, look_call, accept_call, reject_call, let_go_call, verdict_call, World, lent, outcome}
use Rattle.history.proofs.Budgets.{Above, above-low, above-spent}
use Rattle.history.proofs.Marks.{Mark, there-filled, tame-act, tame-at}
use Rattle.history.proofs.Places.{TableOk}
use Rattle.history_frames.proofs.Each.{Given, at-end, at_last, plain-end, acted-each, each-frame}
use Rattle.std.specs.Prelude.{Option, Some, None, Result, Ok, Err}

-- ---- frames

-- a frame that is no WRTE
abbrev pub Unwritten : Frame → Type 0
Unwritten (okay_frame ids n) = Unit {0}
Unwritten (close_frame ids) = Unit {0}
Unwritten (open_frame local credit destination) = Unit {0}
Unwritten (write_frame ids bytes) = ⊥

-- no WRTE among frames
abbrev pub NoWrite : List Frame → Type 0
NoWrite = Every Unwritten

-- a call writes no WRTE; or one, the last of its frames, with the numbers of a channel that is open, whose budget is then above 0
-- less its length
pub data Sends (ts : List ChannelSlot) (fs : List Frame) : Type 0 where
  silent : NoWrite fs → Sends ts fs
  sends : (pre : List Frame) (i : ℕ) (bytes : List ℕ) → fs ≡ pre ++ write_frame (ids_in (slot_in ts i)) bytes ∷ [] → NoWrite pre → (slot_in ts i).filled ≡ true
      → is_closed (slot_in ts i).state ≡ false → neg_ℤ (pos (length bytes)) <ℤ (slot_in ts i).send_budget → Sends ts fs

-- ---- what may be sent

-- more than 0, from a budget above 0
record Room (s : ChannelSlot) (most : ℕ) : Type 0 where
  budget : ℕ
  is : s.send_budget ≡ pos budget
  above : 0 < budget
  some : 1 ≤ most

abbrev Rooms : ChannelSlot → Option ℕ → Type 0
Rooms s (Some most) = Room s most
Rooms s None = Unit {0}

room-by : (spending : Spending) (s : ChannelSlot) (z : ℤ) → s.send_budget ≡ z → Rooms s (leave_by spending (some_len (positive_part z)))
unfolding leave_by some_len positive_part
room-by Within s (pos b) e =
    pick (λ (x : Option ℕ). Rooms s (leave_by Within x)) (eqb b 0) (λ t. tt)
    (λ t. let z = eqb-false b 0 t in record { budget = b; is = e; above = omega arith; some = omega arith })
room-by Beyond s (pos b) e =
    pick (λ (x : Option ℕ). Rooms s (leave_by Beyond x)) (eqb b 0) (λ t. tt)
    (λ t. let z = eqb-false b 0 t in record { budget = b; is = e; above = omega arith; some = omega arith })
room-by Within s (negsuc b) e = tt
room-by Beyond s (negsuc b) e = tt

-- ---- a write

module _ (l : Lent) (ok : TableOk (policy l) l.state.header.negotiated.config.channels l.state.slots l.rx) (delayed : (policy l).delayed ≡ true) where
  abbrev ss : List ChannelSlot
  ss = l.state.slots

  abbrev h0 : Header
  h0 = dropped l.state.header

  abbrev Quiet : Work → Type 0
  Quiet w = NoWrite w.frames

  abbrev does : Outcome → Type 0
  does o = Sends (slots_by ss o.changes) o.frames

  module _ (spending : Spending) (ch : ChannelId) (out : ℕ) (given received : List ℕ) (at : is_there l ch ≡ true) (any : 1 ≤ length given) where
    abbrev s0 : ChannelSlot
    s0 = slot_in ss ch.slot

    here : s0.filled ≡ true
    here = there-filled l ok ch at

    inside : ch.slot < length ss
    inside = let z = ok.size in let m = ok.most in let b = ok.below ch.slot here in omega arith

    leave-room : (t : ChannelSlot) → Rooms t (leave_of spending t (policy l))
    unfolding leave_of budget_of
    leave-room t = subst (λ (x : Option ℕ). Rooms t (leave_by spending x)) (sym (cond-true (policy l).delayed _ _ delayed)) (room-by spending t t.send_budget refl)

    -- a slot u in the place of the channel's, from which n bytes are sent
    module _ (used : ℕ) (w : Work) (u : ChannelSlot) (q : Quiet w) (filled : u.filled ≡ true) (live : is_closed u.state ≡ false) where
      module _ (n budget : ℕ) (short : n ≤ length given) (some : 1 ≤ n) (is : u.send_budget ≡ pos budget) (above : 0 < budget) where
        abbrev left-in : ChannelSlot
        left-in = spent_of u (policy l) n

        abbrev data-in : List ℕ
        data-in = take n given

        abbrev sent-by : Outcome
        sent-by = ends (then w (slot_to ch.slot left-in ∷ []) (write_frame (ids_in u) data-in ∷ [])) (Written n) used []

        abbrev now : List ChannelSlot
        now = slots_by ss ((w.changes ++ slot_to ch.slot left-in ∷ []) ++ header_to w.header ∷ [])

        abbrev budgeted : ChannelSlot
        budgeted = with_sending u u.wrte_acked (clamp (u.send_budget -ℤ pos (min n 9223372036854775807)))

        spent-is : left-in ≡ budgeted
        unfolding spent_of
        spent-is = cond-true (policy l).delayed _ _ delayed

        stored : slot_in now ch.slot ≡ budgeted
        stored =
            let xs = w.changes ++ slot_to ch.slot left-in ∷ [] in
            let vs = slots_by ss w.changes in
            let z = slots_length ss w.changes in
            let b = inside in
            ap (λ (ts : List ChannelSlot). slot_in ts ch.slot) (slots-append ss xs (header_to w.header ∷ []) ∙ slots-append ss w.changes (slot_to ch.slot left-in ∷ []))
            ∙ slot-set-same vs ch.slot left-in (omega arith) ∙ spent-is

        data-length : length data-in ≡ n
        data-length = length-take-le n given short

        low : neg_ℤ (pos (length data-in)) <ℤ budgeted.send_budget
        low =
            subst (λ (j : ℕ). neg_ℤ (pos j) <ℤ budgeted.send_budget) (sym data-length)
            (above-low n budgeted.send_budget some
            (subst (λ (z : ℤ). Above n (clamp (z -ℤ pos (min n 9223372036854775807)))) (sym is) (above-spent n budget n above (omega arith))))

        sent-does : does sent-by
        unfolding ends
        sent-does =
            sends w.frames ch.slot data-in
            (ap (λ (i : ChannelIds). w.frames ++ write_frame i data-in ∷ []) (sym (ap (λ (t : ChannelSlot). ids_in t) stored))) q
            (ap (λ (t : ChannelSlot). t.filled) stored ∙ filled)
            (ap (λ (t : ChannelSlot). is_closed t.state) stored ∙ live)
            (subst (λ (t : ChannelSlot). neg_ℤ (pos (length data-in)) <ℤ t.send_budget) (sym stored) low)

      some-does : (most : ℕ) → Room u most → does (send_some l ch out given used w u (send_len l given most))
      unfolding send_some send_len
      some-does most r =
          let n = send_len l given most in
          let m = r.some in
          let a = any in
          pick does (ltb out (length (frames_bytes w.header.negotiated w.frames) + 24 + n)) (λ t. silent tt)
          (λ t. sent-does n r.budget (omega arith) (omega arith) r.is r.above)

      by-does : (b : Option ℕ) → Rooms u b → does (send_by l ch out given used w u b)
      unfolding send_by
      by-does (Some most) r = some-does most r
      by-does None r = silent (at_last Unwritten w _ [] _ used [] q tt)

    again-does : (used : ℕ) (w : Work) (u : ChannelSlot) → Quiet w → u.filled ≡ true → does (send_again spending l ch out given used w u)
    unfolding send_again
    again-does used w u q filled =
        pick does (is_closed u.state) (λ t. silent (at_last Unwritten w _ [] _ used [] q tt))
        (λ t. by-does used w u q filled t (leave_of spending u (policy l)) (leave-room u))

    readied-does : (used : ℕ) (r : Result ChannelSlot CreditFault) → ReadiedStays s0 r → does (write_readied spending l ch out given used (begun h0 l) s0 r)
    unfolding write_readied
    readied-does used (Ok t) x = again-does used (begun h0 l) t tt (x.filled ∙ here)
    readied-does used (Err b) x = silent (plain-end Unwritten l h0 _ used)

    module _ (k : Packet) where
      abbrev body : List ℕ
      body = body_of received k

      abbrev act : Acted
      act = act_on h0 ss l.state.queue l.rx l.store k body

      act-quiet : Quiet (then_acted (begun h0 l) act)
      act-quiet = acted-each Unwritten (λ ids n. tt) (λ ids. tt) h0 ss l.state.queue l.rx l.store k body

      still-filled : (slot_in (changed_all l.state act.changes).slots ch.slot).filled ≡ true
      still-filled =
          ap (λ (ts : List ChannelSlot). (slot_in ts ch.slot).filled) (slots-by l.state act.changes)
          ∙ ap (λ (m : Mark). m.filled) (tame-at ss act.changes (tame-act h0 ss l.state.queue l.rx l.store k body ok) ch.slot) ∙ here

      acted-does : (f : Option SlotFault) → does (write_acted spending l ch out given (frame_len k) (begun h0 l) act f)
      unfolding write_acted
      acted-does (Some f) = silent (at-end Unwritten (then_acted (begun h0 l) act) _ (frame_len k) [] act-quiet)
      acted-does None = again-does (frame_len k) (then_acted (begun h0 l) act) _ act-quiet still-filled

    write-by : (r : Result Packet (Answer × ℕ)) → does (write_by spending l ch out given (begun h0 l) s0 received r)
    unfolding write_by write_act
    write-by (Err (a, used)) = silent (plain-end Unwritten l h0 a used)
    write-by (Ok k) =
        pick does (is_ready k.command && eqb k.arg1 s0.local.0)
        (λ t. readied-does (frame_len k) (ready_of s0 (body_of received k) (policy l)) (ready-stays s0 (body_of received k) (policy l)))
        (λ t. pick does (closed_by (ids_in s0) k) (λ u. silent (at_last Unwritten (begun h0 l) _ [] _ (frame_len k) [] tt tt)) (λ u. acted-does k (act k).fault))

    write-first : is_closed s0.state ≡ false → (b : Option ℕ) → Rooms s0 b → does (write_first spending l ch out given received (begun h0 l) s0 b)
    unfolding write_first
    write-first live (Some most) r = some-does 0 (begun h0 l) s0 tt here live most r
    write-first live None r = pick does s0.has_remote (λ t. write-by (received_of l received)) (λ t. silent (plain-end Unwritten l h0 _ 0))

    write-here : does (write_on spending l ch out given received (begun h0 l) s0)
    unfolding write_on
    write-here =
        pick does (is_closed s0.state) (λ t. silent (plain-end Unwritten l h0 _ 0)) (λ t. write-first t (leave_of spending s0 (policy l)) (leave-room s0))

  write-does : (spending : Spending) (ch : ChannelId) (out : ℕ) (given received : List ℕ) → does (write_step spending l ch out given received)
  unfolding write_step slot_for
  write-does spending ch out given received =
      pick does (eqb (length given) 0) (λ z. silent (plain-end Unwritten l h0 _ 0))
      (λ z. let e = eqb-false (length given) 0 z in
      pick does (is_there l ch) (λ t. write-here spending ch out given received t (omega arith)) (λ t. silent (plain-end Unwritten l h0 _ 0)))

  -- ---- the refusals ahead of every step write nothing

  checked-does : (t : Bool) (o : Outcome) → does o → does (checked t l o)
  unfolding checked
  checked-does t o f =
      pick does t (λ a. pick does (stores_fit l.state.header.negotiated.config (length l.rx) (length l.store)) (λ b. f) (λ b. silent tt)) (λ a. silent tt)

  out-does : (t : Bool) (out : ℕ) (o : Outcome) → does o → does (checked_out t l out o)
  unfolding checked_out
  out-does t out o f = checked-does t _ (pick does (ltb out 56) (λ a. silent tt) (λ a. f))

-- ---- one call

module _ (w : World) (ok : TableOk (policy (lent w)) (lent w).state.header.negotiated.config.channels (lent w).state.slots (lent w).rx)
    (delayed : (policy (lent w)).delayed ≡ true) where
  -- one that is handed no bytes to send
  unsent : (x : Call) → Given Unwritten x → Sends (slots_by (lent w).state.slots (outcome w x).changes) (outcome w x).frames
  unsent x g = silent (each-frame Unwritten (λ ids n. tt) (λ ids. tt) w x g)

  pub sends-call : (x : Call) → Sends (slots_by (lent w).state.slots (outcome w x).changes) (outcome w x).frames
  unfolding outcome write_outcome
  sends-call (open_call out destination received) = unsent (open_call out destination received) (λ local credit. tt)
  sends-call (dispatch_call out received) = unsent (dispatch_call out received) tt
  sends-call (settle_call out ch want) = unsent (settle_call out ch want) tt
  sends-call (take_call ch buf) = unsent (take_call ch buf) tt
  sends-call (read_call out ch buf received) = unsent (read_call out ch buf received) tt
  sends-call (write_call spending out ch bytes received) = out-does (lent w) ok delayed _ _ _ (write-does (lent w) ok delayed spending ch _ _ _)
  sends-call (close_call out ch) = unsent (close_call out ch) tt
  sends-call front_taken = unsent front_taken tt
  sends-call (look_call x) = unsent (look_call x) tt
  sends-call (accept_call out) = unsent (accept_call out) tt
  sends-call (reject_call out) = unsent (reject_call out) tt
  sends-call let_go_call = unsent let_go_call tt
  sends-call (verdict_call out take remote credit) = unsent (verdict_call out take remote credit) tt
