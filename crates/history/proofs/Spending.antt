-- What a write call takes off its slot's budget. Assumes nothing.
use mathlib.Core.Path.{◌≡◌, refl, sym, ap, subst, ◌∙◌}
use mathlib.Core.Bool.{Bool, true, false, ◌&&◌}
use mathlib.Core.List.{List, []}
use Prim.Native.Nat.{ℕ, ◌+◌, ◌^◌, ◌≤◌, ◌<◌, min}
use native.Mathlib.Omega.{arith}
use lib.Dec.{eqb, ltb}
use lib.IntN.{ℤ, pos, negsuc, ◌+ℤ◌, ◌-ℤ◌}
use lib.ListN.{length, length-map}
use lib.Signed.{mag}
use borrow.Author.Tests.{eqb-true, eqb-false}
use Rattle.config.specs.Config.{stores_fit}
use Rattle.config.specs.Negotiated.{policy_of}
use Rattle.config.proofs.Laws.{and-true}
use Rattle.credit.specs.Credit.{credit_of}
use Rattle.credit.specs.declared.CreditFault.{CreditFault}
use Rattle.protocol.specs.declared.packet.DecodeError.{DecodeError}
use Rattle.protocol.specs.declared.packet.DecodeError.TheVariants.{InvalidCommand, InvalidMagic, PayloadTooLarge, InvalidChecksum}
use Rattle.protocol.specs.declared.packet.Packet.{Packet}
use Rattle.protocol.specs.Packet.{decode_of}
use Rattle.protocol.specs.Command.{is_ready}
use Rattle.saturate.specs.Saturate.{clamp, positive_part}
use Rattle.saturate.proofs.Laws.{held_fits}
use Rattle.slot.specs.declared.ChannelFault.{ChannelFault as SlotFault}
use Rattle.slot.specs.declared.ChannelSlot.{ChannelSlot}
use Rattle.slot.specs.declared.Spending.{Spending}
use Rattle.slot.specs.declared.Spending.TheVariants.{Within, Beyond}
use Rattle.slot.specs.Ids.{closed_by}
use Rattle.slot.specs.Slot.{is_closed, ready_by, ready_of, some_len, budget_of, leave_by, leave_of, spent_of}
use Rattle.slot.proofs.Kept.{pick}
use Rattle.slot.proofs.Laws.{cond-true}
use Rattle.state.specs.declared.Header.{Header}
use Rattle.state.specs.Change.{changed_all}
use Rattle.state.specs.State.{Connection, state_of}
use Rattle.state_whole.proofs.WholeLaws.{Live, Whole}
use Rattle.table.specs.declared.ChannelId.{ChannelId}
use Rattle.table.specs.Table.{slot_in}
use Rattle.connection.specs.declared.Answer.{Answer}
use Rattle.connection.specs.declared.Answer.TheVariants.{Done, Waiting, Nothing, Opened, Settled, Read, Written, Front as FrontIs, Numbers, Refused}
use Rattle.connection.specs.Act.{Acted, act_on}
use Rattle.connection.specs.Calls.{Lent, Outcome, begun, then_acted, ends, checked, checked_out, dropped, policy, ids_in, is_there, slot_for, received_by, received_of, body_of, frame_len, send_len, send_some, send_by, send_again, write_readied, write_acted, write_act, write_by, write_first, write_on, write_step, write_outcome}
use Rattle.connection.specs.Frames.{frames_bytes}
use Rattle.connection.proofs.Slots.{slots_by, slots-by, slot-set-same}
use Rattle.connection.proofs.WholeWork.{negotiated, there-live}
use Rattle.history.specs.Run.{bytes_in, write_call, World, lent, outcome}
use Rattle.history.specs.Spending.{longest, cut, Credited, WritesSpend}
use Rattle.history.proofs.Budgets.{exact-spent, other-budget, touches_of}
use Rattle.history.proofs.Good.{Leaves}
use Rattle.history.proofs.Never13.{whole-holds, state-after}
use Rattle.std.specs.Prelude.{Option, Some, None, Result, Ok, Err}

-- ---- answers that tell of no byte sent

abbrev sent_by : Answer → ℕ
sent_by Done = 0
sent_by Waiting = 0
sent_by Nothing = 0
sent_by (Opened ch) = 0
sent_by (Settled a) = 0
sent_by (Read k) = 0
sent_by (Written k) = k
sent_by (FrontIs r credit place len) = 0
sent_by (Numbers t total buffered unacked budget) = 0
sent_by (Refused r) = 0

abbrev Silent : Result Packet (Answer × ℕ) → Type 0
Silent (Ok k) = Unit {0}
Silent (Err (a, used)) = sent_by a ≡ 0

received-silent : (r : Result (Option Packet) DecodeError) → Silent (received_by r)
unfolding received_by
received-silent (Ok None) = refl
received-silent (Ok (Some k)) = tt
received-silent (Err (InvalidCommand word)) = refl
received-silent (Err InvalidMagic) = refl
received-silent (Err PayloadTooLarge) = refl
received-silent (Err (InvalidChecksum used)) = refl

-- ---- a slot in delayed mode

-- what may be sent: the budget it is sent from, and how long a WRTE is then
record Room (spending : Spending) (s : ChannelSlot) (most : ℕ) : Type 0 where
  budget : ℕ
  is : s.send_budget ≡ pos budget
  above : 0 < budget
  cuts : (k : ℕ) → k ≤ 1048576 → min k most ≡ cut spending budget k

abbrev Rooms : Spending → ChannelSlot → Option ℕ → Type 0
Rooms spending s (Some most) = Room spending s most
Rooms spending s None = Unit {0}

room-by : (spending : Spending) (s : ChannelSlot) (z : ℤ) → s.send_budget ≡ z → Rooms spending s (leave_by spending (some_len (positive_part z)))
unfolding leave_by some_len positive_part
room-by Within s (pos b) e =
    pick (λ (x : Option ℕ). Rooms Within s (leave_by Within x)) (eqb b 0) (λ t. tt)
    (λ t. let z = eqb-false b 0 t in record { budget = b; is = e; above = omega arith; cuts = λ k h. refl })
room-by Beyond s (pos b) e =
    pick (λ (x : Option ℕ). Rooms Beyond s (leave_by Beyond x)) (eqb b 0) (λ t. tt)
    (λ t. let z = eqb-false b 0 t in record { budget = b; is = e; above = omega arith; cuts = λ k h. omega arith })
room-by Within s (negsuc b) e = tt
room-by Beyond s (negsuc b) e = tt

-- an OKAY whose credit was read
record Readied (s : ChannelSlot) (payload : List ℕ) (t : ChannelSlot) : Type 0 where
  credit : ℤ
  reads : credit_of payload ≡ Ok credit
  sum : t.send_budget ≡ clamp (s.send_budget +ℤ credit)

readied-by : (s : ChannelSlot) (payload : List ℕ) (c : Result ℤ CreditFault) → credit_of payload ≡ c → Leaves (Readied s payload) (ready_by s c)
unfolding ready_by
readied-by s payload (Ok z) e = record { credit = z; reads = e; sum = refl }
readied-by s payload (Err f) e = tt

-- ---- the call

module _ (w : World) (g : Whole (negotiated (lent w)) (lent w).state.header (lent w).state.slots (lent w).state.queue) (d : (policy (lent w)).delayed ≡ true)
    (spending : Spending) (ch : ChannelId) (out : ℕ) (bytes received : List ℕ) where
  abbrev l : Lent
  l = lent w

  abbrev ss : List ChannelSlot
  ss = l.state.slots

  abbrev s : ChannelSlot
  s = slot_in ss ch.slot

  abbrev h0 : Header
  h0 = dropped l.state.header

  abbrev data-in : List ℕ
  data-in = bytes_in bytes

  record Sent (o : Outcome) (n : ℕ) : Type 0 where
    budget : ℕ
    above : 0 < budget
    standing : o.used ≡ 0 → s.send_budget ≡ pos budget
    credited : (o.used ≡ 0 → ⊥) → Credited w ch received budget
    cuts : n ≡ cut spending budget (min (length data-in) (longest l.state.header.negotiated))
    leaves : (slot_in (slots_by ss o.changes) ch.slot).send_budget ≡ pos budget -ℤ pos n

  abbrev Tells : Outcome → Type 0
  Tells o = (n : ℕ) → o.answer ≡ Written n → 0 < n → Sent o n

  silent : (o : Outcome) → sent_by o.answer ≡ 0 → Tells o
  silent o z n e h = let k : 0 ≡ n = sym z ∙ ap sent_by e in absurd (omega arith)

  leave-room : (t : ChannelSlot) → Rooms spending t (leave_of spending t (policy l))
  unfolding leave_of budget_of
  leave-room t = subst (λ (x : Option ℕ). Rooms spending t (leave_by spending x)) (sym (cond-true (policy l).delayed _ _ d)) (room-by spending t t.send_budget refl)

  same-leave : (t : ChannelSlot) → t.send_budget ≡ s.send_budget → leave_of spending t (policy l) ≡ leave_of spending s (policy l)
  unfolding leave_of budget_of
  same-leave t e =
      ap (leave_by spending) (cond-true (policy l).delayed _ _ d ∙ ap (λ (z : ℤ). some_len (positive_part z)) e ∙ sym (cond-true (policy l).delayed _ _ d))

  ready-reads : (payload : List ℕ) → Leaves (Readied s payload) (ready_of s payload (policy l))
  unfolding ready_of
  ready-reads payload = subst (Leaves (Readied s payload)) (sym (cond-true (policy l).delayed _ _ d)) (readied-by s payload (credit_of payload) refl)

  small : longest l.state.header.negotiated ≤ 1048576
  small = let k = g.limits.payload in omega arith

  module _ (there : is_there l ch ≡ true) where
    live : Live (negotiated l) ch.slot s
    unfolding slot_for
    live = there-live l g ch there

    inside : ch.slot < length ss
    inside =
        let p = live.place in
        let most = g.limits.within.most-channels in
        let full = g.slots.full in
        omega arith

    spent-budget : (t : ChannelSlot) (b n : ℕ) → t.send_budget ≡ pos b → b < 2 ^ 63 → n < 2 ^ 63 → (spent_of t (policy l) n).send_budget ≡ pos b -ℤ pos n
    unfolding spent_of
    spent-budget t b n e h k =
        ap (λ (x : ChannelSlot). x.send_budget) (cond-true (policy l).delayed _ _ d)
        ∙ ap (λ (z : ℤ). clamp (z -ℤ pos (min n 9223372036854775807))) e ∙ exact-spent b n h k

    -- a WRTE of this length from slot t, as what the lent slot became
    sends : (used : ℕ) (t : ChannelSlot) (most : ℕ) (r : Room spending t most) → mag t.send_budget < 2 ^ 63 → (used ≡ 0 → t.send_budget ≡ s.send_budget)
        → ((used ≡ 0 → ⊥) → Credited w ch received r.budget) → Tells (send_some l ch out data-in used (begun h0 l) t (send_len l data-in most))
    unfolding send_some send_len ends
    sends used t most r fits same made =
        let m = min (length data-in) (longest l.state.header.negotiated) in
        let most-small = small in
        let below : r.budget < 2 ^ 63 = subst (λ (z : ℤ). mag z < 2 ^ 63) r.is fits in
        pick Tells (ltb out (length (frames_bytes l.state.header.negotiated []) + 24 + min m most)) (λ u. silent _ refl)
        (λ u n e h.
        let k : min m most ≡ n = ap sent_by e in
        record {
          budget = r.budget;
          above = r.above;
          standing = λ z. sym (same z) ∙ r.is;
          credited = made;
          cuts = sym k ∙ r.cuts m (omega arith);
          leaves =
              ap (λ (x : ChannelSlot). x.send_budget) (slot-set-same ss ch.slot (spent_of t (policy l) (min m most)) inside)
              ∙ spent-budget t r.budget (min m most) r.is below (omega arith) ∙ ap (λ (x : ℕ). pos r.budget -ℤ pos x) k;
        })

    -- the turn of the loop after the channel's own OKAY
    module _ (k : Packet) (got : received_of l (bytes_in received) ≡ Ok k) where
      abbrev body : List ℕ
      body = body_of (bytes_in received) k

      sends-by : (t : ChannelSlot) → Readied s body t → is_ready k.command ≡ true → k.arg1 ≡ s.local.0 → (x : Option ℕ) → Rooms spending t x → Tells (send_by l ch out data-in (frame_len k) (begun h0 l) t x)
      unfolding send_by ends
      sends-by t a o own (Some most) r =
          sends (frame_len k) t most r (subst (λ (z : ℤ). mag z < 2 ^ 63) (sym a.sum) (held_fits (s.send_budget +ℤ a.credit))) (λ z. absurd (omega arith))
          (λ z. record { packet = k; credit = a.credit; got = got; okay = o; own = own; reads = a.reads; sum = sym r.is ∙ a.sum })
      sends-by t a o own None r = silent _ refl

      sends-again : (t : ChannelSlot) → Readied s body t → is_ready k.command ≡ true → k.arg1 ≡ s.local.0 → Tells (send_again spending l ch out data-in (frame_len k) (begun h0 l) t)
      unfolding send_again ends
      sends-again t a o own = pick Tells (is_closed t.state) (λ c. silent _ refl) (λ c. sends-by t a o own (leave_of spending t (policy l)) (leave-room t))

      readied-tells : (r : Result ChannelSlot CreditFault) → Leaves (Readied s body) r → is_ready k.command ≡ true → k.arg1 ≡ s.local.0 → Tells (write_readied spending l ch out data-in (frame_len k) (begun h0 l) s r)
      unfolding write_readied ends
      readied-tells (Ok t) a o own = sends-again t a o own
      readied-tells (Err f) a o own = silent _ refl

      -- any other packet leaves the budget, so that there is nothing to send from as before
      module _ (low : leave_of spending s (policy l) ≡ None) (other : (is_ready k.command && eqb k.arg1 s.local.0) ≡ false) where
        abbrev act : Acted
        act = act_on h0 ss l.state.queue l.rx l.store k body

        abbrev s2 : ChannelSlot
        s2 = slot_in (changed_all l.state act.changes).slots ch.slot

        still-none : leave_of spending s2 (policy l) ≡ None
        still-none =
            let most = g.limits.within.most-channels in
            let full = g.slots.full in
            same-leave s2
            (ap (λ (ts : List ChannelSlot). (slot_in ts ch.slot).send_budget) (slots-by l.state act.changes)
            ∙ other-budget (policy_of h0.negotiated) h0.negotiated.config.channels ss body k.command (record { 0 = k.arg1 }) ch.slot inside (omega arith) other act.changes
            (touches_of h0 ss l.state.queue l.rx l.store k body)) ∙ low

        acted-tells : (f : Option SlotFault) → Tells (write_acted spending l ch out data-in (frame_len k) (begun h0 l) act f)
        unfolding write_acted send_again send_by ends
        acted-tells (Some f) = silent _ refl
        acted-tells None =
            pick Tells (is_closed s2.state) (λ c. silent _ refl)
            (λ c. subst (λ (x : Option ℕ). Tells (send_by l ch out data-in (frame_len k) (then_acted (begun h0 l) act) s2 x)) (sym still-none) (silent _ refl))

    received-tells : leave_of spending s (policy l) ≡ None → (r : Result Packet (Answer × ℕ)) → received_of l (bytes_in received) ≡ r → Silent r
        → Tells (write_by spending l ch out data-in (begun h0 l) s (bytes_in received) r)
    unfolding write_by write_act ends
    received-tells low (Err (a, used)) e q = silent _ q
    received-tells low (Ok k) e q =
        pick Tells (is_ready k.command && eqb k.arg1 s.local.0)
        (λ t. let z = and-true (is_ready k.command) _ t in readied-tells k e (ready_of s (body_of (bytes_in received) k) (policy l)) (ready-reads (body_of (bytes_in received) k)) z.0 (eqb-true _ _ z.1))
        (λ t. pick Tells (closed_by (ids_in s) k) (λ u. silent _ refl) (λ u. acted-tells k e low t _))

    first-tells : (x : Option ℕ) → leave_of spending s (policy l) ≡ x → Rooms spending s x → Tells (write_first spending l ch out data-in (bytes_in received) (begun h0 l) s x)
    unfolding write_first received_of ends
    first-tells (Some most) e r = sends 0 s most r live.fits.budget (λ z. refl) (λ z. absurd (z refl))
    first-tells None e r =
        pick Tells s.has_remote (λ t. received-tells e (received_of l (bytes_in received)) refl (received-silent (decode_of (bytes_in received) l.state.header.negotiated.config.max_payload)))
        (λ t. silent _ refl)

  write-tells : Tells (write_step spending l ch out data-in (bytes_in received))
  unfolding write_step write_on slot_for ends
  write-tells =
      pick Tells (eqb (length data-in) 0) (λ z. silent _ refl)
      (λ z. pick Tells (is_there l ch)
      (λ t. pick Tells (is_closed s.state) (λ c. silent _ refl) (λ c. first-tells t (leave_of spending s (policy l)) refl (leave-room s)))
      (λ t. silent _ refl))

  out-tells : (t : Bool) (o : Outcome) → Tells o → Tells (checked_out t l out o)
  unfolding checked_out checked
  out-tells t o f =
      pick Tells t
      (λ a. pick Tells (stores_fit l.state.header.negotiated.config (length l.rx) (length l.store)) (λ b. pick Tells (ltb out 56) (λ c. silent _ refl) (λ c. f)) (λ b. silent _ refl))
      (λ a. silent _ refl)

pub writes-spend : WritesSpend
unfolding outcome write_outcome bytes_in
writes-spend w spending out ch bytes received n y whole d e h =
    let x = write_call spending out ch bytes received in
    let k = whole-holds w y whole in
    let r = out-tells w k.facts d spending ch (length out) bytes received _ _ (write-tells w k.facts d spending ch (length out) bytes received) n e h in
    record {
      budget = r.budget;
      above = r.above;
      standing = r.standing;
      credited = r.credited;
      cuts = r.cuts ∙ ap (λ (m : ℕ). cut spending r.budget (min m (longest (lent w).state.header.negotiated))) (length-map bytes _);
      leaves =
          ap (λ (c : Connection). (slot_in c.slots ch.slot).send_budget) (state-after _ _ _ _ w k x)
          ∙ ap (λ (ts : List ChannelSlot). (slot_in ts ch.slot).send_budget) (slots-by (state_of w.state) (outcome w x).changes) ∙ r.leaves;
    }
