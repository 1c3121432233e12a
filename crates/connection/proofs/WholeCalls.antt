-- Every call leaves a whole state and does not answer refusal 13. Assumes nothing.
use mathlib.Core.Path.{◌≡◌, refl, sym, subst}
use mathlib.Core.Bool.{Bool, true, false, ◌&&◌}
use mathlib.Core.List.{List, [], ◌∷◌}
use Prim.Native.Nat.{ℕ, ◌+◌, ◌^◌, ◌≤◌, ◌<◌}
use native.Mathlib.Omega.{arith}
use lib.Dec.{ltb, eqb}
use lib.ListN.{length, set}
use borrow.Author.Tests.{ltb-true, not-true}
use Rattle.le.specs.Le.{unsigned, Bytes}
use Rattle.config.specs.Negotiated.{policy_of}
use Rattle.config.proofs.Laws.{and-true, sound}
use Rattle.protocol.specs.declared.packet.Packet.{Packet}
use Rattle.protocol.specs.Packet.{payload_limit}
use Rattle.protocol.specs.Command.{is_ready, is_close, is_write}
use Rattle.slot.specs.declared.ChannelSlot.{ChannelSlot}
use Rattle.credit.specs.declared.CreditFault.{CreditFault}
use Rattle.slot.specs.declared.ChannelFault.TheVariants.{BadCredit as CreditBad}
use Rattle.slot.specs.declared.Settled.{Settled as SettledSlot}
use Rattle.slot.specs.declared.Spending.{Spending}
use Rattle.slot.specs.declared.ids.RemoteId.{RemoteId}
use Rattle.slot.specs.Ids.{closed_by}
use Rattle.slot.specs.Slot.{emptied_slot, is_closed, ready_of, taken_of, leave_of, closed_slot}
use Rattle.slot.proofs.Kept.{pick}
use Rattle.state.specs.declared.Header.{Header}
use Rattle.state.specs.Change.{Change, slot_to, changed_all}
use Rattle.state.specs.State.{is_ours, none_queued, Connection, with_slot}
use Rattle.state.proofs.StateLaws.{OpenFits}
use Rattle.le.proofs.RowLaws.{never}
use Rattle.table.specs.declared.ChannelId.{ChannelId}
use Rattle.table.specs.declared.Want.TheVariants.{Empty}
use Rattle.table.specs.Table.{wanted_by, place_of, next_local_id, numbered, allocated, slot_in}
use Rattle.connection.specs.declared.Answer.{Answer}
use Rattle.connection.specs.declared.Answer.TheVariants.{Done, Waiting, Nothing, Opened, Settled, Read, Written, Front as FrontIs, Numbers, Refused}
use Rattle.connection.specs.declared.Refusal.TheVariants.{PayloadTooLarge, BadCredit, UnexpectedCommand, OutShort, ChannelClosed, NoFreeChannels}
use Rattle.connection.specs.Answer.{answer_number}
use Rattle.connection.specs.Act.{Acted, act_on, PacketFits}
use Rattle.connection.specs.Calls.{looked, numbers_in, numbers_for, Lent, Work, begun, then, then_acted, ends, dropped, pending_for, policy, ids_in, is_there, slot_for, ack_frames, fault_refusal, error_refusal, unless_fault, received_of, body_of, frame_len, dispatch_by, dispatch_step, settled_as, settle_step, taken_by, take_step, reread, read_settled, read_acted, is_direct, read_direct, read_by, read_taken, read_first, read_step, send_len, send_some, send_by, send_again, write_readied, write_acted, write_act, write_by, write_first, write_on, write_step, close_step, take_front_by, take_front_step, open_on, still_pending, open_readied, open_acted, open_by, open_step, offer_in, is_offered, reject_on, accept_on, accept_step, reject_step, verdict_step, let_go_step}
use Rattle.connection.specs.Frames.{Frame, frames_bytes}
use Rattle.state_whole.proofs.WholeLaws.{Live, Whole, live-whole, emptied-whole}
use Rattle.state_whole.proofs.LiveLaws.{ReadiedLive, ready-live, opened-live, accepted-live, TakenLive, taken_live, settled-live, delivered-live, spent-live, closed-live}
use Rattle.table_dispatch.proofs.KeepLaws.{place_found}
use Rattle.incoming.proofs.QueueLaws.{QueueKeeps, NoOffer, ours-alone, every-get_or, FrontAs, pop-keeps, return-keeps}
use Rattle.connection.proofs.WholeAct.{ActedKeeps, acted-keeps}
use Rattle.connection.proofs.Decoding.{Admitted, fault-fine, error-fine, unless-fine, ReceivedFits, received-fits}
use Rattle.connection.proofs.WholeWork.{looked-kept, negotiated, Kept, WorkWhole, At, drop-whole, begun-whole, frames-whole, slot_whole, act-whole, ends-kept, at-frames, at_slot, at-act, at-ends, untouched-kept, dropped-whole, there-live, there-at, Long}
use Rattle.slot.specs.declared.ChannelFault.{ChannelFault}
use Rattle.std.specs.Prelude.{Option, Some, None, Result, Ok, Err}
use Rattle.slot.specs.declared.ChannelError.{ChannelError}
use Rattle.state.specs.declared.QueuedOpen.{QueuedOpen}
use Rattle.table.specs.declared.NoFreeChannels.{NoFreeChannels as NoFree}

-- ---- answers that are neither refusal 13 nor 8

done-fine : Admitted Done
unfolding answer_number
done-fine = (λ e. omega arith, λ e. omega arith)

pending-fine : Admitted Waiting
unfolding answer_number
pending-fine = (λ e. omega arith, λ e. omega arith)

nothing-fine : Admitted Nothing
unfolding answer_number
nothing-fine = (λ e. omega arith, λ e. omega arith)

opened-fine : (ch : ChannelId) → Admitted (Opened ch)
unfolding answer_number
opened-fine ch = (λ e. omega arith, λ e. omega arith)

settled-fine : (a : Option ℕ) → Admitted (Settled a)
unfolding answer_number
settled-fine a = (λ e. omega arith, λ e. omega arith)

read-fine : (k : ℕ) → Admitted (Read k)
unfolding answer_number
read-fine k = (λ e. omega arith, λ e. omega arith)

written-fine : (k : ℕ) → Admitted (Written k)
unfolding answer_number
written-fine k = (λ e. omega arith, λ e. omega arith)

front-fine : (r : RemoteId) (credit place len : ℕ) → Admitted (FrontIs r credit place len)
unfolding answer_number
front-fine r credit place len = (λ e. omega arith, λ e. omega arith)

numbers-fine : (t : Bool) (total buffered unacked budget : ℕ) → Admitted (Numbers t total buffered unacked budget)
unfolding answer_number
numbers-fine t total buffered unacked budget =
    pick (λ (n : ℕ). (n ≡ 13 → ⊥) × (n ≡ 8 → ⊥)) t (λ a. (λ e. omega arith, λ e. omega arith)) (λ a. (λ e. omega arith, λ e. omega arith))

closed-fine : Admitted (Refused ChannelClosed)
unfolding answer_number
closed-fine = (λ e. omega arith, λ e. omega arith)

bad-fine : (f : CreditFault) → Admitted (Refused (BadCredit f))
bad-fine f = fault-fine (CreditBad f)

early-fine : Admitted (Refused UnexpectedCommand)
unfolding answer_number
early-fine = (λ e. omega arith, λ e. omega arith)

large-fine : Admitted (Refused PayloadTooLarge)
unfolding answer_number
large-fine = (λ e. omega arith, λ e. omega arith)

out-fine : Admitted (Refused OutShort)
unfolding answer_number
out-fine = (λ e. omega arith, λ e. omega arith)

free-fine : Admitted (Refused NoFreeChannels)
unfolding answer_number
free-fine = (λ e. omega arith, λ e. omega arith)

module _ (l : Lent) (g : Whole (negotiated l) l.state.header l.state.slots l.state.queue) where
  gd : Whole (negotiated l) (dropped l.state.header) l.state.slots l.state.queue
  gd = drop-whole (negotiated l) l.state.header l.state g

  -- no such channel
  gone-kept : Kept l (ends (begun (dropped l.state.header) l) (Refused ChannelClosed) 0 [])
  gone-kept = ends-kept l _ (dropped-whole l g) (Refused ChannelClosed) 0 [] closed-fine

  -- ---- settle and take

  settled-as-kept : (ch : ChannelId) (s : SettledSlot) → At l ch.slot (begun (dropped l.state.header) l) → Live (negotiated l) ch.slot s.slot → Kept l (settled_as l ch s)
  unfolding settled_as
  settled-as-kept ch s k v = at-ends l ch.slot _ (at_slot l ch.slot _ k s.slot (ack_frames s.slot s.ack) v) (Settled s.ack) 0 [] (settled-fine s.ack)

  pub settle-kept : (ch : ChannelId) (want : ℕ) → Kept l (settle_step l ch want)
  unfolding settle_step
  settle-kept ch want =
      pick (Kept l) (is_there l ch)
      (λ t. settled-as-kept ch _ (there-at l g ch t) (settled-live (negotiated l) ch.slot (slot_for l ch) (there-live l g ch t) want))
      (λ t. gone-kept)

  taken-kept : (ch : ChannelId) (s : ChannelSlot) (w : Work) → At l ch.slot w → (r : Result (Option (ChannelSlot × ℕ)) ChannelError) → TakenLive (negotiated l) ch.slot r → Kept l (taken_by l ch s w r)
  unfolding taken_by
  taken-kept ch s w k (Ok (Some (t, n))) v = at-ends l ch.slot _ (at_slot l ch.slot w k t [] v) (Read n) 0 _ (read-fine n)
  taken-kept ch s w k (Ok None) v = at-ends l ch.slot w k Nothing 0 [] nothing-fine
  taken-kept ch s w k (Err e) v = at-ends l ch.slot w k (Refused (error_refusal e)) 0 [] (error-fine e)

  pub take-kept : (ch : ChannelId) (room : ℕ) → Kept l (take_step l ch room)
  unfolding take_step
  take-kept ch room =
      pick (Kept l) (is_there l ch)
      (λ t. taken-kept ch (slot_for l ch) _ (there-at l g ch t) _ (taken_live (negotiated l) ch.slot (slot_for l ch) (there-live l g ch t) room))
      (λ t. gone-kept)

  -- ---- close

  pub close-kept : (ch : ChannelId) → Kept l (close_step l ch)
  unfolding close_step
  close-kept ch =
      pick (Kept l) (is_there l ch && (slot_for l ch).has_remote)
      (λ t. let v = there-live l g ch (and-true _ _ t).0 in
      let p = v.place in
      let most = g.limits.within.most-channels in
      ends-kept l _ (slot_whole l _ (dropped-whole l g) ch.slot (emptied_slot (slot_for l ch)) _ (omega arith) (λ e. never e) (emptied-whole (negotiated l) ch.slot (slot_for l ch) v.fits)) Done 0 [] done-fine)
      (λ t. gone-kept)

  -- ---- take_front

  queue-work : (less : Header) (xs : List Change) → QueueKeeps (negotiated l) l.state.slots l.state.queue less xs → WorkWhole l (then (begun less l) xs [])
  queue-work less xs q =
      record {
        within = q.within;
        facts = subst (λ x. Whole (negotiated l) less x (changed_all l.state xs).queue) (sym (q.slots l.state)) (q.facts l.state refl);
        rx-length = refl;
        store_length = refl;
      }

  front_by : (xs : List Change) (f : Option (QueuedOpen × Header)) → FrontAs (dropped l.state.header) l.state.slots l.state.queue gd refl xs f → Kept l (take_front_by l (dropped l.state.header) xs f)
  unfolding take_front_by
  front_by xs (Some (q, less)) k = ends-kept l _ (queue-work less xs k) _ 0 [] (front-fine _ _ _ _)
  front_by xs None k = ends-kept l _ (dropped-whole l g) Nothing 0 [] nothing-fine

  pub front_kept : Kept l (take_front_step l)
  unfolding take_front_step
  front_kept = front_by _ _ (pop-keeps (dropped l.state.header) l.state.slots l.state.queue gd refl)

  -- ---- an empty place and the next number

  next_fits : (n : ℕ) → (1 ≤ next_local_id n) × (next_local_id n < 2 ^ 32)
  unfolding next_local_id
  next_fits n = (omega arith, omega arith)

  numbered-whole : Whole (negotiated l) (numbered (dropped l.state.header)) l.state.slots l.state.queue
  numbered-whole =
      let k = next_fits l.state.header.next_local in
      record {
        limits = g.limits;
        header =
            record {
              negotiated = refl;
              next-some = k.0;
              next_fits = k.1;
              place-fits = g.header.place-fits;
              local_fits = g.header.local_fits;
              queue-fits = g.header.queue-fits;
            };
        slots = g.slots;
        pending-open = λ e. never e;
        queue = g.queue;
        offer = λ e. never e;
      }

  -- a place that was allocated is below channels and empty, and its number is of 32 bits
  pub record Free (ch : ChannelId) : Type 0 where
    pub place : ch.slot < (negotiated l).config.channels
    pub empty : (slot_in l.state.slots ch.slot).filled ≡ false
    pub local : ch.local.0 < 2 ^ 32

  abbrev AllocatedFree : Result ChannelId NoFree → Type 0
  AllocatedFree (Ok ch) = Free ch
  AllocatedFree (Err _) = Unit {0}

  not-filled : (s : ChannelSlot) → wanted_by Empty s ≡ true → s.filled ≡ false
  unfolding wanted_by
  not-filled s e = not-true s.filled e

  allocated-free : AllocatedFree (allocated l.state.header l.state.slots)
  unfolding allocated
  allocated-free =
      let n = (negotiated l).config.channels in
      let i = place_of Empty n l.state.slots in
      let most = g.limits.within.most-channels in
      let full = g.slots.full in
      pick AllocatedFree (ltb i n)
      (λ t. let h = ltb-true i n t in
      record { place = h; empty = not-filled _ (place_found Empty n l.state.slots (omega arith) h); local = g.header.next_fits })
      (λ t. tt)

  -- ---- accept, reject, let go

  cap-small : (policy_of (negotiated l)).rx_cap ≤ 16777216
  unfolding policy_of
  cap-small = (sound (negotiated l).config g.limits.within).cap-small

  not-offered : Kept l (ends (begun (dropped l.state.header) l) Nothing 0 [])
  not-offered = ends-kept l _ (dropped-whole l g) Nothing 0 [] nothing-fine

  reject-on : (remote : RemoteId) (a : Answer) → Admitted a → Kept l (reject_on l (dropped l.state.header) remote a)
  unfolding reject_on
  reject-on remote a k = ends-kept l _ (frames-whole l _ (dropped-whole l g) _) a 0 [] k

  -- the entry of an offer
  offer-fits : is_offered l ≡ true → OpenFits (offer_in l)
  offer-fits t =
      let o = g.offer t in
      let most = g.limits.within.most-channels in
      let room = o.room in
      let full = g.queue.full in
      every-get_or OpenFits l.state.queue l.state.header.queued none_queued (omega arith) g.queue.fits

  accept-on : (remote : RemoteId) (credit : ℕ) → remote.0 < 2 ^ 32 → credit < 2 ^ 32 → (r : Result ChannelId NoFree) → AllocatedFree r
      → Kept l (accept_on l (dropped l.state.header) remote credit r)
  unfolding accept_on
  accept-on remote credit h f (Err _) k = reject-on remote (Refused NoFreeChannels) free-fine
  accept-on remote credit h f (Ok ch) k =
      let most = g.limits.within.most-channels in
      let p = k.place in
      ends-kept l _
      (slot_whole l _ (begun-whole l _ numbered-whole) ch.slot _ _ (omega arith) (λ e. never e)
      (live-whole (negotiated l) ch.slot _ (accepted-live (negotiated l) ch.slot ch.local remote p cap-small k.local h credit f))) (Opened ch) 0 [] (opened-fine ch)

  pub accept-kept : Kept l (accept_step l)
  unfolding accept_step
  accept-kept =
      pick (Kept l) (is_offered l)
      (λ t. let o = offer-fits t in accept-on (offer_in l).remote (offer_in l).credit o.remote o.credit (allocated l.state.header l.state.slots) allocated-free)
      (λ t. not-offered)

  pub reject-kept : Kept l (reject_step l)
  unfolding reject_step
  reject-kept = pick (Kept l) (is_offered l) (λ t. reject-on (offer_in l).remote Done done-fine) (λ t. not-offered)

  pub verdict-kept : (take : Bool) (remote : RemoteId) (credit : ℕ) → remote.0 < 2 ^ 32 → credit < 2 ^ 32 → Kept l (verdict_step l take remote credit)
  unfolding verdict_step
  verdict-kept take remote credit h f =
      pick (Kept l) take (λ t. accept-on remote credit h f (allocated l.state.header l.state.slots) allocated-free) (λ t. reject-on remote Done done-fine)

  pub let-go-kept : Kept l (let_go_step l)
  unfolding let_go_step
  let-go-kept =
      pick (Kept l) (is_offered l)
      (λ t. ends-kept l _
      (queue-work _ _ (return-keeps (dropped l.state.header) l.state.slots l.state.queue gd refl (offer_in l) (g.offer t).room (offer-fits t) (g.offer t).fine)) Done 0 [] done-fine)
      (λ t. not-offered)

  -- ---- numbers

  pub numbers-kept : (ch : ChannelId) → Kept l (looked l (numbers_for l ch))
  unfolding numbers_for numbers_in
  numbers-kept ch =
      let s = slot_for l ch in
      pick (λ (a : Answer). Kept l (looked l a)) (is_there l ch)
      (λ t. looked-kept l g (numbers_in s) (numbers-fine (is_closed s.state) s.acked_total s.buffered s.unacked (unsigned 63 s.send_budget)))
      (λ t. looked-kept l g (Refused ChannelClosed) closed-fine)

  -- ---- calls that look at a packet

  module _ (long : Long (negotiated l) (length l.rx) (length l.store)) (received : List ℕ) where
    -- what acting on it leaves, with the state as it was lent, the pending open dropped
    acted : (p : Packet) → PacketFits (negotiated l) p (body_of received p) → ActedKeeps (negotiated l) l.state (length l.rx) (length l.store)
        (act_on (dropped l.state.header) l.state.slots l.state.queue l.rx l.store p (body_of received p))
    acted p k = acted-keeps (dropped l.state.header) l.state l.rx l.store gd refl long.rx-long long.store_long p (body_of received p) k

    -- ---- dispatch

    dispatch-by : (r : Result Packet (Answer × ℕ)) → ReceivedFits (negotiated l) received r → Kept l (dispatch_by l (dropped l.state.header) received r)
    unfolding dispatch_by
    dispatch-by (Err (a, used)) k = ends-kept l _ (dropped-whole l g) a used [] k
    dispatch-by (Ok p) k = ends-kept l _ (act-whole l _ (dropped-whole l g) _ (acted p k)) _ (frame_len p) [] (unless-fine _ Done done-fine)

    pub dispatch-kept : Bytes received → Kept l (dispatch_step l received)
    unfolding dispatch_step
    dispatch-kept y = dispatch-by (received_of l received) (received-fits l received y)

    -- ---- read

    module _ (ch : ChannelId) (room : ℕ) where
      reread-kept : (used : ℕ) (fault : Option ChannelFault) (w : Work) (s : ChannelSlot) → At l ch.slot w → Live (negotiated l) ch.slot s → (r : Result (Option (ChannelSlot × ℕ)) ChannelError) → TakenLive (negotiated l) ch.slot r
          → Kept l (reread ch (policy l).rx_cap used fault w s r)
      unfolding reread
      reread-kept used fault w s k v (Ok (Some (t, n))) u = at-ends l ch.slot _ (at_slot l ch.slot w k t [] u) (Read n) used _ (read-fine n)
      reread-kept used fault w s k v (Ok None) u =
          at-ends l ch.slot _ (at_slot l ch.slot w k s [] v) (unless_fault fault Waiting) used [] (unless-fine fault Waiting pending-fine)
      reread-kept used fault w s k v (Err e) u =
          at-ends l ch.slot _ (at_slot l ch.slot w k s [] v) (unless_fault fault (Refused (error_refusal e))) used [] (unless-fine fault (Refused (error_refusal e)) (error-fine e))

      settled-kept : (used : ℕ) (fault : Option ChannelFault) (w : Work) (s : SettledSlot) → At l ch.slot w → Live (negotiated l) ch.slot s.slot → Kept l (read_settled l ch room used fault w s)
      unfolding read_settled
      settled-kept used fault w s k v =
          reread-kept used fault _ s.slot (at-frames l ch.slot w k (ack_frames s.slot s.ack)) v (taken_of s.slot room) (taken_live (negotiated l) ch.slot s.slot v room)

      read-acted : (used : ℕ) (w : Work) (a : Acted) → At l ch.slot w → ActedKeeps (negotiated l) (changed_all l.state w.changes) (length l.rx) (length l.store) a
          → Kept l (read_acted l ch room used w a)
      unfolding read_acted
      read-acted used w a k d =
          let m = at-act l ch.slot w k a d in
          settled-kept used a.fault (then_acted w a) _ m (settled-live (negotiated l) ch.slot _ m.live room)

      -- what a read has done before it looks at a packet: an OKAY may be written
      module _ (fs : List Frame) (start : At l ch.slot (then (begun (dropped l.state.header) l) [] fs)) (s : ChannelSlot) (v : Live (negotiated l) ch.slot s) where
        stored : At l ch.slot (then (then (begun (dropped l.state.header) l) [] fs) (slot_to ch.slot s ∷ []) [])
        stored = at_slot l ch.slot _ start s [] v

        acted-stored : (p : Packet) → PacketFits (negotiated l) p (body_of received p) → ActedKeeps (negotiated l) (with_slot l.state ch.slot s) (length l.rx) (length l.store)
            (act_on (dropped l.state.header) (set l.state.slots ch.slot s) l.state.queue l.rx l.store p (body_of received p))
        acted-stored p k =
            acted-keeps (dropped l.state.header) (with_slot l.state ch.slot s) l.rx l.store stored.work.facts refl long.rx-long long.store_long p (body_of received p) k

        read-by : (r : Result Packet (Answer × ℕ)) → ReceivedFits (negotiated l) received r → Kept l (read_by l ch room (then (begun (dropped l.state.header) l) [] fs) s received r)
        unfolding read_by read_direct
        read-by (Err (a, used)) k = at-ends l ch.slot _ stored a used [] k
        read-by (Ok p) k =
            pick (Kept l) (is_direct s room p)
            (λ t. at-ends l ch.slot _ (at_slot l ch.slot _ start _ _ (delivered-live (negotiated l) ch.slot s v p.data_length)) _ (frame_len p) _ (read-fine _))
            (λ t. pick (Kept l) (closed_by (ids_in s) p)
            (λ u. at-ends l ch.slot _ (at_slot l ch.slot _ start (closed_slot s) [] (closed-live (negotiated l) ch.slot s v)) (Refused ChannelClosed) (frame_len p) [] closed-fine)
            (λ u. read-acted (frame_len p) _ _ stored (acted-stored p k)))

        read-taken : Bytes received → (r : Result (Option (ChannelSlot × ℕ)) ChannelError) → TakenLive (negotiated l) ch.slot r → Kept l (read_taken l ch room (then (begun (dropped l.state.header) l) [] fs) s received r)
        unfolding read_taken
        read-taken y (Ok (Some (t, n))) u = at-ends l ch.slot _ (at_slot l ch.slot _ start t [] u) (Read n) 0 _ (read-fine n)
        read-taken y (Ok None) u =
            pick (Kept l) s.has_remote (λ t. read-by (received_of l received) (received-fits l received y))
            (λ t. at-ends l ch.slot _ stored (Refused ChannelClosed) 0 [] closed-fine)
        read-taken y (Err e) u = at-ends l ch.slot _ stored (Refused (error_refusal e)) 0 [] (error-fine e)

      read-first : Bytes received → (s : SettledSlot) → At l ch.slot (begun (dropped l.state.header) l) → Live (negotiated l) ch.slot s.slot → Kept l (read_first l ch room received s)
      unfolding read_first
      read-first y s k v =
          read-taken (ack_frames s.slot s.ack) (at-frames l ch.slot _ k (ack_frames s.slot s.ack)) s.slot v y (taken_of s.slot room) (taken_live (negotiated l) ch.slot s.slot v room)

      pub read_kept : Bytes received → Kept l (read_step l ch room received)
      unfolding read_step
      read_kept y =
          pick (Kept l) (is_there l ch)
          (λ t. read-first y _ (there-at l g ch t) (settled-live (negotiated l) ch.slot (slot_for l ch) (there-live l g ch t) room))
          (λ t. gone-kept)

    -- ---- write

    module _ (spending : Spending) (ch : ChannelId) (out : ℕ) (bytes : List ℕ) where
      send-some : (used : ℕ) (w : Work) (s : ChannelSlot) (n : ℕ) → At l ch.slot w → Live (negotiated l) ch.slot s → Kept l (send_some l ch out bytes used w s n)
      unfolding send_some
      send-some used w s n k v =
          pick (Kept l) (ltb out (length (frames_bytes w.header.negotiated w.frames) + 24 + n)) (λ t. untouched-kept l g OutShort out-fine)
          (λ t. at-ends l ch.slot _ (at_slot l ch.slot w k _ _ (spent-live (negotiated l) ch.slot s v n)) (Written n) used [] (written-fine n))

      send-by : (used : ℕ) (w : Work) (s : ChannelSlot) → At l ch.slot w → Live (negotiated l) ch.slot s → (b : Option ℕ) → Kept l (send_by l ch out bytes used w s b)
      unfolding send_by
      send-by used w s k v (Some most) = send-some used w s (send_len l bytes most) k v
      send-by used w s k v None = at-ends l ch.slot _ (at_slot l ch.slot w k s [] v) Waiting used [] pending-fine

      send-again : (used : ℕ) (w : Work) (s : ChannelSlot) → At l ch.slot w → Live (negotiated l) ch.slot s → Kept l (send_again spending l ch out bytes used w s)
      unfolding send_again
      send-again used w s k v =
          pick (Kept l) (is_closed s.state) (λ t. at-ends l ch.slot _ (at_slot l ch.slot w k s [] v) (Refused ChannelClosed) used [] closed-fine)
          (λ t. send-by used w s k v (leave_of spending s (policy l)))

      write-readied : (used : ℕ) (w : Work) (s : ChannelSlot) → At l ch.slot w → (r : Result ChannelSlot CreditFault) → ReadiedLive (negotiated l) ch.slot r → Kept l (write_readied spending l ch out bytes used w s r)
      unfolding write_readied
      write-readied used w s k (Ok t) v = send-again used w t k v
      write-readied used w s k (Err f) v = at-ends l ch.slot w k (Refused (BadCredit f)) used [] (bad-fine f)

      write-acted : (used : ℕ) (w : Work) (a : Acted) → At l ch.slot (then_acted w a) → (f : Option ChannelFault) → Kept l (write_acted spending l ch out bytes used w a f)
      unfolding write_acted
      write-acted used w a k (Some f) = at-ends l ch.slot _ k (Refused (fault_refusal f)) used [] (fault-fine f)
      write-acted used w a k None = send-again used (then_acted w a) _ k k.live

      module _ (start : At l ch.slot (begun (dropped l.state.header) l)) (s : ChannelSlot) (v : Live (negotiated l) ch.slot s) where
        write-by : (r : Result Packet (Answer × ℕ)) → ReceivedFits (negotiated l) received r → Kept l (write_by spending l ch out bytes (begun (dropped l.state.header) l) s received r)
        unfolding write_by write_act
        write-by (Err (a, used)) k = at-ends l ch.slot _ start a used [] k
        write-by (Ok p) k =
            pick (Kept l) (is_ready p.command && eqb p.arg1 s.local.0)
            (λ t. write-readied (frame_len p) _ s start (ready_of s (body_of received p) (policy l)) (ready-live (negotiated l) ch.slot s (body_of received p) v))
            (λ t. pick (Kept l) (closed_by (ids_in s) p)
            (λ u. at-ends l ch.slot _ (at_slot l ch.slot _ start (closed_slot s) [] (closed-live (negotiated l) ch.slot s v)) (Refused ChannelClosed) (frame_len p) [] closed-fine)
            (λ u. write-acted (frame_len p) _ _ (at-act l ch.slot _ start _ (acted p k)) _))

        write-first : Bytes received → (b : Option ℕ) → Kept l (write_first spending l ch out bytes received (begun (dropped l.state.header) l) s b)
        unfolding write_first
        write-first y (Some most) = send-some 0 _ s (send_len l bytes most) start v
        write-first y None =
            pick (Kept l) s.has_remote (λ t. write-by (received_of l received) (received-fits l received y))
            (λ t. at-ends l ch.slot _ start (Refused ChannelClosed) 0 [] closed-fine)

        write-on : Bytes received → Kept l (write_on spending l ch out bytes received (begun (dropped l.state.header) l) s)
        unfolding write_on
        write-on y =
            pick (Kept l) (is_closed s.state) (λ t. at-ends l ch.slot _ start (Refused ChannelClosed) 0 [] closed-fine)
            (λ t. write-first y (leave_of spending s (policy l)))

      pub write_kept : Bytes received → Kept l (write_step spending l ch out bytes received)
      unfolding write_step
      write_kept y =
          pick (Kept l) (eqb (length bytes) 0) (λ z. ends-kept l _ (dropped-whole l g) (Written 0) 0 [] (written-fine 0))
          (λ z. pick (Kept l) (is_there l ch) (λ t. write-on (there-at l g ch t) (slot_for l ch) (there-live l g ch t) y) (λ t. gone-kept))

    -- ---- open, while one is pending

    still-whole : (c : Connection) (h : Header) (a : Answer) → Whole (negotiated l) h c.slots c.queue → Whole (negotiated l) (still_pending a h) c.slots c.queue
    unfolding still_pending
    still-whole c h Done k = drop-whole (negotiated l) h c k
    still-whole c h Waiting k = k
    still-whole c h Nothing k = drop-whole (negotiated l) h c k
    still-whole c h (Opened ch) k = drop-whole (negotiated l) h c k
    still-whole c h (Settled a) k = drop-whole (negotiated l) h c k
    still-whole c h (Read n) k = drop-whole (negotiated l) h c k
    still-whole c h (Written n) k = drop-whole (negotiated l) h c k
    still-whole c h (FrontIs r credit place len) k = drop-whole (negotiated l) h c k
    still-whole c h (Numbers t total buffered unacked budget) k = drop-whole (negotiated l) h c k
    still-whole c h (Refused r) k = drop-whole (negotiated l) h c k

    open-acted : (used : ℕ) (a : Acted) → ActedKeeps (negotiated l) l.state (length l.rx) (length l.store) a → Kept l (open_acted l used a)
    unfolding open_acted
    open-acted used a k =
        let m = act-whole l (begun l.state.header l) (begun-whole l l.state.header g) a k in
        ends-kept l _
        (record {
          within = m.within;
          facts = still-whole (changed_all l.state a.changes) a.header (unless_fault a.fault Waiting) m.facts;
          rx-length = m.rx-length;
          store_length = m.store_length;
        })
        (unless_fault a.fault Waiting) used [] (unless-fine a.fault Waiting pending-fine)

    module _ (no : NoOffer l.state.header) (ch : ChannelId) (place : ch.slot < (negotiated l).config.channels) (local : ch.local.0 < 2 ^ 32) where
      open-readied : (remote used : ℕ) (r : Result ChannelSlot CreditFault) → ReadiedLive (negotiated l) ch.slot r → Kept l (open_readied l ch remote used r)
      unfolding open_readied
      open-readied remote used (Ok t) v =
          let most = g.limits.within.most-channels in
          ends-kept l _ (slot_whole l _ (dropped-whole l g) ch.slot t [] (omega arith) (λ e. never e) (live-whole (negotiated l) ch.slot t v)) (Opened ch) used [] (opened-fine ch)
      open-readied remote used (Err f) v = ends-kept l _ (frames-whole l _ (dropped-whole l g) _) (Refused (BadCredit f)) used [] (bad-fine f)

      open-by : (r : Result Packet (Answer × ℕ)) → ReceivedFits (negotiated l) received r → Kept l (open_by l ch received r)
      unfolding open_by
      open-by (Err (a, used)) k = ends-kept l _ (begun-whole l _ (still-whole l.state l.state.header a g)) a used [] k
      open-by (Ok p) k =
          pick (Kept l) (is_ready p.command && eqb p.arg1 ch.local.0)
          (λ t. open-readied p.arg0 (frame_len p) _
          (opened-live (negotiated l) ch.slot ch.local (record { 0 = p.arg0 }) place cap-small local k.arg0 (body_of received p) k.bytes))
          (λ t. pick (Kept l) (is_write p.command && eqb p.arg1 ch.local.0)
          (λ u. ends-kept l _ (frames-whole l _ (dropped-whole l g) _) (Refused UnexpectedCommand) (frame_len p) [] early-fine)
          (λ u. pick (Kept l) (is_close p.command && eqb p.arg1 ch.local.0)
          (λ w. ends-kept l _ (dropped-whole l g) (Refused ChannelClosed) (frame_len p) [] closed-fine)
          (λ w. open-acted (frame_len p) _
          (acted-keeps l.state.header l.state l.rx l.store g no long.rx-long long.store_long p (body_of received p) k))))

    -- ---- an open begins

    waits-whole : (ch : ChannelId) → Free ch → Whole (negotiated l) (pending_for (numbered (dropped l.state.header)) ch) l.state.slots l.state.queue
    unfolding slot_in
    waits-whole ch f =
        let k = next_fits l.state.header.next_local in
        let most = g.limits.within.most-channels in
        let p = f.place in
        record {
          limits = g.limits;
          header =
              record {
                negotiated = refl;
                next-some = k.0;
                next_fits = k.1;
                place-fits = omega arith;
                local_fits = f.local;
                queue-fits = g.header.queue-fits;
              };
          slots = g.slots;
          pending-open = λ e. record { place = p; empty = f.empty };
          queue = g.queue;
          offer = λ e. never e;
        }

    open-on : (out : ℕ) (destination : List ℕ) (r : Result ChannelId NoFree) → AllocatedFree r → Kept l (open_on l out destination r)
    unfolding open_on
    open-on out destination (Err _) k = ends-kept l _ (dropped-whole l g) (Refused NoFreeChannels) 0 [] free-fine
    open-on out destination (Ok ch) k =
        pick (Kept l) (ltb payload_limit (length destination)) (λ t. ends-kept l _ (begun-whole l _ numbered-whole) (Refused PayloadTooLarge) 0 [] large-fine)
        (λ t. pick (Kept l) (ltb out (24 + length destination)) (λ u. untouched-kept l g OutShort out-fine)
        (λ u. ends-kept l _ (frames-whole l _ (begun-whole l _ (waits-whole ch k)) _) Waiting 0 [] pending-fine))

    pub open_kept : (out : ℕ) (destination : List ℕ) → Bytes received → Kept l (open_step l out destination received)
    unfolding open_step
    open_kept out destination y =
        pick (Kept l) (is_ours l.state.header.pending.what)
        (λ t. open-by (ours-alone l.state.header.pending.what t) (record { slot = l.state.header.pending.slot; local = l.state.header.pending.local }) (g.pending-open t).place g.header.local_fits
        (received_of l received) (received-fits l received y))
        (λ t. open-on out destination (allocated l.state.header l.state.slots) allocated-free)
