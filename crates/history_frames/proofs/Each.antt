-- A property that each frame of a call has. Assumes nothing.
use mathlib.Core.Bool.{Bool, ◌&&◌}
use mathlib.Core.List.{List, [], ◌∷◌, ◌++◌}
use Prim.Native.Nat.{ℕ, ◌+◌}
use lib.Dec.{eqb, ltb}
use lib.ListN.{length, take, set}
use Rattle.le.proofs.RowLaws.{Every, every_append}
use Rattle.config.specs.Config.{stores_fit}
use Rattle.credit.specs.declared.CreditFault.{CreditFault}
use Rattle.incoming.specs.Incoming.{PushOutcome, pushed, popped}
use Rattle.protocol.specs.declared.packet.Packet.{Packet}
use Rattle.protocol.specs.Command.{is_ready, is_close, is_write}
use Rattle.protocol.specs.Packet.{payload_limit}
use Rattle.slot.specs.declared.ChannelError.{ChannelError}
use Rattle.slot.specs.declared.ChannelFault.{ChannelFault as SlotFault}
use Rattle.slot.specs.declared.ChannelSlot.{ChannelSlot}
use Rattle.slot.specs.declared.Spending.{Spending}
use Rattle.slot.specs.declared.ids.ChannelIds.{ChannelIds}
use Rattle.slot.specs.declared.ids.LocalId.{LocalId}
use Rattle.slot.specs.declared.ids.RemoteId.{RemoteId}
use Rattle.slot.specs.Ids.{closed_by}
use Rattle.slot.specs.Slot.{is_closed, delivered_of, settled_of, taken_of, leave_of, ready_of}
use Rattle.slot.proofs.Kept.{pick}
use Rattle.state.specs.declared.Header.{Header}
use Rattle.state.specs.declared.QueuedOpen.{QueuedOpen}
use Rattle.state.specs.Change.{Change, slot_to, changed_all}
use Rattle.state.specs.State.{is_ours}
use Rattle.table.specs.declared.ChannelId.{ChannelId}
use Rattle.table.specs.declared.NoFreeChannels.{NoFreeChannels as NoFree}
use Rattle.table.specs.Table.{slot_in, allocated}
use Rattle.table_dispatch.specs.declared.DispatchOutcome.{DispatchOutcome}
use Rattle.table_dispatch.specs.declared.DispatchOutcome.TheVariants.{AckWrite, CreditGranted, SlotClosed, DataBuffered, IncomingOpen, CancelQueuedOpen, StrayReady, ChannelFault, Unmatched}
use Rattle.table_dispatch.specs.Dispatch.{Dispatched}
use Rattle.connection.specs.declared.Answer.{Answer}
use Rattle.connection.specs.Act.{Acted, pushed_by, acted_by, table_of, act_on}
use Rattle.connection.specs.Calls.{Lent, Outcome, Work, begun, then, then_acted, ends, checked, checked_out, dropped, policy, ids_in, is_there, slot_for, ack_frames, received_of, body_of, frame_len, dispatch_by, dispatch_step, settled_as, settle_step, taken_by, take_step, reread, read_settled, read_acted, is_direct, read_direct, read_by, read_taken, read_first, read_step, send_len, send_some, send_by, send_again, write_readied, write_acted, write_act, write_by, write_first, write_on, write_step, close_step, take_front_by, take_front_step, open_on, open_readied, open_acted, open_by, open_step, offer_in, is_offered, reject_on, reject_step, accept_on, accept_step, verdict_step, let_go_step, open_outcome, dispatch_outcome, settle_outcome, take_outcome, read_outcome, write_outcome, close_outcome, take_front_outcome, numbers_outcome, accept_outcome, reject_outcome, let_go_outcome, verdict_outcome}
use Rattle.connection.specs.Frames.{Frame, okay_frame, close_frame, open_frame, write_frame, frames_bytes}
use Rattle.history.specs.Run.{look_outcome, bytes_in, Call, open_call, dispatch_call, settle_call, take_call, read_call, write_call, close_call, front_taken, look_call, numbers_look, accept_call, reject_call, let_go_call, verdict_call, World, lent, outcome}
use Rattle.std.specs.Prelude.{Option, Some, None, Result, Ok, Err}

-- ---- what is said of a call

-- the frames that a call writes of the bytes that it is handed have P: the OPEN of an open, the WRTE of a write
abbrev pub Given : (Frame → Type 0) → Call → Type 0
Given P (open_call out destination received) = (local : LocalId) (credit : ℕ) → P (open_frame local credit (bytes_in destination))
Given P (dispatch_call out received) = Unit {0}
Given P (settle_call out ch want) = Unit {0}
Given P (take_call ch buf) = Unit {0}
Given P (read_call out ch buf received) = Unit {0}
Given P (write_call spending out ch bytes received) = (ids : ChannelIds) (n : ℕ) → P (write_frame ids (take n (bytes_in bytes)))
Given P (close_call out ch) = Unit {0}
Given P front_taken = Unit {0}
Given P (look_call x) = Unit {0}
Given P (accept_call out) = Unit {0}
Given P (reject_call out) = Unit {0}
Given P let_go_call = Unit {0}
Given P (verdict_call out take remote credit) = Unit {0}

module _ (P : Frame → Type 0) where
  -- ---- the ends of a call

  pub at-end : (w : Work) (a : Answer) (used : ℕ) (handed : List ℕ) → Every P w.frames → Every P (ends w a used handed).frames
  unfolding ends
  at-end w a used handed f = f

  at_then : (w : Work) (xs : List Change) (fs : List Frame) → Every P w.frames → Every P fs → Every P (then w xs fs).frames
  at_then w xs fs f g = every_append P w.frames fs f g

  -- a slot stored at a call's end
  pub at_last : (w : Work) (xs : List Change) (fs : List Frame) (a : Answer) (used : ℕ) (handed : List ℕ) → Every P w.frames → Every P fs
      → Every P (ends (then w xs fs) a used handed).frames
  at_last w xs fs a used handed f g = at-end (then w xs fs) a used handed (at_then w xs fs f g)

  pub plain-end : (l : Lent) (h : Header) (a : Answer) (used : ℕ) → Every P (ends (begun h l) a used []).frames
  plain-end l h a used = at-end (begun h l) a used [] tt

-- each OKAY and each CLSE has P
module _ (P : Frame → Type 0) (okay : (ids : ChannelIds) (n : ℕ) → P (okay_frame ids n)) (close : (ids : ChannelIds) → P (close_frame ids)) where
  -- ---- a packet that is dispatched

  module _ (h : Header) (ss : List ChannelSlot) (queue : List QueuedOpen) (rx store : List ℕ) (k : Packet) (payload : List ℕ) where
    pushed-each : (d : Dispatched) (remote : RemoteId) (o : PushOutcome) (r : Option Header) → Every P (pushed_by h store d remote o r).frames
    unfolding pushed_by
    pushed-each d remote o (Some more) = tt
    pushed-each d remote o None = (close _, tt)

    acted-by : (d : Dispatched) (o : DispatchOutcome) → Every P (acted_by h queue payload store d o).frames
    unfolding acted_by
    acted-by d (AckWrite i ids len) = (okay _ _, tt)
    acted-by d (CreditGranted i) = tt
    acted-by d (SlotClosed i) = tt
    acted-by d (DataBuffered i) = tt
    acted-by d (IncomingOpen remote credit) = pushed-each d remote (pushed h queue remote credit payload store) (pushed h queue remote credit payload store).result
    acted-by d (CancelQueuedOpen remote) = tt
    acted-by d (StrayReady ids) = (close _, tt)
    acted-by d (ChannelFault i ids opening f) = tt
    acted-by d Unmatched = tt

    pub acted-each : Every P (act_on h ss queue rx store k payload).frames
    unfolding act_on
    acted-each = acted-by (table_of h ss rx k payload) (table_of h ss rx k payload).step.result

  ack-each : (s : ChannelSlot) (a : Option ℕ) → Every P (ack_frames s a)
  unfolding ack_frames
  ack-each s (Some n) = (okay _ _, tt)
  ack-each s None = tt

  -- ---- the calls

  module _ (l : Lent) where
    abbrev ss : List ChannelSlot
    ss = l.state.slots

    abbrev h0 : Header
    h0 = dropped l.state.header

    abbrev fine : Outcome → Type 0
    fine o = Every P o.frames

    abbrev Fine : Work → Type 0
    Fine w = Every P w.frames

    -- ---- dispatch, settle, take, close, take_front

    dispatch-by : (received : List ℕ) (r : Result Packet (Answer × ℕ)) → fine (dispatch_by l h0 received r)
    unfolding dispatch_by
    dispatch-by received (Err (a, used)) = plain-end P l h0 a used
    dispatch-by received (Ok k) =
        at-end P (then_acted (begun h0 l) (act_on h0 ss l.state.queue l.rx l.store k (body_of received k))) _ (frame_len k) []
        (acted-each h0 ss l.state.queue l.rx l.store k (body_of received k))

    dispatch-each : (received : List ℕ) → fine (dispatch_step l received)
    unfolding dispatch_step
    dispatch-each received = dispatch-by received (received_of l received)

    settle-each : (ch : ChannelId) (want : ℕ) → fine (settle_step l ch want)
    unfolding settle_step settled_as
    settle-each ch want = pick fine (is_there l ch) (λ t. at_last P (begun h0 l) _ _ _ 0 [] tt (ack-each _ _)) (λ t. plain-end P l h0 _ 0)

    taken-by : (ch : ChannelId) (s : ChannelSlot) (r : Result (Option (ChannelSlot × ℕ)) ChannelError) → fine (taken_by l ch s (begun h0 l) r)
    unfolding taken_by
    taken-by ch s (Ok (Some (t, k))) = at_last P (begun h0 l) _ [] _ 0 _ tt tt
    taken-by ch s (Ok None) = plain-end P l h0 _ 0
    taken-by ch s (Err e) = plain-end P l h0 _ 0

    take-each : (ch : ChannelId) (room : ℕ) → fine (take_step l ch room)
    unfolding take_step slot_for
    take-each ch room = pick fine (is_there l ch) (λ t. taken-by ch (slot_in ss ch.slot) (taken_of (slot_in ss ch.slot) room)) (λ t. plain-end P l h0 _ 0)

    close-each : (ch : ChannelId) → fine (close_step l ch)
    unfolding close_step
    close-each ch = pick fine (is_there l ch && (slot_for l ch).has_remote) (λ t. at_last P (begun h0 l) _ _ _ 0 [] tt (close _, tt)) (λ t. plain-end P l h0 _ 0)

    front-by : (xs : List Change) (f : Option (QueuedOpen × Header)) → fine (take_front_by l h0 xs f)
    unfolding take_front_by
    front-by xs (Some (q, less)) = at_last P (begun less l) xs [] _ 0 [] tt tt
    front-by xs None = plain-end P l h0 _ 0

    front-each : fine (take_front_step l)
    unfolding take_front_step
    front-each = front-by (popped h0 l.state.queue).changes (popped h0 l.state.queue).result

    -- ---- read

    module _ (ch : ChannelId) (room : ℕ) (received : List ℕ) where
      reread-each : (used : ℕ) (fault : Option SlotFault) (w : Work) (s : ChannelSlot) → Fine w → (r : Result (Option (ChannelSlot × ℕ)) ChannelError)
          → fine (reread ch (policy l).rx_cap used fault w s r)
      unfolding reread
      reread-each used fault w s f (Ok (Some (t, k))) = at_last P w _ [] _ used _ f tt
      reread-each used fault w s f (Ok None) = at_last P w _ [] _ used [] f tt
      reread-each used fault w s f (Err e) = at_last P w _ [] _ used [] f tt

      read-acted : (used : ℕ) (w : Work) (a : Acted) → Fine w → Every P a.frames → fine (read_acted l ch room used w a)
      unfolding read_acted read_settled
      read-acted used w a f g =
          let s = settled_of (slot_in (changed_all l.state (w.changes ++ a.changes)).slots ch.slot) (policy l) room in
          reread-each used a.fault (then (then_acted w a) [] (ack_frames s.slot s.ack)) s.slot
          (at_then P (then_acted w a) [] (ack_frames s.slot s.ack) (every_append P w.frames a.frames f g) (ack-each s.slot s.ack)) (taken_of s.slot room)

      read-by : (w : Work) (s : ChannelSlot) → Fine w → (r : Result Packet (Answer × ℕ)) → fine (read_by l ch room w s received r)
      unfolding read_by read_direct
      read-by w s f (Err (x, used)) = at_last P w _ [] x used [] f tt
      read-by w s f (Ok k) =
          let d = delivered_of s (policy l) k.data_length in
          pick fine (is_direct s room k) (λ t. at_last P w _ (ack_frames d.slot d.ack) _ (frame_len k) _ f (ack-each d.slot d.ack))
          (λ t. pick fine (closed_by (ids_in s) k) (λ u. at_last P w _ [] _ (frame_len k) [] f tt)
          (λ u. read-acted (frame_len k) _ _ (at_then P w (slot_to ch.slot s ∷ []) [] f tt)
          (acted-each w.header (set ss ch.slot s) l.state.queue l.rx l.store k (body_of received k))))

      read-taken : (w : Work) (s : ChannelSlot) → Fine w → (r : Result (Option (ChannelSlot × ℕ)) ChannelError) → fine (read_taken l ch room w s received r)
      unfolding read_taken
      read-taken w s f (Ok (Some (t, k))) = at_last P w _ [] _ 0 _ f tt
      read-taken w s f (Ok None) = pick fine s.has_remote (λ t. read-by w s f (received_of l received)) (λ t. at_last P w _ [] _ 0 [] f tt)
      read-taken w s f (Err x) = at_last P w _ [] _ 0 [] f tt

      read-each : fine (read_step l ch room received)
      unfolding read_step read_first
      read-each =
          let s = settled_of (slot_for l ch) (policy l) room in
          pick fine (is_there l ch)
          (λ t. read-taken (then (begun h0 l) [] (ack_frames s.slot s.ack)) s.slot
          (at_then P (begun h0 l) [] (ack_frames s.slot s.ack) tt (ack-each s.slot s.ack)) (taken_of s.slot room))
          (λ t. plain-end P l h0 _ 0)

    -- ---- open

    open-on : (out : ℕ) (destination : List ℕ) → ((local : LocalId) (credit : ℕ) → P (open_frame local credit destination)) → (r : Result ChannelId NoFree) → fine (open_on l out destination r)
    unfolding open_on
    open-on out destination y (Err _) = plain-end P l h0 _ 0
    open-on out destination y (Ok ch) =
        pick fine (ltb payload_limit (length destination)) (λ t. plain-end P l _ _ 0)
        (λ t. pick fine (ltb out (24 + length destination)) (λ u. tt) (λ u. at-end P _ _ 0 [] (y _ _, tt)))

    open-readied : (ch : ChannelId) (remote used : ℕ) (r : Result ChannelSlot CreditFault) → fine (open_readied l ch remote used r)
    unfolding open_readied
    open-readied ch remote used (Ok t) = at_last P (begun h0 l) _ [] _ used [] tt tt
    open-readied ch remote used (Err b) = at-end P _ _ used [] (close _, tt)

    open-by : (ch : ChannelId) (received : List ℕ) (r : Result Packet (Answer × ℕ)) → fine (open_by l ch received r)
    unfolding open_by open_acted
    open-by ch received (Err (a, used)) = plain-end P l _ a used
    open-by ch received (Ok k) =
        let mine = eqb k.arg1 ch.local.0 in
        pick fine (is_ready k.command && mine) (λ t. open-readied ch k.arg0 (frame_len k) _)
        (λ t. pick fine (is_write k.command && mine) (λ u. at-end P _ _ (frame_len k) [] (close _, tt))
        (λ u. pick fine (is_close k.command && mine) (λ v. plain-end P l h0 _ (frame_len k))
        (λ v. at-end P _ _ (frame_len k) [] (acted-each l.state.header ss l.state.queue l.rx l.store k (body_of received k)))))

    open-each : (out : ℕ) (destination received : List ℕ) → ((local : LocalId) (credit : ℕ) → P (open_frame local credit destination)) → fine (open_step l out destination received)
    unfolding open_step
    open-each out destination received y =
        pick fine (is_ours l.state.header.pending.what) (λ t. open-by _ received (received_of l received)) (λ t. open-on out destination y (allocated l.state.header ss))

    -- ---- verdicts

    reject-on : (remote : RemoteId) (a : Answer) → fine (reject_on l h0 remote a)
    unfolding reject_on
    reject-on remote a = at-end P _ a 0 [] (close _, tt)

    accept-on : (remote : RemoteId) (credit : ℕ) (r : Result ChannelId NoFree) → fine (accept_on l h0 remote credit r)
    unfolding accept_on
    accept-on remote credit (Err _) = reject-on remote _
    accept-on remote credit (Ok ch) = at-end P _ _ 0 [] (okay _ _, tt)

    accept-each : fine (accept_step l)
    unfolding accept_step
    accept-each = pick fine (is_offered l) (λ t. accept-on (offer_in l).remote (offer_in l).credit (allocated l.state.header ss)) (λ t. plain-end P l h0 _ 0)

    reject-each : fine (reject_step l)
    unfolding reject_step
    reject-each = pick fine (is_offered l) (λ t. reject-on (offer_in l).remote _) (λ t. plain-end P l h0 _ 0)

    verdict-each : (take : Bool) (remote : RemoteId) (credit : ℕ) → fine (verdict_step l take remote credit)
    unfolding verdict_step
    verdict-each take remote credit = pick fine take (λ t. accept-on remote credit (allocated l.state.header ss)) (λ t. reject-on remote _)

    let-go-each : fine (let_go_step l)
    unfolding let_go_step
    let-go-each = pick fine (is_offered l) (λ t. at-end P _ _ 0 [] tt) (λ t. plain-end P l h0 _ 0)

    -- ---- write

    module _ (spending : Spending) (ch : ChannelId) (out : ℕ) (given received : List ℕ)
        (y : (ids : ChannelIds) (n : ℕ) → P (write_frame ids (take n given))) where
      by-each : (used : ℕ) (w : Work) (s : ChannelSlot) → Fine w → (b : Option ℕ) → fine (send_by l ch out given used w s b)
      unfolding send_by send_some
      by-each used w s f (Some most) =
          let n = send_len l given most in
          pick fine (ltb out (length (frames_bytes w.header.negotiated w.frames) + 24 + n)) (λ t. tt)
          (λ t. at_last P w _ (write_frame (ids_in s) (take n given) ∷ []) _ used [] f (y _ n, tt))
      by-each used w s f None = at_last P w _ [] _ used [] f tt

      again-each : (used : ℕ) (w : Work) (s : ChannelSlot) → Fine w → fine (send_again spending l ch out given used w s)
      unfolding send_again
      again-each used w s f =
          pick fine (is_closed s.state) (λ t. at_last P w _ [] _ used [] f tt) (λ t. by-each used w s f (leave_of spending s (policy l)))

      readied-each : (used : ℕ) (w : Work) (s : ChannelSlot) → Fine w → (r : Result ChannelSlot CreditFault) → fine (write_readied spending l ch out given used w s r)
      unfolding write_readied
      readied-each used w s f (Ok t) = again-each used w t f
      readied-each used w s f (Err b) = at-end P w _ used [] f

      write-acted : (used : ℕ) (a : Acted) → Every P a.frames → (f : Option SlotFault) → fine (write_acted spending l ch out given used (begun h0 l) a f)
      unfolding write_acted
      write-acted used a e (Some f) = at-end P (then_acted (begun h0 l) a) _ used [] e
      write-acted used a e None = again-each used (then_acted (begun h0 l) a) _ e

      write-by : (s : ChannelSlot) (r : Result Packet (Answer × ℕ)) → fine (write_by spending l ch out given (begun h0 l) s received r)
      unfolding write_by write_act
      write-by s (Err (x, used)) = plain-end P l h0 x used
      write-by s (Ok k) =
          pick fine (is_ready k.command && eqb k.arg1 s.local.0)
          (λ t. readied-each (frame_len k) (begun h0 l) s tt (ready_of s (body_of received k) (policy l)))
          (λ t. pick fine (closed_by (ids_in s) k) (λ u. at_last P (begun h0 l) _ [] _ (frame_len k) [] tt tt)
          (λ u. write-acted (frame_len k) _ (acted-each h0 ss l.state.queue l.rx l.store k (body_of received k)) _))

      write-first : (s : ChannelSlot) (b : Option ℕ) → fine (write_first spending l ch out given received (begun h0 l) s b)
      unfolding write_first send_by
      write-first s (Some most) = by-each 0 (begun h0 l) s tt (Some most)
      write-first s None = pick fine s.has_remote (λ t. write-by s (received_of l received)) (λ t. plain-end P l h0 _ 0)

      write-each : fine (write_step spending l ch out given received)
      unfolding write_step write_on
      write-each =
          pick fine (eqb (length given) 0) (λ z. plain-end P l h0 _ 0)
          (λ z. pick fine (is_there l ch)
          (λ t. pick fine (is_closed (slot_for l ch).state) (λ c. plain-end P l h0 _ 0) (λ c. write-first (slot_for l ch) (leave_of spending (slot_for l ch) (policy l))))
          (λ t. plain-end P l h0 _ 0))

    -- ---- the refusals ahead of every step write nothing

    checked-each : (t : Bool) (o : Outcome) → fine o → fine (checked t l o)
    unfolding checked
    checked-each t o f = pick fine t (λ a. pick fine (stores_fit l.state.header.negotiated.config (length l.rx) (length l.store)) (λ b. f) (λ b. tt)) (λ a. tt)

    out-each : (t : Bool) (out : ℕ) (o : Outcome) → fine o → fine (checked_out t l out o)
    unfolding checked_out
    out-each t out o f = checked-each t _ (pick fine (ltb out 56) (λ a. tt) (λ a. f))

  -- ---- one call

  -- each frame that it writes has P, if those of the bytes that it is handed have it
  pub each-frame : (w : World) (x : Call) → Given P x → Every P (outcome w x).frames
  unfolding outcome open_outcome dispatch_outcome settle_outcome take_outcome read_outcome write_outcome close_outcome take_front_outcome look_outcome numbers_outcome accept_outcome reject_outcome let_go_outcome verdict_outcome
  each-frame w (open_call out destination received) g = out-each (lent w) _ _ _ (open-each (lent w) _ _ _ g)
  each-frame w (dispatch_call out received) g = out-each (lent w) _ _ _ (dispatch-each (lent w) _)
  each-frame w (settle_call out ch want) g = out-each (lent w) _ _ _ (settle-each (lent w) ch want)
  each-frame w (take_call ch buf) g = checked-each (lent w) _ _ (take-each (lent w) ch _)
  each-frame w (read_call out ch buf received) g = out-each (lent w) _ _ _ (read-each (lent w) ch _ _)
  each-frame w (write_call spending out ch bytes received) g = out-each (lent w) _ _ _ (write-each (lent w) spending ch _ _ _ g)
  each-frame w (close_call out ch) g = out-each (lent w) _ _ _ (close-each (lent w) ch)
  each-frame w front_taken g = checked-each (lent w) _ _ (front-each (lent w))
  each-frame w (look_call (numbers_look ch)) g = checked-each (lent w) _ _ tt
  each-frame w (accept_call out) g = out-each (lent w) _ _ _ (accept-each (lent w))
  each-frame w (reject_call out) g = out-each (lent w) _ _ _ (reject-each (lent w))
  each-frame w let_go_call g = checked-each (lent w) _ _ (let-go-each (lent w))
  each-frame w (verdict_call out take remote credit) g = out-each (lent w) _ _ _ (verdict-each (lent w) take _ _)
