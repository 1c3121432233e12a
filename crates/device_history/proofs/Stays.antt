-- No call of a device's end writes the open store: what would queue an OPEN is never handed one. Assumes nothing.
use Rattle.std.proofs.Common.{◌≡◌, refl, sym, subst, ◌∙◌, Bool, List, [], ◌++◌, Option, Some, None, Result, Ok, Err, ℕ, eqb, ltb, length, set, ◌∷◌, ◌+◌, ◌&&◌}
use Rattle.config.specs.declared.negotiated.RxPolicy.{RxPolicy}
use Rattle.credit.specs.declared.CreditFault.{CreditFault}
use Rattle.protocol.specs.declared.command.Command.{Command}
use Rattle.protocol.specs.declared.command.Command.TheVariants.{Sync, Connect, Open, Ready, Close, Write, Auth, StartTls}
use Rattle.protocol.specs.declared.packet.Packet.{Packet}
use Rattle.slot.specs.declared.ChannelFault.{ChannelFault as SlotFault}
use Rattle.slot.specs.declared.ChannelSlot.{ChannelSlot}
use Rattle.slot.specs.declared.Settled.{Settled}
use Rattle.slot.specs.declared.ids.LocalId.{LocalId}
use Rattle.slot.specs.declared.ids.RemoteId.{RemoteId}
use Rattle.slot.specs.declared.Spending.{Spending}
use Rattle.slot.specs.Slot.{is_failed, is_closed, wrote_of, settled_of, taken_of, leave_of, ready_of}
use Rattle.slot.proofs.Kept.{pick}
use Rattle.state.specs.Change.{Step}
use Rattle.state.specs.declared.Header.{Header}
use Rattle.state.specs.declared.QueuedOpen.{QueuedOpen}
use Rattle.table.specs.declared.Want.TheVariants.{Local}
use Rattle.table.specs.Table.{place_of, slot_in}
use Rattle.table_dispatch.specs.declared.DispatchOutcome.{DispatchOutcome}
use Rattle.table_dispatch.specs.declared.DispatchOutcome.TheVariants.{AckWrite, CreditGranted, SlotClosed, DataBuffered, IncomingOpen, CancelQueuedOpen, StrayReady, ChannelFault, Unmatched}
use Rattle.table_dispatch.specs.Dispatch.{Dispatched, remote_place, closed_at, close_of, readied_of, granted, ready_at, stray_of, grant_of, buffered_at, wrote_by, wrote_at, write_of, route_of, dispatch_of}
use Rattle.connection.specs.Act.{Acted, acted_by, table_of, act_on}
use Rattle.connection.specs.declared.Answer.{Answer}
use Rattle.connection.specs.declared.Refusal.{Refusal}
use Rattle.call.specs.Promise.{lent_of}
use Rattle.call.proofs.LeaveLaws.{admitted-goes}
use Rattle.state.specs.State.{state_of}
use Rattle.device.specs.Device.{head_fine, head_of, inner_of, text_in, is_connected, met_in, shown, device_admitted, admitted_call, unchanged, host_gives}
use Rattle.device.proofs.MeetLaws.{device_begins, nothing-received}
use Rattle.le.proofs.Parts.{by-test}
use Rattle.slot.proofs.Laws.{cond-true, cond-false}
use Rattle.slot.specs.declared.Spending.TheVariants.{Beyond}
use Rattle.config.specs.Config.{stores_fit}
use Rattle.config.specs.declared.ConnectionConfig.{ConnectionConfig}
use Rattle.state_whole.specs.Whole.{is_whole}
use Rattle.connection.specs.declared.Answer.TheVariants.{Done, Waiting}
use Rattle.connection.specs.Calls.{checked, checked_out, settle_outcome, take_outcome, close_outcome, settle_step, settled_as, take_step, taken_by, close_step}
use Rattle.history.specs.Run.{bytes_in}
use Rattle.device_connect.specs.Connect.{connected_as}
use Rattle.device_dispatch.specs.Promise.{is_cnxn, dispatch_with, first_by, dispatch_met, device_dispatch}
use Rattle.device_read.specs.Promise.{read_met, device_read}
use Rattle.device_write.specs.Promise.{write_met, device_write}
use Rattle.device_settle.specs.Promise.{device_settle}
use Rattle.device_take.specs.Promise.{device_take}
use Rattle.device_close.specs.Promise.{device_close}
use Rattle.device_history.specs.Stays.{StoreStays}
use Rattle.device_history.specs.Run.{DeviceCall, device_dispatches, device_reads, device_writes, device_settles, device_takes, device_closes, DeviceWorld, gives, leaves_by}
use Rattle.connection.specs.Frames.{frames_bytes}
use Rattle.protocol.specs.Command.{is_ready}
use Rattle.protocol.specs.Message.{message_size}
use Rattle.protocol.specs.Packet.{payload_of, decode_of}
use Rattle.protocol.specs.declared.packet.DecodeError.{DecodeError}
use Rattle.protocol.specs.declared.packet.DecodeError.TheVariants.{InvalidCommand, InvalidMagic, PayloadTooLarge, InvalidChecksum}
use Rattle.device_meets.specs.declared.Met.{Met}
use Rattle.device_meets.specs.Meets.{ignored, met_as, by_command, met_by, meets}
use Rattle.device.specs.Device.{is_waiting, Gives, given, and_judged, behind, called}
use Rattle.connection.specs.Calls.{Lent, Outcome, Work, send_len, send_some, send_by, send_again, write_readied, write_acted, write_act, write_by, write_first, write_on, write_step, received_by, begun, then, then_acted, ends, dropped, policy, ids_in, is_there, slot_for, ack_frames, received_of, body_of, frame_len, dispatch_by, dispatch_step, reread, read_settled, read_acted, is_direct, read_direct, read_by, read_taken, read_first, read_step}
use Rattle.slot.specs.declared.ChannelError.{ChannelError}
use Rattle.slot.specs.Ids.{closed_by}
use Rattle.state.specs.Change.{slot_to, changed_all}
use Rattle.table.specs.declared.ChannelId.{ChannelId}

-- not an OPEN
abbrev pub Quiet : DispatchOutcome → Type 0
Quiet (AckWrite i ids len) = Unit {0}
Quiet (CreditGranted i) = Unit {0}
Quiet (SlotClosed i) = Unit {0}
Quiet (DataBuffered i) = Unit {0}
Quiet (IncomingOpen remote credit) = ⊥
Quiet (CancelQueuedOpen remote) = Unit {0}
Quiet (StrayReady ids) = Unit {0}
Quiet (ChannelFault i ids opening f) = Unit {0}
Quiet Unmatched = Unit {0}

-- ---- what the table tells of a packet that is none

module _ (n : ℕ) (ss : List ChannelSlot) where
  closed-quiet : (i : ℕ) (o : DispatchOutcome) → Quiet o → Quiet (closed_at i n ss o).result
  unfolding closed_at
  closed-quiet i o q = pick (λ (x : Step DispatchOutcome). Quiet x.result) (ltb i n) (λ t. tt) (λ t. q)

  close-quiet : (remote : RemoteId) (local : LocalId) → Quiet (close_of n ss remote local).result
  unfolding close_of
  close-quiet remote local =
      pick (λ (x : Step DispatchOutcome). Quiet x.result) (eqb local.0 0) (λ t. closed-quiet (remote_place n ss remote) (CancelQueuedOpen remote) tt)
      (λ t. closed-quiet (place_of (Local local) n ss) Unmatched tt)

  module _ (p : RxPolicy) where
    granted-quiet : (i : ℕ) (s : ChannelSlot) (remote : RemoteId) (r : Result ChannelSlot CreditFault) → Quiet (granted i s remote r).result
    unfolding granted
    granted-quiet i s remote (Ok t) = tt
    granted-quiet i s remote (Err f) = tt

    ready-quiet : (i : ℕ) (s : ChannelSlot) (remote : RemoteId) (payload : List ℕ) → Quiet (ready_at p i s remote payload).result
    unfolding ready_at
    ready-quiet i s remote payload = pick (λ (x : Step DispatchOutcome). Quiet x.result) (is_failed s.failed) (λ t. tt) (λ t. granted-quiet i s remote (readied_of s remote payload p))

    stray-quiet : (remote : RemoteId) (local : LocalId) → Quiet (stray_of remote local)
    unfolding stray_of
    stray-quiet remote local = pick Quiet (eqb remote.0 0) (λ t. tt) (λ t. pick Quiet (eqb local.0 0) (λ u. tt) (λ u. tt))

    grant-quiet : (remote : RemoteId) (local : LocalId) (payload : List ℕ) → Quiet (grant_of p n ss remote local payload).result
    unfolding grant_of
    grant-quiet remote local payload =
        let i = place_of (Local local) n ss in
        pick (λ (x : Step DispatchOutcome). Quiet x.result) (ltb i n) (λ t. ready-quiet i (slot_in ss i) remote payload) (λ t. stray-quiet remote local)

    buffered-quiet : (i : ℕ) (s : ChannelSlot) (a : Option ℕ) → Quiet (buffered_at i s a)
    buffered-quiet i s (Some len) = tt
    buffered-quiet i s None = tt

    wrote-quiet : (i : ℕ) (s : ChannelSlot) (remote : RemoteId) (payload rx : List ℕ) (r : Result Settled SlotFault) → Quiet (wrote_by p i s remote payload rx r).step.result
    unfolding wrote_by
    wrote-quiet i s remote payload rx (Ok w) = buffered-quiet i s w.ack
    wrote-quiet i s remote payload rx (Err f) = tt

    write-quiet : (remote : RemoteId) (local : LocalId) (payload rx : List ℕ) → Quiet (write_of p n ss remote local payload rx).step.result
    unfolding write_of wrote_at
    write-quiet remote local payload rx =
        let i = place_of (Local local) n ss in
        pick (λ (x : Dispatched). Quiet x.step.result) (ltb i n)
        (λ t. pick (λ (x : Dispatched). Quiet x.step.result) (is_failed (slot_in ss i).failed) (λ u. tt)
        (λ u. wrote-quiet i (slot_in ss i) remote payload rx (wrote_of (slot_in ss i) p (length payload))))
        (λ t. tt)

-- a command other than OPEN
abbrev pub NoOpen : Command → Type 0
NoOpen Sync = Unit {0}
NoOpen Connect = Unit {0}
NoOpen Open = ⊥
NoOpen Ready = Unit {0}
NoOpen Close = Unit {0}
NoOpen Write = Unit {0}
NoOpen Auth = Unit {0}
NoOpen StartTls = Unit {0}

route-quiet : (p : RxPolicy) (n : ℕ) (ss : List ChannelSlot) (c : Command) (a b : ℕ) (payload rx : List ℕ) → NoOpen c → Quiet (route_of p n ss c a b payload rx).step.result
unfolding route_of
route-quiet p n ss Sync a b payload rx q = tt
route-quiet p n ss Connect a b payload rx q = tt
route-quiet p n ss Open a b payload rx q = absurd q
route-quiet p n ss Ready a b payload rx q = grant-quiet n ss p (record { 0 = a }) (record { 0 = b }) payload
route-quiet p n ss Close a b payload rx q = close-quiet n ss (record { 0 = a }) (record { 0 = b })
route-quiet p n ss Write a b payload rx q = write-quiet n ss p (record { 0 = a }) (record { 0 = b }) payload rx
route-quiet p n ss Auth a b payload rx q = tt
route-quiet p n ss StartTls a b payload rx q = tt

-- ---- what is done for it

acted-stays : (h : Header) (queue : List QueuedOpen) (payload store : List ℕ) (d : Dispatched) (o : DispatchOutcome) → Quiet o → (acted_by h queue payload store d o).store ≡ store
unfolding acted_by
acted-stays h queue payload store d (AckWrite i ids len) q = refl
acted-stays h queue payload store d (CreditGranted i) q = refl
acted-stays h queue payload store d (SlotClosed i) q = refl
acted-stays h queue payload store d (DataBuffered i) q = refl
acted-stays h queue payload store d (IncomingOpen remote credit) q = absurd q
acted-stays h queue payload store d (CancelQueuedOpen remote) q = refl
acted-stays h queue payload store d (StrayReady ids) q = refl
acted-stays h queue payload store d (ChannelFault i ids opening f) q = refl
acted-stays h queue payload store d Unmatched q = refl

pub act-stays : (h : Header) (ss : List ChannelSlot) (queue : List QueuedOpen) (rx store : List ℕ) (p : Packet) (payload : List ℕ) → NoOpen p.command → (act_on h ss queue rx store p payload).store ≡ store
unfolding act_on table_of dispatch_of
act-stays h ss queue rx store p payload q =
    acted-stays h queue payload store (table_of h ss rx p payload) (table_of h ss rx p payload).step.result
    (route-quiet _ h.negotiated.config.channels ss p.command p.arg0 p.arg1 payload rx q)

-- ---- the host's steps

-- no OPEN was received
abbrev pub NoOpenIn : Result Packet (Answer × ℕ) → Type 0
NoOpenIn (Ok p) = NoOpen p.command
NoOpenIn (Err x) = Unit {0}

module _ (l : Lent) where
  dispatched : (h : Header) (received : List ℕ) (r : Result Packet (Answer × ℕ)) → NoOpenIn r → (dispatch_by l h received r).store ≡ l.store
  unfolding dispatch_by ends
  dispatched h received (Err (a, used)) q = refl
  dispatched h received (Ok p) q = act-stays h l.state.slots l.state.queue l.rx l.store p (body_of received p) q

  pub dispatch-stays : (received : List ℕ) → NoOpenIn (received_of l received) → (dispatch_step l received).store ≡ l.store
  unfolding dispatch_step
  dispatch-stays received q = dispatched (dropped l.state.header) received (received_of l received) q

  module _ (ch : ChannelId) (room : ℕ) where
    -- a read and what it leaves
    abbrev StaysIn : Outcome → Type 0
    StaysIn o = o.store ≡ l.store

    reread-stays : (cap used : ℕ) (fault : Option SlotFault) (w : Work) (s : ChannelSlot) (r : Result (Option (ChannelSlot × ℕ)) ChannelError) → (reread ch cap used fault w s r).store ≡ w.store
    unfolding reread ends
    reread-stays cap used fault w s (Ok (Some (t, n))) = refl
    reread-stays cap used fault w s (Ok None) = refl
    reread-stays cap used fault w s (Err e) = refl

    acted-read : (used : ℕ) (w : Work) (a : Acted) → (read_acted l ch room used w a).store ≡ a.store
    unfolding read_acted read_settled
    acted-read used w a =
        let s = settled_of (slot_in (changed_all l.state (w.changes ++ a.changes)).slots ch.slot) (policy l) room in
        reread-stays (policy l).rx_cap used a.fault (then (then_acted w a) [] (ack_frames s.slot s.ack)) s.slot (taken_of s.slot room)

    looked-read : (w : Work) (s : ChannelSlot) (received : List ℕ) (r : Result Packet (Answer × ℕ)) → w.store ≡ l.store → NoOpenIn r → StaysIn (read_by l ch room w s received r)
    unfolding read_by read_direct ends
    looked-read w s received (Err (a, used)) e q = e
    looked-read w s received (Ok p) e q =
        pick StaysIn (is_direct s room p) (λ t. e)
        (λ t. pick StaysIn (closed_by (ids_in s) p) (λ u. e)
        (λ u. acted-read (frame_len p) (then w (slot_to ch.slot s ∷ []) []) (act_on w.header (set l.state.slots ch.slot s) l.state.queue l.rx l.store p (body_of received p))
        ∙ act-stays w.header (set l.state.slots ch.slot s) l.state.queue l.rx l.store p (body_of received p) q))

    taken-read : (w : Work) (s : ChannelSlot) (received : List ℕ) (r : Result (Option (ChannelSlot × ℕ)) ChannelError) → w.store ≡ l.store → NoOpenIn (received_of l received) → StaysIn (read_taken l ch room w s received r)
    unfolding read_taken ends
    taken-read w s received (Ok (Some (t, n))) e q = e
    taken-read w s received (Ok None) e q = pick StaysIn s.has_remote (λ t. looked-read w s received (received_of l received) e q) (λ t. e)
    taken-read w s received (Err x) e q = e

    pub read-stays : (received : List ℕ) → NoOpenIn (received_of l received) → StaysIn (read_step l ch room received)
    unfolding read_step read_first ends
    read-stays received q =
        pick StaysIn (is_there l ch)
        (λ t. let s = settled_of (slot_for l ch) (policy l) room in
        taken-read (then (begun (dropped l.state.header) l) [] (ack_frames s.slot s.ack)) s.slot received (taken_of s.slot room) refl q)
        (λ t. refl)

    -- a write
    module _ (spending : Spending) (out : ℕ) (bytes : List ℕ) where
      some-stays : (used : ℕ) (w : Work) (s : ChannelSlot) (n : ℕ) → w.store ≡ l.store → StaysIn (send_some l ch out bytes used w s n)
      unfolding send_some ends
      some-stays used w s n e = pick StaysIn (ltb out (length (frames_bytes w.header.negotiated w.frames) + message_size + n)) (λ t. refl) (λ t. e)

      by-stays : (used : ℕ) (w : Work) (s : ChannelSlot) (a : Option ℕ) → w.store ≡ l.store → StaysIn (send_by l ch out bytes used w s a)
      unfolding send_by ends
      by-stays used w s (Some most) e = some-stays used w s (send_len l bytes most) e
      by-stays used w s None e = e

      again-stays : (used : ℕ) (w : Work) (s : ChannelSlot) → w.store ≡ l.store → StaysIn (send_again spending l ch out bytes used w s)
      unfolding send_again ends
      again-stays used w s e = pick StaysIn (is_closed s.state) (λ t. e) (λ t. by-stays used w s (leave_of spending s (policy l)) e)

      readied-stays : (used : ℕ) (w : Work) (s : ChannelSlot) (r : Result ChannelSlot CreditFault) → w.store ≡ l.store → StaysIn (write_readied spending l ch out bytes used w s r)
      unfolding write_readied ends
      readied-stays used w s (Ok t) e = again-stays used w t e
      readied-stays used w s (Err f) e = e

      acted-write : (used : ℕ) (w : Work) (a : Acted) (f : Option SlotFault) → a.store ≡ l.store → StaysIn (write_acted spending l ch out bytes used w a f)
      unfolding write_acted ends
      acted-write used w a (Some f) e = e
      acted-write used w a None e = again-stays used (then_acted w a) (slot_in (changed_all l.state (w.changes ++ a.changes)).slots ch.slot) e

      looked-write : (w : Work) (s : ChannelSlot) (received : List ℕ) (r : Result Packet (Answer × ℕ)) → w.store ≡ l.store → NoOpenIn r → StaysIn (write_by spending l ch out bytes w s received r)
      unfolding write_by write_act ends
      looked-write w s received (Err (a, used)) e q = e
      looked-write w s received (Ok p) e q =
          let a = act_on w.header l.state.slots l.state.queue l.rx l.store p (body_of received p) in
          pick StaysIn (is_ready p.command && eqb p.arg1 s.local.0) (λ t. readied-stays (frame_len p) w s (ready_of s (body_of received p) (policy l)) e)
          (λ t. pick StaysIn (closed_by (ids_in s) p) (λ u. e)
          (λ u. acted-write (frame_len p) w a a.fault (act-stays w.header l.state.slots l.state.queue l.rx l.store p (body_of received p) q)))

      first-write : (w : Work) (s : ChannelSlot) (received : List ℕ) (a : Option ℕ) → w.store ≡ l.store → NoOpenIn (received_of l received) → StaysIn (write_first spending l ch out bytes received w s a)
      unfolding write_first ends
      first-write w s received (Some most) e q = some-stays 0 w s (send_len l bytes most) e
      first-write w s received None e q = pick StaysIn s.has_remote (λ t. looked-write w s received (received_of l received) e q) (λ t. e)

      pub write-stays : (received : List ℕ) → NoOpenIn (received_of l received) → StaysIn (write_step spending l ch out bytes received)
      unfolding write_step write_on ends
      write-stays received q =
          let w = begun (dropped l.state.header) l in
          pick StaysIn (eqb (length bytes) 0) (λ t. refl)
          (λ t. pick StaysIn (is_there l ch)
          (λ u. pick StaysIn (is_closed (slot_for l ch).state) (λ v. refl) (λ v. first-write w (slot_for l ch) received (leave_of spending (slot_for l ch) (policy l)) refl q))
          (λ u. refl))

-- ---- what a device's end hands to them

-- a packet that is not met here is no OPEN
passed : (h : Header) (ss : List ChannelSlot) (names received : List ℕ) (r : Result (Option Packet) DecodeError) → met_by h ss names received r ≡ None → NoOpenIn (received_by r)
unfolding met_by by_command met_as received_by
passed h ss names received (Ok None) e = tt
passed h ss names received (Ok (Some p)) e = told p.command e
  where
    told : (c : Command) → met_as h ss names p (payload_of received p.data_length) c ≡ None → NoOpen c
    told Sync f = tt
    told Connect f = tt
    told Open f = absurd (cc)
    told Ready f = tt
    told Close f = tt
    told Write f = tt
    told Auth f = tt
    told StartTls f = tt
passed h ss names received (Err (InvalidCommand word)) e = tt
passed h ss names received (Err InvalidMagic) e = tt
passed h ss names received (Err PayloadTooLarge) e = tt
passed h ss names received (Err (InvalidChecksum used)) e = tt

-- a step that writes no store, and a verdict behind it
called-stays : (head b : List ℕ) (handled : Answer) (o : Outcome) (m : Option Met) → (called head b handled o m).store ≡ o.store
unfolding called behind given and_judged
called-stays head b handled o None = refl
called-stays head b handled o (Some m) = pick (λ (g : Gives). g.store ≡ o.store) (is_waiting o.answer) (λ t. refl) (λ t. refl)

-- ---- each call

module _ (w : DeviceWorld) where
  abbrev inner : List ℕ
  inner = inner_of w.state

  abbrev l : Lent
  l = lent_of inner w.rx w.store

  -- what an admitted call does
  abbrev Stay : Gives → Type 0
  Stay g = g.store ≡ w.store

  admitted-stays : (f : Header → Gives) (r : Result Header Refusal) → ((h : Header) → r ≡ Ok h → Stay (f h)) → Stay (admitted_call w.state w.rx w.store r f)
  unfolding admitted_call unchanged
  admitted-stays f (Ok h) k = k h refl
  admitted-stays f (Err x) k = refl

  -- an admitted call has the connection's header
  header-is : (out : ℕ) (h : Header) → device_admitted w.state (length w.rx) (length w.store) out ≡ Ok h → h ≡ (state_of inner).header
  header-is out h e =
      let g = device_begins w.state w.rx w.store out h (device_admitted w.state (length w.rx) (length w.store) out) refl e in
      (admitted-goes inner w.rx w.store out h _ g.admits refl).header

  -- what is shown of the received bytes begins with no OPEN
  shown-quiet : (h : Header) (names received : List ℕ) (m : Option Met) → h ≡ (state_of inner).header → (m ≡ None → met_by h (state_of inner).slots names received (decode_of received h.negotiated.config.max_payload) ≡ None)
      → NoOpenIn (received_of l (shown received m))
  unfolding shown received_of
  shown-quiet h names received (Some m) i f = rw (nothing-received l) tt
  shown-quiet h names received None i f =
      passed (state_of inner).header (state_of inner).slots names received (decode_of received (state_of inner).header.negotiated.config.max_payload)
      (subst (λ (x : Header). met_by x (state_of inner).slots names received (decode_of received x.negotiated.config.max_payload) ≡ None) i (f refl))

  -- where a read or a write meets nothing, what was received is no OPEN
  met-none : (names received : List ℕ) (h : Header) → met_in w.state names received h ≡ None → met_by h (state_of inner).slots names received (decode_of received h.negotiated.config.max_payload) ≡ None
  unfolding met_in meets
  met-none names received h e =
      by-test (is_connected w.state)
      (λ t. sym (cond-true (is_connected w.state) _ _ t) ∙ e)
      (λ t. let z = sym (cond-false (is_connected w.state) _ _ t) ∙ e in absurd (cc))

  reads-stay : (out : ℕ) (names : List ℕ) (ch : ChannelId) (room : ℕ) (received : List ℕ) → Stay (device_read w.state w.rx w.store out names ch room received)
  unfolding device_read read_met
  reads-stay out names ch room received =
      admitted-stays (read_met w.state w.rx w.store names ch room received) (device_admitted w.state (length w.rx) (length w.store) out)
      (λ h e. let m = met_in w.state names received h in
      called-stays (head_of w.state) inner Waiting (read_step l ch room (shown received m)) m
      ∙ read-stays l ch room (shown received m) (shown-quiet h names received m (header-is out h e) (met-none names received h)))

  writes-stay : (out : ℕ) (names : List ℕ) (ch : ChannelId) (bytes received : List ℕ) → Stay (device_write w.state w.rx w.store out names ch bytes received)
  unfolding device_write write_met
  writes-stay out names ch bytes received =
      admitted-stays (write_met w.state w.rx w.store out names ch bytes received) (device_admitted w.state (length w.rx) (length w.store) out)
      (λ h e. let m = met_in w.state names received h in
      called-stays (head_of w.state) inner Waiting (write_step Beyond l ch out bytes (shown received m)) m
      ∙ write-stays l ch 0 Beyond out bytes (shown received m) (shown-quiet h names received m (header-is out h e) (met-none names received h)))

  with-stays : (received : List ℕ) (m : Option Met) → NoOpenIn (received_of l (shown received m)) → Stay (dispatch_with w.state w.rx w.store received m)
  unfolding dispatch_with
  with-stays received m q = called-stays (head_of w.state) inner Done (dispatch_step l (shown received m)) m ∙ dispatch-stays l (shown received m) q

  connected-stays : (out : ℕ) (c : ConnectionConfig) (p : Packet) (identity : List ℕ) → Stay (connected_as w.state out c p identity w.rx w.store)
  unfolding connected_as
  connected-stays out c p identity = pick Stay (ltb out (message_size + length (text_in w.state))) (λ t. refl) (λ t. refl)

  first-stays : (out : ℕ) (received : List ℕ) (h : Header) (r : Result (Option Packet) DecodeError) → h ≡ (state_of inner).header → r ≡ decode_of received h.negotiated.config.max_payload
      → Stay (first_by w.state w.rx w.store out received h r)
  unfolding first_by received_of shown received_by
  first-stays out received h (Ok (Some p)) i e =
      pick Stay (is_cnxn p.command) (λ t. connected-stays out h.negotiated.config p (payload_of received p.data_length))
      (λ t. with-stays received (ignored (message_size + p.data_length)) (rw (nothing-received l) tt))
  first-stays out received h (Ok None) i e = with-stays received None (none-in (Ok None) e tt)
    where
      none-in : (r : Result (Option Packet) DecodeError) → r ≡ decode_of received h.negotiated.config.max_payload → NoOpenIn (received_by r) → NoOpenIn (received_of l received)
      none-in r f q = subst (λ (x : Header). NoOpenIn (received_by (decode_of received x.negotiated.config.max_payload))) i (subst (λ (x : Result (Option Packet) DecodeError). NoOpenIn (received_by x)) f q)
  first-stays out received h (Err x) i e = with-stays received None (none-in (Err x) e (refused x))
    where
      none-in : (r : Result (Option Packet) DecodeError) → r ≡ decode_of received h.negotiated.config.max_payload → NoOpenIn (received_by r) → NoOpenIn (received_of l received)
      none-in r f q = subst (λ (y : Header). NoOpenIn (received_by (decode_of received y.negotiated.config.max_payload))) i (subst (λ (y : Result (Option Packet) DecodeError). NoOpenIn (received_by y)) f q)

      refused : (y : DecodeError) → NoOpenIn (received_by (Err y))
      refused (InvalidCommand word) = tt
      refused InvalidMagic = tt
      refused PayloadTooLarge = tt
      refused (InvalidChecksum used) = tt

  dispatches-stay : (out : ℕ) (names received : List ℕ) → Stay (device_dispatch w.state w.rx w.store out names received)
  unfolding device_dispatch dispatch_met
  dispatches-stay out names received =
      admitted-stays (dispatch_met w.state w.rx w.store out names received) (device_admitted w.state (length w.rx) (length w.store) out)
      (λ h e. pick Stay (is_connected w.state)
      (λ t. with-stays received (met_in w.state names received h) (shown-quiet h names received (met_in w.state names received h) (header-is out h e) (met-none names received h)))
      (λ t. first-stays out received h (decode_of received h.negotiated.config.max_payload) (header-is out h e) refl))

  -- one of the host's calls as it is
  host-stays : (o : Outcome) → o.store ≡ w.store → Stay (host_gives w.state w.rx w.store o)
  unfolding host_gives given unchanged
  host-stays o e = pick Stay (head_fine w.state) (λ t. e) (λ t. refl)

  checked-stays : (whole : Bool) (o : Outcome) → o.store ≡ w.store → (checked whole l o).store ≡ w.store
  unfolding checked
  checked-stays whole o e =
      pick (λ (x : Outcome). x.store ≡ w.store) whole
      (λ t. pick (λ (x : Outcome). x.store ≡ w.store) (stores_fit l.state.header.negotiated.config (length l.rx) (length l.store)) (λ u. e) (λ u. refl)) (λ t. refl)

  checked-out-stays : (whole : Bool) (out : ℕ) (o : Outcome) → o.store ≡ w.store → (checked_out whole l out o).store ≡ w.store
  unfolding checked_out
  checked-out-stays whole out o e = checked-stays whole _ (pick (λ (x : Outcome). x.store ≡ w.store) (ltb out 56) (λ t. refl) (λ t. e))

  taken-stays : (ch : ChannelId) (s : ChannelSlot) (r : Result (Option (ChannelSlot × ℕ)) ChannelError) → (taken_by l ch s (begun (dropped l.state.header) l) r).store ≡ w.store
  unfolding taken_by ends
  taken-stays ch s (Ok (Some (t, n))) = refl
  taken-stays ch s (Ok None) = refl
  taken-stays ch s (Err x) = refl

  pub call-stays : (x : DeviceCall) → Stay (gives w x)
  unfolding gives device_settle device_take device_close settle_outcome take_outcome close_outcome settle_step settled_as take_step close_step ends
  call-stays (device_dispatches out names received) = dispatches-stay (length out) (bytes_in names) (bytes_in received)
  call-stays (device_reads out names ch buf received) = reads-stay (length out) (bytes_in names) ch (length buf) (bytes_in received)
  call-stays (device_writes out names ch bytes received) = writes-stay (length out) (bytes_in names) ch (bytes_in bytes) (bytes_in received)
  call-stays (device_settles out ch want) =
      host-stays _ (checked-out-stays (is_whole inner) (length out) _ (pick (λ (o : Outcome). o.store ≡ w.store) (is_there l ch) (λ t. refl) (λ t. refl)))
  call-stays (device_takes ch buf) =
      host-stays _ (checked-stays (is_whole inner) _ (pick (λ (o : Outcome). o.store ≡ w.store) (is_there l ch) (λ t. taken-stays ch (slot_for l ch) (taken_of (slot_for l ch) (length buf))) (λ t. refl)))
  call-stays (device_closes out ch) =
      host-stays _ (checked-out-stays (is_whole inner) (length out) _ (pick (λ (o : Outcome). o.store ≡ w.store) (is_there l ch && (slot_for l ch).has_remote) (λ t. refl) (λ t. refl)))

pub store-stays : StoreStays
unfolding leaves_by
store-stays w x = call-stays w x
