-- What a call of the host's uses: nothing, a damaged frame, or a packet. Assumes nothing.
use Rattle.std.proofs.Common.{◌≡◌, refl, sym, ap, ◌∙◌, Bool, false, ◌&&◌, List, [], ℕ, ◌+◌, eqb, ltb, length, Option, Some, None, Result, Ok, Err}
use mathlib.Core.Bool.{true≢false}
use borrow.Author.Tests.{eq-eqb}
use Rattle.config.specs.Config.{stores_fit}
use Rattle.protocol.specs.declared.packet.DecodeError.{DecodeError}
use Rattle.protocol.specs.declared.packet.DecodeError.TheVariants.{InvalidCommand as WordInvalid, InvalidMagic as MagicInvalid, PayloadTooLarge as LengthTooLarge, InvalidChecksum as SumInvalid}
use Rattle.protocol.specs.declared.packet.Packet.{Packet}
use Rattle.protocol.specs.Packet.{decode_of}
use Rattle.protocol.specs.Message.{message_size}
use Rattle.connection.specs.Frames.{frames_bytes}
use Rattle.slot.specs.declared.ChannelError.{ChannelError}
use Rattle.slot.specs.declared.ChannelSlot.{ChannelSlot}
use Rattle.slot.specs.declared.Spending.{Spending}
use Rattle.slot.specs.declared.Spending.TheVariants.{Beyond}
use Rattle.slot.specs.Slot.{is_closed, settled_of, taken_of, leave_of}
use Rattle.slot.proofs.Kept.{pick}
use Rattle.state_whole.specs.Whole.{is_whole}
use Rattle.table.specs.declared.ChannelId.{ChannelId}
use Rattle.connection.specs.declared.Answer.{Answer}
use Rattle.connection.specs.declared.Answer.TheVariants.{Waiting, Refused}
use Rattle.connection.specs.declared.Refusal.TheVariants.{InvalidChecksum}
use Rattle.connection.specs.Answer.{answer_number}
use Rattle.connection.specs.Calls.{Lent, Outcome, Work, begun, then, dropped, ends, policy, is_there, slot_for, ack_frames, checked, checked_out, received_by, received_of, dispatch_by, dispatch_step, dispatch_outcome, settled_as, settle_step, settle_outcome, taken_by, take_step, take_outcome, read_by, read_taken, read_first, read_step, read_outcome, send_some, write_by, write_first, write_on, write_step, write_outcome, close_step, close_outcome}
use Rattle.history.specs.Run.{World, lent, bytes_in, outcome}
use Rattle.device_history.specs.Run.{DeviceCall, device_dispatches, device_reads, device_writes, device_settles, device_takes, device_closes}
use Rattle.device_history.specs.Owner.{host_call}

module _ (l : Lent) (rec : List ℕ) where
  abbrev limit : ℕ
  limit = l.state.header.negotiated.config.max_payload

  -- what is so of each outcome: P, where nothing is used, where a damaged frame is, and where a packet is
  module _ (P : Outcome → Type 0) (none : (o : Outcome) → o.used ≡ 0 → P o)
      (four : (o : Outcome) (u : ℕ) → decode_of rec limit ≡ Err (SumInvalid u) → answer_number o.answer ≡ 4 → P o)
      (some : (o : Outcome) (k : Packet) → decode_of rec limit ≡ Ok (Some k) → P o) where
    module _ (f : Result Packet (Answer × ℕ) → Outcome) (g : (a : Answer) (u : ℕ) → ((f (Err (a, u))).answer ≡ a) × ((f (Err (a, u))).used ≡ u)) where
      through : (d : Result (Option Packet) DecodeError) → decode_of rec limit ≡ d → P (f (received_by d))
      unfolding received_by answer_number
      through (Ok None) e = none _ (g Waiting 0).1
      through (Ok (Some k)) e = some _ k e
      through (Err (WordInvalid word)) e = none _ (g _ 0).1
      through (Err MagicInvalid) e = none _ (g _ 0).1
      through (Err LengthTooLarge) e = none _ (g _ 0).1
      through (Err (SumInvalid u)) e = four _ u e (ap answer_number (g (Refused InvalidChecksum) u).0)

      received-through : P (f (received_of l rec))
      unfolding received_of
      received-through = through (decode_of rec limit) refl

    dispatch-uses : P (dispatch_step l rec)
    unfolding dispatch_step dispatch_by ends
    dispatch-uses = received-through (dispatch_by l (dropped l.state.header) rec) (λ a u. (refl, refl))

    taken-uses : (ch : ChannelId) (room : ℕ) (w : Work) (s : ChannelSlot) (t : Result (Option (ChannelSlot × ℕ)) ChannelError) → P (read_taken l ch room w s rec t)
    unfolding read_taken read_by ends
    taken-uses ch room w s (Ok (Some (t, n))) = none _ refl
    taken-uses ch room w s (Ok None) = pick P s.has_remote (λ t. received-through (read_by l ch room w s rec) (λ a u. (refl, refl))) (λ t. none _ refl)
    taken-uses ch room w s (Err e) = none _ refl

    read-uses : (ch : ChannelId) (room : ℕ) → P (read_step l ch room rec)
    unfolding read_step read_first ends
    read-uses ch room =
        pick P (is_there l ch)
        (λ t. let z = settled_of (slot_for l ch) (policy l) room in taken-uses ch room (then (begun (dropped l.state.header) l) [] (ack_frames z.slot z.ack)) z.slot (taken_of z.slot room))
        (λ t. none _ refl)

    some-uses : (ch : ChannelId) (out : ℕ) (bytes : List ℕ) (w : Work) (s : ChannelSlot) (n : ℕ) → P (send_some l ch out bytes 0 w s n)
    unfolding send_some ends
    some-uses ch out bytes w s n = pick P (ltb out (length (frames_bytes w.header.negotiated w.frames) + message_size + n)) (λ t. none _ refl) (λ t. none _ refl)

    first-uses : (spending : Spending) (ch : ChannelId) (out : ℕ) (bytes : List ℕ) (w : Work) (s : ChannelSlot) (m : Option ℕ) → P (write_first spending l ch out bytes rec w s m)
    unfolding write_first write_by ends
    first-uses spending ch out bytes w s (Some most) = some-uses ch out bytes w s _
    first-uses spending ch out bytes w s None = pick P s.has_remote (λ t. received-through (write_by spending l ch out bytes w s rec) (λ a u. (refl, refl))) (λ t. none _ refl)

    write-uses : (spending : Spending) (ch : ChannelId) (out : ℕ) (bytes : List ℕ) → P (write_step spending l ch out bytes rec)
    unfolding write_step write_on ends
    write-uses spending ch out bytes =
        pick P (eqb (length bytes) 0) (λ t. none _ refl)
        (λ t. pick P (is_there l ch)
        (λ u. pick P (is_closed (slot_for l ch).state) (λ v. none _ refl) (λ v. first-uses spending ch out bytes (begun (dropped l.state.header) l) (slot_for l ch) (leave_of spending (slot_for l ch) (policy l))))
        (λ u. none _ refl))

    settle-uses : (ch : ChannelId) (want : ℕ) → P (settle_step l ch want)
    unfolding settle_step settled_as ends
    settle-uses ch want = pick P (is_there l ch) (λ t. none _ refl) (λ t. none _ refl)

    by-uses : (ch : ChannelId) (s : ChannelSlot) (w : Work) (r : Result (Option (ChannelSlot × ℕ)) ChannelError) → P (taken_by l ch s w r)
    unfolding taken_by ends
    by-uses ch s w (Ok (Some (t, n))) = none _ refl
    by-uses ch s w (Ok None) = none _ refl
    by-uses ch s w (Err e) = none _ refl

    take-uses : (ch : ChannelId) (room : ℕ) → P (take_step l ch room)
    unfolding take_step ends
    take-uses ch room = pick P (is_there l ch) (λ t. by-uses ch (slot_for l ch) _ _) (λ t. none _ refl)

    close-uses : (ch : ChannelId) → P (close_step l ch)
    unfolding close_step ends
    close-uses ch = pick P (is_there l ch && (slot_for l ch).has_remote) (λ t. none _ refl) (λ t. none _ refl)

    checked-uses : (whole : Bool) (o : Outcome) → P o → P (checked whole l o)
    unfolding checked
    checked-uses whole o h = pick P whole (λ t. pick P (stores_fit l.state.header.negotiated.config (length l.rx) (length l.store)) (λ u. h) (λ u. none _ refl)) (λ t. none _ refl)

    out-uses : (whole : Bool) (out : ℕ) (o : Outcome) → P o → P (checked_out whole l out o)
    unfolding checked_out
    out-uses whole out o h = checked-uses whole _ (pick P (ltb out 56) (λ t. none _ refl) (λ t. h))

-- of each call that a device's call may be
module _ (v : World) (r : List ℕ) (P : Outcome → Type 0) (none : (o : Outcome) → o.used ≡ 0 → P o)
    (four : (o : Outcome) (u : ℕ) → decode_of (bytes_in r) (lent v).state.header.negotiated.config.max_payload ≡ Err (SumInvalid u) → answer_number o.answer ≡ 4 → P o)
    (some : (o : Outcome) (k : Packet) → decode_of (bytes_in r) (lent v).state.header.negotiated.config.max_payload ≡ Ok (Some k) → P o) where
  pub call-uses : (x : DeviceCall) → P (outcome v (host_call x r))
  unfolding host_call outcome dispatch_outcome read_outcome write_outcome settle_outcome take_outcome close_outcome
  call-uses (device_dispatches out names received) =
      out-uses (lent v) (bytes_in r) P none four some (is_whole v.state) (length out) _ (dispatch-uses (lent v) (bytes_in r) P none four some)
  call-uses (device_reads out names ch buf received) =
      out-uses (lent v) (bytes_in r) P none four some (is_whole v.state) (length out) _ (read-uses (lent v) (bytes_in r) P none four some ch (length buf))
  call-uses (device_writes out names ch bytes received) =
      out-uses (lent v) (bytes_in r) P none four some (is_whole v.state) (length out) _ (write-uses (lent v) (bytes_in r) P none four some Beyond ch (length out) (bytes_in bytes))
  call-uses (device_settles out ch want) =
      out-uses (lent v) (bytes_in r) P none four some (is_whole v.state) (length out) _ (settle-uses (lent v) (bytes_in r) P none four some ch want)
  call-uses (device_takes ch buf) =
      checked-uses (lent v) (bytes_in r) P none four some (is_whole v.state) _ (take-uses (lent v) (bytes_in r) P none four some ch (length buf))
  call-uses (device_closes out ch) =
      out-uses (lent v) (bytes_in r) P none four some (is_whole v.state) (length out) _ (close-uses (lent v) (bytes_in r) P none four some ch)

module _ (v : World) where
  abbrev most : ℕ
  most = (lent v).state.header.negotiated.config.max_payload

  -- a packet that is decoded
  pub data Heard (r : List ℕ) : Type 0 where
    heard : (k : Packet) → decode_of (bytes_in r) most ≡ Ok (Some k) → Heard r

  -- where something is used that is no damaged frame, it is a packet
  pub used-heard : (x : DeviceCall) (r : List ℕ) → eqb (outcome v (host_call x r)).used 0 ≡ false → eqb (answer_number (outcome v (host_call x r)).answer) 4 ≡ false → Heard r
  used-heard x r =
      call-uses v r (λ (o : Outcome). eqb o.used 0 ≡ false → eqb (answer_number o.answer) 4 ≡ false → Heard r)
      (λ o e u n. absurd (true≢false (sym (eq-eqb o.used 0 e) ∙ u)))
      (λ o u d e z n. absurd (true≢false (sym (eq-eqb (answer_number o.answer) 4 e) ∙ n)))
      (λ o k e u n. heard k e) x

  -- of no bytes nothing is used
  pub used-none : (x : DeviceCall) → (outcome v (host_call x [])).used ≡ 0
  unfolding bytes_in decode_of
  used-none x = call-uses v [] (λ (o : Outcome). o.used ≡ 0) (λ o e. e) (λ o u d. absurd (cc)) (λ o k e. absurd (cc)) x
