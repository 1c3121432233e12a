-- What a read leaves that is handed no bytes. Assumes nothing.
use Rattle.std.proofs.Common.{[], Option, Some, None, Result, Ok, Err, ℕ, append-nil}
use Rattle.le.proofs.RowLaws.{never}
use Rattle.config.specs.declared.negotiated.Negotiated.{Negotiated}
use Rattle.slot.specs.declared.ChannelError.{ChannelError}
use Rattle.slot.specs.declared.ChannelSlot.{ChannelSlot}
use Rattle.slot.specs.Slot.{settled_of, taken_of}
use Rattle.slot.proofs.Kept.{pick}
use Rattle.table.specs.declared.ChannelId.{ChannelId}
use Rattle.connection.specs.Calls.{Lent, begun, then, dropped, ends, policy, is_there, slot_for, ack_frames, read_by, read_taken, read_first, read_step}
use Rattle.device.specs.Device.{is_waiting}
use Rattle.device.proofs.CalledLaws.{ShortWait}
use Rattle.device.proofs.MeetLaws.{ack-short, nothing-received}

module _ (n : Negotiated) where
  module _ (l : Lent) (ch : ChannelId) (room : ℕ) where
    taken_short : (s : ChannelSlot) (a : Option ℕ) (t : Result (Option (ChannelSlot × ℕ)) ChannelError)
        → ShortWait n (read_taken l ch room (then (begun (dropped l.state.header) l) [] (ack_frames s a)) s [] t)
    unfolding read_taken read_by ends is_waiting
    taken_short s a (Ok (Some (t, k))) = λ e. never e
    taken_short s a (Ok None) =
        pick (ShortWait n) s.has_remote
        (λ h. rw (nothing-received l) (λ e. rw (append-nil (ack_frames s a)) (ack-short n s a)))
        (λ h e. never e)
    taken_short s a (Err x) = λ e. never e

    pub read-short : ShortWait n (read_step l ch room [])
    unfolding read_step read_first ends is_waiting
    read-short =
        pick (ShortWait n) (is_there l ch)
        (λ t. taken_short (settled_of (slot_for l ch) (policy l) room).slot (settled_of (slot_for l ch) (policy l) room).ack
        (taken_of (settled_of (slot_for l ch) (policy l) room).slot room))
        (λ t e. never e)
