-- What a write leaves that is handed no bytes. Assumes nothing.
use Rattle.std.proofs.Common.{List, [], Option, Some, None, ℕ, ◌+◌, eqb, ltb, length, arith}
use Rattle.le.specs.Rows.{flat}
use Rattle.le.proofs.RowLaws.{never}
use Rattle.config.specs.declared.negotiated.Negotiated.{Negotiated}
use Rattle.slot.specs.declared.ChannelSlot.{ChannelSlot}
use Rattle.slot.specs.declared.Spending.{Spending}
use Rattle.slot.specs.Slot.{is_closed, leave_of}
use Rattle.slot.proofs.Kept.{pick}
use Rattle.table.specs.declared.ChannelId.{ChannelId}
use Rattle.connection.specs.Calls.{Lent, begun, dropped, ends, policy, is_there, slot_for, send_some, send_len, write_by, write_first, write_on, write_step}
use Rattle.connection.specs.Frames.{frames_bytes}
use Rattle.protocol.specs.Message.{message_size}
use Rattle.device.specs.Device.{is_waiting}
use Rattle.device.proofs.CalledLaws.{ShortWait}
use Rattle.device.proofs.MeetLaws.{nothing-received}

module _ (n : Negotiated) (spending : Spending) (l : Lent) (ch : ChannelId) (out : ℕ) (bytes : List ℕ) where
  some_short : (s : ChannelSlot) (k : ℕ) → ShortWait n (send_some l ch out bytes 0 (begun (dropped l.state.header) l) s k)
  unfolding send_some ends is_waiting
  some_short s k = pick (ShortWait n) (ltb out (length (frames_bytes l.state.header.negotiated []) + message_size + k)) (λ t e. never e) (λ t e. never e)

  first_short : (s : ChannelSlot) (a : Option ℕ) → ShortWait n (write_first spending l ch out bytes [] (begun (dropped l.state.header) l) s a)
  unfolding write_first write_by ends is_waiting frames_bytes flat
  first_short s (Some most) = some_short s (send_len l bytes most)
  first_short s None = pick (ShortWait n) s.has_remote (λ h. rw (nothing-received l) (λ e. omega arith)) (λ h e. never e)

  pub write_short : ShortWait n (write_step spending l ch out bytes [])
  unfolding write_step write_on ends is_waiting
  write_short =
      pick (ShortWait n) (eqb (length bytes) 0) (λ t e. never e)
      (λ t. pick (ShortWait n) (is_there l ch)
      (λ u. pick (ShortWait n) (is_closed (slot_for l ch).state) (λ v e. never e) (λ v. first_short (slot_for l ch) (leave_of spending (slot_for l ch) (policy l))))
      (λ u e. never e))
