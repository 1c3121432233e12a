-- One channel's numbers (docs/SCOPE.md, 4; slot.rs). A name in backquotes is the function of slot.rs that a definition follows.
-- Assumes nothing.
use Rattle.std.specs.Prelude.{ℕ, ◌+◌, ◌-◌, ◌*◌, ◌≤◌, min, Bool, true, false, not, cond, ◌&&◌, List, leb, ltb, eqb, ℤ, pos, ◌+ℤ◌, ◌-ℤ◌, Option, Some, None, Result, Ok, Err}
use Rattle.config.specs.declared.negotiated.RxPolicy.{RxPolicy}
use Rattle.saturate.specs.Saturate.{clamp, sat_sum, positive_part}
use Rattle.rx_store.specs.RxStore.{appended_head, taken_head}
use Rattle.slot.specs.declared.ids.LocalId.{LocalId}
use Rattle.slot.specs.declared.ids.RemoteId.{RemoteId}
use Rattle.slot.specs.declared.ids.ChannelIds.{ChannelIds}
use Rattle.credit.specs.Credit.{credit_of}
use Rattle.slot.specs.declared.ChannelState.{ChannelState}
use Rattle.slot.specs.declared.ChannelState.TheVariants.{Opening, Open, Closed}
use Rattle.slot.specs.declared.ChannelFault.{ChannelFault}
use Rattle.slot.specs.declared.ChannelError.{ChannelError}
use Rattle.slot.specs.declared.ChannelError.TheVariants.{Fault, Closed as ErrorClosed}
use Rattle.slot.specs.declared.ChannelSlot.{ChannelSlot}
use Rattle.slot.specs.declared.Settled.{Settled}
use Rattle.slot.specs.declared.Spending.{Spending}
use Rattle.slot.specs.declared.Spending.TheVariants.{Within, Beyond}
use Rattle.credit.specs.declared.CreditFault.{CreditFault}
use Rattle.slot.specs.declared.ChannelFault.TheVariants.{RxOverflow, UnexpectedCommand}

-- ---- a slot with one thing changed

-- its state
abbrev pub with_state : ChannelSlot → ChannelState → ChannelSlot
with_state s x =
    record {
      filled = s.filled;
      local = s.local;
      remote = s.remote;
      has_remote = s.has_remote;
      state = x;
      wrte_acked = s.wrte_acked;
      send_budget = s.send_budget;
      unacked = s.unacked;
      settled = s.settled;
      head = s.head;
      buffered = s.buffered;
      acked_total = s.acked_total;
      failed = s.failed;
    }

-- the device's number, known from now on
abbrev pub with_remote : ChannelSlot → RemoteId → ChannelSlot
with_remote s r =
    record {
      filled = s.filled;
      local = s.local;
      remote = r;
      has_remote = true;
      state = s.state;
      wrte_acked = s.wrte_acked;
      send_budget = s.send_budget;
      unacked = s.unacked;
      settled = s.settled;
      head = s.head;
      buffered = s.buffered;
      acked_total = s.acked_total;
      failed = s.failed;
    }

-- whether the last WRTE was acknowledged, and the budget
abbrev pub with_sending : ChannelSlot → Bool → ℤ → ChannelSlot
with_sending s acked budget =
    record {
      filled = s.filled;
      local = s.local;
      remote = s.remote;
      has_remote = s.has_remote;
      state = s.state;
      wrte_acked = acked;
      send_budget = budget;
      unacked = s.unacked;
      settled = s.settled;
      head = s.head;
      buffered = s.buffered;
      acked_total = s.acked_total;
      failed = s.failed;
    }

-- the numbers of received bytes: unacknowledged, set aside, where the run begins, its length
abbrev pub with_numbers : ChannelSlot → ℕ → ℕ → ℕ → ℕ → ChannelSlot
with_numbers s u d h b =
    record {
      filled = s.filled;
      local = s.local;
      remote = s.remote;
      has_remote = s.has_remote;
      state = s.state;
      wrte_acked = s.wrte_acked;
      send_budget = s.send_budget;
      unacked = u;
      settled = d;
      head = h;
      buffered = b;
      acked_total = s.acked_total;
      failed = s.failed;
    }

-- what our OKAYs allowed the device
abbrev pub with_total : ChannelSlot → ℕ → ChannelSlot
with_total s n =
    record {
      filled = s.filled;
      local = s.local;
      remote = s.remote;
      has_remote = s.has_remote;
      state = s.state;
      wrte_acked = s.wrte_acked;
      send_budget = s.send_budget;
      unacked = s.unacked;
      settled = s.settled;
      head = s.head;
      buffered = s.buffered;
      acked_total = n;
      failed = s.failed;
    }

-- ---- opening and accepting

-- `opening`
unfoldable pub opening_slot : LocalId → ChannelSlot
opening_slot l =
    record {
      filled = true;
      local = l;
      remote = record { 0 = 0 };
      has_remote = false;
      state = Opening;
      wrte_acked = true;
      send_budget = pos 0;
      unacked = 0;
      settled = 0;
      head = 0;
      buffered = 0;
      acked_total = 0;
      failed = None;
    }

-- a slot with no channel: all zero
unfoldable pub empty_slot : ChannelSlot
empty_slot =
    record {
      filled = false;
      local = record { 0 = 0 };
      remote = record { 0 = 0 };
      has_remote = false;
      state = Opening;
      wrte_acked = false;
      send_budget = pos 0;
      unacked = 0;
      settled = 0;
      head = 0;
      buffered = 0;
      acked_total = 0;
      failed = None;
    }

-- the place of a channel that we closed: nothing of it stays but the total
unfoldable pub emptied_slot : ChannelSlot → ChannelSlot
emptied_slot s = with_total empty_slot s.acked_total

-- still opening
unfoldable pub is_opening : ChannelState → Bool
is_opening Opening = true
is_opening Open = false
is_opening Closed = false

-- closed
unfoldable pub is_closed : ChannelState → Bool
is_closed Opening = false
is_closed Open = false
is_closed Closed = true

-- `accepted`: in delayed mode the OPEN's credit is the budget
unfoldable pub accepted_slot : ChannelIds → ℕ → RxPolicy → ChannelSlot
accepted_slot ids credit p =
    with_sending (with_state (with_remote (opening_slot ids.local) ids.remote) Open) true (cond p.delayed (pos credit) (pos 0))

-- `is_failed`
unfoldable pub is_failed : Option ChannelFault → Bool
is_failed None = false
is_failed (Some fault) = true

-- `ids`
unfoldable pub ids_of : ChannelSlot → Option ChannelIds
ids_of s = cond s.has_remote (Some (record { local = s.local; remote = s.remote })) None

-- `closed_error`
unfoldable pub error_of : Option ChannelFault → ChannelError
error_of None = ErrorClosed
error_of (Some fault) = Fault fault

-- `accept_open_ready`, once the credit is read
unfoldable pub opened_by : ChannelSlot → RemoteId → Result ℤ CreditFault → Result ChannelSlot CreditFault
opened_by s r (Ok z) = Ok (with_sending (with_state (with_remote s r) Open) s.wrte_acked z)
opened_by s r (Err f) = Err f

-- `accept_open_ready`: the device's number, and in delayed mode its credit as the budget
unfoldable pub opened_of : ChannelSlot → RemoteId → List ℕ → RxPolicy → Result ChannelSlot CreditFault
opened_of s r payload p = cond p.delayed (opened_by s r (credit_of payload)) (Ok (with_state (with_remote s r) Open))

-- `apply_ready`, once the credit is read
unfoldable pub ready_by : ChannelSlot → Result ℤ CreditFault → Result ChannelSlot CreditFault
ready_by s (Ok z) = Ok (with_sending s s.wrte_acked (clamp (s.send_budget +ℤ z)))
ready_by s (Err f) = Err f

-- `apply_ready`: in delayed mode the credit joins the budget, which stops at the ends of its range
unfoldable pub ready_of : ChannelSlot → List ℕ → RxPolicy → Result ChannelSlot CreditFault
ready_of s payload p = cond p.delayed (ready_by s (credit_of payload)) (Ok (with_sending s true s.send_budget))

-- ---- received bytes

-- held: buffered − set aside
unfoldable pub held_of : ChannelSlot → ℕ
held_of s = s.buffered - s.settled

-- a WRTE that leaves this many bytes held is acknowledged at once: not delayed, below the watermark, remote number known
unfoldable pub acks_now : ChannelSlot → RxPolicy → ℕ → Bool
acks_now s p held = cond p.delayed false (cond (ltb held p.watermark) s.has_remote false)

-- n bytes more behind the run, with this many unacknowledged
unfoldable pub buffered_with : ChannelSlot → RxPolicy → ℕ → ℕ → ChannelSlot
buffered_with s p n u = with_numbers s u s.settled (appended_head (2 * p.rx_cap) s.head s.buffered n) (s.buffered + n)

-- a slot, and the acknowledgement that is due
abbrev pub acked : ChannelSlot → Option ℕ → Settled
acked s a = record { slot = s; ack = a }

-- `apply_write` of n bytes: too early (6), over the cap (11), acknowledged at once, or held
unfoldable pub wrote_of : ChannelSlot → RxPolicy → ℕ → Result Settled ChannelFault
wrote_of s p n =
    cond (is_opening s.state) (Err UnexpectedCommand)
    (cond (ltb p.rx_cap (held_of s + n)) (Err RxOverflow)
    (cond (acks_now s p (held_of s + n)) (Ok (acked (buffered_with s p n 0) (Some n)))
    (Ok (acked (buffered_with s p n (sat_sum s.unacked n)) None))))

-- a length, or a budget, above 0
unfoldable pub some_len : ℕ → Option ℕ
some_len n = cond (eqb n 0) None (Some n)

-- the total where an OKAY for k bytes is written: in delayed mode it carries them; it stops at the largest value
unfoldable pub total_with : RxPolicy → ℕ → ℕ → ℕ
total_with p total k = cond p.delayed (sat_sum total k) total

-- `deliver`: n bytes of a WRTE went straight to the reader and are not added to what is unacknowledged
unfoldable pub delivered_of : ChannelSlot → RxPolicy → ℕ → Settled
delivered_of s p n =
    cond p.delayed
    (cond s.has_remote (acked (with_total s (total_with p s.acked_total n)) (some_len n)) (acked s None))
    (cond (leb p.watermark s.buffered) (acked s None)
    (cond s.has_remote (acked (with_numbers s 0 s.settled s.head s.buffered) (Some s.unacked)) (acked s None)))

-- `ack_len`: what to acknowledge where n bytes are set aside and `remaining` stay
unfoldable pub ack_len_of : ChannelSlot → RxPolicy → ℕ → ℕ → Option ℕ
ack_len_of s p n remaining =
    cond (eqb s.unacked 0) None
    (cond p.delayed (some_len (min n s.unacked)) (cond (ltb remaining p.watermark) (Some s.unacked) None))

-- `has_data`
unfoldable pub has_data : ChannelSlot → Bool
has_data s = cond s.has_remote (not (eqb s.buffered 0)) false

-- n bytes set aside, if an acknowledgement is due
unfoldable pub settled_by : ChannelSlot → RxPolicy → ℕ → Option ℕ → Settled
settled_by s p n (Some k) =
    acked (with_total (with_numbers s (s.unacked - k) n s.head s.buffered) (total_with p s.acked_total k)) (Some k)
settled_by s p n None = acked s None

-- `settle_take` of n bytes that are buffered, with none set aside
unfoldable pub settled_some : ChannelSlot → RxPolicy → ℕ → Settled
settled_some s p n = settled_by s p n (ack_len_of s p n (s.buffered - n))

-- `settle_take`: as many bytes as are wanted and there, unless some are set aside already
unfoldable pub settled_of : ChannelSlot → RxPolicy → ℕ → Settled
settled_of s p want =
    cond s.has_remote (cond (eqb s.settled 0) (settled_some s p (min want s.buffered)) (acked s None)) (acked s None)

-- bytes that a read into `room` bytes takes: those set aside, or all where none are
unfoldable pub take_len : ChannelSlot → ℕ → ℕ
take_len s room = min room (cond (eqb s.settled 0) s.buffered s.settled)

-- n bytes less at the front of the run
unfoldable pub took_of : ChannelSlot → ℕ → ChannelSlot
took_of s n = with_numbers s s.unacked (s.settled - min n s.settled) (taken_head s.head s.buffered n) (s.buffered - n)

-- `take_buffered`, the numbers of it: data, closed, or nothing yet
unfoldable pub taken_of : ChannelSlot → ℕ → Result (Option (ChannelSlot × ℕ)) ChannelError
taken_of s room =
    cond (has_data s) (Ok (Some (took_of s (take_len s room), take_len s room)))
    (cond (is_closed s.state) (Err (error_of s.failed)) (Ok None))

-- an acknowledgement is due
unfoldable pub is_ack : Option ℕ → Bool
is_ack (Some n) = true
is_ack None = false

-- `take_acks`
unfoldable pub take_acks : ChannelSlot → RxPolicy → ℕ → Bool
take_acks s p want =
    cond (has_data s) (cond (eqb s.settled 0) (is_ack (ack_len_of s p (min want s.buffered) (s.buffered - min want s.buffered))) false) false

-- ---- sending

-- `budget`: a budget of 0 or below sends nothing; not delayed, any length after the last WRTE's OKAY
unfoldable pub budget_of : ChannelSlot → RxPolicy → Option ℕ
budget_of s p =
    cond p.delayed (some_len (positive_part s.send_budget)) (cond s.wrte_acked (Some 0xffff_ffff_ffff_ffff) None)

-- once the budget is known: no more than it, or, where there is one, any length
unfoldable pub leave_by : Spending → Option ℕ → Option ℕ
leave_by Within most = most
leave_by Beyond (Some n) = Some 0xffff_ffff_ffff_ffff
leave_by Beyond None = None

-- how many bytes a WRTE may have now
unfoldable pub leave_of : Spending → ChannelSlot → RxPolicy → Option ℕ
leave_of spending s p = leave_by spending (budget_of s p)

-- `spend`
unfoldable pub spent_of : ChannelSlot → RxPolicy → ℕ → ChannelSlot
spent_of s p n =
    cond p.delayed (with_sending s s.wrte_acked (clamp (s.send_budget -ℤ pos (min n 9223372036854775807))))
    (with_sending s false s.send_budget)

-- `refund`
unfoldable pub refunded_of : ChannelSlot → RxPolicy → ℕ → ChannelSlot
refunded_of s p n =
    cond p.delayed (with_sending s s.wrte_acked (clamp (s.send_budget +ℤ pos (min n 9223372036854775807))))
    (with_sending s true s.send_budget)

-- `try_reserve_send`, once the budget is known
unfoldable pub reserved_by : ChannelSlot → RxPolicy → ℕ → Option ℕ → Option (ChannelSlot × ℕ)
reserved_by s p want (Some most) = Some (spent_of s p (min most want), min most want)
reserved_by s p want None = None

-- `try_reserve_send`
unfoldable pub reserved_of : ChannelSlot → RxPolicy → ℕ → Option (ChannelSlot × ℕ)
reserved_of s p want = reserved_by s p want (budget_of s p)

-- ---- closing

-- `apply_close`: nothing is unacknowledged any more
unfoldable pub closed_slot : ChannelSlot → ChannelSlot
closed_slot s = with_numbers (with_state s Closed) 0 s.settled s.head s.buffered

-- `fail`
unfoldable pub failed_slot : ChannelSlot → ChannelFault → ChannelSlot
failed_slot s fault =
    record {
      filled = s.filled;
      local = s.local;
      remote = s.remote;
      has_remote = s.has_remote;
      state = Closed;
      wrte_acked = s.wrte_acked;
      send_budget = s.send_budget;
      unacked = 0;
      settled = s.settled;
      head = s.head;
      buffered = s.buffered;
      acked_total = s.acked_total;
      failed = Some fault;
    }

-- ---- what the numbers of received bytes satisfy

-- settled within buffered and within cap, held within cap, the run within the share of 2 × cap bytes
unfoldable pub slot_ok : ChannelSlot → ℕ → Bool
slot_ok s cap =
    leb s.settled s.buffered && leb s.settled cap && leb (s.buffered - s.settled) cap && leb (s.head + s.buffered) (2 * cap)

-- the same as facts, under the largest cap
pub record SlotOk (s : ChannelSlot) (cap : ℕ) : Type 0 where
  pub settled-buffered : s.settled ≤ s.buffered
  pub settled-cap : s.settled ≤ cap
  pub held-cap : s.buffered - s.settled ≤ cap
  pub run_fits : s.head + s.buffered ≤ 2 * cap
  pub cap-small : cap ≤ 16777216
