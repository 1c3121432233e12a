-- A connection's state, and its bytes (docs/LAYOUT.md). Assumes nothing.
use Rattle.std.specs.Prelude.{ℕ, ◌+◌, ◌*◌, ◌/◌, ◌%◌, Bool, true, false, cond, ◌&&◌, List, ◌++◌, leb, eqb, length, get_or, set, drop, Option, Some, None, Result, Ok, Err}
use Rattle.le.specs.Le.{num_of, bytes_of, signed, unsigned, part, put}
use Rattle.credit.specs.declared.CreditFault.TheVariants.{Short, Long, Negative}
use Rattle.slot.specs.declared.ChannelFault.TheVariants.{RxOverflow, BadCredit, UnexpectedCommand}
use Rattle.slot.specs.declared.ChannelSlot.{ChannelSlot}
use Rattle.slot.specs.declared.ChannelState.{ChannelState}
use Rattle.slot.specs.declared.ChannelState.TheVariants.{Opening, Open, Closed}
use Rattle.state.specs.declared.Header.{Header}
use Rattle.state.specs.declared.Pending.{Pending}
use Rattle.state.specs.declared.Pending.TheVariants.{Nothing as NothingPending, Opening as OursPending, Offer}
use Rattle.state.specs.declared.QueuedOpen.{QueuedOpen}
use Rattle.le.specs.Rows.{flat, rows, all_is}
use Rattle.slot.specs.declared.ChannelFault.{ChannelFault}

-- ---- where things lie: a header, 64 slots, 64 places for queued opens

-- the length of the header
abbrev pub header_len : ℕ
header_len = 58

-- where a slot's byte of flags and tags lies, behind its numbers
abbrev pub tag_at : ℕ
tag_at = 44

-- the length of a slot
abbrev pub slot_len : ℕ
slot_len = tag_at + 1

-- the length of a queued open
abbrev pub queued_len : ℕ
queued_len = 24

-- where the queued opens begin: behind the header and 64 slots
abbrev pub queue_at : ℕ
queue_at = header_len + 64 * slot_len

-- the length of a state
abbrev pub state_len : ℕ
state_len = queue_at + 64 * queued_len

-- the state, with no bytes in it: 64 slots and 64 places for queued opens
pub record Connection : Type 0 where
  pub header : Header
  pub slots : List ChannelSlot
  pub queue : List QueuedOpen

-- ---- flags and tags

-- a flag is a byte that is 1 for yes and 0 for no
abbrev pub flag_of : ℕ → Bool
flag_of b = eqb b 1

-- the byte of a flag
abbrev pub flag_byte : Bool → ℕ
flag_byte f = cond f 1 0

-- 0 opening, 1 open, 2 closed
abbrev pub state_of_tag : ℕ → ChannelState
state_of_tag b = cond (eqb b 0) Opening (cond (eqb b 1) Open Closed)

-- the number of a state
abbrev pub state_tag : ChannelState → ℕ
state_tag Opening = 0
state_tag Open = 1
state_tag Closed = 2

-- 0 no fault, 1 overflow, 2 a short credit, 3 a WRTE too early, 4 a long credit, 5 a negative one
abbrev pub failed_of_tag : ℕ → Option ChannelFault
failed_of_tag b =
    cond (eqb b 0) None
    (cond (eqb b 1) (Some RxOverflow)
    (cond (eqb b 2) (Some (BadCredit Short))
    (cond (eqb b 3) (Some UnexpectedCommand) (cond (eqb b 4) (Some (BadCredit Long)) (Some (BadCredit Negative))))))

-- the number of a fault
abbrev pub failed_tag : Option ChannelFault → ℕ
failed_tag None = 0
failed_tag (Some RxOverflow) = 1
failed_tag (Some (BadCredit Short)) = 2
failed_tag (Some UnexpectedCommand) = 3
failed_tag (Some (BadCredit Long)) = 4
failed_tag (Some (BadCredit Negative)) = 5

-- 0 nothing is pending, 1 an open of ours, 2 an offer
abbrev pub pending_of_tag : ℕ → Pending
pending_of_tag b = cond (eqb b 0) NothingPending (cond (eqb b 1) OursPending Offer)

-- the number of what is pending
abbrev pub pending_tag : Pending → ℕ
pending_tag NothingPending = 0
pending_tag OursPending = 1
pending_tag Offer = 2

-- whether it is an open of ours
abbrev pub is_ours : Pending → Bool
is_ours NothingPending = false
is_ours OursPending = true
is_ours Offer = false

-- whether it is an offer: an open of the device's that was taken and is not decided
abbrev pub is_offer : Pending → Bool
is_offer NothingPending = false
is_offer OursPending = false
is_offer Offer = true

-- ---- a slot

-- its numbers, budget, bytes unacknowledged, and what our OKAYs allowed: 32 bytes
unfoldable pub slot_numbers : ChannelSlot → List ℕ
slot_numbers s =
    bytes_of 4 s.local.0 ++ bytes_of 4 s.remote.0 ++ bytes_of 8 (unsigned 63 s.send_budget) ++ bytes_of 8 s.unacked
    ++ bytes_of 8 s.acked_total

-- what is set aside, where the run begins, its length: 12 bytes
unfoldable pub slot_counts : ChannelSlot → List ℕ
slot_counts s = bytes_of 4 s.settled ++ bytes_of 4 s.head ++ bytes_of 4 s.buffered

-- flags and tags in one byte: filled, remote number known, last WRTE acknowledged (1 bit each), state (2 bits), fault
unfoldable pub tag_of : ChannelSlot → ℕ
tag_of s =
    flag_byte s.filled + 2 * flag_byte s.has_remote + 4 * flag_byte s.wrte_acked + 8 * state_tag s.state + 32 * failed_tag s.failed

-- its numbers and counts, then the byte of flags and tags
unfoldable pub slot_bytes : ChannelSlot → List ℕ
slot_bytes s = slot_numbers s ++ slot_counts s ++ bytes_of 1 (tag_of s)

-- the slot that bytes stand for
unfoldable pub slot_of : List ℕ → ChannelSlot
slot_of l =
    record {
      filled = flag_of (get_or l tag_at 0 % 2);
      local = record { 0 = num_of (part l 0 4) };
      remote = record { 0 = num_of (part l 4 4) };
      has_remote = flag_of (get_or l tag_at 0 / 2 % 2);
      state = state_of_tag (get_or l tag_at 0 / 2 / 2 / 2 % 4);
      wrte_acked = flag_of (get_or l tag_at 0 / 2 / 2 % 2);
      send_budget = signed 63 (num_of (part l 8 8));
      unacked = num_of (part l 16 8);
      settled = num_of (part l 32 4);
      head = num_of (part l 36 4);
      buffered = num_of (part l 40 4);
      acked_total = num_of (part l 24 8);
      failed = failed_of_tag (get_or l tag_at 0 / 2 / 2 / 2 / 4);
    }

-- a tag in range: one of the three states, and a fault of at most 5
unfoldable pub is_tag : ℕ → Bool
is_tag t = leb t 191 && leb (t / 2 / 2 / 2 % 4) 2

-- bytes that are a slot's
unfoldable pub is_slot : List ℕ → Bool
is_slot l = is_tag (get_or l tag_at 0)

-- ---- a queued open

-- its four numbers
unfoldable pub queued_bytes : QueuedOpen → List ℕ
queued_bytes q = bytes_of 4 q.remote.0 ++ bytes_of 4 q.credit ++ bytes_of 8 q.share ++ bytes_of 8 q.length

-- the queued open that bytes stand for
unfoldable pub queued_of : List ℕ → QueuedOpen
queued_of l = record { remote = record { 0 = num_of (part l 0 4) }; credit = num_of (part l 4 4); share = num_of (part l 8 8); length = num_of (part l 16 8) }

-- an entry of zeros, for places past the end
abbrev pub none_queued : QueuedOpen
none_queued = record { remote = record { 0 = 0 }; credit = 0; share = 0; length = 0 }

-- ---- the header

-- the numbers of 8 bytes
unfoldable pub header_sizes : Header → List ℕ
header_sizes h =
    bytes_of 8 h.negotiated.config.channels ++ bytes_of 8 h.negotiated.config.max_rx_per_channel
    ++ bytes_of 8 h.pending.slot ++ bytes_of 8 h.queued

-- the numbers of 4 bytes
unfoldable pub header_words : Header → List ℕ
header_words h =
    bytes_of 4 h.negotiated.config.max_payload ++ bytes_of 4 h.negotiated.config.initial_ack_bytes
    ++ bytes_of 4 h.negotiated.max_payload ++ bytes_of 4 h.negotiated.protocol_version
    ++ bytes_of 4 h.next_local ++ bytes_of 4 h.pending.local.0

-- the mode's flag, and what is pending
unfoldable pub header_tags : Header → List ℕ
header_tags h = bytes_of 1 (flag_byte h.negotiated.delayed_ack) ++ bytes_of 1 (pending_tag h.pending.what)

-- the whole header
unfoldable pub state_header : Header → List ℕ
state_header h = header_sizes h ++ header_words h ++ header_tags h

-- the header that bytes begin with
unfoldable pub header_of : List ℕ → Header
header_of l =
    record {
      negotiated =
          record {
            max_payload = num_of (part l 40 4);
            protocol_version = num_of (part l 44 4);
            config =
                record {
                  channels = num_of (part l 0 8);
                  max_payload = num_of (part l 32 4);
                  max_rx_per_channel = num_of (part l 8 8);
                  initial_ack_bytes = num_of (part l 36 4);
                };
            delayed_ack = flag_of (get_or l 56 0);
          };
      next_local = num_of (part l 48 4);
      pending = record { what = pending_of_tag (get_or l 57 0); slot = num_of (part l 16 8); local = record { 0 = num_of (part l 52 4) } };
      queued = num_of (part l 24 8);
    }

-- ---- the whole: header, 64 slots, 64 queued opens

-- the bytes of a state
unfoldable pub layout : Connection → List ℕ
layout c = state_header c.header ++ flat slot_bytes c.slots ++ flat queued_bytes c.queue

-- the state that bytes stand for
unfoldable pub state_of : List ℕ → Connection
state_of b = record { header = header_of b; slots = rows slot_len slot_of 64 (drop header_len b); queue = rows queued_len queued_of 64 (drop queue_at b) }

-- bytes that are a state's: enough of them, flags and tags in range
unfoldable pub is_state : List ℕ → Bool
is_state b = leb state_len (length b) && leb (get_or b 56 0) 1 && leb (get_or b 57 0) 2 && all_is slot_len is_slot 64 (drop header_len b)

-- ---- one record of it, in place

-- the slot at place i
unfoldable pub slot_at : List ℕ → ℕ → ChannelSlot
slot_at b i = slot_of (part b (header_len + i * slot_len) slot_len)

-- the queued open at place i
unfoldable pub queued_at : List ℕ → ℕ → QueuedOpen
queued_at b i = queued_of (part b (queue_at + i * queued_len) queued_len)

-- s stored as the slot at place i
unfoldable pub put_slot : List ℕ → ℕ → ChannelSlot → List ℕ
put_slot b i s = put b (header_len + i * slot_len) (slot_bytes s)

-- q stored as the queued open at place i
unfoldable pub put_queued : List ℕ → ℕ → QueuedOpen → List ℕ
put_queued b i q = put b (queue_at + i * queued_len) (queued_bytes q)

-- h stored as the header
unfoldable pub put_header : List ℕ → Header → List ℕ
put_header b h = put b 0 (state_header h)

-- the record with s as the slot at place i
abbrev pub with_slot : Connection → ℕ → ChannelSlot → Connection
with_slot c i s = record { header = c.header; slots = set c.slots i s; queue = c.queue }

-- the record with another header
abbrev pub with_header : Connection → Header → Connection
with_header c h = record { header = h; slots = c.slots; queue = c.queue }

-- the record with q as the queued open at place i
abbrev pub with_queued_at : Connection → ℕ → QueuedOpen → Connection
with_queued_at c i q = record { header = c.header; slots = c.slots; queue = set c.queue i q }
