-- The books of two short runs, one in each mode, computed. What each call is said to give, and each slot after the last one, was
-- recorded from libadb's core (commit 39d2221f4e) on the same bytes (oracle/scripts/ledger.txt). Two more, of what
-- writes take off a budget, are not from there. Assumes nothing.
use Prim.Native.Nat.{ℕ, zero, suc, ◌^◌, ◌≤◌, ◌<◌}
use native.Mathlib.Nat.{le_refl}
use native.Mathlib.Omega.{arith}
use mathlib.Core.Path.{◌≡◌, refl, ap}
use mathlib.Core.Bool.{Bool, true, false}
use mathlib.Core.List.{List, [], ◌∷◌, ◌++◌, map}
use lib.IntN.{ℤ, pos, negsuc}
use lib.ListN.{length, take, set, get_or, replicate}
use Rattle.config.specs.declared.ConnectionConfig.{ConnectionConfig}
use Rattle.config.specs.declared.negotiated.RxPolicy.{RxPolicy}
use Rattle.table.specs.declared.ChannelId.{ChannelId}
use Rattle.le.specs.Le.{num_of, bytes_of, signed, unsigned, part, put}
use Rattle.saturate.specs.Saturate.{clamp, sat_sum, positive_part}
use Rattle.rx_store.specs.RxStore.{slid, fits_behind, appended_head, appended, taken_head, share_of, buffered_in, front_of}
use Rattle.config.specs.Config.{within_limits, cap_of, ceiling_of, watermark_of, opening_credit, rx_store_len, open_store_len, stores_fit}
use Rattle.config.specs.Negotiated.{both, negotiated_of, policy_of, offered_credit as credit_of-config}
use Rattle.checksum.specs.Checksum.{total, sum_of, policy_for, check_for}
use Rattle.protocol.specs.Command.{letters_of, word_of, magic_of, commands, among_of, command_of, is_open, is_ready, is_close, is_write, is_the}
use Rattle.protocol.specs.Message.{message_of, header_bytes}
use Rattle.protocol.specs.Packet.{payload_of, check_passes, packet_of, known_of, named_of, decode_of, used_of, message_for, packet_bytes as frame_bytes-protocol}
use Rattle.slot.specs.Ids.{named_by, closed_by}
use Rattle.credit.specs.Credit.{credit_of, at_least_zero}
use Rattle.slot.specs.declared.Spending.{Spending}
use Rattle.slot.specs.declared.Spending.TheVariants.{Within, Beyond}
use Rattle.slot.specs.Slot.{emptied_slot, total_with, opening_slot, empty_slot, is_opening, is_closed, is_failed, opened_by, opened_of, ready_of, held_of as held_of-slot, acks_now, buffered_with, wrote_of, some_len, delivered_of, ack_len_of, has_data, settled_by, settled_some, settled_of, take_len, took_of, taken_of, budget_of, leave_by, leave_of, spent_of, closed_slot, slot_ok}
use Rattle.wire.specs.Wire.{credit_bytes, okay_bytes, close_bytes}
use Rattle.le.specs.Rows.{flat, rows, all_is}
use Rattle.state.specs.State.{state_len, slot_numbers, slot_counts, tag_of, slot_bytes, slot_of, is_tag, is_slot, queued_bytes, header_sizes, header_words, header_tags, state_header as header_bytes-state, header_of, layout, state_of, is_state, put_slot, put_header}
use Rattle.state_whole.specs.Whole.{filled_ok, slot_fine, slots_fine, queue_fine, pending_fine, offer_fine, opens_fine, header_fine, filled_at, whole, is_whole}
use Rattle.table.specs.Table.{first, wanted_by, place_of, next_local_id, allocated, slot_in}
use Rattle.table_dispatch.specs.Dispatch.{named_place, remote_place, closed_at, close_of, wrote_by, wrote_at, write_of, route_of, dispatch_of}
use Rattle.connection.specs.Frames.{frame_bytes, frames_bytes}
use Rattle.connection.specs.Act.{acted_by, table_of, act_on}
use Rattle.connection.specs.Answer.{answer_number, ack_length, refusal_word, answer_values}
use Rattle.connection.proofs.RunFrames.{OPEN, OKAY, WRTE, CLSE}
use Rattle.connection.specs.Calls.{Outcome, written_by, ends, checked, checked_out, is_there, slot_for, ack_frames, unless_fault, received_by, received_of, fresh, make_of, dispatch_by, dispatch_step, settled_as, settle_step, taken_by, take_step, reread, read_settled, read_acted, is_direct, read_direct, read_by, read_taken, read_first, read_step, send_len, send_some, send_by, send_again, write_readied, write_acted, write_act, write_by, write_first, write_on, write_step, close_step, open_on, still_pending, open_readied, open_acted, open_by, open_step, open_outcome, dispatch_outcome, settle_outcome, take_outcome, read_outcome, write_outcome, close_outcome}
use Rattle.history.specs.Run.{World, Call, open_call, dispatch_call, settle_call, take_call, read_call, write_call, close_call, Start, begins, policy_in, bytes_in, out_of, buf_of, outcome, after, after_all, made}
use Rattle.history.specs.Seen.{Event, seen_of, held_of, said_by, count_of, sent_by, sent_in, seen_in, events_of}
use Rattle.history.specs.Book.{Book, Ledger, no_book, clean, book_at, book_slot, new_aside, credit_in, acks_of, last_open, frame_b, damaged_b, packet_b, read_used_b, read_b, write_b, entry_on, opened_b, acks_b, book_after, each_place, entry, ledger_of}
use Rattle.history.specs.Demand3.{place_slot, run_of}
use Rattle.history.specs.Numbers.{opens_in, given_by, given_in}

-- ---- runs, and what is told of them

-- a call, and what its caller is given: number, bytes used and the answer's first two values; bytes written; bytes handed over
pub record Step : Type 0 where
  pub call : Call
  pub said : List (List ℕ)

abbrev step : Call → ℕ → ℕ → ℕ → ℕ → List ℕ → List ℕ → Step
step call number used a b written handed = record { call = call; said = (number ∷ used ∷ a ∷ b ∷ []) ∷ written ∷ handed ∷ [] }

-- with no values, nothing written and nothing handed over
abbrev quiet : Call → ℕ → ℕ → Step
quiet call number used = step call number used 0 0 [] []

abbrev calls_in : List Step → List Call
calls_in steps = map (λ (s : Step). s.call) steps

abbrev said_in : List Step → List (List (List ℕ))
said_in steps = map (λ (s : Step). s.said) steps

-- the mode; what each caller is given; how many local numbers are given out; the ledger and both slots after the last call
pub record Gives : Type 0 where
  pub delayed : Bool
  pub said : List (List (List ℕ))
  pub given : ℕ
  pub ledger : Ledger
  pub slots : List (List ℕ)

-- ---- what is computed

-- what the books are fed with; for the frames, the bytes that they are read from
abbrev told_by : Event → List (List ℕ)
told_by e = ((seen_of e).number ∷ (seen_of e).used ∷ take 2 (seen_of e).values) ∷ take e.held.written e.held.out ∷ (seen_of e).got ∷ []

-- a slot: bytes unacknowledged and set aside; bytes buffered
abbrev slot : ℕ → ℕ → List ℕ → List (List ℕ)
slot unacked settled buffered = (unacked ∷ settled ∷ []) ∷ buffered ∷ []

abbrev slot_at : RxPolicy → World → ℕ → List (List ℕ)
slot_at p w i = slot (place_slot w i).unacked (place_slot w i).settled (run_of w.rx p.rx_cap i (place_slot w i))

abbrev gives_by : RxPolicy → List Event → World → Gives
gives_by p es w =
    record { delayed = p.delayed; said = map told_by es; given = given_in es; ledger = ledger_of p clean es; slots = slot_at p w 0 ++ slot_at p w 1 }

abbrev gives : Start → List Call → Gives
gives s cs = gives_by (policy_in s) (events_of (begins s) cs) (after_all (begins s) cs)

-- ---- what is lent

-- bytes of any value
abbrev some : ℕ → List ℕ
some n = replicate n 90

-- 2 channels, cap 16, opening credit 8
abbrev limits : ConnectionConfig
limits = record { channels = 2; max_payload = 8; max_rx_per_channel = 16; initial_ack_bytes = 8 }

pub limits-kept : within_limits limits ≡ true
unfolding within_limits
limits-kept = refl

pub state-long : state_len ≤ length (some state_len)
state-long = le_refl state_len

-- host: whether we list delayed acknowledgement, as the device does; most: the longest payload that the device takes
abbrev starts : Bool → ℕ → Start
starts host most =
    record {
      config = limits;
      version = 0x0100_0001;
      most = most;
      host = host;
      device = true;
      state = some state_len;
      rx = some 64;
      store = some 16;
      within = limits-kept;
      long = state-long;
    }

-- ---- calls, each with an outgoing buffer of 56 bytes

abbrev channel : ℕ → ℕ → ChannelId
channel i n = record { slot = i; local = record { 0 = n } }

abbrev opens : List ℕ → List ℕ → Call
opens destination received = open_call (some 56) destination received

abbrev dispatches : List ℕ → Call
dispatches received = dispatch_call (some 56) received

abbrev settles : ℕ → ℕ → ℕ → Call
settles i n want = settle_call (some 56) (channel i n) want

abbrev takes : ℕ → ℕ → ℕ → Call
takes i n room = take_call (channel i n) (some room)

abbrev reads : ℕ → ℕ → ℕ → List ℕ → Call
reads i n room received = read_call (some 56) (channel i n) (some room) received

abbrev writes : ℕ → ℕ → List ℕ → List ℕ → Call
writes i n bytes received = write_call Within (some 56) (channel i n) bytes received

abbrev closes : ℕ → ℕ → Call
closes i n = close_call (some 56) (channel i n)

-- a credit below 256
abbrev credit : ℕ → List ℕ
credit n = n ∷ 0 ∷ 0 ∷ 0 ∷ []

-- the n numbers from k on
abbrev from : ℕ → ℕ → List ℕ
from k zero = []
from k (suc n) = k ∷ from (suc k) n

-- ---- delayed mode

abbrev delayed : Start
delayed = starts true 4

-- a WRTE with a wrong check counts in sent alone. The second channel's device breaks its rule, meets 11, and closes by a CLSE
-- that leaves our number out
abbrev delayed_steps : List Step
delayed_steps =
    step (opens (97 ∷ []) []) 100 0 0 0 (OPEN 1 8 (97 ∷ [])) []
    ∷ step (opens [] (OKAY 7 1 (credit 4))) 0 28 0 1 [] []
    ∷ step (reads 0 1 4 (WRTE 7 1 (from 1 3))) 0 27 3 0 (OKAY 1 7 (credit 3)) (from 1 3)
    ∷ step (reads 0 1 2 (WRTE 7 1 (from 4 4))) 0 28 2 0 (OKAY 1 7 (credit 2)) (from 4 2)
    ∷ step (opens (98 ∷ []) []) 100 0 0 0 (OPEN 2 8 (98 ∷ [])) []
    ∷ quiet (opens [] (WRTE 7 1 (from 8 2))) 100 26
    ∷ step (opens [] (OKAY 9 2 (credit 4))) 0 28 1 2 [] []
    ∷ quiet (reads 1 2 4 (WRTE 7 1 (from 10 3))) 100 27
    ∷ step (settles 0 1 5) 0 0 5 0 (OKAY 1 7 (credit 5)) []
    ∷ step (takes 0 1 2) 0 0 2 0 [] (from 6 2)
    ∷ quiet (dispatches (WRTE 7 1 (from 13 2))) 0 26
    ∷ quiet (dispatches (set (WRTE 7 1 (255 ∷ [])) 16 9)) 4 25
    ∷ step (writes 0 1 (from 161 5) []) 0 0 4 0 (WRTE 1 7 (from 161 4)) []
    ∷ quiet (writes 0 1 (165 ∷ []) (WRTE 9 2 (from 21 5))) 100 29
    ∷ quiet (dispatches (WRTE 9 2 (from 26 8))) 0 32
    ∷ quiet (dispatches (WRTE 9 2 (from 34 4))) 11 28
    ∷ quiet (dispatches (CLSE 9 0 [])) 0 24
    ∷ []

abbrev delayed_book : Book
delayed_book =
    record {
      there = true;
      local = 1;
      remote = 7;
      opening = 8;
      sent = 15;
      accepted = from 1 14;
      handed = from 1 7;
      acked = 10;
      aside = 3;
      closed = false;
      kept = true;
      over = false;
    }

abbrev broken_book : Book
broken_book =
    record {
      there = true;
      local = 2;
      remote = 9;
      opening = 8;
      sent = 17;
      accepted = from 21 13;
      handed = [];
      acked = 0;
      aside = 0;
      closed = true;
      kept = false;
      over = true;
    }

-- ---- plain mode

abbrev plain : Start
plain = starts false 64

-- OKAYs carry no credit, so nothing is acknowledged and no rule on credit is kept. The second channel has the device's number of
-- the first: a CLSE with that number alone ends its read and leaves the first open. Then we close it
abbrev plain_steps : List Step
plain_steps =
    step (opens (97 ∷ []) []) 100 0 0 0 (OPEN 1 0 (97 ∷ [])) []
    ∷ step (opens [] (OKAY 7 1 [])) 0 24 0 1 [] []
    ∷ step (reads 0 1 4 (WRTE 7 1 (from 1 2))) 0 26 2 0 (OKAY 1 7 []) (from 1 2)
    ∷ step (dispatches (WRTE 7 1 (from 3 4))) 0 28 0 0 (OKAY 1 7 []) []
    ∷ quiet (dispatches (WRTE 7 1 (from 7 6))) 0 30
    ∷ quiet (settles 0 1 2) 0 0
    ∷ step (settles 0 1 4) 0 0 6 0 (OKAY 1 7 []) []
    ∷ step (takes 0 1 2) 0 0 2 0 [] (from 3 2)
    ∷ step (reads 0 1 1 []) 0 0 1 0 [] (from 5 1)
    ∷ step (opens (98 ∷ []) []) 100 0 0 0 (OPEN 2 0 (98 ∷ [])) []
    ∷ step (opens [] (OKAY 7 2 [])) 0 24 1 2 [] []
    ∷ quiet (reads 1 2 4 (CLSE 7 0 [])) 10 24
    ∷ step (closes 1 2) 0 0 0 0 (CLSE 2 7 []) []
    ∷ step (writes 0 1 (from 161 2) []) 0 0 2 0 (WRTE 1 7 (from 161 2)) []
    ∷ step (writes 0 1 (163 ∷ []) (WRTE 7 1 (from 13 1))) 100 25 0 0 (OKAY 1 7 []) []
    ∷ step (writes 0 1 (163 ∷ []) (OKAY 7 1 [])) 0 24 1 0 (WRTE 1 7 (163 ∷ [])) []
    ∷ []

abbrev plain_book : Book
plain_book =
    record {
      there = true;
      local = 1;
      remote = 7;
      opening = 0;
      sent = 13;
      accepted = from 1 13;
      handed = from 1 5;
      acked = 0;
      aside = 1;
      closed = false;
      kept = false;
      over = false;
    }

-- ---- what is computed is what was recorded

-- to unfold this is to unfold all that a run computes with
unfoldable pub computing : ℕ
unfolding num_of bytes_of signed unsigned part put clamp sat_sum positive_part slid fits_behind appended_head appended taken_head within_limits cap_of ceiling_of watermark_of opening_credit rx_store_len open_store_len stores_fit both negotiated_of policy_of credit_of-config total sum_of policy_for check_for letters_of word_of magic_of commands among_of command_of message_of header_bytes payload_of check_passes packet_of known_of named_of decode_of used_of message_for frame_bytes-protocol is_close named_by closed_by credit_of at_least_zero opening_slot empty_slot emptied_slot total_with is_opening is_closed is_failed opened_by opened_of ready_of held_of-slot acks_now buffered_with wrote_of some_len delivered_of ack_len_of has_data settled_by settled_some settled_of take_len took_of taken_of budget_of leave_by leave_of spent_of closed_slot slot_ok credit_bytes okay_bytes close_bytes flat rows all_is slot_numbers slot_counts tag_of slot_bytes slot_of is_tag is_slot queued_bytes header_sizes header_words header_tags header_bytes-state header_of layout state_of is_state put_slot put_header filled_ok slot_fine slots_fine queue_fine pending_fine offer_fine opens_fine header_fine filled_at whole is_whole first wanted_by place_of next_local_id allocated slot_in named_place remote_place closed_at close_of share_of buffered_in wrote_by wrote_at write_of route_of dispatch_of frame_bytes frames_bytes acted_by table_of act_on answer_number ack_length refusal_word answer_values written_by ends checked checked_out is_there slot_for ack_frames unless_fault received_by received_of is_write is_ready fresh make_of dispatch_by dispatch_step settled_as settle_step front_of taken_by take_step reread read_settled read_acted is_direct read_direct read_by read_taken read_first read_step send_len send_some send_by send_again write_readied write_acted write_act write_by write_first write_on write_step close_step open_on still_pending open_readied open_acted open_by open_step open_outcome dispatch_outcome settle_outcome take_outcome read_outcome write_outcome close_outcome bytes_in out_of buf_of outcome after after_all made held_of said_by count_of sent_by sent_in seen_in events_of book_slot new_aside credit_in acks_of last_open frame_b damaged_b packet_b read_used_b read_b write_b entry_on opened_b acks_b book_after each_place entry ledger_of run_of opens_in given_by given_in is_the is_open
computing = 0

-- handed over and buffered is accepted, and set aside is the slot's number; in delayed mode, where the channel is not closed,
-- acknowledged and unacknowledged add up to accepted
pub delayed-run :
    gives delayed (calls_in delayed_steps)
    ≡ record {
      delayed = true;
      said = said_in delayed_steps;
      given = 2;
      ledger = record { asked = 8; books = delayed_book ∷ broken_book ∷ replicate 62 no_book };
      slots = slot 4 3 (from 8 7) ++ slot 0 0 (from 21 13);
    }
unfolding computing
delayed-run = refl

pub plain-run :
    gives plain (calls_in plain_steps)
    ≡ record {
      delayed = false;
      said = said_in plain_steps;
      given = 2;
      ledger = record { asked = 0; books = plain_book ∷ replicate 63 no_book };
      slots = slot 0 1 (from 6 8) ++ slot 0 0 [];
    }
unfolding computing
plain-run = refl

-- ---- as the theorems over every list of calls have it

pub delayed-book : book_at (ledger_of (policy_in delayed) clean (events_of (begins delayed) (calls_in delayed_steps))) 0 ≡ delayed_book
delayed-book = ap (λ (g : Gives). book_at g.ledger 0) delayed-run

pub plain-book : book_at (ledger_of (policy_in plain) clean (events_of (begins plain) (calls_in plain_steps))) 0 ≡ plain_book
plain-book = ap (λ (g : Gives). book_at g.ledger 0) plain-run

-- two numbers are fewer than there are
two-few : (n : ℕ) → n ≡ 2 → n < 2 ^ 32
two-few n e = omega (arith, e)

pub delayed-few : given_in (events_of (begins delayed) (calls_in delayed_steps)) < 2 ^ 32
delayed-few = two-few _ (ap (λ (g : Gives). g.given) delayed-run)

pub plain-few : given_in (events_of (begins plain) (calls_in plain_steps)) < 2 ^ 32
plain-few = two-few _ (ap (λ (g : Gives). g.given) plain-run)

-- ---- spending: a channel with a budget of 5, a maximum of 4 and 12 bytes to write

-- the numbers that the writes of what is left answer, the lengths that they send, and the budget after each
pub record Spent : Type 0 where
  pub numbers : List ℕ
  pub lengths : List ℕ
  pub budgets : List ℤ

-- a call before the others
abbrev spent_before : Outcome → ℤ → Spent → Spent
spent_before o budget rest =
    record { numbers = answer_number o.answer ∷ rest.numbers; lengths = get_or (answer_values o.answer) 0 0 ∷ rest.lengths; budgets = budget ∷ rest.budgets }

abbrev spent_in : World → List Call → Spent
spent_in w [] = record { numbers = []; lengths = []; budgets = [] }
spent_in w (c ∷ cs) = spent_before (outcome w c) (place_slot (after w c) 0).send_budget (spent_in (after w c) cs)

-- the channel is opened, then each write has as many bytes as are left
abbrev spends : Spending → List ℕ → Spent
spends spending left =
    spent_in (after_all (begins delayed) (opens (97 ∷ []) [] ∷ opens [] (OKAY 7 1 (credit 5)) ∷ []))
    (map (λ (k : ℕ). write_call spending (some 56) (channel 0 1) (from 1 k) []) left)

-- no further than the budget: 4, then 1, then it waits
pub within-run : spends Within (12 ∷ 8 ∷ 7 ∷ []) ≡ record { numbers = 0 ∷ 0 ∷ 100 ∷ []; lengths = 4 ∷ 1 ∷ 0 ∷ []; budgets = pos 1 ∷ pos 0 ∷ pos 0 ∷ [] }
unfolding computing
within-run = refl

-- past it: 4, then 4, which leaves 3 below 0, then it waits
pub beyond-run : spends Beyond (12 ∷ 8 ∷ 4 ∷ []) ≡ record { numbers = 0 ∷ 0 ∷ 100 ∷ []; lengths = 4 ∷ 4 ∷ 0 ∷ []; budgets = pos 1 ∷ negsuc 2 ∷ negsuc 2 ∷ [] }
unfolding computing
beyond-run = refl
