-- Two short runs of the calls, one in each mode. What each call is said to give was recorded from libadb's core (commit
-- 39d2221f4e) on the same bytes. A third is said by the scope document alone. Assumes nothing.
use Prim.Native.Nat.{ℕ}
use mathlib.Core.Path.{◌≡◌, refl}
use mathlib.Core.Bool.{true, false}
use mathlib.Core.List.{List, [], ◌∷◌, ◌++◌, map}
use lib.ListN.{take, set, get_or, replicate}
use Rattle.config.specs.declared.negotiated.Negotiated.{Negotiated}
use Rattle.state.specs.Change.{changed_all}
use Rattle.table.specs.declared.ChannelId.{ChannelId}
use Rattle.connection.specs.Calls.{Lent, Outcome, ends, checked, checked_out, is_there, slot_for, ack_frames, unless_fault, received_by, received_of, fresh, dispatch_by, dispatch_step, settled_as, settle_step, taken_by, take_step, reread, read_settled, read_acted, is_direct, read_direct, read_by, read_taken, read_first, read_step, send_len, send_some, send_by, send_again, write_readied, write_acted, write_act, write_by, write_first, write_on, write_step, close_step, take_front_by, take_front_step, open_on, still_pending, open_readied, open_acted, open_by, open_step, open_outcome, dispatch_outcome, settle_outcome, take_outcome, read_outcome, write_outcome, close_outcome, take_front_outcome}
use Rattle.le.specs.Le.{num_of, bytes_of, signed, part, put}
use Rattle.saturate.specs.Saturate.{clamp, sat_sum, positive_part}
use Rattle.rx_store.specs.RxStore.{slid, fits_behind, appended_head, appended, taken_head, share_of, buffered_in, front_of}
use Rattle.config.specs.Config.{within_limits, cap_of, ceiling_of, watermark_of, opening_credit, rx_store_len, open_store_len, stores_fit}
use Rattle.config.specs.Negotiated.{both, negotiated_of, policy_of, offered_credit as credit_of-config}
use Rattle.checksum.specs.Checksum.{total, sum_of, policy_for, check_for}
use Rattle.protocol.specs.Command.{letters_of, word_of, magic_of, commands, among_of, command_of, is_ready, is_close, is_write, is_the}
use Rattle.protocol.specs.Message.{message_of, header_bytes}
use Rattle.protocol.specs.Packet.{payload_of, check_passes, packet_of, known_of, named_of, decode_of, message_for, packet_bytes as frame_bytes-protocol}
use Rattle.slot.specs.Ids.{named_by, closed_by}
use Rattle.credit.specs.Credit.{credit_of, at_least_zero}
use Rattle.slot.specs.declared.Spending.TheVariants.{Within}
use Rattle.slot.specs.Slot.{emptied_slot, total_with, opening_slot, empty_slot, is_opening, is_closed, is_failed, error_of, opened_by, opened_of, ready_by, ready_of, held_of, acks_now, buffered_with, wrote_of, some_len, delivered_of, ack_len_of, has_data, settled_by, settled_some, settled_of, take_len, took_of, taken_of, budget_of, leave_by, leave_of, spent_of, closed_slot, slot_ok}
use Rattle.wire.specs.Wire.{credit_bytes, okay_bytes, close_bytes}
use Rattle.le.specs.Rows.{flat}
use Rattle.state_whole.specs.Whole.{filled_ok, slot_fine, slots_fine, queued_fine, queue_fine, pending_fine, offer_fine, opens_fine, header_fine, filled_at, whole}
use Rattle.table.specs.Table.{first, wanted_by, place_of, next_local_id, allocated, slot_in}
use Rattle.table_dispatch.specs.Dispatch.{named_place, remote_place, closed_at, close_of, readied_of, granted, ready_at, stray_of, grant_of, wrote_by, wrote_at, write_of, route_of, dispatch_of}
use Rattle.incoming.specs.Incoming.{queued_as, queued_opens, named, free_from, free_share, stays_by, kept, withdrawal, popped, next_share, pushed}
use Rattle.connection.specs.Frames.{frame_bytes, frames_bytes}
use Rattle.connection.specs.Act.{pushed_by, acted_by, table_of, act_on}
use Rattle.connection.specs.Answer.{answer_number, ack_length, refusal_word, answer_values}
use Rattle.connection.proofs.RunFrames.{OPEN, OKAY, WRTE, CLSE}

pub data Call : Type 0 where
  queue : List ℕ → List ℕ → Call
  dispatches : List ℕ → Call
  settles : ℕ → ℕ → ℕ → Call
  takes : ℕ → ℕ → ℕ → Call
  reads : ℕ → ℕ → ℕ → List ℕ → Call
  writes : ℕ → ℕ → List ℕ → List ℕ → Call
  closes : ℕ → ℕ → Call
  takes_front : Call

abbrev channel : ℕ → ℕ → ChannelId
channel i n = record { slot = i; local = record { 0 = n } }

-- with an outgoing buffer of 56 bytes
abbrev called : Lent → Call → Outcome
called l (queue destination received) = open_outcome (whole l.state) l 56 destination received
called l (dispatches received) = dispatch_outcome (whole l.state) l 56 received
called l (settles i n want) = settle_outcome (whole l.state) l 56 (channel i n) want
called l (takes i n room) = take_outcome (whole l.state) l (channel i n) room
called l (reads i n room received) = read_outcome (whole l.state) l 56 (channel i n) room received
called l (writes i n bytes received) = write_outcome Within (whole l.state) l 56 (channel i n) bytes received
called l (closes i n) = close_outcome (whole l.state) l 56 (channel i n)
called l takes_front = take_front_outcome (whole l.state) l

-- a call, and what it is said to give: number, bytes used, the answer's first two values; bytes written; bytes handed over
pub record Step : Type 0 where
  pub call : Call
  pub said : List (List ℕ)

abbrev step : Call → ℕ → ℕ → ℕ → ℕ → List ℕ → List ℕ → Step
step call number used a b out handed = record { call = call; said = (number ∷ used ∷ a ∷ b ∷ []) ∷ out ∷ handed ∷ [] }

-- with no values, nothing written and nothing handed over
abbrev quiet : Call → ℕ → ℕ → Step
quiet call number used = step call number used 0 0 [] []

-- what it gives; a front's destination, read at its place in the open store, counts as handed over
abbrev told : Negotiated → Outcome → List (List ℕ)
told n o =
    (answer_number o.answer ∷ o.used ∷ take 2 (answer_values o.answer)) ∷ frames_bytes n o.frames
    ∷ (o.handed ++ part o.store (get_or (answer_values o.answer) 2 0) (get_or (answer_values o.answer) 3 0)) ∷ []

-- each call on what the last one left
abbrev given : Lent → List Step → List (List (List ℕ))
given l [] = []
given l (s ∷ ss) =
    let o = called l s.call in
    told l.state.header.negotiated o ∷ given (record { state = changed_all l.state o.changes; rx = o.rx; store = o.store }) ss

-- a made connection, with stores of zeros
abbrev start : Negotiated → Lent
start n = record { state = fresh n; rx = replicate (rx_store_len n.config) 0; store = replicate (open_store_len n.config) 0 }

-- 2 channels, cap 8; the device takes payloads of 4
abbrev delayed : Negotiated
delayed = negotiated_of true true 0x0100_0001 4 (record { channels = 2; max_payload = 8; max_rx_per_channel = 8; initial_ack_bytes = 8 })

abbrev delayed_steps : List Step
delayed_steps =
    step (queue (97 ∷ []) []) 100 0 0 0 (OPEN 1 1 (97 ∷ [])) []
    ∷ quiet (queue [] (OPEN 9 6 (98 ∷ 99 ∷ []))) 100 26
    ∷ step (queue [] (OKAY 7 1 (5 ∷ 0 ∷ 0 ∷ 0 ∷ []))) 0 28 0 1 [] []
    ∷ quiet (dispatches (WRTE 7 1 (1 ∷ 2 ∷ 3 ∷ 4 ∷ 5 ∷ 6 ∷ []))) 0 30
    ∷ step (settles 0 1 4) 0 0 4 0 (OKAY 1 7 (4 ∷ 0 ∷ 0 ∷ 0 ∷ [])) []
    ∷ quiet (dispatches (WRTE 7 1 (1 ∷ 2 ∷ 3 ∷ 4 ∷ 5 ∷ 6 ∷ 7 ∷ []))) 11 31
    ∷ step (takes 0 1 3) 0 0 3 0 [] (1 ∷ 2 ∷ 3 ∷ [])
    ∷ step (reads 0 1 9 []) 0 0 1 0 [] (4 ∷ [])
    ∷ step (reads 0 1 9 []) 0 0 2 0 (OKAY 1 7 (2 ∷ 0 ∷ 0 ∷ 0 ∷ [])) (5 ∷ 6 ∷ [])
    ∷ step (reads 0 1 2 (WRTE 7 1 (13 ∷ []))) 0 25 1 0 (OKAY 1 7 (1 ∷ 0 ∷ 0 ∷ 0 ∷ [])) (13 ∷ [])
    ∷ step (writes 0 1 (1 ∷ 2 ∷ 3 ∷ 4 ∷ 5 ∷ 6 ∷ 7 ∷ 8 ∷ []) []) 0 0 4 0 (WRTE 1 7 (1 ∷ 2 ∷ 3 ∷ 4 ∷ [])) []
    ∷ step (writes 0 1 (5 ∷ 6 ∷ 7 ∷ 8 ∷ []) []) 0 0 1 0 (WRTE 1 7 (5 ∷ [])) []
    ∷ quiet (writes 0 1 (6 ∷ 7 ∷ 8 ∷ []) (OKAY 7 1 (255 ∷ 255 ∷ 255 ∷ []))) 5 27
    ∷ step (writes 0 1 (6 ∷ 7 ∷ 8 ∷ []) (OKAY 7 1 (5 ∷ 0 ∷ 0 ∷ 0 ∷ []))) 0 28 3 0 (WRTE 1 7 (6 ∷ 7 ∷ 8 ∷ [])) []
    ∷ step takes_front 0 0 9 6 [] (98 ∷ 99 ∷ [])
    ∷ step (queue (98 ∷ []) []) 100 0 0 0 (OPEN 2 1 (98 ∷ [])) []
    ∷ step (queue [] (WRTE 8 2 (1 ∷ []))) 6 25 0 0 (CLSE 2 8 []) []
    ∷ step (queue (98 ∷ []) []) 100 0 0 0 (OPEN 3 1 (98 ∷ [])) []
    ∷ step (queue [] (OKAY 8 3 (5 ∷ 0 ∷ 0 ∷ 0 ∷ []))) 0 28 1 3 [] []
    ∷ quiet (dispatches (WRTE 8 3 (21 ∷ 22 ∷ []))) 0 26
    ∷ step (reads 1 3 9 []) 0 0 2 0 (OKAY 3 8 (2 ∷ 0 ∷ 0 ∷ 0 ∷ [])) (21 ∷ 22 ∷ [])
    ∷ step (closes 1 3) 0 0 0 0 (CLSE 3 8 []) []
    ∷ step (queue (98 ∷ []) []) 100 0 0 0 (OPEN 4 1 (98 ∷ [])) []
    ∷ step (queue [] (OKAY 8 4 (5 ∷ 0 ∷ []))) 5 26 0 0 (CLSE 4 8 []) []
    ∷ []

-- 1 channel, cap 4
abbrev classic : Negotiated
classic = negotiated_of false true 0x0100_0001 64 (record { channels = 1; max_payload = 4; max_rx_per_channel = 4; initial_ack_bytes = 4 })

abbrev classic_steps : List Step
classic_steps =
    step (queue (97 ∷ []) []) 100 0 0 0 (OPEN 1 0 (97 ∷ [])) []
    ∷ step (dispatches (OKAY 7 1 [])) 0 24 0 0 (CLSE 1 7 []) []
    ∷ step (queue (97 ∷ []) []) 100 0 0 0 (OPEN 2 0 (97 ∷ [])) []
    ∷ step (queue [] (OKAY 7 2 [])) 0 24 0 2 [] []
    ∷ quiet (queue (97 ∷ []) []) 12 0
    ∷ quiet (dispatches (take 23 (OKAY 7 2 []))) 100 0
    ∷ step (dispatches (set (OKAY 7 2 []) 3 90)) 1 0 1514228559 0 [] []
    ∷ quiet (dispatches (set (OKAY 7 2 []) 23 167)) 2 0
    ∷ quiet (dispatches (WRTE 7 2 (1 ∷ 2 ∷ 3 ∷ 4 ∷ 5 ∷ []))) 3 0
    ∷ quiet (dispatches (set (WRTE 7 2 (1 ∷ 2 ∷ [])) 16 9)) 4 26
    ∷ quiet (dispatches (WRTE 7 2 (1 ∷ 2 ∷ []))) 0 26
    ∷ step (takes 0 2 9) 0 0 2 0 [] (1 ∷ 2 ∷ [])
    ∷ quiet (takes 0 2 9) 101 0
    ∷ step (reads 0 2 4 (OKAY 3 3 [])) 100 24 0 0 (OKAY 2 7 [] ++ CLSE 3 3 []) []
    ∷ step (reads 0 2 4 (WRTE 7 2 (1 ∷ 2 ∷ []))) 0 26 2 0 (OKAY 2 7 []) (1 ∷ 2 ∷ [])
    ∷ step (writes 0 2 (1 ∷ 2 ∷ 3 ∷ []) []) 0 0 3 0 (WRTE 2 7 (1 ∷ 2 ∷ 3 ∷ [])) []
    ∷ quiet (writes 0 2 (1 ∷ 2 ∷ []) (OPEN 3 0 (97 ∷ []))) 100 25
    ∷ step (writes 0 2 (1 ∷ 2 ∷ []) (OPEN 4 0 (97 ∷ []))) 100 25 0 0 (CLSE 0 4 []) []
    ∷ step (writes 0 2 (1 ∷ 2 ∷ []) (OKAY 7 2 [])) 0 24 2 0 (WRTE 2 7 (1 ∷ 2 ∷ [])) []
    ∷ step (reads 0 2 1 (WRTE 7 2 (1 ∷ 2 ∷ 3 ∷ []))) 0 27 1 0 [] (1 ∷ [])
    ∷ step (reads 0 2 4 (CLSE 7 0 [])) 0 0 2 0 (OKAY 2 7 []) (2 ∷ 3 ∷ [])
    ∷ quiet (reads 0 2 4 (CLSE 7 2 [])) 10 24
    ∷ step (closes 0 2) 0 0 0 0 (CLSE 2 7 []) []
    ∷ quiet (closes 0 2) 10 0
    ∷ []

-- a closed channel stands below a live one of its remote number: a CLSE without ours goes to the live one, which can then not be
-- written to; one more counts for the lowest
abbrev live_steps : List Step
live_steps =
    step (queue (97 ∷ []) []) 100 0 0 0 (OPEN 1 1 (97 ∷ [])) []
    ∷ step (queue [] (OKAY 7 1 (5 ∷ 0 ∷ 0 ∷ 0 ∷ []))) 0 28 0 1 [] []
    ∷ quiet (dispatches (CLSE 7 1 [])) 0 24
    ∷ step (queue (97 ∷ []) []) 100 0 0 0 (OPEN 2 1 (97 ∷ [])) []
    ∷ step (queue [] (OKAY 7 2 (5 ∷ 0 ∷ 0 ∷ 0 ∷ []))) 0 28 1 2 [] []
    ∷ step (writes 1 2 (6 ∷ []) []) 0 0 1 0 (WRTE 2 7 (6 ∷ [])) []
    ∷ quiet (dispatches (CLSE 7 0 [])) 0 24
    ∷ quiet (writes 1 2 (6 ∷ []) []) 10 0
    ∷ quiet (dispatches (CLSE 7 0 [])) 0 24
    ∷ []

pub agrees : given (start delayed) delayed_steps ++ given (start classic) classic_steps ++ given (start delayed) live_steps
    ≡ map (λ (s : Step). s.said) (delayed_steps ++ classic_steps ++ live_steps)
unfolding num_of bytes_of signed part put clamp sat_sum positive_part slid fits_behind appended_head appended taken_head within_limits cap_of ceiling_of watermark_of opening_credit rx_store_len open_store_len stores_fit both negotiated_of policy_of credit_of-config total sum_of policy_for check_for letters_of word_of magic_of commands among_of command_of message_of header_bytes payload_of check_passes packet_of known_of named_of decode_of message_for frame_bytes-protocol is_close named_by closed_by credit_of at_least_zero opening_slot empty_slot emptied_slot total_with is_opening is_closed is_failed error_of opened_by opened_of ready_by ready_of held_of acks_now buffered_with wrote_of some_len delivered_of ack_len_of has_data settled_by settled_some settled_of take_len took_of taken_of budget_of leave_by leave_of spent_of closed_slot slot_ok credit_bytes okay_bytes close_bytes flat filled_ok slot_fine slots_fine queued_fine queue_fine pending_fine offer_fine opens_fine header_fine filled_at whole first wanted_by place_of next_local_id allocated slot_in named_place remote_place closed_at close_of readied_of granted ready_at stray_of grant_of share_of buffered_in wrote_by wrote_at write_of route_of dispatch_of queued_as queued_opens named free_from free_share stays_by kept withdrawal popped next_share pushed frame_bytes frames_bytes pushed_by acted_by table_of act_on answer_number ack_length refusal_word answer_values ends checked checked_out is_there slot_for ack_frames unless_fault received_by received_of is_write is_ready fresh dispatch_by dispatch_step settled_as settle_step front_of taken_by take_step reread read_settled read_acted is_direct read_direct read_by read_taken read_first read_step send_len send_some send_by send_again write_readied write_acted write_act write_by write_first write_on write_step close_step take_front_by take_front_step open_on still_pending open_readied open_acted open_by open_step open_outcome dispatch_outcome settle_outcome take_outcome read_outcome write_outcome close_outcome take_front_outcome is_the
agrees = refl
