-- Every row of the marked cases: what the definitions give is what the document says. Assumes nothing.
use mathlib.Core.Path.{◌≡◌, refl}
use mathlib.Core.List.{map}
use Rattle.le.specs.Le.{num_of, bytes_of, signed, part}
use Rattle.checksum.specs.Checksum.{total, sum_of, check_for}
use Rattle.protocol.specs.Command.{letters_of, word_of, magic_of, commands, among_of, command_of, is_ready, is_the}
use Rattle.features.specs.Features.{same_bytes, colons_in, colon_after, begins, named, after_name, first_part, on_first, parts_of, any_same, listed, has_feature}
use Rattle.protocol.specs.Message.{message_of, header_bytes}
use Rattle.protocol.specs.Packet.{payload_of, check_passes, packet_of, known_of, named_of, decode_of, used_of, message_for, packet_bytes}
use Rattle.config.specs.Config.{cap_of, ceiling_of, watermark_of, opening_credit}
use Rattle.config.specs.Negotiated.{both, negotiated_of, policy_of}
use Rattle.connection.specs.Act.{acted_by, table_of, act_on}
use Rattle.connection.specs.Answer.{answer_number}
use Rattle.connection.specs.Calls.{ends, unless_fault, received_by, received_of, dispatch_by, dispatch_step}
use Rattle.incoming.specs.Incoming.{stays_by, kept, withdrawal}
use Rattle.rx_store.specs.RxStore.{fits_behind, appended_head, taken_head}
use Rattle.saturate.specs.Saturate.{clamp, sat_sum}
use Rattle.credit.specs.Credit.{credit_of, at_least_zero}
use Rattle.slot.specs.Slot.{opening_slot, accepted_slot, is_opening, is_closed, is_failed, ready_by, ready_of, held_of, acks_now, buffered_with, wrote_of, some_len, ack_len_of, has_data, settled_by, settled_some, settled_of, take_len, took_of, taken_of, error_of}
use Rattle.table.specs.Table.{first, wanted_by, place_of, slot_in, next_local_id}
use Rattle.table_dispatch.specs.Dispatch.{named_place, remote_place, closed_at, close_of, readied_of, granted, ready_at, grant_of, route_of, dispatch_of}
use Rattle.marked.specs.Marked.{Row, table}

pub agrees : map (λ (r : Row). r.given) table ≡ map (λ (r : Row). r.said) table
unfolding table num_of bytes_of part total sum_of check_for letters_of word_of magic_of commands among_of command_of same_bytes colons_in colon_after begins named after_name first_part on_first parts_of any_same listed has_feature message_of header_bytes payload_of check_passes packet_of known_of named_of decode_of used_of message_for packet_bytes signed cap_of ceiling_of watermark_of opening_credit fits_behind appended_head taken_head clamp sat_sum at_least_zero wanted_by first place_of is_ready is_the is_failed readied_of granted ready_at grant_of credit_of opening_slot accepted_slot is_opening is_closed ready_by ready_of held_of acks_now buffered_with wrote_of some_len ack_len_of has_data settled_by settled_some settled_of take_len took_of taken_of error_of next_local_id both negotiated_of policy_of acted_by table_of act_on answer_number ends unless_fault received_by received_of dispatch_by dispatch_step stays_by kept withdrawal slot_in named_place remote_place closed_at close_of route_of dispatch_of
agrees = refl
