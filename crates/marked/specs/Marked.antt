-- The marked cases (docs/SCOPE.md, 9): for each, what the definitions give and what they are to give. Assumes nothing.
use Rattle.std.specs.Prelude.{ℕ, suc, ℤ, pos, negsuc, Bool, true, false, List, [], ◌∷◌, ◌++◌, take, Option, Some, None, Result, Ok, Err}
use Rattle.le.specs.Le.{bytes_of}
use Rattle.checksum.specs.declared.Checksum.TheVariants.{Compute, Skip}
use Rattle.protocol.specs.declared.command.Command.TheVariants.{Ready, Close, Write}
use Rattle.checksum.specs.Checksum.{check_for}
use Rattle.features.specs.Features.{has_feature}
use Rattle.protocol.specs.Packet.{decode_of, decoded_number, used_of, packet_bytes}
use Rattle.config.specs.declared.ConnectionConfig.{ConnectionConfig}
use Rattle.config.specs.declared.negotiated.RxPolicy.{RxPolicy}
use Rattle.config.specs.Config.{cap_of, ceiling_of, watermark_of, opening_credit}
use Rattle.config.specs.Negotiated.{negotiated_of}
use Rattle.connection.specs.Answer.{answer_number}
use Rattle.connection.specs.Calls.{Outcome, dispatch_step}
use Rattle.slot.specs.declared.ChannelSlot.{ChannelSlot}
use Rattle.slot.specs.declared.Settled.{Settled}
use Rattle.slot.specs.declared.ChannelFault.{ChannelFault}
use Rattle.credit.specs.Credit.{credit_number, credit_of}
use Rattle.slot.specs.Numbers.{decision_number, taken_number}
use Rattle.slot.specs.Slot.{accepted_slot, is_closed, wrote_of, settled_of, taken_of}
use Rattle.slot.specs.Wrote.{left_by}
use Rattle.state.specs.declared.Header.{Header}
use Rattle.state.specs.declared.Pending.TheVariants.{Nothing as NothingPending}
use Rattle.state.specs.declared.QueuedOpen.{QueuedOpen}
use Rattle.state.specs.Change.{changed_all}
use Rattle.state.specs.State.{Connection}
use Rattle.table.specs.Table.{slot_in, next_local_id}
use Rattle.credit.specs.declared.CreditFault.{CreditFault}
use Rattle.protocol.specs.declared.packet.Packet.{Packet}
use Rattle.protocol.specs.declared.packet.DecodeError.{DecodeError}
use Rattle.slot.specs.declared.ChannelError.{ChannelError}

-- a row: the case, what the definitions give, and what the document says
pub record Row : Type 0 where
  pub mark : ℕ
  pub given : List ℕ
  pub said : List ℕ

abbrev row : ℕ → List ℕ → List ℕ → Row
row m g s = record { mark = m; given = g; said = s }

-- an answer as numbers: its own, and the bytes used
abbrev answer : Result (Option Packet) DecodeError → List ℕ
answer d = decoded_number d ∷ used_of d ∷ []

-- waiting, used 0
abbrev pending : List ℕ
pending = 100 ∷ 0 ∷ []

-- M2's credit of 5
abbrev five : List ℕ
five = bytes_of 4 5

-- M2's frame: OKAY, local 1, remote 7, delayed, 5 bytes, with a check
abbrev okay : ℕ → List ℕ
okay check = packet_bytes Ready 1 7 five check

-- M3's header: a WRTE of this many bytes, none of them here
abbrev header : ℕ → List ℕ
header n = take 12 (packet_bytes Write 1 7 [] 0) ++ bytes_of 4 n ++ bytes_of 4 0 ++ bytes_of 4 0xbaab_ada8

-- M4's frame: a WRTE of the bytes 1, 2, 255
abbrev write : ℕ → List ℕ
write check = packet_bytes Write 1 7 (1 ∷ 2 ∷ 255 ∷ []) check

-- yes is 1, no is 0
abbrev flag : Bool → List ℕ
flag true = 1 ∷ []
flag false = 0 ∷ []

-- "device::features=a;b"
abbrev identity : List ℕ
identity =
    100 ∷ 101 ∷ 118 ∷ 105 ∷ 99 ∷ 101 ∷ 58 ∷ 58 ∷ 102 ∷ 101 ∷ 97 ∷ 116 ∷ 117 ∷ 114 ∷ 101 ∷ 115 ∷ 61 ∷ 97 ∷ 59 ∷ 98 ∷ []

-- 4f4b4159 01000000 07000000 04000000, then the check, then b0b4bea6 05000000
abbrev okay_said : List ℕ → List ℕ
okay_said check =
    0x4f ∷ 0x4b ∷ 0x41 ∷ 0x59 ∷ 1 ∷ 0 ∷ 0 ∷ 0 ∷ 7 ∷ 0 ∷ 0 ∷ 0 ∷ 4 ∷ 0 ∷ 0 ∷ 0 ∷ []
    ++ check
    ++ 0xb0 ∷ 0xb4 ∷ 0xbe ∷ 0xa6 ∷ 5 ∷ 0 ∷ 0 ∷ 0 ∷ []

-- M5's limits: max_payload 4,096, initial 32,768, max_rx 16,384
abbrev limits : ConnectionConfig
limits = record { channels = 1; max_payload = 4096; max_rx_per_channel = 16384; initial_ack_bytes = 32768 }

-- a signed number: 1 below 0 and 0 otherwise, and its size
abbrev sized : ℤ → List ℕ
sized (pos n) = 0 ∷ n ∷ []
sized (negsuc n) = 1 ∷ suc n ∷ []

-- a credit: its answer's number, and its value
abbrev credit : Result ℤ CreditFault → List ℕ
credit (Ok z) = credit_number (Ok z) ∷ sized z
credit (Err f) = credit_number (Err f) ∷ []

-- delayed, cap 10
abbrev ten : RxPolicy
ten = record { delayed = true; rx_cap = 10; watermark = 10 }

-- an open channel, local 1, remote 7
abbrev channel : ChannelSlot
channel = accepted_slot (record { local = record { 0 = 1 }; remote = record { 0 = 7 } }) 1 ten

-- M6 and M9: a connection in delayed mode, with this many queued opens
abbrev header_with : ℕ → Header
header_with queued =
    record {
      negotiated = negotiated_of true true 0x0100_0001 4096 (record { channels = 2; max_payload = 4096; max_rx_per_channel = 16384; initial_ack_bytes = 32768 });
      next_local = 2;
      pending = record { what = NothingPending; slot = 0; local = record { 0 = 0 } };
      queued = queued;
    }

-- M6's, with that channel, whose budget is 1
abbrev ones : Connection
ones = record { header = header_with 0; slots = channel ∷ []; queue = [] }

-- its OKAY with this payload, dispatched: the answer's number, the bytes used, and the budget then
abbrev budget : List ℕ → List ℕ
budget payload =
    let o = dispatch_step (record { state = ones; rx = []; store = [] }) (packet_bytes Ready 7 1 payload 0) in
    answer_number o.answer ∷ o.used ∷ sized (slot_in (changed_all ones o.changes).slots 0).send_budget

-- M8, step by step: a WRTE of 6, a settling of 4
abbrev six : Result Settled ChannelFault
six = wrote_of channel ten 6

abbrev four : Settled
four = settled_of (left_by channel six) ten 4

-- an acknowledgement's length
abbrev length-of : Option ℕ → List ℕ
length-of (Some n) = n ∷ []
length-of None = []

-- what a WRTE does: its answer's number, and what is then unacknowledged
abbrev wrote : ChannelSlot → Result Settled ChannelFault → List ℕ
wrote s r = decision_number r ∷ (left_by s r).unacked ∷ []

-- what a take does: its answer's number, its length, and what is then set aside
abbrev took : Result (Option (ChannelSlot × ℕ)) ChannelError → List ℕ
took (Ok (Some (s, n))) = taken_number (Ok (Some (s, n))) ∷ n ∷ s.settled ∷ []
took (Ok None) = taken_number (Ok None) ∷ []
took (Err e) = taken_number (Err e) ∷ []

-- M9: a channel whose remote number is 0, and two queued opens, one of remote number 0
abbrev queued_opens : ℕ → QueuedOpen
queued_opens remote = record { remote = record { 0 = remote }; credit = 0; share = remote; length = 0 }

abbrev zeros : Connection
zeros =
    record {
      header = header_with 2;
      slots = accepted_slot (record { local = record { 0 = 1 }; remote = record { 0 = 0 } }) 0 ten ∷ [];
      queue = queued_opens 0 ∷ queued_opens 1 ∷ [];
    }

-- CLSE 0, 0 dispatched
abbrev clse : Outcome
clse = dispatch_step (record { state = zeros; rx = []; store = [] }) (packet_bytes Close 0 0 [] 0)

-- its answer's number, the bytes used, whether slot 0 is closed, and the remote numbers that are queued
abbrev remotes : List QueuedOpen → List ℕ
remotes [] = []
remotes (q ∷ qs) = q.remote.0 ∷ remotes qs

abbrev withdrew : Connection → Outcome → List ℕ
withdrew c o =
    answer_number o.answer ∷ o.used ∷ flag (is_closed (slot_in (changed_all c o.changes).slots 0).state)
    ++ remotes (take (changed_all c o.changes).header.queued (changed_all c o.changes).queue)

-- M1 to M10, in order
unfoldable pub table : List Row
table =
    row 1 (answer (decode_of (take 23 (okay 0)) 4096)) pending
    ∷ row 2 (okay (check_for Skip five)) (okay_said (0 ∷ 0 ∷ 0 ∷ 0 ∷ []))
    ∷ row 2 (okay (check_for Compute five)) (okay_said (5 ∷ 0 ∷ 0 ∷ 0 ∷ []))
    ∷ row 3 (answer (decode_of (header 4097) 4096)) (3 ∷ 0 ∷ [])
    ∷ row 3 (answer (decode_of (header 4096) 4096)) pending
    ∷ row 4 (answer (decode_of (write 258) 4096)) (0 ∷ 27 ∷ [])
    ∷ row 4 (answer (decode_of (write 0) 4096)) (0 ∷ 27 ∷ [])
    ∷ row 4 (answer (decode_of (write 257) 4096)) (4 ∷ 27 ∷ [])
    ∷ row 5 (cap_of limits ∷ ceiling_of limits ∷ watermark_of limits ∷ opening_credit limits ∷ []) (16384 ∷ 12289 ∷ 12289 ∷ 12289 ∷ [])
    ∷ row 6 (credit (credit_of (255 ∷ 255 ∷ 255 ∷ 255 ∷ []))) (21 ∷ [])
    ∷ row 6 (budget (255 ∷ 255 ∷ 255 ∷ 255 ∷ [])) (21 ∷ 28 ∷ 0 ∷ 1 ∷ [])
    ∷ row 6 (budget (255 ∷ 255 ∷ 255 ∷ [])) (5 ∷ 27 ∷ 0 ∷ 1 ∷ [])
    ∷ row 7 (next_local_id 0xffff_ffff ∷ []) (1 ∷ [])
    ∷ row 8 (wrote channel six) (0 ∷ 6 ∷ [])
    ∷ row 8 (four.slot.unacked ∷ length-of four.ack) (2 ∷ 4 ∷ [])
    ∷ row 8 (wrote four.slot (wrote_of four.slot ten 9)) (11 ∷ 2 ∷ [])
    ∷ row 8 (wrote four.slot (wrote_of four.slot ten 8)) (0 ∷ 10 ∷ [])
    ∷ row 8 (took (taken_of (left_by four.slot (wrote_of four.slot ten 8)) 3)) (0 ∷ 3 ∷ 1 ∷ [])
    ∷ row 9 (withdrew zeros clse) (0 ∷ 24 ∷ flag false ++ 1 ∷ [])
    ∷ row 10 (flag (has_feature identity (98 ∷ []))) (flag false)
    ∷ []
