-- A short run at a device's end, computed: what each call is said to give, and the owner's books after the last one. Assumes nothing.
use Prim.Native.Nat.{ℕ}
use mathlib.Core.Path.{◌≡◌, refl}
use mathlib.Core.Bool.{true, false}
use mathlib.Core.List.{List, [], ◌∷◌, map}
use lib.ListN.{replicate}
use Rattle.config.specs.declared.ConnectionConfig.{ConnectionConfig}
use Rattle.config.specs.Negotiated.{offered_credit}
use Rattle.features.specs.Features.{same_bytes, colons_in, colon_after, begins as property_begins, named, after_name, first_part as part_first, on_first, parts_of, any_same, listed, has_feature}
use Rattle.slot.specs.Slot.{accepted_slot}
use Rattle.table.specs.Table.{below}
use Rattle.connection.specs.Calls.{reject_on, accept_on, verdict_step, verdict_outcome}
use Rattle.connection.specs.Frames.{Sent}
use Rattle.protocol.specs.declared.command.Command.{Command}
use Rattle.protocol.specs.declared.command.Command.TheVariants.{Connect, Ready, Close}
use Rattle.connection.proofs.RunFrames.{OPEN, WRTE, CLSE}
use Rattle.call_make.specs.Make.{empty_slots, empty_queue, make_in}
use Rattle.call.specs.Promise.{admitted, admitted_out}
use Rattle.history.specs.Run.{word_in}
use Rattle.history.specs.Seen.{Seen}
use Rattle.history.specs.Book.{Book, no_book, okay_remote, okay_credit}
use Rattle.history.proofs.Runs.{computing}
use Rattle.names.specs.Names.{starts, stands, no_zero, named_at, place_from, find_name, ends_in_zero, asked_name}
use Rattle.device_meets.specs.Meets.{fits_mode, by_name, open_verdict, is_live_at, is_stream, unless_stream, met_as, by_command, met_by, meets}
use Rattle.device.specs.Device.{is_connected, text_len, text_in, head_fine, inner_of, head_of, device_admitted, is_waiting, taken_as, judged, given, and_judged, shown, met_in, behind, called, unchanged, admitted_call}
use Rattle.device_connect.specs.Connect.{cnxn_bytes, lists_delayed, flagged, made_anew, connected_as}
use Rattle.device_dispatch.specs.Promise.{is_cnxn, dispatch_with, first_by, dispatch_met, device_dispatch}
use Rattle.device_read.specs.Promise.{read_met, device_read}
use Rattle.device_write.specs.Promise.{write_met, device_write}
use Rattle.connection.specs.declared.Answer.TheVariants.{Done}
use Rattle.device.specs.Device.{device_len}
use Rattle.device_make.specs.Make.{fits, head_made, inner_made, device_made}
use Rattle.device_settle.specs.Promise.{device_settle}
use Rattle.device_take.specs.Promise.{device_take}
use Rattle.device_close.specs.Promise.{device_close}
use Rattle.device.specs.Answer.{device_number, device_values}
use Rattle.device_history.specs.Run.{DeviceCall, device_dispatches, device_reads, gives, leaves_by, leaves_all, DeviceStart, device_begins}
use Rattle.device_history.specs.Trace.{connects, connects_by, first_part, part_of, verdict_calls, behind_calls, joined, told_on}
use Rattle.device_history.specs.Owner.{device_seen, DeviceEvent, device_events, arrived, host_call, is_stream_of, names_stream, passes_as, stands_for, entries, device_entry, device_ledger, owner_ledger}

-- to unfold this is to unfold all that a run computes with
device_computing : ℕ
unfolding computing offered_credit same_bytes colons_in colon_after property_begins named after_name part_first on_first parts_of any_same listed has_feature accepted_slot below reject_on accept_on verdict_step verdict_outcome empty_slots empty_queue make_in admitted admitted_out word_in okay_remote okay_credit starts stands no_zero named_at place_from find_name ends_in_zero asked_name fits_mode by_name open_verdict is_live_at is_stream unless_stream met_as by_command met_by meets is_connected text_len text_in head_fine inner_of head_of device_admitted is_waiting taken_as judged given and_judged shown met_in behind called unchanged admitted_call cnxn_bytes lists_delayed flagged made_anew connected_as is_cnxn dispatch_with first_by dispatch_met device_dispatch read_met device_read write_met device_write fits head_made inner_made device_made device_settle device_take device_close gives leaves_by leaves_all device_number connects connects_by first_part part_of verdict_calls behind_calls joined told_on device_values device_seen device_events arrived host_call is_stream_of names_stream passes_as stands_for entries device_entry device_ledger
device_computing = 0

-- bytes of any value
abbrev some : ℕ → List ℕ
some n = replicate n 90

-- 2 channels, cap 40, opening credit 8
abbrev limits : ConnectionConfig
limits = record { channels = 2; max_payload = 32; max_rx_per_channel = 40; initial_ack_bytes = 8 }

-- "device::features=delayed_ack"
abbrev ours : List ℕ
ours = 100 ∷ 101 ∷ 118 ∷ 105 ∷ 99 ∷ 101 ∷ 58 ∷ 58 ∷ 102 ∷ 101 ∷ 97 ∷ 116 ∷ 117 ∷ 114 ∷ 101 ∷ 115 ∷ 61 ∷ 100 ∷ 101 ∷ 108 ∷ 97 ∷ 121 ∷ 101 ∷ 100 ∷ 95 ∷ 97 ∷ 99 ∷ 107 ∷ []

-- "host::features=delayed_ack"
abbrev theirs : List ℕ
theirs = 104 ∷ 111 ∷ 115 ∷ 116 ∷ 58 ∷ 58 ∷ 102 ∷ 101 ∷ 97 ∷ 116 ∷ 117 ∷ 114 ∷ 101 ∷ 115 ∷ 61 ∷ 100 ∷ 101 ∷ 108 ∷ 97 ∷ 121 ∷ 101 ∷ 100 ∷ 95 ∷ 97 ∷ 99 ∷ 107 ∷ []

-- the host's CNXN: version 0x01000001, maximum payload 16
abbrev cnxn : List ℕ
cnxn =
    0x43 ∷ 0x4e ∷ 0x58 ∷ 0x4e ∷ 1 ∷ 0 ∷ 0 ∷ 1 ∷ 16 ∷ 0 ∷ 0 ∷ 0 ∷ 26 ∷ 0 ∷ 0 ∷ 0 ∷ 0 ∷ 0 ∷ 0 ∷ 0 ∷ 0xbc ∷ 0xb1 ∷ 0xa7 ∷ 0xb1 ∷ theirs

abbrev credit : ℕ → List ℕ
credit n = n ∷ 0 ∷ 0 ∷ 0 ∷ []

pub begun : (device_made limits ours (some device_len)).answer ≡ Done
unfolding device_computing
begun = refl

abbrev start : DeviceStart
start = record { config = limits; text = ours; lent = some device_len; rx = some 160; store = some 64; done = begun }

-- the table of names: "a"
abbrev table : List ℕ
table = 97 ∷ 0 ∷ []

abbrev dispatches : List ℕ → DeviceCall
dispatches received = device_dispatches (some 56) table received

abbrev reads : ℕ → ℕ → ℕ → List ℕ → DeviceCall
reads i n room received = device_reads (some 56) table (record { slot = i; local = record { 0 = n } }) (some room) received

-- what a call is seen to give
abbrev saw : ℕ → ℕ → List ℕ → List Sent → List ℕ → Seen
saw number used values sent got = record { number = number; values = values; used = used; sent = sent; got = got }

abbrev zeros : List ℕ
zeros = 0 ∷ 0 ∷ 0 ∷ 0 ∷ []

abbrev frame : Command → ℕ → ℕ → List ℕ → Sent
frame c a b payload = record { command = c; arg0 = a; arg1 = b; payload = payload }

-- a WRTE before the host's CNXN; the CNXN; an OPEN by a name of the table; a WRTE; one of no stream; an OPEN by another name, in a read; one
-- whose credit does not fit the mode; a CLSE; a WRTE of the closed stream
abbrev calls : List DeviceCall
calls =
    dispatches (WRTE 7 1 (9 ∷ []))
    ∷ dispatches cnxn
    ∷ dispatches (OPEN 7 100 (97 ∷ 0 ∷ []))
    ∷ reads 0 1 4 (WRTE 7 1 (1 ∷ 2 ∷ 3 ∷ []))
    ∷ dispatches (WRTE 7 9 (5 ∷ []))
    ∷ reads 0 1 4 (OPEN 8 100 (98 ∷ 0 ∷ []))
    ∷ dispatches (OPEN 9 0 (97 ∷ 0 ∷ []))
    ∷ dispatches (CLSE 7 1 [])
    ∷ dispatches (WRTE 7 1 (9 ∷ []))
    ∷ []

pub seen-run :
    map (λ (e : DeviceEvent). e.seen) (device_events (device_begins start) calls)
    ≡ saw 0 25 zeros [] []
    ∷ saw 104 50 (0x0100_0001 ∷ 16 ∷ 1 ∷ 0 ∷ []) (frame Connect 0x0100_0001 32 ours ∷ []) []
    ∷ saw 103 26 (0 ∷ 1 ∷ 7 ∷ 0 ∷ []) (frame Ready 1 7 (credit 8) ∷ []) []
    ∷ saw 0 27 (3 ∷ 0 ∷ 0 ∷ 0 ∷ []) (frame Ready 1 7 (credit 3) ∷ []) (1 ∷ 2 ∷ 3 ∷ [])
    ∷ saw 0 25 zeros [] []
    ∷ saw 100 26 zeros (frame Close 0 8 [] ∷ []) []
    ∷ saw 0 26 zeros (frame Close 0 9 [] ∷ []) []
    ∷ saw 0 24 zeros [] []
    ∷ saw 0 25 zeros [] []
    ∷ []
unfolding device_computing
seen-run = refl

abbrev book : Book
book =
    record {
      there = true;
      local = 1;
      remote = 7;
      opening = 8;
      sent = 3;
      accepted = 1 ∷ 2 ∷ 3 ∷ [];
      handed = 1 ∷ 2 ∷ 3 ∷ [];
      acked = 3;
      aside = 0;
      closed = true;
      kept = true;
      over = false;
    }

pub owners-run : owner_ledger start calls ≡ record { asked = 0; books = book ∷ replicate 63 no_book }
unfolding device_computing
owners-run = refl
