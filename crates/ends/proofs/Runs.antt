-- A short run of both ends, computed: the sum after each turn, and the premises of the theorem, which it meets. Assumes nothing.
use Prim.Native.Nat.{ℕ, ◌+◌}
use native.Mathlib.Nat.{le_refl}
use native.Mathlib.Omega.{arith}
use mathlib.Core.Path.{◌≡◌, refl, ap, subst}
use mathlib.Core.Bool.{Bool, true, false, not, ◌&&◌}
use mathlib.Core.List.{List, [], ◌∷◌, ◌++◌}
use lib.Dec.{eqb}
use lib.IntN.{ℤ, pos, negsuc, ◌+ℤ◌}
use lib.ListN.{length, take, replicate}
use Rattle.config.specs.declared.ConnectionConfig.{ConnectionConfig}
use Rattle.config.specs.Config.{within_limits}
use Rattle.config.specs.Negotiated.{offered_credit}
use Rattle.table.specs.declared.ChannelId.{ChannelId}
use Rattle.features.specs.Features.{same_bytes, colons_in, colon_after, begins as property_begins, named, after_name, first_part as part_first, on_first, parts_of, any_same, listed, has_feature}
use Rattle.slot.specs.Slot.{accepted_slot, is_closed, ready_by}
use Rattle.state.specs.State.{state_len}
use Rattle.table.specs.Table.{below}
use Rattle.table_dispatch.specs.Dispatch.{readied_of, granted, ready_at, stray_of, grant_of}
use Rattle.connection.specs.Calls.{reject_on, accept_on, verdict_step, verdict_outcome}
use Rattle.connection.specs.declared.Answer.TheVariants.{Done}
use Rattle.call_make.specs.Make.{empty_slots, empty_queue, make_in}
use Rattle.call.specs.Promise.{admitted, admitted_out}
use Rattle.history.specs.Run.{open_call, dispatch_call, settle_call, read_call, World, word_in, begins, policy_in}
use Rattle.history.specs.Seen.{events_of}
use Rattle.history.specs.Book.{clean, book_at, ledger_of, okay_remote, okay_credit}
use Rattle.history.specs.Demand3.{place_slot, run_of}
use Rattle.history.specs.Numbers.{given_in}
use Rattle.history.proofs.Runs.{computing}
use Rattle.names.specs.Names.{starts, stands as name_stands, no_zero, named_at, place_from, find_name, ends_in_zero, asked_name}
use Rattle.device_meets.specs.Meets.{fits_mode, by_name, open_verdict, is_live_at, is_stream, unless_stream, met_as, by_command, met_by, meets}
use Rattle.device.specs.Device.{device_len, is_connected, text_len, text_in, head_fine, inner_of, head_of, device_admitted, is_waiting, taken_as, judged, given, and_judged, shown, met_in, behind, called, unchanged, admitted_call}
use Rattle.device.specs.Answer.{device_number, device_values}
use Rattle.device_connect.specs.Connect.{cnxn_bytes, lists_delayed, flagged, made_anew, connected_as}
use Rattle.device_dispatch.specs.Promise.{is_cnxn, dispatch_with, first_by, dispatch_met, device_dispatch}
use Rattle.device_read.specs.Promise.{read_met, device_read}
use Rattle.device_write.specs.Promise.{write_met, device_write}
use Rattle.device_make.specs.Make.{fits, head_made, inner_made, device_made}
use Rattle.device_settle.specs.Promise.{device_settle}
use Rattle.device_take.specs.Promise.{device_take}
use Rattle.device_close.specs.Promise.{device_close}
use Rattle.device_history.specs.Run.{device_dispatches, device_writes, connection, gives, leaves_by, leaves_all, DeviceStart, device_begins}
use Rattle.device_history.specs.Owner.{device_seen, device_events, taken_in}
use Rattle.ends_lines.specs.Lines.{frames_on}
use Rattle.ends.specs.Ends.{Ends, EndsStart, both, Turn, ours, theirs, handed, handed_there, holds, gives_there, turned, turned_all, our_calls, their_calls, all_up, HostCalls}
use Rattle.ends.specs.Credit.{data_of, amounts_of, AtUs, pends, stands, AtDevice, BothDelayed, Few, Adds}
use Rattle.ends.proofs.Sum.{adds-up}

-- to unfold this is to unfold all that a run computes with
ends_computing : ℕ
unfolding computing offered_credit same_bytes colons_in colon_after property_begins named after_name part_first on_first parts_of any_same listed has_feature accepted_slot below reject_on accept_on verdict_step verdict_outcome empty_slots empty_queue make_in admitted admitted_out word_in okay_remote okay_credit starts name_stands no_zero named_at place_from find_name ends_in_zero asked_name fits_mode by_name open_verdict is_live_at is_stream unless_stream met_as by_command met_by meets is_connected text_len text_in head_fine inner_of head_of device_admitted is_waiting taken_as judged given and_judged shown met_in behind called unchanged admitted_call device_number device_values cnxn_bytes lists_delayed flagged made_anew connected_as is_cnxn dispatch_with first_by dispatch_met device_dispatch read_met device_read write_met device_write fits head_made inner_made device_made device_settle device_take device_close gives leaves_by leaves_all device_seen device_events taken_in frames_on handed handed_there turned turned_all our_calls their_calls all_up data_of amounts_of ready_by readied_of granted ready_at stray_of grant_of
ends_computing = 0

-- ---- where it begins

-- bytes of any value
abbrev some : ℕ → List ℕ
some n = replicate n 90

-- the device's limits: an identity text of 27 bytes fits
abbrev device_limits : ConnectionConfig
device_limits = record { channels = 2; max_payload = 32; max_rx_per_channel = 40; initial_ack_bytes = 8 }

-- ours: cap 16, opening credit 8
abbrev our_limits : ConnectionConfig
our_limits = record { channels = 2; max_payload = 8; max_rx_per_channel = 16; initial_ack_bytes = 8 }

pub kept : within_limits our_limits ≡ true
unfolding ends_computing
kept = refl

-- "device::features=delayed_ack"
abbrev device_text : List ℕ
device_text = 100 ∷ 101 ∷ 118 ∷ 105 ∷ 99 ∷ 101 ∷ 58 ∷ 58 ∷ 102 ∷ 101 ∷ 97 ∷ 116 ∷ 117 ∷ 114 ∷ 101 ∷ 115 ∷ 61 ∷ 100 ∷ 101 ∷ 108 ∷ 97 ∷ 121 ∷ 101 ∷ 100 ∷ 95 ∷ 97 ∷ 99 ∷ 107 ∷ []

-- "host::features=delayed_ack"
abbrev our_text : List ℕ
our_text = 104 ∷ 111 ∷ 115 ∷ 116 ∷ 58 ∷ 58 ∷ 102 ∷ 101 ∷ 97 ∷ 116 ∷ 117 ∷ 114 ∷ 101 ∷ 115 ∷ 61 ∷ 100 ∷ 101 ∷ 108 ∷ 97 ∷ 121 ∷ 101 ∷ 100 ∷ 95 ∷ 97 ∷ 99 ∷ 107 ∷ []

-- our CNXN: version 0x01000001, maximum payload 8
abbrev cnxn : List ℕ
cnxn =
    0x43 ∷ 0x4e ∷ 0x58 ∷ 0x4e ∷ 1 ∷ 0 ∷ 0 ∷ 1 ∷ 8 ∷ 0 ∷ 0 ∷ 0 ∷ 26 ∷ 0 ∷ 0 ∷ 0 ∷ 0 ∷ 0 ∷ 0 ∷ 0 ∷ 0xbc ∷ 0xb1 ∷ 0xa7 ∷ 0xb1 ∷ our_text

pub begun : (device_made device_limits device_text (some device_len)).answer ≡ Done
unfolding ends_computing
begun = refl

abbrev device_start : DeviceStart
device_start = record { config = device_limits; text = device_text; lent = some device_len; rx = some 160; store = some 64; done = begun }

-- the table of names: "a"
abbrev table : List ℕ
table = 97 ∷ 0 ∷ []

pub answered : device_number (gives (leaves_all (device_begins device_start) []) (device_dispatches (some 56) table cnxn)).answer ≡ 104
unfolding ends_computing
answered = refl

-- the version of the device's CNXN, and its longest payload
abbrev pub start : EndsStart
start =
    record {
      ours = record {
        config = our_limits;
        version = 0x0100_0001;
        most = 32;
        host = true;
        device = true;
        state = some state_len;
        rx = some 64;
        store = some 16;
        within = kept;
        long = le_refl state_len;
      };
      device = device_start;
      early = [];
      first = device_dispatches (some 56) table cnxn;
      answers = answered;
    }

-- ---- the calls, each with an outgoing buffer of 56 bytes, and how many bytes of its line it is lent

-- the one channel: the first slot at either end, with number 2 here and number 1 there
abbrev here : ChannelId
here = record { slot = 0; local = record { 0 = 2 } }

abbrev there : ChannelId
there = record { slot = 0; local = record { 0 = 1 } }

-- ours open a name of one byte
abbrev we_open : ℕ → ℕ → Turn
we_open name n = ours (open_call (some 56) (name ∷ []) []) n

abbrev we_dispatch : ℕ → Turn
we_dispatch n = ours (dispatch_call (some 56) []) n

abbrev we_read : ℕ → ℕ → Turn
we_read room n = ours (read_call (some 56) here (some room) []) n

abbrev we_settle : ℕ → Turn
we_settle want = ours (settle_call (some 56) here want) 0

-- the device's
abbrev it_dispatches : ℕ → Turn
it_dispatches n = theirs (device_dispatches (some 56) table []) n

abbrev it_writes : List ℕ → ℕ → Turn
it_writes bytes n = theirs (device_writes (some 56) table there bytes []) n

-- the device refuses "b". It is lent a part of the OPEN for "a", then all of it, and takes it; it writes before our open used its OKAY,
-- our read is handed two bytes of its five, and it writes past its budget
abbrev pub turns : List Turn
turns =
    we_open 98 0
    ∷ it_dispatches 25
    ∷ we_open 98 24
    ∷ we_open 97 0
    ∷ it_dispatches 10
    ∷ it_dispatches 25
    ∷ it_writes (1 ∷ 2 ∷ 3 ∷ 4 ∷ 5 ∷ []) 0
    ∷ we_open 97 28
    ∷ we_read 2 29
    ∷ it_writes (6 ∷ 7 ∷ 8 ∷ 9 ∷ 10 ∷ 11 ∷ 12 ∷ 13 ∷ []) 0
    ∷ []

-- our dispatch buffers that, and our settle lets it write five bytes more. Then it uses both OKAYs with amounts, one in a dispatch and one
-- in a write, which writes again
abbrev pub more_turns : List Turn
more_turns =
    we_dispatch 32
    ∷ we_settle 5
    ∷ it_dispatches 28
    ∷ it_writes (14 ∷ []) 28
    ∷ []

-- ---- what is told of each turn

-- what the call answers, and how many bytes of its line it uses; whether the channel stands at our end and at the device; then what the
-- sum is of, and the sum
pub record Row : Type 0 where
  pub number : ℕ
  pub used : ℕ
  pub here : Bool
  pub there : Bool
  pub budget : ℤ
  pub up : ℕ
  pub unacked : ℕ
  pub down : ℕ
  pub sum : ℤ

abbrev row : ℕ → ℕ → Bool → Bool → ℤ → ℕ → ℕ → ℕ → ℤ → Row
row number used here there budget up unacked down sum =
    record { number = number; used = used; here = here; there = there; budget = budget; up = up; unacked = unacked; down = down; sum = sum }

-- the first slot is filled and not closed, with this number
abbrev stands_in : World → ℕ → Bool
stands_in w l = (place_slot w 0).filled && (not (is_closed (place_slot w 0).state) && eqb (place_slot w 0).local.0 l)

unfoldable pub row_of : ℕ → ℕ → Ends → Row
row_of number used e =
    row number used (stands_in e.host 2) (stands_in (connection e.device) 1) (place_slot (connection e.device) 0).send_budget
    (length (data_of 2 1 (frames_on e.up))) (place_slot e.host 0).unacked (amounts_of 2 1 (frames_on e.down))
    ((place_slot (connection e.device) 0).send_budget
    +ℤ pos (length (data_of 2 1 (frames_on e.up)) + (place_slot e.host 0).unacked + amounts_of 2 1 (frames_on e.down)))

unfoldable pub row_after : Ends → Turn → Row
row_after e (ours c n) = row_of (holds e c n).number (holds e c n).used (turned e (ours c n))
row_after e (theirs x n) = row_of (device_number (gives_there e x n).answer) (gives_there e x n).used (turned e (theirs x n))

unfoldable pub rows_in : Ends → List Turn → List Row
rows_in e [] = []
rows_in e (t ∷ ts) = row_after e t ∷ rows_in (turned e t) ts

-- from the sixth turn on, in which the device took the OPEN, the sum is the opening credit, 8
pub rows-run :
    rows_in (both start) (turns ++ more_turns)
    ≡ row 100 0 false false (pos 0) 0 0 0 (pos 0)
    ∷ row 0 25 false false (pos 0) 0 0 0 (pos 0)
    ∷ row 10 24 false false (pos 0) 0 0 0 (pos 0)
    ∷ row 100 0 false false (pos 0) 0 0 0 (pos 0)
    ∷ row 100 0 false false (pos 0) 0 0 0 (pos 0)
    ∷ row 103 25 false true (pos 8) 0 0 0 (pos 8)
    ∷ row 0 0 false true (pos 3) 5 0 0 (pos 8)
    ∷ row 0 28 true true (pos 3) 5 0 0 (pos 8)
    ∷ row 0 29 true true (pos 3) 0 3 2 (pos 8)
    ∷ row 0 0 true true (negsuc 4) 8 3 2 (pos 8)
    ∷ row 0 32 true true (negsuc 4) 0 11 2 (pos 8)
    ∷ row 0 0 true true (negsuc 4) 0 6 7 (pos 8)
    ∷ row 0 28 true true (negsuc 2) 0 6 5 (pos 8)
    ∷ row 0 28 true true (pos 1) 1 6 0 (pos 8)
    ∷ []
unfolding ends_computing row_of row_after rows_in
rows-run = refl

-- ---- the premises, and what the theorem says, after the turn in which the device wrote past its budget

-- each is one of our calls that the host's functions make
pub hosts-run : HostCalls turns
hosts-run = (tt, (tt, (tt, (tt, (tt, tt)))))

pub modes-run : BothDelayed start
unfolding ends_computing
modes-run = record { ours = refl; device = refl }

-- how many numbers are given out at either end
pub record Counts : Type 0 where
  pub given : ℕ
  pub taken : ℕ

abbrev counts_in : EndsStart → List Turn → Counts
counts_in s ts =
    record {
      given = given_in (events_of (begins s.ours) (our_calls (both s) ts));
      taken = taken_in (device_events (device_begins s.device) (s.early ++ s.first ∷ their_calls (both s) ts));
    }

pub counts-run : counts_in start turns ≡ record { given = 2; taken = 1 }
unfolding ends_computing
counts-run = refl

-- at most 2^32 − 1 numbers are given out at either end
pub few-run : Few start turns
few-run =
    let ours = ap (λ (c : Counts). c.given) counts-run in
    let device = ap (λ (c : Counts). c.taken) counts-run in
    record { ours = omega (arith, ours); device = omega (arith, device) }

-- what the first slot of an end says: filled, closed, its own number and the other end's, unacknowledged bytes
pub record FirstSlot : Type 0 where
  pub filled : Bool
  pub closed : Bool
  pub local : ℕ
  pub remote : ℕ
  pub unacked : ℕ

abbrev told_in : World → FirstSlot
told_in w =
    record {
      filled = (place_slot w 0).filled;
      closed = is_closed (place_slot w 0).state;
      local = (place_slot w 0).local.0;
      remote = (place_slot w 0).remote.0;
      unacked = (place_slot w 0).unacked;
    }

-- both ends then
abbrev past : Ends
past = turned_all (both start) turns

pub here-run : told_in past.host ≡ record { filled = true; closed = false; local = 2; remote = 1; unacked = 3 }
unfolding ends_computing
here-run = refl

pub there-run : told_in (connection past.device) ≡ record { filled = true; closed = false; local = 1; remote = 2; unacked = 0 }
unfolding ends_computing
there-run = refl

pub at-us-run : AtUs past.host 2 3
at-us-run =
    subst (AtUs past.host 2) (ap (λ (t : FirstSlot). t.unacked) here-run)
    (stands 0 (ap (λ (t : FirstSlot). t.filled) here-run) (ap (λ (t : FirstSlot). t.closed) here-run) (ap (λ (t : FirstSlot). t.local) here-run))

pub at-device-run : AtDevice (connection past.device) 2 1
at-device-run =
    record {
      place = 0;
      filled = ap (λ (t : FirstSlot). t.filled) there-run;
      live = ap (λ (t : FirstSlot). t.closed) there-run;
      ours = ap (λ (t : FirstSlot). t.remote) there-run;
      own = ap (λ (t : FirstSlot). t.local) there-run;
    }

-- the sum, as the theorem has it: 5 below 0, and 8, 3 and 2
pub adds-run : Adds start past 2 1 3 (place_slot (connection past.device) 0)
unfolding ends_computing
adds-run = refl

-- the same by the theorem, each of its premises met
pub adds-by-theorem : Adds start past 2 1 3 (place_slot (connection past.device) 0)
unfolding at-device-run
adds-by-theorem = adds-up start turns hosts-run modes-run few-run 2 1 3 at-us-run at-device-run

-- while our open is pending, after the seventh turn, no byte is unacknowledged
abbrev pending : Ends
pending = turned_all (both start) (take 7 turns)

pub pends-run : AtUs pending.host 2 0
unfolding ends_computing
pends-run = pends refl refl

-- the bytes that the device wrote on the channel in all turns; of them, those handed over, those buffered, and those on the line
pub record Bytes : Type 0 where
  pub wrote : List ℕ
  pub given : List ℕ
  pub buffered : List ℕ
  pub waits : List ℕ

abbrev bytes_in_all : EndsStart → List Turn → Bytes
bytes_in_all s ts =
    record {
      wrote = data_of 2 1 (frames_on (all_up (both s) ts));
      given = (book_at (ledger_of (policy_in s.ours) clean (events_of (begins s.ours) (our_calls (both s) ts))) 0).handed;
      buffered = run_of (turned_all (both s) ts).host.rx (policy_in s.ours).rx_cap 0 (place_slot (turned_all (both s) ts).host 0);
      waits = data_of 2 1 (frames_on (turned_all (both s) ts).up);
    }

pub bytes-run :
    bytes_in_all start (turns ++ more_turns)
    ≡ record {
      wrote = 1 ∷ 2 ∷ 3 ∷ 4 ∷ 5 ∷ 6 ∷ 7 ∷ 8 ∷ 9 ∷ 10 ∷ 11 ∷ 12 ∷ 13 ∷ 14 ∷ [];
      given = 1 ∷ 2 ∷ [];
      buffered = 3 ∷ 4 ∷ 5 ∷ 6 ∷ 7 ∷ 8 ∷ 9 ∷ 10 ∷ 11 ∷ 12 ∷ 13 ∷ [];
      waits = 14 ∷ [];
    }
unfolding ends_computing
bytes-run = refl
