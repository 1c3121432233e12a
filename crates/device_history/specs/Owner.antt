-- The books as the owner of a device's end keeps them (docs/SCOPE.md, 8): told from each call's arguments, and what it holds after the
-- call. Assumes nothing.
use Rattle.std.specs.Prelude.{ℕ, ◌+◌, ◌-◌, ◌^◌, ◌<◌, Bool, true, false, not, cond, ◌&&◌, ◌||◌, List, [], ◌∷◌, ◌++◌, ◌≡◌, eqb, ltb, length, take, drop}
use Rattle.config.specs.declared.negotiated.RxPolicy.{RxPolicy}
use Rattle.protocol.specs.declared.command.Command.TheVariants.{Connect, Open, Ready, Close, Write}
use Rattle.protocol.specs.declared.message.Message.{Message}
use Rattle.protocol.specs.Command.{word_of}
use Rattle.slot.specs.declared.Spending.TheVariants.{Beyond}
use Rattle.table.specs.Table.{first}
use Rattle.connection.specs.Frames.{Sent}
use Rattle.history.specs.Run.{Call, dispatch_call, read_call, write_call, settle_call, take_call, close_call, verdict_call, bytes_in}
use Rattle.history.specs.Seen.{Seen, sent_in, events_of}
use Rattle.history.specs.Book.{Book, header_at, Ledger, clean, book_at, entry, ledger_of}
use Rattle.history.specs.Demand3.{Apart, Place, place_slot, run_of}
use Rattle.device.specs.Device.{Gives}
use Rattle.device.specs.Answer.{device_number, device_values}
use Rattle.device_history.specs.Run.{DeviceCall, device_dispatches, device_reads, device_writes, device_settles, device_takes, device_closes, DeviceWorld, connection, gives, leaves, leaves_all, DeviceStart, device_begins}
use Rattle.device_history.specs.Trace.{begins_at, policy_at, story}

-- ---- what is seen of a call

-- number, values, bytes used; the frames in the bytes written; the bytes handed over
unfoldable pub device_seen : Gives → Seen
device_seen g = record { number = device_number g.answer; values = device_values g.answer; used = g.used; sent = sent_in 2 g.written; got = g.handed }

-- a call, and what is seen of it
pub record DeviceEvent : Type 0 where
  pub call : DeviceCall
  pub seen : Seen

-- what is seen of each call of a list
unfoldable pub device_events : DeviceWorld → List DeviceCall → List DeviceEvent
device_events w [] = []
device_events w (x ∷ xs) = record { call = x; seen = device_seen (gives w x) } ∷ device_events (leaves w x) xs

-- ---- what it is to the books

-- the received bytes that a call is handed
unfoldable pub arrived : DeviceCall → List ℕ
arrived (device_dispatches out names received) = received
arrived (device_reads out names ch buf received) = received
arrived (device_writes out names ch bytes received) = received
arrived (device_settles out ch want) = []
arrived (device_takes ch buf) = []
arrived (device_closes out ch) = []

-- the host's call, handed these bytes
unfoldable pub host_call : DeviceCall → List ℕ → Call
host_call (device_dispatches out names received) r = dispatch_call out r
host_call (device_reads out names ch buf received) r = read_call out ch buf r
host_call (device_writes out names ch bytes received) r = write_call Beyond out ch bytes r
host_call (device_settles out ch want) r = settle_call out ch want
host_call (device_takes ch buf) r = take_call ch buf
host_call (device_closes out ch) r = close_call out ch

-- a channel with this number of ours is there, and not closed
unfoldable pub is_stream_of : ℕ → Book → Bool
is_stream_of l b = b.there && not b.closed && eqb b.local l

-- some place has one; 0 names none
unfoldable pub names_stream : List Book → ℕ → Bool
names_stream d l = not (eqb l 0) && ltb (first (is_stream_of l) d) (length d)

-- an OPEN and a CNXN never pass to the connection; an OKAY, a WRTE and a CLSE do where their second number names an open stream;
-- the others do. word: the command's
unfoldable pub passes_as : List Book → ℕ → ℕ → Bool
passes_as d word arg1 =
    cond (eqb word (word_of Open) || eqb word (word_of Connect)) false
    (cond (eqb word (word_of Ready) || eqb word (word_of Write) || eqb word (word_of Close)) (names_stream d arg1) true)

-- a packet that was used
abbrev pub passes : List Book → Message → Bool
passes d m = passes_as d m.command m.arg1

-- one of the host's calls, and what is to be seen of it
pub record Entry : Type 0 where
  pub call : Call
  pub seen : Seen

-- the call as it is
abbrev pub as_it_is : DeviceCall → Seen → Entry
as_it_is x o = record { call = host_call x (arrived x); seen = o }

-- the call with no bytes, which waits; fs: the frames that it wrote
abbrev pub with_none : DeviceCall → Seen → List Sent → Entry
with_none x o fs = record { call = host_call x []; seen = record { number = 100; values = 0 ∷ 0 ∷ 0 ∷ 0 ∷ []; used = 0; sent = fs; got = o.got } }

-- an OPEN that was taken, by the numbers of its header, and with the frames written for it
abbrev pub taking : DeviceCall → Seen → List Sent → Entry
taking x o fs =
    let m = header_at (bytes_in (arrived x)) in
    record {
      call = verdict_call [] true (record { 0 = m.arg0 }) m.arg1;
      seen = record { number = 0; values = o.values; used = 0; sent = fs; got = [] };
    }

-- what a call stands for. d: the books of all places before it. Where an OPEN was taken, the last frame is the OKAY that says so; where
-- nothing or a damaged frame was used, or a packet that passes, the call is as it is; all other packets count for nothing
unfoldable pub stands_for : List Book → DeviceCall → Seen → List Entry
stands_for d x o =
    cond (eqb o.number 103) (with_none x o (take (length o.sent - 1) o.sent) ∷ taking x o (drop (length o.sent - 1) o.sent) ∷ [])
    (cond (eqb o.used 0 || eqb o.number 4 || passes d (header_at (bytes_in (arrived x)))) (as_it_is x o ∷ []) (with_none x o o.sent ∷ []))

-- ---- the books

-- the ledger after what a call stands for
unfoldable pub entries : RxPolicy → List Entry → Ledger → Ledger
entries p [] l = l
entries p (e ∷ es) l = entries p es (entry p e.call e.seen l)

-- after a call; where the host's CNXN was answered it begins anew
unfoldable pub device_entry : RxPolicy → DeviceCall → Seen → Ledger → Ledger
device_entry p x o l = cond (eqb o.number 104) clean (entries p (stands_for l.books x o) l)

-- after a list of calls
unfoldable pub device_ledger : RxPolicy → Ledger → List DeviceEvent → Ledger
device_ledger p l [] = l
device_ledger p l (e ∷ es) = device_ledger p (device_entry p e.call e.seen l) es

-- the owner's, from a make on
abbrev pub owner_ledger : DeviceStart → List DeviceCall → Ledger
owner_ledger d xs = device_ledger (policy_at (story d xs).from) clean (device_events (device_begins d) xs)

-- ---- they are the books of the connection's list

-- for all lists in which no two channels share a local number
abbrev pub OwnersBooks : Type 0
OwnersBooks =
    (d : DeviceStart) (xs : List DeviceCall) → let s = story d xs in
    Apart (begins_at s.from) s.calls → owner_ledger d xs ≡ ledger_of (policy_at s.from) clean (events_of (begins_at s.from) s.calls)

-- so of each place all is claimed that is claimed at the host's end
abbrev pub OwnersExact : Type 0
OwnersExact =
    (d : DeviceStart) (xs : List DeviceCall) → let s = story d xs in
    let v = connection (leaves_all (device_begins d) xs) in
    Apart (begins_at s.from) s.calls
    → (i : ℕ) → Place (policy_at s.from) (place_slot v i) (run_of v.rx (policy_at s.from).rx_cap i (place_slot v i)) (book_at (owner_ledger d xs) i)

-- how many OPENs were taken
unfoldable pub taken_in : List DeviceEvent → ℕ
taken_in [] = 0
taken_in (e ∷ es) = cond (eqb e.seen.number 103) 1 0 + taken_in es

-- with no premise but that at most 2^32 − 1 are
abbrev pub OwnersExactFree : Type 0
OwnersExactFree =
    (d : DeviceStart) (xs : List DeviceCall) → let s = story d xs in
    let v = connection (leaves_all (device_begins d) xs) in
    taken_in (device_events (device_begins d) xs) < 2 ^ 32
    → (i : ℕ) → Place (policy_at s.from) (place_slot v i) (run_of v.rx (policy_at s.from).rx_cap i (place_slot v i)) (book_at (owner_ledger d xs) i)

-- ---- refusal 11

-- a book has it, and in delayed mode that the host broke its rule
pub record Broke (p : RxPolicy) (l : Ledger) : Type 0 where
  pub place : ℕ
  pub over : (book_at l place).over ≡ true
  pub rule : p.delayed ≡ true → (book_at l place).kept ≡ false

-- a call that answers 11 does not go unseen: a host that keeps its rule never meets it
abbrev pub OwnersNever11 : Type 0
OwnersNever11 =
    (d : DeviceStart) (xs : List DeviceCall) (x : DeviceCall) → let s = story d (xs ++ x ∷ []) in
    Apart (begins_at s.from) s.calls → device_number (gives (leaves_all (device_begins d) xs) x).answer ≡ 11 → Broke (policy_at s.from) (owner_ledger d (xs ++ x ∷ []))
