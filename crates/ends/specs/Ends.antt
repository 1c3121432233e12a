-- Two ends, and two lines of bytes between them that keep order and lose nothing (docs/SCOPE.md, 16). Assumes nothing.
use Rattle.std.specs.Prelude.{ℕ, List, [], ◌∷◌, ◌++◌, ◌≡◌, take, drop}
use Rattle.history.specs.Run.{Call, open_call, dispatch_call, settle_call, take_call, read_call, write_call, close_call, front_taken, look_call, accept_call, reject_call, let_go_call, verdict_call, World, after, Start, begins}
use Rattle.history.specs.Seen.{Held, held_of, said_by}
use Rattle.device.specs.Device.{Gives}
use Rattle.device.specs.Answer.{device_number}
use Rattle.device_history.specs.Run.{DeviceCall, device_dispatches, device_reads, device_writes, device_settles, device_takes, device_closes, DeviceWorld, gives, leaves, leaves_all, DeviceStart, device_begins}

-- ---- both ends

-- the bytes that each is lent; what has arrived on its line and is not used
pub record Ends : Type 0 where
  pub host : World
  pub device : DeviceWorld
  -- from the device to us, and from us to the device
  pub up : List ℕ
  pub down : List ℕ

-- ours as make leaves it; the device's as the call leaves it that answers the host's CNXN, whatever its calls before
pub record EndsStart : Type 0 where
  pub ours : Start
  pub device : DeviceStart
  pub early : List DeviceCall
  pub first : DeviceCall
  pub answers : device_number (gives (leaves_all (device_begins device) early) first).answer ≡ 104

-- with nothing on the lines
abbrev pub both : EndsStart → Ends
both s = record { host = begins s.ours; device = leaves (leaves_all (device_begins s.device) s.early) s.first; up = []; down = [] }

-- ---- calls

-- a call of either end, and how many of the bytes on its line it is lent; all else that it is lent is any
pub data Turn : Type 0 where
  ours : Call → ℕ → Turn
  theirs : DeviceCall → ℕ → Turn

-- our call, handed these bytes
unfoldable pub handed : List ℕ → Call → Call
handed r (open_call out destination received) = open_call out destination r
handed r (dispatch_call out received) = dispatch_call out r
handed r (settle_call out ch want) = settle_call out ch want
handed r (take_call ch buf) = take_call ch buf
handed r (read_call out ch buf received) = read_call out ch buf r
handed r (write_call spending out ch bytes received) = write_call spending out ch bytes r
handed r (close_call out ch) = close_call out ch
handed r front_taken = front_taken
handed r (look_call x) = look_call x
handed r (accept_call out) = accept_call out
handed r (reject_call out) = reject_call out
handed r let_go_call = let_go_call
handed r (verdict_call out take remote credit) = verdict_call out take remote credit

-- a device's call
unfoldable pub handed_there : List ℕ → DeviceCall → DeviceCall
handed_there r (device_dispatches out names received) = device_dispatches out names r
handed_there r (device_reads out names ch buf received) = device_reads out names ch buf r
handed_there r (device_writes out names ch bytes received) = device_writes out names ch bytes r
handed_there r (device_settles out ch want) = device_settles out ch want
handed_there r (device_takes ch buf) = device_takes ch buf
handed_there r (device_closes out ch) = device_closes out ch

-- the calls as they are made
abbrev pub our_call : Ends → Call → ℕ → Call
our_call e c n = handed (take n e.up) c

abbrev pub their_call : Ends → DeviceCall → ℕ → DeviceCall
their_call e x n = handed_there (take n e.down) x

-- what our caller holds after it
abbrev pub holds : Ends → Call → ℕ → Held
holds e c n = said_by (held_of e.host (our_call e c n))

-- what a device's call gives
abbrev pub gives_there : Ends → DeviceCall → ℕ → Gives
gives_there e x n = gives e.device (their_call e x n)

-- the bytes that a call used leave its line; those that it wrote join the other
unfoldable pub turned : Ends → Turn → Ends
turned e (ours c n) =
    record {
      host = after e.host (our_call e c n);
      device = e.device;
      up = drop (holds e c n).used e.up;
      down = e.down ++ take (holds e c n).written (holds e c n).out;
    }
turned e (theirs x n) =
    record {
      host = e.host;
      device = leaves e.device (their_call e x n);
      up = e.up ++ (gives_there e x n).written;
      down = drop (gives_there e x n).used e.down;
    }

-- after a list of calls
unfoldable pub turned_all : Ends → List Turn → Ends
turned_all e [] = e
turned_all e (t ∷ ts) = turned_all (turned e t) ts

-- ---- what each end's calls are

-- our calls of a list
unfoldable pub our_calls : Ends → List Turn → List Call
our_calls e [] = []
our_calls e (ours c n ∷ ts) = our_call e c n ∷ our_calls (turned e (ours c n)) ts
our_calls e (theirs x n ∷ ts) = our_calls (turned e (theirs x n)) ts

-- the device's
unfoldable pub their_calls : Ends → List Turn → List DeviceCall
their_calls e [] = []
their_calls e (ours c n ∷ ts) = their_calls (turned e (ours c n)) ts
their_calls e (theirs x n ∷ ts) = their_call e x n ∷ their_calls (turned e (theirs x n)) ts

-- all bytes that the device's calls wrote
unfoldable pub all_up : Ends → List Turn → List ℕ
all_up e [] = []
all_up e (ours c n ∷ ts) = all_up (turned e (ours c n)) ts
all_up e (theirs x n ∷ ts) = (gives_there e x n).written ++ all_up (turned e (theirs x n)) ts

-- a call that the host's functions make: all but the verdict
abbrev pub HostCall : Call → Type 0
HostCall (open_call out destination received) = Unit {0}
HostCall (dispatch_call out received) = Unit {0}
HostCall (settle_call out ch want) = Unit {0}
HostCall (take_call ch buf) = Unit {0}
HostCall (read_call out ch buf received) = Unit {0}
HostCall (write_call spending out ch bytes received) = Unit {0}
HostCall (close_call out ch) = Unit {0}
HostCall front_taken = Unit {0}
HostCall (look_call x) = Unit {0}
HostCall (accept_call out) = Unit {0}
HostCall (reject_call out) = Unit {0}
HostCall let_go_call = Unit {0}
HostCall (verdict_call out take remote credit) = ⊥

-- so are all of ours
abbrev pub HostCalls : List Turn → Type 0
HostCalls [] = Unit {0}
HostCalls (ours c n ∷ ts) = HostCall c × HostCalls ts
HostCalls (theirs x n ∷ ts) = HostCalls ts
