-- Demand 3 at a device's end, over every list of its calls (docs/SCOPE.md, 7 and 8): with the books of what its calls are to the
-- connection. Assumes nothing.
use Rattle.std.specs.Prelude.{◌^◌, ◌<◌, List}
use Rattle.history.specs.Seen.{events_of}
use Rattle.history.specs.Demand3.{Apart, Claims}
use Rattle.history.specs.Numbers.{given_in}
use Rattle.device_history.specs.Run.{DeviceCall, connection, leaves_all, DeviceStart, device_begins}
use Rattle.device_history.specs.Trace.{begins_at, policy_at, story}

-- what is claimed of a list of device calls: each channel's bytes reach its reader exactly, in order, once; and all else that is
-- claimed of the connection's list
abbrev pub Exact : DeviceStart → List DeviceCall → Type 0
Exact d xs =
    let s = story d xs in
    Claims (policy_at s.from) (connection (leaves_all (device_begins d) xs)) (events_of (begins_at s.from) s.calls)

-- for all lists in which no two channels share a local number
abbrev pub DeviceExact : Type 0
DeviceExact = (d : DeviceStart) (xs : List DeviceCall) → Apart (begins_at (story d xs).from) (story d xs).calls → Exact d xs

-- so on all in which at most 2^32 − 1 numbers are given out
abbrev pub DeviceExactFree : Type 0
DeviceExactFree =
    (d : DeviceStart) (xs : List DeviceCall) → given_in (events_of (begins_at (story d xs).from) (story d xs).calls) < 2 ^ 32 → Exact d xs
