-- What each exported function promises, in the terms of `exported`. Assumes nothing.
use Rattle.call_answer.specs.Export.{Does, MakesState, channel_of, limits_of}
use Rattle.std.specs.Prelude.{ℕ, List, [], length}
use Rattle.device_dispatch.specs.Promise.{device_dispatch}
use Rattle.device_read.specs.Promise.{device_read}
use Rattle.device_write.specs.Promise.{device_write}
use Rattle.device_make.specs.Make.{device_made}
use Rattle.device_settle.specs.Promise.{device_settle}
use Rattle.device_take.specs.Promise.{device_take}
use Rattle.device_close.specs.Promise.{device_close}
use Rattle.adb_device.specs.Export.{exported}

-- what `adb_device_dispatch` promises
abbrev pub AdbDeviceDispatchDoes : List ℕ → List ℕ → List ℕ → List ℕ → List ℕ → List ℕ → List ℕ → ℕ → List ℕ → List ℕ → List ℕ → List ℕ → List ℕ → Type 0
AdbDeviceDispatchDoes state rx opens names received out answer r state' rx' opens' out' answer' =
    Does (exported state rx opens (device_dispatch state rx opens (length out) names received) out [] answer) r state' rx' opens' out' [] answer'

-- what `adb_device_read` promises
abbrev pub AdbDeviceReadDoes : List ℕ → List ℕ → List ℕ → List ℕ → ℕ → ℕ → List ℕ → List ℕ → List ℕ → List ℕ → ℕ → List ℕ → List ℕ → List ℕ → List ℕ → List ℕ → List ℕ → Type 0
AdbDeviceReadDoes state rx opens names slot local received out buf answer r state' rx' opens' out' buf' answer' =
    Does (exported state rx opens (device_read state rx opens (length out) names (channel_of slot local) (length buf) received) out buf answer) r
    state' rx' opens' out' buf' answer'

-- what `adb_device_write` promises
abbrev pub AdbDeviceWriteDoes : List ℕ → List ℕ → List ℕ → List ℕ → ℕ → ℕ → List ℕ → List ℕ → List ℕ → List ℕ → ℕ → List ℕ → List ℕ → List ℕ → List ℕ → List ℕ → Type 0
AdbDeviceWriteDoes state rx opens names slot local bytes received out answer r state' rx' opens' out' answer' =
    Does (exported state rx opens (device_write state rx opens (length out) names (channel_of slot local) bytes received) out [] answer) r
    state' rx' opens' out' [] answer'

-- what `adb_device_make` promises
abbrev pub AdbDeviceMakeDoes : List ℕ → ℕ → ℕ → ℕ → ℕ → List ℕ → ℕ → List ℕ → Type 0
AdbDeviceMakeDoes state channels max_payload max_rx_per_channel initial_ack_bytes text r state' =
    MakesState (device_made (limits_of channels max_payload max_rx_per_channel initial_ack_bytes) text state) r state'

-- what `adb_device_settle` promises
abbrev pub AdbDeviceSettleDoes : List ℕ → List ℕ → List ℕ → ℕ → ℕ → ℕ → List ℕ → List ℕ → ℕ → List ℕ → List ℕ → List ℕ → Type 0
AdbDeviceSettleDoes state rx opens slot local want out answer r state' out' answer' =
    Does (exported state rx opens (device_settle state rx opens (length out) (channel_of slot local) want) out [] answer) r state' rx opens out' [] answer'

-- what `adb_device_take` promises
abbrev pub AdbDeviceTakeDoes : List ℕ → List ℕ → List ℕ → ℕ → ℕ → List ℕ → List ℕ → ℕ → List ℕ → List ℕ → List ℕ → Type 0
AdbDeviceTakeDoes state rx opens slot local buf answer r state' buf' answer' =
    Does (exported state rx opens (device_take state rx opens (channel_of slot local) (length buf)) [] buf answer) r state' rx opens [] buf' answer'

-- what `adb_device_close` promises
abbrev pub AdbDeviceCloseDoes : List ℕ → List ℕ → List ℕ → ℕ → ℕ → List ℕ → List ℕ → ℕ → List ℕ → List ℕ → List ℕ → Type 0
AdbDeviceCloseDoes state rx opens slot local out answer r state' out' answer' =
    Does (exported state rx opens (device_close state rx opens (length out) (channel_of slot local)) out [] answer) r state' rx opens out' [] answer'
