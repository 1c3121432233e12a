-- What each exported function promises, in the terms of `exported` and of `make_in`. Assumes nothing.
use Rattle.call_answer.specs.Export.{Does, MakesState, channel_of, limits_of}
use Rattle.std.specs.Prelude.{List, [], ℕ}
use Rattle.slot.specs.declared.Spending.TheVariants.{Within}
use Rattle.call_make.specs.Make.{make_in, make_from}
use Rattle.history.specs.Run.{open_call, dispatch_call, settle_call, take_call, read_call, write_call, close_call, front_taken, look_call, numbers_look, accept_call, reject_call, let_go_call}
use Rattle.adb.specs.Export.{world_of, exported, is_yes}

-- what `adb_open` promises
abbrev pub AdbOpenDoes : List ℕ → List ℕ → List ℕ → List ℕ → List ℕ → List ℕ → List ℕ → ℕ → List ℕ → List ℕ → List ℕ → List ℕ → List ℕ → Type 0
AdbOpenDoes state rx opens destination received out answer r state' rx' opens' out' answer' =
    Does (exported (world_of state rx opens) (open_call out destination received) out [] answer) r state' rx' opens' out' [] answer'

-- what `adb_dispatch` promises
abbrev pub AdbDispatchDoes : List ℕ → List ℕ → List ℕ → List ℕ → List ℕ → List ℕ → ℕ → List ℕ → List ℕ → List ℕ → List ℕ → List ℕ → Type 0
AdbDispatchDoes state rx opens received out answer r state' rx' opens' out' answer' =
    Does (exported (world_of state rx opens) (dispatch_call out received) out [] answer) r state' rx' opens' out' [] answer'

-- what `adb_settle` promises
abbrev pub AdbSettleDoes : List ℕ → List ℕ → List ℕ → ℕ → ℕ → ℕ → List ℕ → List ℕ → ℕ → List ℕ → List ℕ → List ℕ → Type 0
AdbSettleDoes state rx opens slot local want out answer r state' out' answer' =
    Does (exported (world_of state rx opens) (settle_call out (channel_of slot local) want) out [] answer) r state' rx
    opens out' [] answer'

-- what `adb_take` promises
abbrev pub AdbTakeDoes : List ℕ → List ℕ → List ℕ → ℕ → ℕ → List ℕ → List ℕ → ℕ → List ℕ → List ℕ → List ℕ → Type 0
AdbTakeDoes state rx opens slot local buf answer r state' buf' answer' =
    Does (exported (world_of state rx opens) (take_call (channel_of slot local) buf) [] buf answer) r state' rx opens
    [] buf' answer'

-- what `adb_read` promises
abbrev pub AdbReadDoes : List ℕ → List ℕ → List ℕ → ℕ → ℕ → List ℕ → List ℕ → List ℕ → List ℕ → ℕ → List ℕ → List ℕ → List ℕ → List ℕ → List ℕ → List ℕ → Type 0
AdbReadDoes state rx opens slot local received out buf answer r state' rx' opens' out' buf' answer' =
    Does (exported (world_of state rx opens) (read_call out (channel_of slot local) buf received) out buf answer) r
    state' rx' opens' out' buf' answer'

-- what `adb_write` promises: it sends within the budget
abbrev pub AdbWriteDoes : List ℕ → List ℕ → List ℕ → ℕ → ℕ → List ℕ → List ℕ → List ℕ → List ℕ → ℕ → List ℕ → List ℕ → List ℕ → List ℕ → List ℕ → Type 0
AdbWriteDoes state rx opens slot local bytes received out answer r state' rx' opens' out' answer' =
    Does (exported (world_of state rx opens) (write_call Within out (channel_of slot local) bytes received) out [] answer) r
    state' rx' opens' out' [] answer'

-- what `adb_close` promises
abbrev pub AdbCloseDoes : List ℕ → List ℕ → List ℕ → ℕ → ℕ → List ℕ → List ℕ → ℕ → List ℕ → List ℕ → List ℕ → Type 0
AdbCloseDoes state rx opens slot local out answer r state' out' answer' =
    Does (exported (world_of state rx opens) (close_call out (channel_of slot local)) out [] answer) r state' rx opens
    out' [] answer'

-- what `adb_take_front` promises
abbrev pub AdbTakeFrontDoes : List ℕ → List ℕ → List ℕ → List ℕ → ℕ → List ℕ → List ℕ → Type 0
AdbTakeFrontDoes state rx opens answer r state' answer' =
    Does (exported (world_of state rx opens) front_taken [] [] answer) r state' rx opens [] [] answer'

-- what `adb_numbers` promises: it only looks
abbrev pub AdbNumbersDoes : List ℕ → List ℕ → List ℕ → ℕ → ℕ → List ℕ → ℕ → List ℕ → Type 0
AdbNumbersDoes state rx opens slot local answer r answer' =
    Does (exported (world_of state rx opens) (look_call (numbers_look (channel_of slot local))) [] [] answer) r state rx opens [] [] answer'

-- what `adb_accept` promises
abbrev pub AdbAcceptDoes : List ℕ → List ℕ → List ℕ → List ℕ → List ℕ → ℕ → List ℕ → List ℕ → List ℕ → Type 0
AdbAcceptDoes state rx opens out answer r state' out' answer' =
    Does (exported (world_of state rx opens) (accept_call out) out [] answer) r state' rx opens out' [] answer'

-- what `adb_reject` promises
abbrev pub AdbRejectDoes : List ℕ → List ℕ → List ℕ → List ℕ → List ℕ → ℕ → List ℕ → List ℕ → List ℕ → Type 0
AdbRejectDoes state rx opens out answer r state' out' answer' =
    Does (exported (world_of state rx opens) (reject_call out) out [] answer) r state' rx opens out' [] answer'

-- what `adb_let_go` promises
abbrev pub AdbLetGoDoes : List ℕ → List ℕ → List ℕ → List ℕ → ℕ → List ℕ → List ℕ → Type 0
AdbLetGoDoes state rx opens answer r state' answer' =
    Does (exported (world_of state rx opens) let_go_call [] [] answer) r state' rx opens [] [] answer'

-- what `adb_make` promises
abbrev pub AdbMakeDoes : List ℕ → ℕ → ℕ → ℕ → ℕ → ℕ → ℕ → ℕ → ℕ → ℕ → List ℕ → Type 0
AdbMakeDoes state channels max_payload max_rx_per_channel initial_ack_bytes version device_max_payload host_delayed_ack device_delayed_ack r state' =
    MakesState
    (make_in (limits_of channels max_payload max_rx_per_channel initial_ack_bytes) version device_max_payload (is_yes host_delayed_ack) (is_yes device_delayed_ack) state)
    r state'

-- what `adb_make_from_cnxn` promises
abbrev pub AdbMakeFromCnxnDoes : List ℕ → ℕ → ℕ → ℕ → ℕ → ℕ → ℕ → List ℕ → ℕ → ℕ → List ℕ → Type 0
AdbMakeFromCnxnDoes state channels max_payload max_rx_per_channel initial_ack_bytes version device_max_payload identity host_delayed_ack r state' =
    MakesState
    (make_from (limits_of channels max_payload max_rx_per_channel initial_ack_bytes) version device_max_payload (is_yes host_delayed_ack) identity state)
    r state'
