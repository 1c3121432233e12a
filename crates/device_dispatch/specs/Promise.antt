-- What dispatching a packet at a device's end gives, and promises. Assumes nothing.
use Rattle.std.specs.Prelude.{ℕ, ◌+◌, Bool, true, false, cond, List, [], length, Option, Some, None, Result, Ok, Err}
use Rattle.protocol.specs.declared.command.Command.{Command}
use Rattle.protocol.specs.declared.command.Command.TheVariants.{Sync, Connect, Open, Ready, Close, Write, Auth, StartTls}
use Rattle.protocol.specs.declared.packet.DecodeError.{DecodeError}
use Rattle.protocol.specs.declared.packet.Packet.{Packet}
use Rattle.protocol.specs.Message.{message_size}
use Rattle.protocol.specs.Packet.{payload_of, decode_of}
use Rattle.state.specs.declared.Header.{Header}
use Rattle.connection.specs.declared.Answer.TheVariants.{Done}
use Rattle.connection.specs.Calls.{dispatch_step}
use Rattle.call.specs.Promise.{lent_of}
use Rattle.device_meets.specs.declared.Met.{Met}
use Rattle.device_meets.specs.Meets.{ignored}
use Rattle.device.specs.declared.DeviceReply.{DeviceReply}
use Rattle.device.specs.Device.{head_of, inner_of, is_connected, Gives, shown, met_in, called, admitted_call, device_admitted}
use Rattle.device.specs.Promise.{DeviceLeaves, InnerLeaves}
use Rattle.device_connect.specs.Connect.{connected_as}

-- a CNXN
unfoldable pub is_cnxn : Command → Bool
is_cnxn Sync = false
is_cnxn Connect = true
is_cnxn Open = false
is_cnxn Ready = false
is_cnxn Close = false
is_cnxn Write = false
is_cnxn Auth = false
is_cnxn StartTls = false

-- the host's dispatch, handed nothing of a packet that is met here; one that was handled is done
unfoldable pub dispatch_with : List ℕ → List ℕ → List ℕ → List ℕ → Option Met → Gives
dispatch_with b rx store received m =
    called (head_of b) (inner_of b) Done (dispatch_step (lent_of (inner_of b) rx store) (shown received m)) m

-- before the host's CNXN came ("Any messages received before a CONNECT message MUST be ignored"): it is answered, and any other packet is
-- used and ignored. out: the outgoing buffer's length
unfoldable pub first_by : List ℕ → List ℕ → List ℕ → ℕ → List ℕ → Header → Result (Option Packet) DecodeError → Gives
first_by b rx store out received h (Ok (Some p)) =
    cond (is_cnxn p.command) (connected_as b out h.negotiated.config p (payload_of received p.data_length) rx store)
    (dispatch_with b rx store received (ignored (message_size + p.data_length)))
first_by b rx store out received h (Ok None) = dispatch_with b rx store received None
first_by b rx store out received h (Err e) = dispatch_with b rx store received None

-- by whether the host's CNXN came
unfoldable pub dispatch_met : List ℕ → List ℕ → List ℕ → ℕ → List ℕ → List ℕ → Header → Gives
dispatch_met b rx store out names received h =
    cond (is_connected b) (dispatch_with b rx store received (met_in b names received h))
    (first_by b rx store out received h (decode_of received h.negotiated.config.max_payload))

-- the call
unfoldable pub device_dispatch : List ℕ → List ℕ → List ℕ → ℕ → List ℕ → List ℕ → Gives
device_dispatch b rx store out names received =
    admitted_call b rx store (device_admitted b (length rx) (length store) out) (dispatch_met b rx store out names received)

-- what `dispatch_inner` promises
abbrev pub InnerDispatchLeaves : List ℕ → List ℕ → List ℕ → List ℕ → List ℕ → Option Met → DeviceReply → List ℕ → List ℕ → List ℕ → List ℕ → Type 0
InnerDispatchLeaves inner rx store received out m r inner' rx' store' out' =
    InnerLeaves inner Done (dispatch_step (lent_of inner rx store) received) m out [] r inner' rx' store' out' []

-- what `dispatch_with` promises
abbrev pub WithLeaves : List ℕ → List ℕ → List ℕ → List ℕ → List ℕ → Option Met → DeviceReply → List ℕ → List ℕ → List ℕ → List ℕ → Type 0
WithLeaves b rx store received out m r b' rx' store' out' = DeviceLeaves (dispatch_with b rx store received m) out [] r b' rx' store' out' []

-- what `dispatch_first` promises
abbrev pub FirstLeaves : List ℕ → List ℕ → List ℕ → List ℕ → List ℕ → Header → DeviceReply → List ℕ → List ℕ → List ℕ → List ℕ → Type 0
FirstLeaves b rx store received out h r b' rx' store' out' =
    DeviceLeaves (first_by b rx store (length out) received h (decode_of received h.negotiated.config.max_payload)) out [] r b' rx' store' out' []

-- what `dispatch_admitted` promises
abbrev pub MetLeaves : List ℕ → List ℕ → List ℕ → List ℕ → List ℕ → List ℕ → Header → DeviceReply → List ℕ → List ℕ → List ℕ → List ℕ → Type 0
MetLeaves b rx store names received out h r b' rx' store' out' =
    DeviceLeaves (dispatch_met b rx store (length out) names received h) out [] r b' rx' store' out' []

-- what `dispatch` promises
abbrev pub DeviceDispatchLeaves : List ℕ → List ℕ → List ℕ → List ℕ → List ℕ → List ℕ → DeviceReply → List ℕ → List ℕ → List ℕ → List ℕ → Type 0
DeviceDispatchLeaves b rx store names received out r b' rx' store' out' =
    DeviceLeaves (device_dispatch b rx store (length out) names received) out [] r b' rx' store' out' []
