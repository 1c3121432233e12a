-- What reading at a device's end gives, and promises. Assumes nothing.
use Rattle.std.specs.Prelude.{ℕ, List, length, Option}
use Rattle.state.specs.declared.Header.{Header}
use Rattle.table.specs.declared.ChannelId.{ChannelId}
use Rattle.connection.specs.declared.Answer.TheVariants.{Waiting}
use Rattle.connection.specs.Calls.{read_step}
use Rattle.call.specs.Promise.{lent_of}
use Rattle.device_meets.specs.declared.Met.{Met}
use Rattle.device.specs.declared.DeviceReply.{DeviceReply}
use Rattle.device.specs.Device.{head_of, inner_of, Gives, shown, met_in, called, admitted_call, device_admitted}
use Rattle.device.specs.Promise.{DeviceLeaves, InnerLeaves}

-- the host's read, handed nothing of a packet that is met here; one that was handled leaves it waiting. room: the reader's buffer's length
unfoldable pub read_met : List ℕ → List ℕ → List ℕ → List ℕ → ChannelId → ℕ → List ℕ → Header → Gives
read_met b rx store names ch room received h =
    let m = met_in b names received h in
    called (head_of b) (inner_of b) Waiting (read_step (lent_of (inner_of b) rx store) ch room (shown received m)) m

-- the call. out: the outgoing buffer's length
unfoldable pub device_read : List ℕ → List ℕ → List ℕ → ℕ → List ℕ → ChannelId → ℕ → List ℕ → Gives
device_read b rx store out names ch room received =
    admitted_call b rx store (device_admitted b (length rx) (length store) out) (read_met b rx store names ch room received)

-- what `read_inner` promises
abbrev pub ReadInnerLeaves : List ℕ → List ℕ → List ℕ → ChannelId → List ℕ → List ℕ → List ℕ → Option Met → DeviceReply → List ℕ → List ℕ → List ℕ → List ℕ → List ℕ → Type 0
ReadInnerLeaves inner rx store ch received out buf m r inner' rx' store' out' buf' =
    InnerLeaves inner Waiting (read_step (lent_of inner rx store) ch (length buf) received) m out buf r inner' rx' store' out' buf'

-- what `read_admitted` promises
abbrev pub ReadAdmittedLeaves : List ℕ → List ℕ → List ℕ → List ℕ → ChannelId → List ℕ → List ℕ → List ℕ → Header → DeviceReply → List ℕ → List ℕ → List ℕ → List ℕ → List ℕ → Type 0
ReadAdmittedLeaves b rx store names ch received out buf h r b' rx' store' out' buf' =
    DeviceLeaves (read_met b rx store names ch (length buf) received h) out buf r b' rx' store' out' buf'

-- what `read` promises
abbrev pub DeviceReadLeaves : List ℕ → List ℕ → List ℕ → List ℕ → ChannelId → List ℕ → List ℕ → List ℕ → DeviceReply → List ℕ → List ℕ → List ℕ → List ℕ → List ℕ → Type 0
DeviceReadLeaves b rx store names ch received out buf r b' rx' store' out' buf' =
    DeviceLeaves (device_read b rx store (length out) names ch (length buf) received) out buf r b' rx' store' out' buf'
