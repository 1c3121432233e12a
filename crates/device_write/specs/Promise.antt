-- What writing at a device's end gives, and promises. Assumes nothing.
use Rattle.std.specs.Prelude.{ℕ, List, [], length, Option}
use Rattle.slot.specs.declared.Spending.TheVariants.{Beyond}
use Rattle.state.specs.declared.Header.{Header}
use Rattle.table.specs.declared.ChannelId.{ChannelId}
use Rattle.connection.specs.declared.Answer.TheVariants.{Waiting}
use Rattle.connection.specs.Calls.{write_step}
use Rattle.call.specs.Promise.{lent_of}
use Rattle.device_meets.specs.declared.Met.{Met}
use Rattle.device.specs.declared.DeviceReply.{DeviceReply}
use Rattle.device.specs.Device.{head_of, inner_of, Gives, shown, met_in, called, admitted_call, device_admitted}
use Rattle.device.specs.Promise.{DeviceLeaves, InnerLeaves}

-- the host's write, but that a WRTE may pass the budget (delayed acknowledgement, fact 5), handed nothing of a packet that is met here;
-- one that was handled leaves it waiting. out: the outgoing buffer's length
unfoldable pub write_met : List ℕ → List ℕ → List ℕ → ℕ → List ℕ → ChannelId → List ℕ → List ℕ → Header → Gives
write_met b rx store out names ch bytes received h =
    let m = met_in b names received h in
    called (head_of b) (inner_of b) Waiting (write_step Beyond (lent_of (inner_of b) rx store) ch out bytes (shown received m)) m

-- the call
unfoldable pub device_write : List ℕ → List ℕ → List ℕ → ℕ → List ℕ → ChannelId → List ℕ → List ℕ → Gives
device_write b rx store out names ch bytes received =
    admitted_call b rx store (device_admitted b (length rx) (length store) out) (write_met b rx store out names ch bytes received)

-- what `write_inner` promises
abbrev pub WriteInnerLeaves : List ℕ → List ℕ → List ℕ → ChannelId → List ℕ → List ℕ → List ℕ → Option Met → DeviceReply → List ℕ → List ℕ → List ℕ → List ℕ → Type 0
WriteInnerLeaves inner rx store ch bytes received out m r inner' rx' store' out' =
    InnerLeaves inner Waiting (write_step Beyond (lent_of inner rx store) ch (length out) bytes received) m out [] r inner' rx' store' out' []

-- what `write_admitted` promises
abbrev pub WriteAdmittedLeaves : List ℕ → List ℕ → List ℕ → List ℕ → ChannelId → List ℕ → List ℕ → List ℕ → Header → DeviceReply → List ℕ → List ℕ → List ℕ → List ℕ → Type 0
WriteAdmittedLeaves b rx store names ch bytes received out h r b' rx' store' out' =
    DeviceLeaves (write_met b rx store (length out) names ch bytes received h) out [] r b' rx' store' out' []

-- what `write` promises
abbrev pub DeviceWriteLeaves : List ℕ → List ℕ → List ℕ → List ℕ → ChannelId → List ℕ → List ℕ → List ℕ → DeviceReply → List ℕ → List ℕ → List ℕ → List ℕ → Type 0
DeviceWriteLeaves b rx store names ch bytes received out r b' rx' store' out' =
    DeviceLeaves (device_write b rx store (length out) names ch bytes received) out [] r b' rx' store' out' []
