-- What taking at a device's end gives, and promises. Assumes nothing.
use Rattle.std.specs.Prelude.{ℕ, List, [], length}
use Rattle.state_whole.specs.Whole.{is_whole}
use Rattle.table.specs.declared.ChannelId.{ChannelId}
use Rattle.connection.specs.Calls.{take_outcome}
use Rattle.call.specs.Promise.{lent_of}
use Rattle.device.specs.declared.DeviceReply.{DeviceReply}
use Rattle.device.specs.Device.{inner_of, Gives, host_gives}
use Rattle.device.specs.Promise.{DeviceLeaves}

-- 13 for the bytes ahead of the connection; else the host's call on the connection's. room: the reader's buffer's length
unfoldable pub device_take : List ℕ → List ℕ → List ℕ → ChannelId → ℕ → Gives
device_take b rx store ch room =
    host_gives b rx store (take_outcome (is_whole (inner_of b)) (lent_of (inner_of b) rx store) ch room)

-- what `take` promises
abbrev pub DeviceTakeLeaves : List ℕ → List ℕ → List ℕ → ChannelId → List ℕ → DeviceReply → List ℕ → List ℕ → Type 0
DeviceTakeLeaves b rx store ch buf r b' buf' =
    DeviceLeaves (device_take b rx store ch (length buf)) [] buf r b' rx store [] buf'
