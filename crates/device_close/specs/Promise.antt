-- What closing a stream at a device's end gives, and promises. Assumes nothing.
use Rattle.std.specs.Prelude.{ℕ, List, [], length}
use Rattle.state_whole.specs.Whole.{is_whole}
use Rattle.table.specs.declared.ChannelId.{ChannelId}
use Rattle.connection.specs.Calls.{close_outcome}
use Rattle.call.specs.Promise.{lent_of}
use Rattle.device.specs.declared.DeviceReply.{DeviceReply}
use Rattle.device.specs.Device.{inner_of, Gives, host_gives}
use Rattle.device.specs.Promise.{DeviceLeaves}

-- 13 for the bytes ahead of the connection; else the host's call on the connection's. out: the outgoing buffer's length
unfoldable pub device_close : List ℕ → List ℕ → List ℕ → ℕ → ChannelId → Gives
device_close b rx store out ch =
    host_gives b rx store (close_outcome (is_whole (inner_of b)) (lent_of (inner_of b) rx store) out ch)

-- what `close` promises
abbrev pub DeviceCloseLeaves : List ℕ → List ℕ → List ℕ → ChannelId → List ℕ → DeviceReply → List ℕ → List ℕ → Type 0
DeviceCloseLeaves b rx store ch out r b' out' =
    DeviceLeaves (device_close b rx store (length out) ch) out [] r b' rx store out' []
