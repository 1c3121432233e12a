-- Lists of calls at a device's end, each on the state and stores that the last one left. Assumes nothing.
use Rattle.std.specs.Prelude.{ℕ, ◌≡◌, List, [], ◌∷◌, ◌++◌, length}
use Rattle.config.specs.declared.ConnectionConfig.{ConnectionConfig}
use Rattle.table.specs.declared.ChannelId.{ChannelId}
use Rattle.history.specs.Run.{World, bytes_in}
use Rattle.device.specs.Device.{inner_of, Gives}
use Rattle.device_dispatch.specs.Promise.{device_dispatch}
use Rattle.device_read.specs.Promise.{device_read}
use Rattle.device_write.specs.Promise.{device_write}
use Rattle.device_settle.specs.Promise.{device_settle}
use Rattle.device_take.specs.Promise.{device_take}
use Rattle.device_close.specs.Promise.{device_close}
use Rattle.device_make.specs.Make.{device_made}
use Rattle.connection.specs.declared.Answer.TheVariants.{Done}

-- a call and its arguments: the outgoing buffer; the names; then what the call takes; the reader's buffer; received bytes last. Any
-- numbers stand for bytes
pub data DeviceCall : Type 0 where
  device_dispatches : List ℕ → List ℕ → List ℕ → DeviceCall
  device_reads : List ℕ → List ℕ → ChannelId → List ℕ → List ℕ → DeviceCall
  device_writes : List ℕ → List ℕ → ChannelId → List ℕ → List ℕ → DeviceCall
  device_settles : List ℕ → ChannelId → ℕ → DeviceCall
  device_takes : ChannelId → List ℕ → DeviceCall
  device_closes : List ℕ → ChannelId → DeviceCall

-- the lent bytes that last from call to call: a device's state, and both stores
pub record DeviceWorld : Type 0 where
  pub state : List ℕ
  pub rx : List ℕ
  pub store : List ℕ

-- the connection's part of them
abbrev pub connection : DeviceWorld → World
connection w = record { state = inner_of w.state; rx = w.rx; store = w.store }

-- a call's own definition on the lent bytes
unfoldable pub gives : DeviceWorld → DeviceCall → Gives
gives w (device_dispatches out names received) = device_dispatch w.state w.rx w.store (length out) (bytes_in names) (bytes_in received)
gives w (device_reads out names ch buf received) = device_read w.state w.rx w.store (length out) (bytes_in names) ch (length buf) (bytes_in received)
gives w (device_writes out names ch bytes received) = device_write w.state w.rx w.store (length out) (bytes_in names) ch (bytes_in bytes) (bytes_in received)
gives w (device_settles out ch want) = device_settle w.state w.rx w.store (length out) ch want
gives w (device_takes ch buf) = device_take w.state w.rx w.store ch (length buf)
gives w (device_closes out ch) = device_close w.state w.rx w.store (length out) ch

-- what it leaves
unfoldable pub leaves_by : Gives → DeviceWorld
leaves_by g = record { state = g.head ++ g.inner; rx = g.rx; store = g.store }

-- what a call leaves
abbrev pub leaves : DeviceWorld → DeviceCall → DeviceWorld
leaves w x = leaves_by (gives w x)

-- what a list of calls leaves
unfoldable pub leaves_all : DeviceWorld → List DeviceCall → DeviceWorld
leaves_all w [] = w
leaves_all w (x ∷ xs) = leaves_all (leaves w x) xs

-- ---- where a list begins

-- a make at a device's end that is done: the limits, our identity text, and any bytes that the state is made in; stores of any bytes
pub record DeviceStart : Type 0 where
  pub config : ConnectionConfig
  pub text : List ℕ
  pub lent : List ℕ
  pub rx : List ℕ
  pub store : List ℕ
  pub done : (device_made config text lent).answer ≡ Done

-- the bytes that it leaves
abbrev pub device_begins : DeviceStart → DeviceWorld
device_begins d = record { state = (device_made d.config d.text d.lent).state; rx = d.rx; store = d.store }
