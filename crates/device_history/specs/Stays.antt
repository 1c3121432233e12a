-- The open store of a device's end (docs/SCOPE.md, 15): no OPEN is queued, so no call writes it. Assumes nothing.
use Rattle.std.specs.Prelude.{◌≡◌}
use Rattle.device_history.specs.Run.{DeviceCall, DeviceWorld, leaves}

-- of any lent bytes, whole or not, and any call
abbrev pub StoreStays : Type 0
StoreStays = (w : DeviceWorld) (x : DeviceCall) → (leaves w x).store ≡ w.store
