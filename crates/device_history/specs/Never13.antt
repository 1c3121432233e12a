-- Refusal 13 is never given at a device's end that make began, whatever the calls. Assumes nothing.
use Rattle.std.specs.Prelude.{ℕ, true, List, ◌≡◌, length}
use Rattle.state_whole.specs.Whole.{is_whole}
use Rattle.device.specs.Device.{head_fine, inner_of}
use Rattle.device.specs.Answer.{device_number}
use Rattle.device_history.specs.Run.{DeviceCall, DeviceWorld, gives, leaves_all, DeviceStart, device_begins}

-- what holds of the lent bytes: both parts of the state are fine, so no call answers 13; both stores keep their lengths
pub record DeviceUnbroken (rx store : List ℕ) (w : DeviceWorld) : Type 0 where
  pub fine : head_fine w.state ≡ true
  pub is-whole : is_whole (inner_of w.state) ≡ true
  pub never : (x : DeviceCall) → device_number (gives w x).answer ≡ 13 → ⊥
  pub rx-length : length w.rx ≡ length rx
  pub store_length : length w.store ≡ length store

-- for every make at a device's end that is not refused, and all lists of calls
abbrev pub DeviceNever13 : Type 0
DeviceNever13 = (d : DeviceStart) (xs : List DeviceCall) → DeviceUnbroken d.rx d.store (leaves_all (device_begins d) xs)
