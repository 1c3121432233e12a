-- The numbers and values of a device's answers (docs/SCOPE.md, 15; docs/LAYOUT.md, "A device's end"). Assumes nothing.
use Rattle.std.specs.Prelude.{ℕ, cond, List, [], ◌∷◌}
use Rattle.connection.specs.Answer.{answer_number, answer_values}
use Rattle.device.specs.declared.DeviceAnswer.{DeviceAnswer}
use Rattle.device.specs.declared.DeviceAnswer.TheVariants.{Plain, Taken, Connected}

-- as at the host's end; 103 for an OPEN that was taken, 104 for the host's CNXN that was answered
unfoldable pub device_number : DeviceAnswer → ℕ
device_number (Plain a) = answer_number a
device_number (Taken ch remote place) = 103
device_number (Connected n) = 104

-- four values: as at the host's end; the stream's slot, our number and the host's, and where its name begins in the table; version,
-- maximum payload, and 1 where acknowledgement is delayed
unfoldable pub device_values : DeviceAnswer → List ℕ
device_values (Plain a) = answer_values a
device_values (Taken ch remote place) = ch.slot ∷ ch.local.0 ∷ remote.0 ∷ place ∷ []
device_values (Connected n) = n.protocol_version ∷ n.max_payload ∷ cond n.delayed_ack 1 0 ∷ 0 ∷ []
