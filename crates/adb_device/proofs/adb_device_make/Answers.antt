use Rattle.adb_device.proofs.ExportLaws.{makes-is}
use Rattle.adb_device.proofs.adb_device_make.Goals as goal

pub returns : goal.returns
returns c = makes-is _ c.make.result _ _ (rw c.limits_of-config.ensures at c.make.ensures) c.number_of.ensures
