use Rattle.adb.proofs.ExportLaws.{makes-is}
use Rattle.adb.proofs.adb_make.Goals as goal

pub returns : goal.returns
returns c =
    makes-is _ c.args.version c.args.device_max_payload c.args.host_delayed_ack c.is_yes-host.result
    c.is_yes-device.result _ c.args.state.now _ c.make.result _ c.is_yes-host.ensures
    c.is_yes-device.ensures (rw c.limits_of-config.ensures at c.make.ensures) c.number_of.ensures
