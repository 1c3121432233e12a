use Rattle.adb.proofs.ExportLaws.{makes-is}
use Rattle.features.specs.Features.{has_feature}
use Rattle.call_make.specs.Make.{delayed_ack_name}
use mathlib.Core.Path.{refl}
use Rattle.adb.proofs.adb_make_from_cnxn.Goals as goal

pub returns : goal.returns
returns c =
    makes-is _ c.args.version c.args.device_max_payload c.args.host_delayed_ack c.is_yes-host.result
    (has_feature c.args.identity.now delayed_ack_name) _
    c.args.state.now _ c.make_from.result _ c.is_yes-host.ensures refl (rw c.limits_of-config.ensures at c.make_from.ensures)
    c.number_of.ensures
