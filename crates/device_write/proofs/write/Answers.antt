use Rattle.std.proofs.Common.{[]}
use Rattle.device_write.specs.Promise.{device_write}
use Rattle.device.proofs.MeetLaws.{device_begins, call-refused, call-goes}
use Rattle.device_write.proofs.write.Goals as goal

pub write_admitted-requires : goal.write_admitted-requires
write_admitted-requires c = device_begins c.args.state.now c.args.rx.now c.args.store.now _ _ c.admit.result c.admit.ensures c.in-Ok.is

pub returns-in-Err : goal.returns-in-Err
unfolding device_write
returns-in-Err c =
    call-refused c.args.state.now c.args.rx.now c.args.store.now c.args.out.now [] _ c.admit.result c.admit.ensures _ _ _ c.in-Err.is c.refused.ensures c.plain.ensures

pub returns-in-Ok : goal.returns-in-Ok
unfolding device_write
returns-in-Ok c =
    call-goes c.args.state.now c.args.rx.now c.args.store.now c.args.out.now [] _ c.admit.result c.admit.ensures _ _ _ _ _ _ _ c.in-Ok.is c.write_admitted.ensures
