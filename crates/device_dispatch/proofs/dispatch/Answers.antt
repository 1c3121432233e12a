use Rattle.std.proofs.Common.{[]}
use Rattle.device_dispatch.specs.Promise.{device_dispatch}
use Rattle.device.proofs.MeetLaws.{device_begins, call-refused, call-goes}
use Rattle.device_dispatch.proofs.dispatch.Goals as goal

pub dispatch_admitted-requires : goal.dispatch_admitted-requires
dispatch_admitted-requires c = device_begins c.args.state.now c.args.rx.now c.args.store.now _ _ c.admit.result c.admit.ensures c.in-Ok.is

pub returns-in-Err : goal.returns-in-Err
unfolding device_dispatch
returns-in-Err c =
    call-refused c.args.state.now c.args.rx.now c.args.store.now c.args.out.now [] _ c.admit.result c.admit.ensures _ _ _ c.in-Err.is c.refused.ensures c.plain.ensures

pub returns-in-Ok : goal.returns-in-Ok
unfolding device_dispatch
returns-in-Ok c =
    call-goes c.args.state.now c.args.rx.now c.args.store.now c.args.out.now [] _ c.admit.result c.admit.ensures _ _ _ _ _ _ _ c.in-Ok.is c.dispatch_admitted.ensures
