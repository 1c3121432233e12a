use Rattle.device_read.specs.Promise.{device_read}
use Rattle.device.proofs.MeetLaws.{device_begins, call-refused, call-goes}
use Rattle.device_read.proofs.read.Goals as goal

pub read_admitted-requires : goal.read_admitted-requires
read_admitted-requires c = device_begins c.args.state.now c.args.rx.now c.args.store.now _ _ c.admit.result c.admit.ensures c.in-Ok.is

pub returns-in-Err : goal.returns-in-Err
unfolding device_read
returns-in-Err c =
    call-refused c.args.state.now c.args.rx.now c.args.store.now c.args.out.now c.args.buf.now _ c.admit.result c.admit.ensures _ _ _ c.in-Err.is c.refused.ensures c.plain.ensures

pub returns-in-Ok : goal.returns-in-Ok
unfolding device_read
returns-in-Ok c =
    call-goes c.args.state.now c.args.rx.now c.args.store.now c.args.out.now c.args.buf.now _ c.admit.result c.admit.ensures _ _ _ _ _ _ _ c.in-Ok.is c.read_admitted.ensures
