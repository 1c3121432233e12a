use Rattle.device.proofs.HeadLaws.{head-long}
use Rattle.device.proofs.MeetLaws.{met-room}
use Rattle.device_dispatch.specs.Promise.{dispatch_met}
use Rattle.device_dispatch.proofs.dispatch_admitted.Goals as goal

pub is_connected-requires : goal.is_connected-requires
is_connected-requires c = head-long c.args.state.now c.requires.fine

pub met_in-met-requires : goal.met_in-met-requires
met_in-met-requires c = met-room c.args.state.now c.args.rx.now c.args.store.now _ c.args.h c.requires

pub returns-then-is_connected : goal.returns-then-is_connected
unfolding dispatch_met
returns-then-is_connected c = rw (← c.is_connected.ensures, c.if-is_connected.true, ← c.met_in-met.ensures) c.dispatch_with.ensures

pub returns : goal.returns
unfolding dispatch_met
returns c = rw (← c.is_connected.ensures, c.if-is_connected.false) c.dispatch_first.ensures
