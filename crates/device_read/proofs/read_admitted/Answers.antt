use Rattle.std.proofs.Common.{refl}
use Rattle.device.specs.Device.{inner_of, head_of}
use Rattle.device.proofs.HeadLaws.{head-long}
use Rattle.device.proofs.MeetLaws.{met-room, inner-begins}
use Rattle.device_read.specs.Promise.{read_met}
use Rattle.device_read.proofs.read_admitted.Goals as goal

pub met_in-met-requires : goal.met_in-met-requires
met_in-met-requires c = met-room c.args.state.now c.args.rx.now c.args.store.now _ c.args.h c.requires

pub split_at_mut-inner-requires : goal.split_at_mut-inner-requires
split_at_mut-inner-requires c = head-long c.args.state.now c.requires.fine

pub read_inner-requires : goal.read_inner-requires
unfolding inner_of
read_inner-requires c =
    inner-begins c.args.state.now c.args.rx.now c.args.store.now _ c.args.h c.requires _ c.args.received.now _ c.met_in-met.result
    c.split_at_mut-inner.ensures.back c.shown.ensures

pub returns : goal.returns
unfolding inner_of head_of read_met
returns c =
    rw (← c.met_in-met.ensures, ← c.shown.ensures, ← c.split_at_mut-inner.ensures.back, ← c.split_at_mut-inner.ensures.front)
    (c.read_inner.ensures _ _ refl)
