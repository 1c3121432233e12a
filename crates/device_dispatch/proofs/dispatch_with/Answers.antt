use Rattle.std.proofs.Common.{refl}
use Rattle.device.specs.Device.{inner_of, head_of}
use Rattle.device.proofs.HeadLaws.{head-long}
use Rattle.device.proofs.MeetLaws.{inner-begins}
use Rattle.device_dispatch.specs.Promise.{dispatch_with}
use Rattle.device_dispatch.proofs.dispatch_with.Goals as goal

pub split_at_mut-inner-requires : goal.split_at_mut-inner-requires
split_at_mut-inner-requires c = head-long c.args.state.now c.requires.fine

pub dispatch_inner-requires : goal.dispatch_inner-requires
unfolding inner_of
dispatch_inner-requires c =
    inner-begins c.args.state.now c.args.rx.now c.args.store.now _ c.args.h c.requires _ c.args.received.now _ c.args.met
    c.split_at_mut-inner.ensures.back c.shown-handed.ensures

pub returns : goal.returns
unfolding inner_of head_of dispatch_with
returns c =
    rw (← c.shown-handed.ensures, ← c.split_at_mut-inner.ensures.back, ← c.split_at_mut-inner.ensures.front)
    (c.dispatch_inner.ensures _ _ refl)
