use mathlib.Core.Path.{refl, sym, subst}
use native.Mathlib.Omega.{arith}
use Rattle.config.specs.declared.negotiated.RxPolicy.{RxPolicy}
use Rattle.table_dispatch.specs.Dispatch.{Sound}
use Rattle.connection.specs.Act.{acted_by}
use Rattle.call.proofs.ActLaws.{acts-okay, acts-stray, acts-fault, acts-none, acts-queued, acts-full, acts-withdrawn}
use Rattle.call.proofs.act.act_on.Goals as goal

pub dispatch-outcome-requires : goal.dispatch-outcome-requires
dispatch-outcome-requires c =
    subst (λ (q : RxPolicy). Sound c.args.state.now c.args.rx.now c.args.h.negotiated.config.channels q.rx_cap)
    (sym c.rx_policy.ensures) c.requires.table

pub returns-in-AckWrite : goal.returns-in-AckWrite
returns-in-AckWrite c =
    acts-okay c.args.h c.args.state.now c.args.rx.now c.args.store.now c.args.payload.now
    c.args.out.now c.args.at c.args.packet c.rx_policy.result c.dispatch-outcome.result
    c.dispatch-outcome.new.state c.dispatch-outcome.new.rx c.rx_policy.ensures c.dispatch-outcome.ensures _ _ _ _
    _ _ c.in-AckWrite.is c.done.ensures c.put_okay-end.ensures c.requires.room

pub returns-in-StrayReady : goal.returns-in-StrayReady
returns-in-StrayReady c =
    acts-stray c.args.h c.args.state.now c.args.rx.now c.args.store.now c.args.payload.now
    c.args.out.now c.args.at c.args.packet c.rx_policy.result c.dispatch-outcome.result
    c.dispatch-outcome.new.state c.dispatch-outcome.new.rx c.rx_policy.ensures c.dispatch-outcome.ensures _ _ _ _
    c.in-StrayReady.is c.done-in-StrayReady.ensures c.put_close-end.ensures c.requires.room

pub shape_of-state-in-Some : goal.shape_of-state-in-Some
shape_of-state-in-Some c = omega (arith, c.state-1.given, c.state-in-IncomingOpen-1.given)

pub shape_of-rx-in-Some : goal.shape_of-rx-in-Some
shape_of-rx-in-Some c = omega (arith, c.rx-1.given)

pub returns-in-Some : goal.returns-in-Some
returns-in-Some c =
    acts-queued c.args.h c.args.state.now c.args.rx.now c.args.store.now c.args.payload.now
    c.args.out.now c.args.at c.args.packet c.rx_policy.result c.dispatch-outcome.result
    c.dispatch-outcome.new.state c.dispatch-outcome.new.rx c.rx_policy.ensures c.dispatch-outcome.ensures _ _ _ _
    _ _ _ c.in-IncomingOpen.is c.in-Some.is c.push_back.ensures c.done-in-Some.ensures c.requires.room

pub shape_of-state-in-None : goal.shape_of-state-in-None
shape_of-state-in-None c = omega (arith, c.state-1.given, c.state-in-IncomingOpen-1.given)

pub shape_of-rx-in-None : goal.shape_of-rx-in-None
shape_of-rx-in-None c = omega (arith, c.rx-1.given)

pub returns-in-None : goal.returns-in-None
returns-in-None c =
    acts-full c.args.h c.args.state.now c.args.rx.now c.args.store.now c.args.payload.now
    c.args.out.now c.args.at c.args.packet c.rx_policy.result c.dispatch-outcome.result
    c.dispatch-outcome.new.state c.dispatch-outcome.new.rx c.rx_policy.ensures c.dispatch-outcome.ensures _ _ _ _
    _ _ _ _ c.in-IncomingOpen.is c.in-None.is c.push_back.ensures c.done-in-None.ensures
    c.put_close-end-in-None.ensures c.requires.room

pub returns-in-CancelQueuedOpen : goal.returns-in-CancelQueuedOpen
returns-in-CancelQueuedOpen c =
    acts-withdrawn c.args.h c.args.state.now c.args.rx.now c.args.store.now c.args.payload.now
    c.args.out.now c.args.at c.args.packet c.rx_policy.result c.dispatch-outcome.result
    c.dispatch-outcome.new.state c.dispatch-outcome.new.rx c.rx_policy.ensures c.dispatch-outcome.ensures _ _ _ _
    c.in-CancelQueuedOpen.is c.withdraw.ensures c.done-in-CancelQueuedOpen.ensures c.requires.room

pub returns-in-ChannelFault : goal.returns-in-ChannelFault
returns-in-ChannelFault c =
    acts-fault c.args.h c.args.state.now c.args.rx.now c.args.store.now c.args.payload.now
    c.args.out.now c.args.at c.args.packet c.rx_policy.result c.dispatch-outcome.result
    c.dispatch-outcome.new.state c.dispatch-outcome.new.rx c.rx_policy.ensures c.dispatch-outcome.ensures _ _ _ _
    _ c.in-ChannelFault.is refl c.requires.room

pub returns-in-CreditGranted : goal.returns-in-CreditGranted
unfolding acted_by
returns-in-CreditGranted c =
    acts-none c.args.h c.args.state.now c.args.rx.now c.args.store.now c.args.payload.now
    c.args.out.now c.args.at c.args.packet c.rx_policy.result c.dispatch-outcome.result
    c.dispatch-outcome.new.state c.dispatch-outcome.new.rx c.rx_policy.ensures c.dispatch-outcome.ensures _ _
    c.in-CreditGranted.is refl c.done-in-CreditGranted.ensures c.requires.room

pub returns-in-SlotClosed : goal.returns-in-SlotClosed
unfolding acted_by
returns-in-SlotClosed c =
    acts-none c.args.h c.args.state.now c.args.rx.now c.args.store.now c.args.payload.now
    c.args.out.now c.args.at c.args.packet c.rx_policy.result c.dispatch-outcome.result
    c.dispatch-outcome.new.state c.dispatch-outcome.new.rx c.rx_policy.ensures c.dispatch-outcome.ensures _ _
    c.in-SlotClosed.is refl c.done-in-SlotClosed.ensures c.requires.room

pub returns-in-DataBuffered : goal.returns-in-DataBuffered
unfolding acted_by
returns-in-DataBuffered c =
    acts-none c.args.h c.args.state.now c.args.rx.now c.args.store.now c.args.payload.now
    c.args.out.now c.args.at c.args.packet c.rx_policy.result c.dispatch-outcome.result
    c.dispatch-outcome.new.state c.dispatch-outcome.new.rx c.rx_policy.ensures c.dispatch-outcome.ensures _ _
    c.in-DataBuffered.is refl c.done-in-DataBuffered.ensures c.requires.room

pub returns-in-Unmatched : goal.returns-in-Unmatched
unfolding acted_by
returns-in-Unmatched c =
    acts-none c.args.h c.args.state.now c.args.rx.now c.args.store.now c.args.payload.now
    c.args.out.now c.args.at c.args.packet c.rx_policy.result c.dispatch-outcome.result
    c.dispatch-outcome.new.state c.dispatch-outcome.new.rx c.rx_policy.ensures c.dispatch-outcome.ensures _ _
    c.in-Unmatched.is refl c.done-in-Unmatched.ensures c.requires.room
