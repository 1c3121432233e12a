use Rattle.call.proofs.LeaveLaws.{begins-state}
use Rattle.call.proofs.WideLaws.{wide-begins, wide-goes, wide-refuses, wide-leaves}
use Rattle.call.specs.Promise.{agreed_in}
use Rattle.connection.specs.Calls.{take_front_outcome}
use Rattle.call_take_front.proofs.take_front.Goals as goal

pub take_front_step-requires : goal.take_front_step-requires
take_front_step-requires c =
    begins-state c.args.state.now c.args.rx.now c.args.store.now 56 _
    (wide-begins c.args.state.now c.args.rx.now c.args.store.now _ _ c.admit.result
    c.admit.ensures c.in-Ok.is (λ j. (c.slice_known-1.given j).fits) c.drop_pending.ensures)

pub returns-in-Err : goal.returns-in-Err
unfolding take_front_outcome
returns-in-Err c =
    wide-refuses c.args.state.now c.args.rx.now c.args.store.now (agreed_in c.args.state.now) _ _ _ _
    c.admit.result _ c.admit.ensures c.in-Err.is c.refused.ensures

pub returns-in-Ok : goal.returns-in-Ok
unfolding take_front_outcome
returns-in-Ok c =
    wide-leaves c.args.state.now c.args.rx.now c.args.store.now (agreed_in c.args.state.now) _ _ _ _ _ _ _ _ _ _
    (wide-goes c.args.state.now c.args.rx.now c.args.store.now _ c.admit.result
    c.admit.ensures c.in-Ok.is) (c.take_front_step.ensures _ _)
