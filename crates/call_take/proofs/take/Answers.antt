use Rattle.call.proofs.AdmitLaws.{admits-state, admits-stores}
use Rattle.call.proofs.WideLaws.{wide-begins, wide-goes, wide-refuses, wide-leaves}
use Rattle.call.specs.Promise.{agreed_in}
use Rattle.connection.specs.Calls.{take_outcome}
use Rattle.call_take.proofs.take.Goals as goal

pub take_step-requires : goal.take_step-requires
take_step-requires c =
    let g = wide-begins c.args.state.now c.args.rx.now c.args.store.now _ _ c.admit.result
    c.admit.ensures c.in-Ok.is (λ j. (c.slice_known-1.given j).fits) c.drop_pending.ensures in
    ((admits-state g.0, g.1), (admits-stores g.0).rx-long)

pub returns-in-Err : goal.returns-in-Err
unfolding take_outcome
returns-in-Err c =
    wide-refuses c.args.state.now c.args.rx.now c.args.store.now (agreed_in c.args.state.now) _ _ _ _
    c.admit.result _ c.admit.ensures c.in-Err.is c.refused.ensures

pub returns-in-Ok : goal.returns-in-Ok
unfolding take_outcome
returns-in-Ok c =
    wide-leaves c.args.state.now c.args.rx.now c.args.store.now (agreed_in c.args.state.now) _ _ _ _ _ _ _ _ _ _
    (wide-goes c.args.state.now c.args.rx.now c.args.store.now _ c.admit.result
    c.admit.ensures c.in-Ok.is) (c.take_step.ensures _)
