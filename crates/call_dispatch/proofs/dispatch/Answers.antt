use Rattle.call.proofs.LeaveLaws.{refused-leaves, admitted-goes, begins-is, goes-leaves}
use Rattle.call.specs.Promise.{agreed_in}
use Rattle.connection.specs.Calls.{dispatch_outcome}
use Rattle.call_dispatch.proofs.dispatch.Goals as goal

pub dispatch_step-requires : goal.dispatch_step-requires
dispatch_step-requires c =
    begins-is c.args.state.now c.args.rx.now c.args.store.now _ _ _ c.admit_out.result
    c.admit_out.ensures c.in-Ok.is (λ j. (c.slice_known-1.given j).fits) c.drop_pending.ensures

pub returns-in-Err : goal.returns-in-Err
unfolding dispatch_outcome
returns-in-Err c =
    refused-leaves c.args.state.now c.args.rx.now c.args.store.now _ (agreed_in c.args.state.now) _ _ _ _
    c.admit_out.result _ c.admit_out.ensures c.in-Err.is c.refused.ensures

pub returns-in-Ok : goal.returns-in-Ok
unfolding dispatch_outcome
returns-in-Ok c =
    goes-leaves c.args.state.now c.args.rx.now c.args.store.now _ (agreed_in c.args.state.now) _ _ _ _ _ _ _ _ _ _
    (admitted-goes c.args.state.now c.args.rx.now c.args.store.now _ _ c.admit_out.result
    c.admit_out.ensures c.in-Ok.is) c.dispatch_step.ensures
