use Rattle.call.proofs.LeaveLaws.{refused-leaves, admitted-goes, begins-is, begins-state, goes-leaves}
use Rattle.call.specs.Promise.{agreed_in}
use Rattle.connection.specs.Calls.{settle_outcome}
use Rattle.call_settle.proofs.settle.Goals as goal

pub settle_step-requires : goal.settle_step-requires
settle_step-requires c =
    begins-state c.args.state.now c.args.rx.now c.args.store.now _ _
    (begins-is c.args.state.now c.args.rx.now c.args.store.now _ _ _ c.admit_out.result
    c.admit_out.ensures c.in-Ok.is (λ j. (c.slice_known-1.given j).fits) c.drop_pending.ensures)

pub returns-in-Err : goal.returns-in-Err
unfolding settle_outcome
returns-in-Err c =
    refused-leaves c.args.state.now c.args.rx.now c.args.store.now _ (agreed_in c.args.state.now) _ _ _ _
    c.admit_out.result _ c.admit_out.ensures c.in-Err.is c.refused.ensures

pub returns-in-Ok : goal.returns-in-Ok
unfolding settle_outcome
returns-in-Ok c =
    goes-leaves c.args.state.now c.args.rx.now c.args.store.now _ (agreed_in c.args.state.now) _ _ _ _ _ _ _ _ _ _
    (admitted-goes c.args.state.now c.args.rx.now c.args.store.now _ _ c.admit_out.result
    c.admit_out.ensures c.in-Ok.is) (c.settle_step.ensures _ _)
