use Rattle.call.proofs.LeaveLaws.{refused-leaves, admitted-goes, begins-is, goes-leaves}
use Rattle.call.specs.Promise.{agreed_in}
use Rattle.connection.specs.Calls.{write_outcome}
use Rattle.call_write.proofs.write.Goals as goal

pub write_step-requires : goal.write_step-requires
write_step-requires c =
    begins-is c.args.state.now c.args.rx.now c.args.store.now _ _ _ c.admit_out.result
    c.admit_out.ensures c.in-Ok.is (λ j. (c.slice_known-1.given j).fits) c.drop_pending.ensures

pub returns-in-Err : goal.returns-in-Err
unfolding write_outcome
returns-in-Err c =
    refused-leaves c.args.state.now c.args.rx.now c.args.store.now _ (agreed_in c.args.state.now) _ _ _ _
    c.admit_out.result _ c.admit_out.ensures c.in-Err.is c.refused.ensures

pub returns-in-Ok : goal.returns-in-Ok
unfolding write_outcome
returns-in-Ok c =
    goes-leaves c.args.state.now c.args.rx.now c.args.store.now _ (agreed_in c.args.state.now) _ _ _ _ _ _ _ _ _ _
    (admitted-goes c.args.state.now c.args.rx.now c.args.store.now _ _ c.admit_out.result
    c.admit_out.ensures c.in-Ok.is) c.write_step.ensures
