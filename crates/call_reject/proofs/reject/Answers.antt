use Rattle.call.proofs.AdmitLaws.{admits-state}
use Rattle.call.proofs.LeaveLaws.{admitted-goes, goes-admits, refused-leaves, goes-leaves}
use Rattle.call.specs.Promise.{agreed_in}
use Rattle.connection.specs.Calls.{reject_outcome}
use Rattle.call_reject.proofs.reject.Goals as goal

pub reject_step-requires : goal.reject_step-requires
reject_step-requires c =
    let k = admitted-goes c.args.state.now c.args.rx.now c.args.store.now _ _ c.admit_out.result
    c.admit_out.ensures c.in-Ok.is in (
      admits-state (goes-admits c.args.state.now c.args.rx.now c.args.store.now _ _ k
          (λ j. (c.slice_known-1.given j).fits)),
      k.header,
    )

pub returns-in-Err : goal.returns-in-Err
unfolding reject_outcome
returns-in-Err c =
    refused-leaves c.args.state.now c.args.rx.now c.args.store.now _ (agreed_in c.args.state.now) _ _ _ _
    c.admit_out.result _ c.admit_out.ensures c.in-Err.is c.refused.ensures

pub returns-in-Ok : goal.returns-in-Ok
unfolding reject_outcome
returns-in-Ok c =
    goes-leaves c.args.state.now c.args.rx.now c.args.store.now _ (agreed_in c.args.state.now) _ _ _ _ _ _ _ _ _ _
    (admitted-goes c.args.state.now c.args.rx.now c.args.store.now _ _ c.admit_out.result
    c.admit_out.ensures c.in-Ok.is) (c.reject_step.ensures _ _)
