use Rattle.call.proofs.LeaveLaws.{refused-leaves, admitted-goes, goes-admits, goes-leaves}
use Rattle.call.specs.Promise.{agreed_in}
use Rattle.connection.specs.Calls.{open_outcome}
use Rattle.call_open.proofs.open.Goals as goal

pub open_step-requires : goal.open_step-requires
open_step-requires c = (
  goes-admits c.args.state.now c.args.rx.now c.args.store.now _ _
      (admitted-goes c.args.state.now c.args.rx.now c.args.store.now _ _ c.admit_out.result
      c.admit_out.ensures c.in-Ok.is) (λ j. (c.slice_known-1.given j).fits),
  (admitted-goes c.args.state.now c.args.rx.now c.args.store.now _ _ c.admit_out.result
      c.admit_out.ensures c.in-Ok.is).header,
)

pub returns-in-Err : goal.returns-in-Err
unfolding open_outcome
returns-in-Err c =
    refused-leaves c.args.state.now c.args.rx.now c.args.store.now _ (agreed_in c.args.state.now) _ _ _ _
    c.admit_out.result _ c.admit_out.ensures c.in-Err.is c.refused.ensures

pub returns-in-Ok : goal.returns-in-Ok
unfolding open_outcome
returns-in-Ok c =
    goes-leaves c.args.state.now c.args.rx.now c.args.store.now _ (agreed_in c.args.state.now) _ _ _ _ _ _ _ _ _ _
    (admitted-goes c.args.state.now c.args.rx.now c.args.store.now _ _ c.admit_out.result
    c.admit_out.ensures c.in-Ok.is) c.open_step.ensures
