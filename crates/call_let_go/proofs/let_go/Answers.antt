use Rattle.call.proofs.AdmitLaws.{admits-state}
use Rattle.call.proofs.LeaveLaws.{goes-admits}
use Rattle.call.proofs.WideLaws.{wide-goes, wide-refuses, wide-leaves}
use Rattle.call.specs.Promise.{agreed_in}
use Rattle.connection.specs.Calls.{let_go_outcome}
use Rattle.call_let_go.proofs.let_go.Goals as goal

pub let_go_step-requires : goal.let_go_step-requires
let_go_step-requires c =
    let k = wide-goes c.args.state.now c.args.rx.now c.args.store.now _ c.admit.result
    c.admit.ensures c.in-Ok.is in (
      admits-state (goes-admits c.args.state.now c.args.rx.now c.args.store.now 56 _ k
          (λ j. (c.slice_known-1.given j).fits)),
      k.header,
    )

pub returns-in-Err : goal.returns-in-Err
unfolding let_go_outcome
returns-in-Err c =
    wide-refuses c.args.state.now c.args.rx.now c.args.store.now (agreed_in c.args.state.now) _ _ _ _
    c.admit.result _ c.admit.ensures c.in-Err.is c.refused.ensures

pub returns-in-Ok : goal.returns-in-Ok
unfolding let_go_outcome
returns-in-Ok c =
    wide-leaves c.args.state.now c.args.rx.now c.args.store.now (agreed_in c.args.state.now) _ _ _ _ _ _ _ _ _ _
    (wide-goes c.args.state.now c.args.rx.now c.args.store.now _ c.admit.result
    c.admit.ensures c.in-Ok.is) (c.let_go_step.ensures _ _)
