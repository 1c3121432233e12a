use mathlib.Core.Path.{◌≡◌}
use borrow.Author.Rules.{rules}
use Rattle.std.specs.Prelude.{Err}
use Rattle.call_stretch.proofs.LookLaws.{stretch-refused, stretch-looks}
use Rattle.call.proofs.WideLaws.{wide-goes}
use Rattle.call.proofs.AdmitLaws.{whole_long}
use Rattle.call_stretch.proofs.stretch.Goals as goal

pub look-requires : goal.look-requires
look-requires c =
    let g = wide-goes c.args.state.now c.args.rx.now c.args.store.now _ c.admit.result c.admit.ensures c.in_ok-admit.was in
    whole_long c.args.state.now g.is-whole

pub returns-in_err-admit : goal.returns-in_err-admit
returns-in_err-admit c =
    let is : c.from_residual.result ≡ Err c.in_err-admit.field-0.0 = search rules in
    rw is (stretch-refused c.args.state.now c.args.rx.now c.args.store.now c.args.received.now c.args.spare_rx.now c.args.spare_store.now c.admit.result c.admit.ensures _ c.in_err-admit.was)

pub returns : goal.returns
returns c = stretch-looks c.args.state.now c.args.rx.now c.args.store.now c.args.received.now c.args.spare_rx.now c.args.spare_store.now c.admit.result c.admit.ensures _ c.in_ok-admit.was c.look.result _ _ c.look.ensures
