use mathlib.Core.Path.{◌≡◌}
use borrow.Author.Rules.{rules}
use Rattle.std.specs.Prelude.{Err}
use Rattle.call.proofs.AdmitLaws.{out-refuses, out-short, out-yes}
use Rattle.call.proofs.admit.admit_out.Goals as goal

pub returns-in_err-h : goal.returns-in_err-h
returns-in_err-h c =
    let is : c.from_residual.result ≡ Err c.in_err-h.field-0.0 = search rules in
    rw is (out-refuses c.args.state.now c.args.rx c.args.store c.args.out c.admit.result c.admit.ensures _ c.in_err-h.was)

pub returns-then-out-lt56 : goal.returns-then-out-lt56
returns-then-out-lt56 c = out-short c.args.state.now c.args.rx c.args.store c.args.out c.admit.result c.admit.ensures _ c.in_ok-h.was c.if-out-lt56.true

pub returns : goal.returns
returns c = out-yes c.args.state.now c.args.rx c.args.store c.args.out c.admit.result c.admit.ensures _ c.in_ok-h.was c.if-out-lt56.false
