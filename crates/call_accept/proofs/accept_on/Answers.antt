use mathlib.Core.Path.{ap, ◌∙◌}
use Rattle.slot.specs.Slot.{accepted_slot}
use Rattle.call_accept.proofs.AcceptLaws.{accept-full, accept-place, accept-fills}
use Rattle.call_accept.proofs.accept_on.Goals as goal

pub ends_with-requires : goal.ends_with-requires
ends_with-requires c = (
  accept-place c.args.state.now c.args.out.now c.args.at c.args.h c.requires c.args.remote
      c.args.credit c.allocate.result c.allocate.ensures _ c.in-Ok.is,
  c.requires.state-long,
)

pub returns-in-Err : goal.returns-in-Err
returns-in-Err c =
    accept-full c.args.state.now c.args.out.now c.args.at c.args.h c.requires c.args.remote
    c.args.credit c.allocate.result c.allocate.ensures _ _ _ c.in-Err.is
    c.reject_on.ensures

pub returns-in-Ok : goal.returns-in-Ok
returns-in-Ok c =
    accept-fills c.args.state.now c.args.out.now c.args.at c.args.h c.requires c.args.remote
    c.args.credit c.allocate.result c.allocate.ensures _ c.in-Ok.is
    c.accepted-taken.result _ _ c.numbered.result _ _ _ c.put_okay-end.ensures
    c.advertised_credit.ensures
    (c.accepted-taken.ensures ∙ ap (accepted_slot _ c.args.credit) c.rx_policy.ensures)
    c.numbered.ensures c.ends_with.ensures.0 c.ends_with.ensures.1
