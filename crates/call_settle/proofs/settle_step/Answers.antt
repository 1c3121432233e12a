use mathlib.Core.List.{[]}
use Rattle.call_settle.proofs.SettleLaws.{settle-leaves, settle-refuses}
use Rattle.call.proofs.ThereLaws.{found_none, found-there, found-slot, limits, looks, slot-fits}
use native.Mathlib.Omega.{arith}
use Rattle.call_settle.proofs.settle_step.Goals as goal

pub get-requires : goal.get-requires
get-requires c = looks c.args.state.now [] [] c.args.h c.requires.1 _ c.requires.0

pub rx_policy-requires : goal.rx_policy-requires
rx_policy-requires c = limits c.args.state.now [] [] c.args.h c.requires.1 _ c.requires.0

pub put_ack-end-requires : goal.put_ack-end-requires
put_ack-end-requires c = let k = c.requires.0.room in λ e. omega arith

pub ends_with-requires : goal.ends_with-requires
ends_with-requires c =
    slot-fits c.args.state.now [] [] c.args.h c.requires.1 _ c.requires.0
    c.args.ch (found-there c.args.state.now [] [] c.args.h c.requires.1
    c.args.ch c.get.result c.get.ensures _ c.in-Some.is)

pub returns-in-Some : goal.returns-in-Some
returns-in-Some c =
    λ rx store. settle-leaves c.args.state.now rx store c.args.h c.requires.1
    c.args.ch (found-there c.args.state.now rx store c.args.h c.requires.1
    c.args.ch c.get.result c.get.ensures _ c.in-Some.is) _ _ c.rx_policy.result _
    c.settle_take-settled.result _ _ _ _ c.requires.0.room
    (found-slot c.args.state.now rx store c.args.h c.requires.1 c.args.ch
    c.get.result c.get.ensures _ c.in-Some.is) c.rx_policy.ensures
    c.settle_take-settled.ensures c.put_ack-end.ensures c.ends_with.ensures.0 c.ends_with.ensures.1

pub returns-in-None : goal.returns-in-None
returns-in-None c =
    λ rx store. settle-refuses c.args.state.now rx store c.args.h c.requires.1 c.args.ch
    (found_none c.args.state.now rx store c.args.h c.requires.1 c.args.ch
    c.get.result c.get.ensures c.in-None.is) _ c.args.want _ _ c.not_there.ensures.0
    c.not_there.ensures.1
