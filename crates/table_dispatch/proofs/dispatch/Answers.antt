use Rattle.table_dispatch.proofs.DispatchLaws.{dispatches, dispatches-by, steps-left, routed}
use Rattle.table_dispatch.specs.Dispatch.{route_of}
use Rattle.state.specs.State.{state_of}
use mathlib.Core.Path.{refl}
use Rattle.table_dispatch.proofs.dispatch.Goals as goal

pub returns-in-Connect : goal.returns-in-Connect
unfolding route_of
returns-in-Connect c =
    dispatches _ _ _ _ _ _ (routed c.args.policy c.args.n (state_of c.args.state.now).slots c.args.packet
    c.args.payload.now c.args.rx.now _ c.in-Connect.is) (steps-left _ _ _ refl)

pub returns-in-Auth : goal.returns-in-Auth
unfolding route_of
returns-in-Auth c =
    dispatches _ _ _ _ _ _ (routed c.args.policy c.args.n (state_of c.args.state.now).slots c.args.packet
    c.args.payload.now c.args.rx.now _ c.in-Auth.is) (steps-left _ _ _ refl)

pub returns-in-StartTls : goal.returns-in-StartTls
unfolding route_of
returns-in-StartTls c =
    dispatches _ _ _ _ _ _ (routed c.args.policy c.args.n (state_of c.args.state.now).slots c.args.packet
    c.args.payload.now c.args.rx.now _ c.in-StartTls.is) (steps-left _ _ _ refl)

pub returns-in-Open : goal.returns-in-Open
unfolding route_of
returns-in-Open c =
    dispatches _ _ _ _ _ _ (routed c.args.policy c.args.n (state_of c.args.state.now).slots c.args.packet
    c.args.payload.now c.args.rx.now _ c.in-Open.is) (steps-left _ _ _ refl)

pub returns-in-Close : goal.returns-in-Close
unfolding route_of
returns-in-Close c =
    dispatches _ _ _ _ _ _ (routed c.args.policy c.args.n (state_of c.args.state.now).slots c.args.packet
    c.args.payload.now c.args.rx.now _ c.in-Close.is) c.close.ensures

pub returns-in-Write : goal.returns-in-Write
unfolding route_of
returns-in-Write c =
    dispatches-by _ _ _ _ _ _ (routed c.args.policy c.args.n (state_of c.args.state.now).slots c.args.packet
    c.args.payload.now c.args.rx.now _ c.in-Write.is) c.write.ensures

pub returns-in-Ready : goal.returns-in-Ready
unfolding route_of
returns-in-Ready c =
    dispatches _ _ _ _ _ _ (routed c.args.policy c.args.n (state_of c.args.state.now).slots c.args.packet
    c.args.payload.now c.args.rx.now _ c.in-Ready.is) c.ready.ensures

pub returns-in-Sync : goal.returns-in-Sync
unfolding route_of
returns-in-Sync c =
    dispatches _ _ _ _ _ _ (routed c.args.policy c.args.n (state_of c.args.state.now).slots c.args.packet
    c.args.payload.now c.args.rx.now _ c.in-Sync.is) (steps-left _ _ _ refl)
