use Rattle.call_write.proofs.WriteLaws.{finds-sends, on-closed, on-sends, on-waits, on-packet}
use Rattle.call_write.proofs.write_channel.Goals as goal

pub returns-then-is_closed : goal.returns-then-is_closed
returns-then-is_closed c =
    on-closed c.args.spending c.args.state.now c.args.rx.now c.args.store.now c.args.out.now c.args.received.now
    c.args.bytes.now c.args.ch c.args.h c.args.s c.requires c.is_closed.result
    c.is_closed.ensures _ _ c.if-is_closed.true c.ends.ensures.0 c.ends.ensures.1

pub rx_policy-requires : goal.rx_policy-requires
rx_policy-requires c =
    (finds-sends c.args.state.now c.args.rx.now c.args.store.now _ c.args.ch c.args.h c.args.s
    c.requires).within

pub send_some-requires : goal.send_some-requires
send_some-requires c =
    finds-sends c.args.state.now c.args.rx.now c.args.store.now _ c.args.ch c.args.h c.args.s
    c.requires

pub wait_ack-requires : goal.wait_ack-requires
wait_ack-requires c =
    on-waits c.args.spending c.args.state.now c.args.rx.now c.args.store.now c.args.out.now c.args.received.now
    c.args.bytes.now c.args.ch c.args.h c.args.s c.requires c.is_closed.result
    c.is_closed.ensures c.if-is_closed.false c.leave.result c.rx_policy.result
    c.rx_policy.ensures c.leave.ensures c.in-None.is

pub returns-in-Some : goal.returns-in-Some
returns-in-Some c =
    on-sends c.args.spending c.args.state.now c.args.rx.now c.args.store.now c.args.out.now c.args.received.now
    c.args.bytes.now c.args.ch c.args.h c.args.s c.requires c.is_closed.result
    c.is_closed.ensures c.if-is_closed.false c.leave.result c.rx_policy.result
    c.rx_policy.ensures c.leave.ensures _ _ _ _ c.in-Some.is (c.send_some.ensures _ _)

pub returns-in-None : goal.returns-in-None
returns-in-None c =
    on-packet c.args.spending c.args.state.now c.args.rx.now c.args.store.now c.args.out.now c.args.received.now
    c.args.bytes.now c.args.ch c.args.h c.args.s c.requires c.is_closed.result
    c.is_closed.ensures c.if-is_closed.false c.leave.result c.rx_policy.result
    c.rx_policy.ensures c.leave.ensures _ _ _ _ _ c.in-None.is c.wait_ack.ensures
