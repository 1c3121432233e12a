use Rattle.call_write.proofs.WriteLaws.{again-closed, again-sends, again-waits}
use Rattle.call_write.proofs.send_again.Goals as goal

pub returns-then-is_closed : goal.returns-then-is_closed
returns-then-is_closed c =
    λ rx store. again-closed c.args.state.now c.args.out.now c.args.bytes.now c.args.ch c.args.h
    c.requires c.args.used c.args.s c.args.spending c.is_closed.result c.is_closed.ensures rx store _ _
    c.if-is_closed.true c.ends_with.ensures.0 c.ends_with.ensures.1

pub returns-in-Some : goal.returns-in-Some
returns-in-Some c =
    λ rx store. again-sends c.args.state.now c.args.out.now c.args.bytes.now c.args.ch c.args.h
    c.requires c.args.used c.args.s c.args.spending c.is_closed.result c.is_closed.ensures rx store
    c.if-is_closed.false c.leave.result c.rx_policy.result c.rx_policy.ensures c.leave.ensures
    _ _ _ _ c.in-Some.is (c.send_some.ensures rx store)

pub returns-in-None : goal.returns-in-None
returns-in-None c =
    λ rx store. again-waits c.args.state.now c.args.out.now c.args.bytes.now c.args.ch c.args.h
    c.requires c.args.used c.args.s c.args.spending c.is_closed.result c.is_closed.ensures rx store
    c.if-is_closed.false c.leave.result c.rx_policy.result c.rx_policy.ensures c.leave.ensures
    _ _ c.in-None.is c.ends_with-in-None.ensures.0 c.ends_with-in-None.ensures.1
