use Rattle.call_write.proofs.WriteLaws.{ready-again, ready-bad}
use Rattle.call_write.proofs.write_ready.Goals as goal

pub returns-in-Ok : goal.returns-in-Ok
returns-in-Ok c =
    λ rx store. ready-again c.args.state.now c.args.out.now c.args.bytes.now c.args.ch c.args.h
    c.requires c.args.used c.args.s c.args.spending c.args.payload.now c.rx_policy.result
    c.apply_ready.result c.rx_policy.ensures c.apply_ready.ensures rx store _ _ _ _
    c.in-Ok.is (c.send_again.ensures rx store)

pub returns-in-Err : goal.returns-in-Err
returns-in-Err c =
    λ rx store. ready-bad c.args.state.now c.args.out.now c.args.bytes.now c.args.ch c.args.h
    c.requires c.args.used c.args.s c.args.spending c.args.payload.now c.rx_policy.result
    c.apply_ready.result c.rx_policy.ensures c.apply_ready.ensures rx store _ _ _
    c.in-Err.is c.ends.ensures.0 c.ends.ensures.1
