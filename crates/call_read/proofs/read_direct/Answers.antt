use Rattle.call_read.proofs.ReadLaws.{direct-leaves}
use Rattle.call_read.proofs.read_direct.Goals as goal

pub returns : goal.returns
returns c =
    λ rx store. direct-leaves c.args.h c.args.ch c.args.s c.args.used c.args.at c.args.state.now rx
    store c.args.out.now c.args.buf.now c.args.payload.now c.rx_policy.result c.deliver-delivered.result
    _ _ _ _ _ c.rx_policy.ensures c.deliver-delivered.ensures c.requires.4 c.requires.3 c.copy_at.ensures
    c.put_ack-end.ensures c.ends_with.ensures.0 c.ends_with.ensures.1
