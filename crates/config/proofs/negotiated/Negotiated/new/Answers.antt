use Rattle.std.proofs.Common.{◌≡◌, min, arith}
use Rattle.config.specs.Negotiated.{negotiated_of, both}
use Rattle.config.proofs.negotiated.Negotiated.new.Goals as goal

pub returns-then-host_delayed_ack : goal.returns-then-host_delayed_ack
unfolding negotiated_of both
returns-then-host_delayed_ack c =
    let payload : c.min.result ≡ min c.args.arg1 1_048_576 = omega arith in
    let version : c.min-2.result ≡ min c.args.arg0 0x0100_0001 = omega arith in
    rw (c.if-host_delayed_ack.true, payload, version)

pub returns-else-host_delayed_ack : goal.returns-else-host_delayed_ack
unfolding negotiated_of both
returns-else-host_delayed_ack c =
    let payload : c.min.result ≡ min c.args.arg1 1_048_576 = omega arith in
    let version : c.min-2.result ≡ min c.args.arg0 0x0100_0001 = omega arith in
    rw (c.if-host_delayed_ack.false, payload, version)
