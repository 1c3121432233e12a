use Rattle.std.proofs.Common.{arith}
use Rattle.le.specs.Le.{bytes_of}
use Rattle.pcap.specs.Header.{file_header}
use Rattle.pcap.proofs.RoundTrip.{header-compared}
use Rattle.pcap.proofs.read_header.Goals as goal

pub returns-then-starts_with : goal.returns-then-starts_with
unfolding file_header bytes_of
returns-then-starts_with c =
    rw c.if-starts_with.true at (header-compared c.args.received.now c.starts_with.result (λ k. (c.type_inv.received k).fits) (omega arith) c.starts_with.ensures.value)

pub returns-else-starts_with : goal.returns-else-starts_with
unfolding file_header bytes_of
returns-else-starts_with c =
    rw c.if-starts_with.false at (header-compared c.args.received.now c.starts_with.result (λ k. (c.type_inv.received k).fits) (omega arith) c.starts_with.ensures.value)
