use Rattle.call_write.proofs.WriteLaws.{wait-gone, wait-received, wait-stops, wait-packet}
use Rattle.call_write.proofs.wait_ack.Goals as goal

pub write_packet-requires : goal.write_packet-requires
write_packet-requires c = (
  c.requires,
  wait-received c.args.spending c.args.state.now c.args.rx.now c.args.store.now c.args.out.now
      c.args.received.now c.args.bytes.now c.args.ch c.args.h c.args.s c.requires.finds.header
      c.recv_pkt.result c.recv_pkt.ensures _ c.in-Ok.is,
)

pub returns-in-Err : goal.returns-in-Err
returns-in-Err c =
    wait-stops c.args.spending c.args.state.now c.args.rx.now c.args.store.now c.args.out.now c.args.received.now
    c.args.bytes.now c.args.ch c.args.h c.args.s c.requires.finds.header c.recv_pkt.result
    c.recv_pkt.ensures _ _ _ _ c.if-s.true c.in-Err.is c.ends.ensures.0 c.ends.ensures.1

pub returns-in-Ok : goal.returns-in-Ok
returns-in-Ok c =
    wait-packet c.args.spending c.args.state.now c.args.rx.now c.args.store.now c.args.out.now c.args.received.now
    c.args.bytes.now c.args.ch c.args.h c.args.s c.requires.finds.header c.recv_pkt.result
    c.recv_pkt.ensures _ _ _ _ _ _ c.if-s.true c.in-Ok.is c.write_packet.ensures

pub returns : goal.returns
returns c =
    wait-gone c.args.spending c.args.state.now c.args.rx.now c.args.store.now c.args.out.now c.args.received.now
    c.args.bytes.now c.args.ch c.args.h c.args.s c.requires.finds.header _ _ c.if-s.false
    c.ends-2.ensures.0 c.ends-2.ensures.1
