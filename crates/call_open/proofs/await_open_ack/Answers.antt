use Rattle.call_open.proofs.OpenLaws.{await-packet, await-stops, await-goes}
use Rattle.call_open.proofs.await_open_ack.Goals as goal

pub open_packet-requires : goal.open_packet-requires
open_packet-requires c = (
  c.requires.0,
  c.requires.1,
  c.requires.2,
  await-packet c.args.state.now c.args.rx.now c.args.store.now
      c.args.out.now c.args.h c.requires.1 c.args.received.now c.recv_pkt.result
      c.recv_pkt.ensures _ c.in-Ok.is,
)

pub returns-in-Err : goal.returns-in-Err
returns-in-Err c =
    await-stops c.args.state.now c.args.rx.now c.args.store.now c.args.out.now c.args.h c.requires.1
    c.args.received.now c.recv_pkt.result c.recv_pkt.ensures _ _ c.still_pending.result _ _
    c.in-Err.is c.still_pending.ensures c.ends.ensures.0 c.ends.ensures.1

pub returns-in-Ok : goal.returns-in-Ok
returns-in-Ok c =
    await-goes c.args.state.now c.args.rx.now c.args.store.now c.args.out.now c.args.h c.requires.1
    c.args.received.now c.recv_pkt.result c.recv_pkt.ensures _ _ _ _ _ _ c.in-Ok.is
    c.open_packet.ensures
