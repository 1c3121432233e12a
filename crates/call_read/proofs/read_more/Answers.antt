use Rattle.call_read.proofs.ReadSteps.{found-is, look-stops, look-found}
use Rattle.call_read.proofs.LookLaws.{look-place}
use Rattle.call_read.proofs.read_more.Goals as goal

pub ends_with-requires : goal.ends_with-requires
ends_with-requires c = (
  look-place c.args.state.now c.args.rx.now c.args.store.now c.args.out.now c.args.h c.args.ch
      c.args.s _ c.args.at c.requires.0 c.requires.1,
  c.requires.0.state-fits,
)

pub read_packet-requires : goal.read_packet-requires
read_packet-requires c = (
  c.requires.0,
  c.requires.1,
  found-is c.args.state.now c.args.rx.now c.args.store.now c.args.out.now
      c.args.h c.args.ch c.args.s _ c.args.at c.requires.0 c.requires.1 c.args.received.now
      c.recv_pkt.result c.recv_pkt.ensures _ c.in-Ok.is,
)

pub returns-in-Err : goal.returns-in-Err
returns-in-Err c =
    look-stops c.args.state.now c.args.rx.now c.args.store.now c.args.out.now c.args.h c.args.ch
    c.args.s _ c.args.at c.requires.0 c.requires.1 c.args.received.now c.recv_pkt.result
    c.recv_pkt.ensures _ _ c.args.buf.now _ _ c.in-Err.is c.ends_with.ensures.0 c.ends_with.ensures.1

pub returns-in-Ok : goal.returns-in-Ok
returns-in-Ok c =
    look-found c.args.state.now c.args.rx.now c.args.store.now c.args.out.now c.args.h c.args.ch
    c.args.s _ c.args.at c.requires.0 c.requires.1 c.args.received.now c.recv_pkt.result
    c.recv_pkt.ensures _ c.args.buf.now _ _ _ _ _ _ c.in-Ok.is c.read_packet.ensures
