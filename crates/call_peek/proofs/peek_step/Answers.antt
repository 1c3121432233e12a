use Rattle.connection.proofs.Decoding.{packet-room}
use Rattle.call_peek.proofs.PeekLaws.{limits, walks, place-near, place-sound}
use Rattle.call_peek.proofs.peek_step.Goals as goal

pub payload_in-payload-requires : goal.payload_in-payload-requires
payload_in-payload-requires c =
    (packet-room c.args.received.now c.args.h.negotiated.config.max_payload c.recv_pkt.result _ c.recv_pkt.ensures c.in-Ok.is).whole

pub place_for-place-requires : goal.place_for-place-requires
place_for-place-requires c = walks c.args.state.now c.args.h c.requires

pub rx_policy-requires : goal.rx_policy-requires
rx_policy-requires c = limits c.args.state.now c.args.h c.requires

pub fault_at-fault-requires : goal.fault_at-fault-requires
fault_at-fault-requires c =
    place-sound c.args.state.now c.args.h c.requires c.in-Ok.packet _ c.place_for-place.ensures _ c.rx_policy.ensures

pub frame_len-requires : goal.frame_len-requires
frame_len-requires c =
    (packet-room c.args.received.now c.args.h.negotiated.config.max_payload c.recv_pkt.result _ c.recv_pkt.ensures c.in-Ok.is).most

pub channel_or_open-requires : goal.channel_or_open-requires
channel_or_open-requires c = (c.requires.0.state-fits, place-near c.args.state.now c.args.h c.requires c.in-Ok.packet _ c.place_for-place.ensures)
