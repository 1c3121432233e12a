use Prim.Native.Nat.{ℕ}
use Rattle.call.proofs.CallLaws.{call-room, dispatch-stops, dispatch-acts}
use Rattle.connection.proofs.Decoding.{packet-room}
use native.Mathlib.Omega.{arith}
use mathlib.Core.Path.{ap, ◌∙◌}
use Rattle.call_dispatch.proofs.dispatch_step.Goals as goal

pub payload_in-payload-requires : goal.payload_in-payload-requires
payload_in-payload-requires c =
    (packet-room c.args.received.now c.args.h.negotiated.config.max_payload c.recv_pkt.result _
    c.recv_pkt.ensures c.in-Ok.is).whole

pub act_on-acted-requires : goal.act_on-acted-requires
act_on-acted-requires c =
    let k = c.requires.0.room in call-room c.args.state.now c.args.rx.now c.args.store.now c.args.out.now
    c.args.h c.requires.1 c.args.received.now c.payload_in-payload.result.now _ 0 c.requires.0
    (packet-room c.args.received.now c.args.h.negotiated.config.max_payload c.recv_pkt.result _
    c.recv_pkt.ensures c.in-Ok.is) c.payload_in-payload.ensures (omega arith)

pub ends-requires-in-Ok : goal.ends-requires-in-Ok
ends-requires-in-Ok c = omega (arith, c.requires, c.state-in-Ok-1.given)

pub frame_len-used-requires : goal.frame_len-used-requires
frame_len-used-requires c =
    (packet-room c.args.received.now c.args.h.negotiated.config.max_payload c.recv_pkt.result _
    c.recv_pkt.ensures c.in-Ok.is).most

pub returns-in-Err : goal.returns-in-Err
returns-in-Err c =
    dispatch-stops c.args.state.now c.args.rx.now c.args.store.now c.args.out.now c.args.h
    c.requires.1 c.args.received.now c.recv_pkt.result c.recv_pkt.ensures _ _ _ _ c.in-Err.is
    c.ends.ensures.0 c.ends.ensures.1

pub returns-in-Ok : goal.returns-in-Ok
returns-in-Ok c =
    dispatch-acts c.args.state.now c.args.rx.now c.args.store.now c.args.out.now c.args.h c.requires.1
    c.args.received.now c.recv_pkt.result c.recv_pkt.ensures _ c.payload_in-payload.result.now
    c.act_on-acted.result c.unless_fault-answer.result _ _ _ _ _ _ c.in-Ok.is c.payload_in-payload.ensures
    c.act_on-acted.ensures c.unless_fault-answer.ensures c.ends-in-Ok.ensures.0
    (c.ends-in-Ok.ensures.1 ∙ ap (λ (x : ℕ). record { answer = c.unless_fault-answer.result; used = x; written = c.act_on-acted.result.end }) c.frame_len-used.ensures)
