use Rattle.connection.specs.declared.Refusal.TheVariants.{ChannelClosed}
use Rattle.connection.specs.declared.Answer.TheVariants.{Refused}
use Prim.Native.Nat.{ℕ}
use Rattle.call_write.proofs.WriteLaws.{finds-place, finds-sends, packet-place, packet-ready, packet-closes, packet-acts}
use Rattle.call.proofs.CallLaws.{call-room, own_is}
use native.Mathlib.Omega.{arith}
use mathlib.Core.Path.{ap, ◌∙◌}
use Rattle.call_write.proofs.write_packet.Goals as goal

pub payload_in-payload-requires : goal.payload_in-payload-requires
payload_in-payload-requires c =
    (packet-place c.args.state.now c.args.rx.now c.args.store.now c.args.out.now c.args.received.now
    c.args.bytes.now c.args.ch c.args.h c.args.s c.args.packet c.requires.0 c.requires.1).whole

pub frame_len-used-requires : goal.frame_len-used-requires
frame_len-used-requires c =
    (packet-place c.args.state.now c.args.rx.now c.args.store.now c.args.out.now c.args.received.now
    c.args.bytes.now c.args.ch c.args.h c.args.s c.args.packet c.requires.0 c.requires.1).most

pub write_ready-requires : goal.write_ready-requires
write_ready-requires c =
    finds-sends c.args.state.now c.args.rx.now c.args.store.now _ c.args.ch c.args.h c.args.s
    c.requires.0.finds

pub returns-then-is_own : goal.returns-then-is_own
returns-then-is_own c =
    packet-ready c.args.state.now c.args.rx.now c.args.store.now c.args.out.now c.args.received.now
    c.args.bytes.now c.args.ch c.args.h c.args.s c.args.packet c.requires.0 c.requires.1
    c.args.spending c.is_own.result (own_is _ _ _ c.args.packet.arg1 c.args.s.local.0 c.is_ready.ensures
    c.is_own.ensures) c.payload_in-payload.result.now _ _ _ c.if-is_own.true c.payload_in-payload.ensures
    (rw c.frame_len-used.ensures at (c.write_ready.ensures c.args.rx.now c.args.store.now))

pub ends_with-requires : goal.ends_with-requires
ends_with-requires c = (
  finds-place c.args.state.now c.args.rx.now c.args.store.now _ c.args.ch c.args.h c.args.s
      c.requires.0.finds,
  c.requires.0.finds.admits.state-fits,
)

pub returns-then-closed_by : goal.returns-then-closed_by
returns-then-closed_by c =
    packet-closes c.args.state.now c.args.rx.now c.args.store.now c.args.out.now c.args.received.now
    c.args.bytes.now c.args.ch c.args.h c.args.s c.args.packet c.requires.0 c.requires.1
    c.args.spending c.is_own.result (own_is _ _ _ c.args.packet.arg1 c.args.s.local.0 c.is_ready.ensures
    c.is_own.ensures) c.if-is_own.false c.ids_in.result c.closed_by.result c.ids_in.ensures
    c.closed_by.ensures c.apply_close.result _ _ c.if-closed_by.true c.apply_close.ensures
    c.ends_with.ensures.0 (c.ends_with.ensures.1 ∙ ap (λ (x : ℕ). record { answer = Refused ChannelClosed; used = x; written = 0 })
    c.frame_len-used.ensures)

pub act_on-acted-requires : goal.act_on-acted-requires
act_on-acted-requires c =
    let k = c.requires.0.finds.admits.room in call-room c.args.state.now c.args.rx.now c.args.store.now
    c.args.out.now c.args.h c.requires.0.finds.header c.args.received.now c.payload_in-payload.result.now
    c.args.packet 0 c.requires.0.finds.admits (packet-place c.args.state.now c.args.rx.now c.args.store.now
    c.args.out.now c.args.received.now c.args.bytes.now c.args.ch c.args.h c.args.s
    c.args.packet c.requires.0 c.requires.1) c.payload_in-payload.ensures (omega arith)

pub ends-requires : goal.ends-requires
ends-requires c = let k = c.requires.0.finds.admits.state-fits in omega (arith, c.state-2-1.given)

pub returns : goal.returns
returns c =
    packet-acts c.args.state.now c.args.rx.now c.args.store.now c.args.out.now c.args.received.now
    c.args.bytes.now c.args.ch c.args.h c.args.s c.args.packet c.requires.0 c.requires.1
    c.args.spending c.is_own.result (own_is _ _ _ c.args.packet.arg1 c.args.s.local.0 c.is_ready.ensures
    c.is_own.ensures) c.if-is_own.false c.ids_in.result c.closed_by.result c.ids_in.ensures
    c.closed_by.ensures c.if-closed_by.false (λ j. (c.type_inv.received j).fits)
    c.payload_in-payload.result.now c.act_on-acted.result c.unless_fault-answer.result _ _ _ _ _ _ c.payload_in-payload.ensures
    c.act_on-acted.ensures c.unless_fault-answer.ensures c.ends.ensures.0
    (c.ends.ensures.1 ∙ ap (λ (x : ℕ). record { answer = c.unless_fault-answer.result; used = x; written = c.act_on-acted.result.end })
    c.frame_len-used.ensures)
