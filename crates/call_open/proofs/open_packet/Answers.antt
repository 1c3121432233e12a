use Rattle.call.proofs.AdmitLaws.{admits-state}
use Rattle.connection.specs.declared.Refusal.TheVariants.{UnexpectedCommand, ChannelClosed}
use Rattle.connection.specs.declared.Answer.TheVariants.{Refused}
use Prim.Native.Nat.{ℕ}
use Rattle.call_open.proofs.OpenLaws.{received-any, packet-fits, own_is, packet-ready, packet-acts, packet-early, packet-closes}
use native.Mathlib.Omega.{arith}
use mathlib.Core.Path.{sym, ◌∙◌, ap}
use Rattle.call_open.proofs.open_packet.Goals as goal

pub open_ready-requires : goal.open_ready-requires
open_ready-requires c = (
  admits-state c.requires.0,
  c.requires.1,
  c.requires.2,
  received-any c.args.state.now c.args.rx.now c.args.store.now c.args.received.now _ c.requires.3,
)

pub returns-then-is_own : goal.returns-then-is_own
returns-then-is_own c =
    packet-ready c.args.state.now c.args.rx.now c.args.store.now c.args.out.now c.args.h c.requires.1
    c.args.received.now c.args.packet _ _ _ _ _
    (sym (own_is c.args.state.now c.args.rx.now c.args.store.now c.args.out.now c.args.h c.requires.1
    c.args.received.now c.args.packet c.is_own.result c.is_ready.result _
    c.pending_channel.result c.pending_channel.ensures c.is_ready.ensures
    c.is_own.ensures) ∙ c.if-is_own.true) (c.open_ready.ensures _ _)

pub frame_len-used-requires : goal.frame_len-used-requires
frame_len-used-requires c =
    (packet-fits c.args.state.now c.args.rx.now c.args.store.now c.args.out.now c.args.h c.requires.1
    c.args.received.now c.args.packet c.requires.3).most

pub returns-then-is_own-2 : goal.returns-then-is_own-2
returns-then-is_own-2 c =
    packet-early c.args.state.now c.args.rx.now c.args.store.now c.args.out.now c.args.h c.requires.1
    c.args.received.now c.args.packet _ _ _ _ c.requires.0.room
    (sym (own_is c.args.state.now c.args.rx.now c.args.store.now c.args.out.now c.args.h c.requires.1
    c.args.received.now c.args.packet c.is_own.result c.is_ready.result _
    c.pending_channel.result c.pending_channel.ensures c.is_ready.ensures
    c.is_own.ensures) ∙ c.if-is_own.false) (sym (own_is c.args.state.now c.args.rx.now c.args.store.now
    c.args.out.now c.args.h c.requires.1 c.args.received.now c.args.packet c.is_own-2.result
    c.is_write.result _ c.pending_channel.result c.pending_channel.ensures
    c.is_write.ensures c.is_own-2.ensures) ∙ c.if-is_own-2.true) c.close_open.ensures.0
    c.close_open.ensures.1.0 (c.close_open.ensures.1.1 ∙ ap (λ (x : ℕ). record
    { answer = Refused UnexpectedCommand; used = x; written = c.close_open.result.written }) c.frame_len-used.ensures)

pub ends-requires : goal.ends-requires
ends-requires c = omega (arith, c.requires)

pub frame_len-used-requires-then-is_own-3 : goal.frame_len-used-requires-then-is_own-3
frame_len-used-requires-then-is_own-3 c =
    (packet-fits c.args.state.now c.args.rx.now c.args.store.now c.args.out.now c.args.h c.requires.1
    c.args.received.now c.args.packet c.requires.3).most

pub returns-then-is_own-3 : goal.returns-then-is_own-3
returns-then-is_own-3 c =
    packet-closes c.args.state.now c.args.rx.now c.args.store.now c.args.out.now c.args.h c.requires.1
    c.args.received.now c.args.packet c.drop_pending.result _ _
    (sym (own_is c.args.state.now c.args.rx.now c.args.store.now c.args.out.now c.args.h c.requires.1
    c.args.received.now c.args.packet c.is_own.result c.is_ready.result _
    c.pending_channel.result c.pending_channel.ensures c.is_ready.ensures
    c.is_own.ensures) ∙ c.if-is_own.false) (sym (own_is c.args.state.now c.args.rx.now c.args.store.now
    c.args.out.now c.args.h c.requires.1 c.args.received.now c.args.packet c.is_own-2.result
    c.is_write.result _ c.pending_channel.result c.pending_channel.ensures
    c.is_write.ensures c.is_own-2.ensures) ∙ c.if-is_own-2.false)
    (sym (own_is c.args.state.now c.args.rx.now c.args.store.now c.args.out.now c.args.h c.requires.1
    c.args.received.now c.args.packet c.is_own-3.result c.is_close.result _
    c.pending_channel.result c.pending_channel.ensures c.is_close.ensures
    c.is_own-3.ensures) ∙ c.if-is_own-3.true) c.drop_pending.ensures c.ends.ensures.0
    (c.ends.ensures.1 ∙ ap (λ (x : ℕ). record { answer = Refused ChannelClosed; used = x; written = 0 }) c.frame_len-used-then-is_own-3.ensures)

pub returns : goal.returns
returns c =
    packet-acts c.args.state.now c.args.rx.now c.args.store.now c.args.out.now c.args.h c.requires.1
    c.args.received.now c.args.packet _ _ _ _ _
    (sym (own_is c.args.state.now c.args.rx.now c.args.store.now c.args.out.now c.args.h c.requires.1
    c.args.received.now c.args.packet c.is_own.result c.is_ready.result _
    c.pending_channel.result c.pending_channel.ensures c.is_ready.ensures
    c.is_own.ensures) ∙ c.if-is_own.false) (sym (own_is c.args.state.now c.args.rx.now c.args.store.now
    c.args.out.now c.args.h c.requires.1 c.args.received.now c.args.packet c.is_own-2.result
    c.is_write.result _ c.pending_channel.result c.pending_channel.ensures
    c.is_write.ensures c.is_own-2.ensures) ∙ c.if-is_own-2.false)
    (sym (own_is c.args.state.now c.args.rx.now c.args.store.now c.args.out.now c.args.h c.requires.1
    c.args.received.now c.args.packet c.is_own-3.result c.is_close.result _
    c.pending_channel.result c.pending_channel.ensures c.is_close.ensures
    c.is_own-3.ensures) ∙ c.if-is_own-3.false) c.open_act.ensures
