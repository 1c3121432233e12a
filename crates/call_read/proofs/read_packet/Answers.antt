use Rattle.connection.specs.declared.Refusal.TheVariants.{ChannelClosed}
use Rattle.connection.specs.declared.Answer.TheVariants.{Refused}
use Prim.Native.Nat.{ℕ}
use Rattle.slot.specs.Ids.{closed_by}
use Rattle.slot.specs.declared.ids.ChannelIds.{ChannelIds}
use mathlib.Core.Path.{refl, sym, ap, ◌∙◌}
use Rattle.call_read.proofs.ReadLaws.{direct-fits}
use Rattle.call_read.proofs.LookLaws.{look-place, look-packet, look-fits, look-direct, look-closed, look-other, look-within}
use native.Mathlib.Omega.{arith}
use Rattle.call_read.proofs.read_packet.Goals as goal

pub payload_in-payload-requires : goal.payload_in-payload-requires
payload_in-payload-requires c =
    (look-packet c.args.state.now c.args.rx.now c.args.store.now c.args.out.now c.args.h c.args.ch
    c.args.s _ c.args.at c.requires.0 c.requires.1 c.args.received.now c.args.packet c.requires.2).whole

pub frame_len-used-requires : goal.frame_len-used-requires
frame_len-used-requires c =
    (look-packet c.args.state.now c.args.rx.now c.args.store.now c.args.out.now c.args.h c.args.ch
    c.args.s _ c.args.at c.requires.0 c.requires.1 c.args.received.now c.args.packet c.requires.2).most

pub read_direct-requires : goal.read_direct-requires
read_direct-requires c =
    let big = c.requires.0.room in let small = c.requires.1.at_small in (
      look-place c.args.state.now c.args.rx.now c.args.store.now c.args.out.now c.args.h c.args.ch
          c.args.s _ c.args.at c.requires.0 c.requires.1,
      c.requires.0.state-fits,
      look-within c.args.state.now
          c.args.rx.now c.args.store.now c.args.out.now c.args.h c.args.ch c.args.s _ c.args.at
          c.requires.0 c.requires.1,
      direct-fits c.args.s _ c.args.packet c.args.received.now
          c.payload_in-payload.result.now _ (look-packet c.args.state.now c.args.rx.now c.args.store.now
          c.args.out.now c.args.h c.args.ch c.args.s _ c.args.at c.requires.0 c.requires.1
          c.args.received.now c.args.packet c.requires.2) c.payload_in-payload.ensures
          (sym c.is_direct.ensures ∙ c.if-is_direct.true),
      omega arith,
    )

pub returns-then-is_direct : goal.returns-then-is_direct
returns-then-is_direct c =
    look-direct c.args.state.now c.args.rx.now c.args.store.now c.args.out.now c.args.h c.args.ch
    c.args.s _ c.args.at c.requires.0 c.requires.1 c.args.received.now c.args.packet c.requires.2
    c.payload_in-payload.result.now c.payload_in-payload.ensures c.args.buf.now refl _ _ c.args.rx.now
    c.args.store.now _ _ (sym c.is_direct.ensures ∙ c.if-is_direct.true)
    (rw c.frame_len-used.ensures at (c.read_direct.ensures c.args.rx.now c.args.store.now))

pub ends_with-requires : goal.ends_with-requires
ends_with-requires c = (
  look-place c.args.state.now c.args.rx.now c.args.store.now c.args.out.now c.args.h c.args.ch
      c.args.s _ c.args.at c.requires.0 c.requires.1,
  c.requires.0.state-fits,
)

pub returns-then-closed_by : goal.returns-then-closed_by
returns-then-closed_by c =
    look-closed c.args.state.now c.args.rx.now c.args.store.now c.args.out.now c.args.h c.args.ch
    c.args.s _ c.args.at c.requires.0 c.requires.1 c.args.received.now c.args.packet c.requires.2
    c.payload_in-payload.result.now c.payload_in-payload.ensures c.args.buf.now refl _ _ c.args.rx.now
    c.args.store.now c.args.out.now c.args.buf.now (sym c.is_direct.ensures ∙ c.if-is_direct.false)
    (ap (λ (x : ChannelIds). closed_by x c.args.packet) (sym c.ids_in.ensures) ∙ sym c.closed_by.ensures ∙ c.if-closed_by.true) c.apply_close.result c.apply_close.ensures c.ends_with.ensures.0
    (c.ends_with.ensures.1 ∙ ap (λ (x : ℕ). record { answer = Refused ChannelClosed; used = x; written = c.args.at }) c.frame_len-used.ensures)

pub read_other-requires : goal.read_other-requires
read_other-requires c = (
  c.requires.0,
  c.requires.1,
  look-fits c.args.state.now c.args.rx.now c.args.store.now c.args.out.now
      c.args.h c.args.ch c.args.s _ c.args.at c.requires.0 c.requires.1 c.args.received.now
      c.args.packet c.requires.2 c.payload_in-payload.result.now (λ j. (c.type_inv.received j).fits)
      c.payload_in-payload.ensures,
)

pub returns : goal.returns
returns c =
    look-other c.args.state.now c.args.rx.now c.args.store.now c.args.out.now c.args.h c.args.ch
    c.args.s _ c.args.at c.requires.0 c.requires.1 c.args.received.now c.args.packet c.requires.2
    c.payload_in-payload.result.now c.payload_in-payload.ensures c.args.buf.now refl _ _ _ _ _ _
    (sym c.is_direct.ensures ∙ c.if-is_direct.false)
    (ap (λ (x : ChannelIds). closed_by x c.args.packet) (sym c.ids_in.ensures) ∙ sym c.closed_by.ensures ∙ c.if-closed_by.false) (rw c.frame_len-used.ensures at c.read_other.ensures)
