use Rattle.table_dispatch.proofs.DispatchLaws.{dispatches, steps-left, steps-stored, room-kept, wrote-failed, wrote-bad, wrote-kept}
use Rattle.slot.specs.Slot.{SlotOk}
use mathlib.Core.Path.{refl, sym, subst, ◌∙◌}
use Rattle.table_dispatch.proofs.write_at.Goals as goal

pub returns-then-is_failed : goal.returns-then-is_failed
returns-then-is_failed c =
    dispatches _ _ _ _ _ _ (wrote-failed c.args.policy c.args.i _ c.slot_at-s.result c.slot_at-s.ensures
    c.args.remote c.args.payload.now c.args.rx.now (sym c.is_failed.ensures ∙ c.if-is_failed.true))
    (steps-left _ _ _ refl)

pub apply_write-requires : goal.apply_write-requires
apply_write-requires c = subst (λ s. SlotOk s c.args.policy.rx_cap) (sym c.slot_at-s.ensures) c.requires.sound

pub buffer-requires : goal.buffer-requires
buffer-requires c = (
  c.requires.share-fits,
  room-kept c.args.state.now c.args.i c.slot_at-s.result c.args.policy _
      c.apply_write.result c.slot_at-s.ensures c.apply_write.ensures c.requires.sound _
      c.in-Ok.is,
)

pub put_slot-requires : goal.put_slot-requires
put_slot-requires c = (c.requires.place-fits, c.requires.state-fits)

pub returns-in-Err : goal.returns-in-Err
returns-in-Err c =
    dispatches _ _ _ _ _ _ (wrote-bad c.args.policy c.args.i _ c.slot_at-s.result c.slot_at-s.ensures
    c.args.remote c.args.payload.now c.args.rx.now c.apply_write.result
    (sym c.is_failed.ensures ∙ c.if-is_failed.false) c.apply_write.ensures _ c.fault.result
    c.in-Err.is c.fault.ensures) (steps-left _ _ _ refl)

pub returns-in-Ok : goal.returns-in-Ok
returns-in-Ok c =
    dispatches _ _ _ _ _ _ (wrote-kept c.args.policy c.args.i _ c.slot_at-s.result c.slot_at-s.ensures
    c.args.remote c.args.payload.now c.args.rx.now c.apply_write.result
    (sym c.is_failed.ensures ∙ c.if-is_failed.false) c.apply_write.ensures _ c.buffered.result _ c.in-Ok.is
    c.buffered.ensures c.buffer.ensures) (steps-stored _ _ _ _ _ _ refl c.put_slot.ensures)
