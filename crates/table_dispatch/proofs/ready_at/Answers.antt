use Rattle.table_dispatch.proofs.DispatchLaws.{steps-left, steps-stored, ready-failed, ready-granted, ready-bad}
use mathlib.Core.Path.{sym, ◌∙◌}
use Rattle.table_dispatch.proofs.ready_at.Goals as goal

pub returns-then-is_failed : goal.returns-then-is_failed
returns-then-is_failed c =
    steps-left _ _ _ (ready-failed c.args.policy c.args.i _ c.slot_at-s.result c.slot_at-s.ensures
    c.args.remote c.args.payload.now (sym c.is_failed.ensures ∙ c.if-is_failed.true))

pub returns-in-Err : goal.returns-in-Err
returns-in-Err c =
    steps-left _ _ _ (ready-bad c.args.policy c.args.i _ c.slot_at-s.result c.slot_at-s.ensures
    c.args.remote c.args.payload.now _ c.fault.result (sym c.is_failed.ensures ∙ c.if-is_failed.false)
    (sym c.readied.ensures ∙ c.in-Err.is) c.fault.ensures)

pub returns-in-Ok : goal.returns-in-Ok
returns-in-Ok c =
    steps-stored _ _ _ _ _ _ (ready-granted c.args.policy c.args.i _ c.slot_at-s.result c.slot_at-s.ensures
    c.args.remote c.args.payload.now _ (sym c.is_failed.ensures ∙ c.if-is_failed.false)
    (sym c.readied.ensures ∙ c.in-Ok.is)) c.put_slot.ensures
