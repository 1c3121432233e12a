use Rattle.call.proofs.AdmitLaws.{admits-state}
use mathlib.Core.Path.{sym, ap, ◌∙◌}
use Rattle.connection.specs.Calls.{dropped}
use Rattle.call_open.proofs.OpenLaws.{step_waits, step-begins}
use Rattle.call_open.proofs.open_step.Goals as goal

pub await_open_ack-requires : goal.await_open_ack-requires
await_open_ack-requires c = (c.requires.0, c.requires.1, sym c.is_ours.ensures ∙ c.if-is_ours.true)

pub returns-then-is_ours : goal.returns-then-is_ours
returns-then-is_ours c =
    step_waits c.args.state.now c.args.rx.now c.args.store.now c.args.out.now c.args.h c.requires.1
    c.args.destination.now c.args.received.now _ _ _ _ _ (sym c.is_ours.ensures ∙ c.if-is_ours.true)
    c.await_open_ack.ensures

pub open_channel-requires : goal.open_channel-requires
open_channel-requires c = (admits-state c.requires.0, c.drop_pending.ensures ∙ ap dropped c.requires.1)

pub returns : goal.returns
returns c =
    step-begins c.args.state.now c.args.rx.now c.args.store.now c.args.out.now c.args.h c.requires.1
    c.args.destination.now c.args.received.now _ _ _ _ _ (sym c.is_ours.ensures ∙ c.if-is_ours.false)
    (c.open_channel.ensures _ _)
