use Rattle.std.proofs.Common.{sym, ◌∙◌, [], length}
use Rattle.device_dispatch.specs.Promise.{device_dispatch}
use Rattle.adb_device.proofs.ExportLaws.{does-short, does_call, long-answer}
use Rattle.adb_device.proofs.adb_device_dispatch.Goals as goal

pub returns-then-is_short : goal.returns-then-is_short
returns-then-is_short c =
    does-short c.args.state.now c.args.rx.now c.args.opens.now c.args.out.now [] c.args.answer.now _ (sym c.is_short.ensures ∙ c.if-is_short.true)

pub answered-requires : goal.answered-requires
answered-requires c = (long-answer _ _ (sym c.is_short.ensures ∙ c.if-is_short.false)).1

pub returns : goal.returns
returns c =
    does_call c.args.state.now c.args.rx.now c.args.opens.now c.args.out.now [] c.args.answer.now
    (device_dispatch c.args.state.now c.args.rx.now c.args.opens.now (length c.args.out.now) c.args.names.now c.args.received.now)
    c.dispatch-reply.result _ _ _ _ _ _ _ (sym c.is_short.ensures ∙ c.if-is_short.false)
    c.dispatch-reply.ensures c.answered.ensures.0 c.answered.ensures.1 c.answered.ensures.2
