use Rattle.call_answer.specs.Export.{channel_of}
use Rattle.std.proofs.Common.{sym, ◌∙◌, [], length}
use Rattle.device_write.specs.Promise.{device_write}
use Rattle.adb_device.proofs.ExportLaws.{does-short, does_call, long-answer}
use Rattle.adb_device.proofs.adb_device_write.Goals as goal

pub returns-then-is_short : goal.returns-then-is_short
returns-then-is_short c =
    does-short c.args.state.now c.args.rx.now c.args.opens.now c.args.out.now [] c.args.answer.now _ (sym c.is_short.ensures ∙ c.if-is_short.true)

pub answered-requires : goal.answered-requires
answered-requires c = (long-answer _ _ (sym c.is_short.ensures ∙ c.if-is_short.false)).1

pub returns : goal.returns
returns c =
    does_call c.args.state.now c.args.rx.now c.args.opens.now c.args.out.now [] c.args.answer.now
    (device_write c.args.state.now c.args.rx.now c.args.opens.now (length c.args.out.now) c.args.names.now (channel_of c.args.slot c.args.local) c.args.bytes.now c.args.received.now)
    c.write-reply.result _ _ _ _ _ _ _ (sym c.is_short.ensures ∙ c.if-is_short.false)
    (rw c.channel_of-ch.ensures at c.write-reply.ensures) c.answered.ensures.0 c.answered.ensures.1 c.answered.ensures.2
