use Rattle.call_answer.specs.Export.{channel_of}
use Rattle.adb.proofs.ExportLaws.{does-short, does_call, long-answer, take-is}
use Rattle.adb.specs.Export.{world_of}
use Rattle.history.specs.Run.{take_call}
use mathlib.Core.List.{[]}
use mathlib.Core.Path.{sym, ◌∙◌}
use Rattle.adb.proofs.adb_take.Goals as goal

pub returns-then-is_short : goal.returns-then-is_short
returns-then-is_short c =
    does-short (world_of c.args.state.now c.args.rx.now c.args.opens.now)
    (take_call (channel_of c.args.slot c.args.local) c.args.buf.now) [] c.args.buf.now
    c.args.answer.now (sym c.is_short.ensures ∙ c.if-is_short.true)

pub answered-requires : goal.answered-requires
answered-requires c = (long-answer _ _ (sym c.is_short.ensures ∙ c.if-is_short.false)).1

pub returns : goal.returns
returns c =
    does_call (world_of c.args.state.now c.args.rx.now c.args.opens.now)
    (take_call (channel_of c.args.slot c.args.local) c.args.buf.now) [] c.args.buf.now
    c.args.answer.now _ c.take-reply.result _ _ _ _ _ _ _ (sym c.is_short.ensures ∙ c.if-is_short.false)
    (take-is c.args.state.now c.args.rx.now c.args.opens.now
    (channel_of c.args.slot c.args.local) c.args.buf.now) (rw c.channel_of-ch.ensures at c.take-reply.ensures)
    c.answered.ensures.0 c.answered.ensures.1 c.answered.ensures.2
