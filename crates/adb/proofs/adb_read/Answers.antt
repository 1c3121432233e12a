use Rattle.call_answer.specs.Export.{channel_of}
use Rattle.adb.proofs.ExportLaws.{does-short, does_call, long-answer, read_is}
use Rattle.adb.specs.Export.{world_of}
use Rattle.history.specs.Run.{read_call}
use mathlib.Core.Path.{sym, ◌∙◌}
use Rattle.adb.proofs.adb_read.Goals as goal

pub returns-then-is_short : goal.returns-then-is_short
returns-then-is_short c =
    does-short (world_of c.args.state.now c.args.rx.now c.args.opens.now)
    (read_call c.args.out.now (channel_of c.args.slot c.args.local) c.args.buf.now
    c.args.received.now) c.args.out.now c.args.buf.now c.args.answer.now
    (sym c.is_short.ensures ∙ c.if-is_short.true)

pub answered-requires : goal.answered-requires
answered-requires c = (long-answer _ _ (sym c.is_short.ensures ∙ c.if-is_short.false)).1

pub returns : goal.returns
returns c =
    does_call (world_of c.args.state.now c.args.rx.now c.args.opens.now)
    (read_call c.args.out.now (channel_of c.args.slot c.args.local) c.args.buf.now
    c.args.received.now) c.args.out.now c.args.buf.now c.args.answer.now _ c.read-reply.result _ _ _ _ _ _ _
    (sym c.is_short.ensures ∙ c.if-is_short.false)
    (read_is c.args.state.now c.args.rx.now c.args.opens.now c.args.out.now
    (channel_of c.args.slot c.args.local) c.args.buf.now c.args.received.now
    (λ j. (c.type_inv.received j).fits)) (rw c.channel_of-ch.ensures at c.read-reply.ensures) c.answered.ensures.0
    c.answered.ensures.1 c.answered.ensures.2
