use Rattle.call.proofs.AdmitLaws.{admits-state}
use Rattle.call.proofs.ThereLaws.{slot_is}
use mathlib.Core.Path.{sym, ◌∙◌}
use Rattle.call_read.proofs.ReadSteps.{first-room, first-replied, first-looks, first_more}
use Rattle.call_read.proofs.ReadLaws.{replied, empty}
use Rattle.call_read.proofs.read_channel.Goals as goal

pub take_buffered-requires : goal.take_buffered-requires
take_buffered-requires c = (
  first-room c.args.state.now c.args.rx.now c.args.store.now c.args.out.now c.args.h c.args.ch
      c.args.buf.now c.args.received.now c.requires.0 c.requires.1 c.requires.2,
  c.requires.3 ∙ sym
      (slot_is c.args.state.now c.args.rx.now c.args.store.now c.args.h c.requires.1 _ (admits-state c.requires.0)
      c.args.ch c.requires.2),
)

pub read_more-requires : goal.read_more-requires
read_more-requires c =
    first-looks c.args.state.now c.args.rx.now c.args.store.now c.args.out.now c.args.h c.args.ch
    c.args.buf.now c.args.received.now c.requires.0 c.requires.1 c.requires.2 _ _ _ _ _
    (empty _ c.args.h c.args.ch _ 0 _ _ 0 _ _ _ c.take_buffered.result _ _ _
    (c.take_buffered.ensures c.args.store.now) _ _ c.in-Continue.is)

pub returns-in-Break : goal.returns-in-Break
returns-in-Break c =
    first-replied c.args.state.now c.args.rx.now c.args.store.now c.args.out.now c.args.h
    c.args.ch c.args.buf.now c.args.received.now c.requires.0 c.requires.1 c.requires.2 _ _ _ _
    (replied _ c.args.h c.args.ch _ 0 _ _ 0 _ _ _ c.take_buffered.result _ _ _
    (c.take_buffered.ensures c.args.store.now) _ c.in-Break.is)

pub returns-in-Continue : goal.returns-in-Continue
returns-in-Continue c =
    first_more c.args.state.now c.args.rx.now c.args.store.now c.args.out.now c.args.h c.args.ch
    c.args.buf.now c.args.received.now c.requires.0 c.requires.1 c.requires.2 _ _ _ _ _
    (empty _ c.args.h c.args.ch _ 0 _ _ 0 _ _ _ c.take_buffered.result _ _ _
    (c.take_buffered.ensures c.args.store.now) _ _ c.in-Continue.is) _ _ _ _ _ _
    c.read_more.ensures
