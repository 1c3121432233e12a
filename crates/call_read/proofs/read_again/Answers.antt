use native.Mathlib.Omega.{arith}
use Rattle.call_read.proofs.ReadLaws.{replied, empty, again-waits}
use Rattle.call_read.proofs.read_again.Goals as goal

pub take_buffered-requires : goal.take_buffered-requires
take_buffered-requires c = (c.requires, c.slot_at-slot.ensures)

pub ends_with-requires : goal.ends_with-requires
ends_with-requires c = (c.requires.place-fits, omega (arith, c.requires.state-fits, c.state-1.given))

pub returns-in-Break : goal.returns-in-Break
returns-in-Break c =
    λ store. (replied _ c.args.h c.args.ch _ c.args.used c.args.fault _ c.args.at _ _ _
    c.take_buffered.result _ _ _ (c.take_buffered.ensures store) _ c.in-Break.is).1

pub returns-in-Continue : goal.returns-in-Continue
returns-in-Continue c =
    λ store. again-waits c.args.h c.args.ch c.args.used c.args.fault c.args.at c.args.state.now
    c.args.rx.now store c.args.out.now c.args.buf.now _ _ _ c.unless_fault-answer.result _ _ _ _ _
    (empty _ c.args.h c.args.ch _ c.args.used c.args.fault _ c.args.at _ _ _
    c.take_buffered.result _ _ _ (c.take_buffered.ensures store) _ _ c.in-Continue.is)
    c.ends_with.ensures.0 c.unless_fault-answer.ensures c.ends_with.ensures.1
