use native.Mathlib.Omega.{arith}
use borrow.Author.Tests.{le-ltb}
use mathlib.Core.Path.{sym, ◌∙◌}
use Rattle.state_whole.proofs.ValidLaws.{waits_in, waits-out, waits-not}
use Rattle.state_whole.proofs.pending_fine.Goals as goal

pub returns-then-place-h : goal.returns-then-place-h
returns-then-place-h c =
    waits_in c.args.h c.args.state.now c.slot_at.result
    (sym c.is_ours.ensures ∙ c.if-is_ours.true) (omega arith) (omega arith) c.slot_at.ensures

pub returns-else-place-h : goal.returns-else-place-h
returns-else-place-h c =
    rw (le-ltb c.args.h.pending.slot c.args.h.negotiated.config.channels (omega arith))
    (waits-out c.args.h c.args.state.now (sym c.is_ours.ensures ∙ c.if-is_ours.true) (omega arith))

pub returns : goal.returns
returns c = waits-not c.args.h c.args.state.now (sym c.is_ours.ensures ∙ c.if-is_ours.false)
