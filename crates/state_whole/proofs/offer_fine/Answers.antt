use native.Mathlib.Omega.{arith}
use borrow.Author.Tests.{le-ltb}
use mathlib.Core.Path.{sym, ◌∙◌}
use Rattle.state_whole.proofs.ValidLaws.{offers-in, offers-out, offers-not}
use Rattle.state_whole.proofs.offer_fine.Goals as goal

pub returns-then-place-config : goal.returns-then-place-config
returns-then-place-config c =
    offers-in c.args.h c.args.state.now c.queued_at.result _
    (sym c.is_offer.ensures ∙ c.if-is_offer.true) (omega arith) (omega arith) c.queued_at.ensures
    c.queued_fine.ensures

pub returns-else-place-config : goal.returns-else-place-config
returns-else-place-config c =
    rw (le-ltb c.args.h.queued c.args.h.negotiated.config.channels (omega arith))
    (offers-out c.args.h c.args.state.now (sym c.is_offer.ensures ∙ c.if-is_offer.true) (omega arith))

pub returns : goal.returns
returns c = offers-not c.args.h c.args.state.now (sym c.is_offer.ensures ∙ c.if-is_offer.false)
