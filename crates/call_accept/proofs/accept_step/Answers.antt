use mathlib.Core.List.{[]}
use mathlib.Core.Path.{refl, ap}
use Rattle.state.specs.declared.Header.{Header}
use Rattle.call_reject.proofs.OfferLaws.{offer-room, found-offer, found-entry, found-none}
use Rattle.call_accept.proofs.AcceptLaws.{step_room, accepts, accepts-none}
use Rattle.call_accept.proofs.accept_step.Goals as goal

pub offered-requires : goal.offered-requires
offered-requires c = offer-room c.args.state.now [] [] c.args.out.now c.args.h c.requires.1 _ c.requires.0

pub accept_on-requires : goal.accept_on-requires
accept_on-requires c =
    step_room c.args.state.now [] [] c.args.out.now c.args.h
    c.requires.1 c.requires.0 _ (ap (λ (x : Header). x.negotiated) c.drop_pending-later.ensures)

pub returns-in-Some : goal.returns-in-Some
returns-in-Some c =
    λ rx store. accepts c.args.state.now rx store c.args.out.now c.args.h
    c.requires.1 c.requires.0 c.drop_pending-later.result c.drop_pending-later.ensures _ _ _ _
    refl _ (found-offer c.args.state.now c.args.h c.offered.result c.offered.ensures _ c.in-Some.is)
    (found-entry c.args.state.now c.args.h c.offered.result c.offered.ensures _ c.in-Some.is)
    c.accept_on.ensures

pub returns-in-None : goal.returns-in-None
returns-in-None c =
    λ rx store. accepts-none c.args.state.now rx store c.args.out.now c.args.h
    c.requires.1 c.requires.0 c.drop_pending-later.result c.drop_pending-later.ensures _ _ _ _
    refl (found-none c.args.state.now c.args.h c.offered.result c.offered.ensures c.in-None.is)
    c.none_offered.ensures.0 c.none_offered.ensures.1 refl
