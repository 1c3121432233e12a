use mathlib.Core.List.{[]}
use mathlib.Core.Path.{refl}
use Rattle.call_reject.proofs.OfferLaws.{offer-room, found-offer, found-entry, found-none, rejects, rejects-none}
use Rattle.call_reject.proofs.reject_step.Goals as goal

pub offered-requires : goal.offered-requires
offered-requires c = offer-room c.args.state.now [] [] c.args.out.now c.args.h c.requires.1 _ c.requires.0

pub returns-in-Some : goal.returns-in-Some
returns-in-Some c =
    λ rx store. rejects c.args.state.now rx store c.args.out.now c.args.h
    c.requires.1 _ c.requires.0 _ _ _ _ refl _ c.drop_pending-later.result
    (found-offer c.args.state.now c.args.h c.offered.result c.offered.ensures _ c.in-Some.is)
    (found-entry c.args.state.now c.args.h c.offered.result c.offered.ensures _ c.in-Some.is)
    c.drop_pending-later.ensures c.reject_on.ensures

pub returns-in-None : goal.returns-in-None
returns-in-None c =
    λ rx store. rejects-none c.args.state.now rx store c.args.out.now c.args.h
    c.requires.1 _ c.requires.0 _ _ _ _ refl c.drop_pending-later.result
    (found-none c.args.state.now c.args.h c.offered.result c.offered.ensures c.in-None.is)
    c.drop_pending-later.ensures c.none_offered.ensures.0 c.none_offered.ensures.1 refl
