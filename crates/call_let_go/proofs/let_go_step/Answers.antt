use mathlib.Core.Path.{refl}
use mathlib.Core.List.{[]}
use Rattle.connection.specs.declared.Answer.TheVariants.{Done}
use native.Mathlib.Omega.{arith}
use Rattle.call_reject.proofs.OfferLaws.{offer-room, found-offer, found-entry, found-none}
use Rattle.call_let_go.proofs.BackLaws.{back-room, goes_back, goes_none}
use Rattle.call_let_go.proofs.let_go_step.Goals as goal

pub offered-requires : goal.offered-requires
offered-requires c = offer-room c.args.state.now [] [] [] c.args.h c.requires.1 _ c.requires.0

pub push_front-more-requires : goal.push_front-more-requires
push_front-more-requires c =
    back-room c.args.state.now [] [] c.args.h c.requires.1 c.requires.0
    (record { answer = Done; used = 0; written = 0 }) [] _ refl c.drop_pending-later.result
    c.drop_pending-later.ensures (found-offer c.args.state.now c.args.h c.offered.result c.offered.ensures _ c.in-Some.is)

pub ends-requires : goal.ends-requires
ends-requires c = omega (arith, c.requires.0.state-fits)

pub returns-in-Some : goal.returns-in-Some
returns-in-Some c =
    λ rx store. goes_back c.args.state.now rx store c.args.h c.requires.1 c.requires.0 _
    _ _ refl c.drop_pending-later.result c.drop_pending-later.ensures
    _ c.push_front-more.result _ (found-offer c.args.state.now c.args.h c.offered.result c.offered.ensures _ c.in-Some.is)
    (found-entry c.args.state.now c.args.h c.offered.result c.offered.ensures _ c.in-Some.is)
    c.push_front-more.ensures c.ends.ensures.0 c.ends.ensures.1

pub returns-in-None : goal.returns-in-None
returns-in-None c =
    λ rx store. goes_none c.args.state.now rx store c.args.h c.requires.1 c.requires.0 _
    _ _ refl c.drop_pending-later.result c.drop_pending-later.ensures
    (found-none c.args.state.now c.args.h c.offered.result c.offered.ensures c.in-None.is)
    c.none_offered.ensures.0 c.none_offered.ensures.1
