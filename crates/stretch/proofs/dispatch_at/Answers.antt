use mathlib.Core.Path.{refl}
use Rattle.stretch.specs.Stretch.{world_of}
use Rattle.stretch.proofs.TurnLaws.{turn-leaves, turn-rest}
use Rattle.stretch.proofs.dispatch_at.Goals as goal

pub returns : goal.returns
returns c =
    turn-rest (world_of c.args.state.now c.args.rx.now c.args.store.now) c.args.received.now c.args.at _ _ _ _
    (turn-leaves _ _ _ _ _ c.dispatch-reply.result _ _ _ _ _ refl c.dispatch-reply.ensures c.number.ensures)
