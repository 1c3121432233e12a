use Rattle.state.proofs.ChangeLaws.{steps-by}
use Rattle.table.proofs.Laws.{below-some, below-none}
use Rattle.table_dispatch.proofs.DispatchLaws.{steps-left, grant-here, grant-none}
use mathlib.Core.Path.{refl}
use native.Mathlib.Omega.{arith}
use Rattle.table_dispatch.proofs.ready.Goals as goal

pub ready_at-requires : goal.ready_at-requires
ready_at-requires c =
    let z = below-some _ _ _ c.place_below.ensures _ c.in-Some.is in
    record { state-fits = c.requires.state-fits; channels-fit = omega arith }

pub returns-in-Some : goal.returns-in-Some
returns-in-Some c =
    let z = below-some _ _ _ c.place_below.ensures _ c.in-Some.is in
    steps-by _ _ _ _ _ (grant-here c.args.ids.remote c.args.ids.local c.args.policy c.args.n c.args.state.now
    c.args.payload.now c.in-Some.i z.0 z.1 (omega arith))
    c.ready_at.ensures

pub returns-in-None : goal.returns-in-None
returns-in-None c =
    steps-left _ _ _ (grant-none c.args.ids.remote c.args.ids.local c.args.policy c.args.n c.args.state.now
    c.args.payload.now _ refl c.stray.result (below-none _ _ _ c.place_below.ensures c.in-None.is)
    c.stray.ensures)
