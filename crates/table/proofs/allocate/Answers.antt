use Rattle.std.proofs.Common.{refl}
use Rattle.state.specs.State.{state_of}
use Rattle.table.proofs.Laws.{allocates, allocates-none, below-some, below-none}
use Rattle.table.proofs.allocate.Goals as goal

pub returns-in-Some : goal.returns-in-Some
returns-in-Some c =
    let z = below-some _ _ _ c.place_below.ensures _ c.in-Some.is in
    allocates c.args.h (state_of c.args.state.now).slots _ z.0 z.1

pub returns-in-None : goal.returns-in-None
returns-in-None c = allocates-none c.args.h (state_of c.args.state.now).slots _ refl (below-none _ _ _ c.place_below.ensures c.in-None.is)
