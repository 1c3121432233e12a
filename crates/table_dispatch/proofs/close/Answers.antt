use Rattle.state.proofs.ChangeLaws.{steps-by}
use Rattle.table.proofs.Laws.{below-fits}
use Rattle.table_dispatch.proofs.DispatchLaws.{close-remote, close-local}
use Rattle.state.specs.State.{state_of}
use native.Mathlib.Omega.{arith}
use Rattle.table_dispatch.proofs.close.Goals as goal

pub close_at-requires : goal.close_at-requires
close_at-requires c = (c.requires.state-fits, below-fits _ _ _ c.remote_place-place.ensures 64 c.requires.channels-fit)

pub close_at-requires-2 : goal.close_at-requires-2
close_at-requires-2 c = (c.requires.state-fits, below-fits _ _ _ c.place_below-place.ensures 64 c.requires.channels-fit)

pub returns-then-ids-eq0 : goal.returns-then-ids-eq0
returns-then-ids-eq0 c =
    steps-by _ _ _ _ _ (close-remote c.args.n (state_of c.args.state.now).slots c.args.ids.remote c.args.ids.local
    c.remote_place-place.result (omega arith) c.remote_place-place.ensures) c.close_at.ensures

pub returns : goal.returns
returns c =
    steps-by _ _ _ _ _ (close-local c.args.n (state_of c.args.state.now).slots c.args.ids.remote c.args.ids.local
    c.place_below-place.result (λ e. omega arith) c.place_below-place.ensures) c.close_at-2.ensures
