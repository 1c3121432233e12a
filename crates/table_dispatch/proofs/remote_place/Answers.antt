use Rattle.table_dispatch.proofs.DispatchLaws.{named-none, named-live, named-closed}
use Rattle.state.specs.State.{state_of}
use mathlib.Core.Path.{sym, ◌∙◌}
use native.Mathlib.Omega.{arith}
use Rattle.table_dispatch.proofs.remote_place.Goals as goal

pub returns-then-remote-eq0 : goal.returns-then-remote-eq0
returns-then-remote-eq0 c = named-none c.args.n (state_of c.args.state.now).slots c.args.remote (omega arith)

pub returns-then-is_some : goal.returns-then-is_some
returns-then-is_some c =
    named-live c.args.n (state_of c.args.state.now).slots c.args.remote _ (λ e. omega arith)
    c.place_below-live.ensures (sym c.is_some.ensures ∙ c.if-is_some.true)

pub returns : goal.returns
returns c =
    named-closed c.args.n (state_of c.args.state.now).slots c.args.remote _ (λ e. omega arith)
    c.place_below-live.ensures _ (sym c.is_some.ensures ∙ c.if-is_some.false) c.place_below.ensures
