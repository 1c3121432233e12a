use mathlib.Core.Path.{sym, subst}
use Rattle.std.specs.Prelude.{ℕ, ◌<◌, Option, IfSome}
use Rattle.table_dispatch.proofs.DispatchLaws.{slot-here}
use Rattle.call_peek.specs.Promise.{channel_or_open}
use Rattle.call_peek.proofs.channel_or_open.Goals as goal

pub returns-in-Some : goal.returns-in-Some
unfolding channel_or_open
returns-in-Some c =
    let near = subst (λ (x : Option ℕ). IfSome x (λ i. i < 64)) c.in-Some.is c.requires.1 in
    rw (c.in-Some.is, slot-here c.args.state.now c.in-Some.slot near, sym c.slot_at.ensures)
