use mathlib.Core.Path.{sym, subst}
use Rattle.std.specs.Prelude.{ℕ, ◌<◌, Option, IfSome}
use Rattle.table_dispatch.proofs.DispatchLaws.{slot-here}
use Rattle.call_peek.specs.Parts.{fault_at}
use Rattle.call_peek.proofs.fault_at.Goals as goal

pub returns-in-Some : goal.returns-in-Some
unfolding fault_at
returns-in-Some c =
    let near = subst (λ (x : Option ℕ). IfSome x (λ i. i < 64)) c.in-Some.is c.requires.place-fits in
    rw (c.in-Some.is, slot-here c.args.state.now c.in-Some.i near, sym c.slot_at.ensures) c.fault_of.ensures
