use Rattle.std.specs.Prelude.{◌≡◌, length}
use Rattle.intake.specs.Intake.{Within}
use Rattle.convert.proofs.convert.Given as goal

abbrev pub invariant-loop : goal.invariant-loop
invariant-loop g l = (length l.buf ≡ length l.initial.buf) × Within l.held.at l.held.end l.buf
