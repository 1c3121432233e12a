use Rattle.std.proofs.Common.{◌-◌, length, subst, rules, arith}
use Rattle.std.specs.Io.KnownBytes.{Consumes}
use Rattle.std.proofs.KnownBytes.{Consumes-trans}
use Rattle.intake.proofs.Laws.{read-on}
use Rattle.intake.proofs.read_full.Goals as goal

pub loop-done-preserved : goal.loop-done-preserved
loop-done-preserved g c =
    let l = c.loop-done in
    let n = c.in_ok-came.came in
    let on = read-on l.buf c.read.new.buf l.done (length l.buf - l.done) n (omega arith) (search rules) in
    (search rules, search rules, subst (Consumes _ _) on (Consumes-trans _ _ _ _ _ l.invariant.2 (search rules)))
