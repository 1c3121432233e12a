use Rattle.std.proofs.Common.{sym, ◌∙◌, eqb-true, arith, rules}
use Rattle.std.proofs.Output.{has_written_append}
use Rattle.std.proofs.lemmas.Grind.{common_steps}
use lib.Seq.{take_all}
use borrow.Author.Tests.{eqb-false}
use Rattle.replay.specs.Text.{hex_of}
use Rattle.replay.proofs.TextLaws.{hex-none, hex-some, hex-step}
use Rattle.replay.proofs.text.HexDisplay.fmt.Goals as goal

pub returns-then-is_empty-clause-writes : goal.returns-then-is_empty-clause-writes
returns-then-is_empty-clause-writes g c = λ plain ok.
    rw (hex-none c.args.self.now.0.now (eqb-true _ _ (sym c.is_empty.ensures ∙ c.if-is_empty.true))) (c.write_str.ensures.writes plain ok)

pub loop-b-init : goal.loop-b-init
unfolding hex_of
loop-b-init g c = grind (arith, common_steps)

pub loop-b-preserved : goal.loop-b-preserved
loop-b-preserved g c = λ plain.
    rw (hex-step c.args.self.now.0.now c.loop-b.b-index (omega arith))
    (has_written_append _ _ _ _ _ _ (c.loop-b.invariant plain) (search rules))

pub returns-clause-writes : goal.returns-clause-writes
returns-clause-writes g c = λ plain _.
    let s = c.args.self.now.0.now in
    let all = take_all c.loop-b.b-index s (omega arith) in
    rw (hex-some s (eqb-false _ _ (sym c.is_empty.ensures ∙ c.if-is_empty.false))) (rw all at c.loop-b.invariant plain)
