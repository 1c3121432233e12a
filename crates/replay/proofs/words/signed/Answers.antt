use mathlib.Core.Path.{sym, ◌∙◌}
use mir.Facts.{to_z-of_z}
use mir.Syntax.{w64}
use Rattle.replay.proofs.WordsLaws.{signed_below, signed_above}
use Rattle.saturate.proofs.Laws.{held_fits}
use Rattle.replay.proofs.words.signed.Goals as goal

pub returns-then-is_negative : goal.returns-then-is_negative
returns-then-is_negative c =
    rw c.below.ensures (to_z-of_z {w = w64} (record { sfits = held_fits _ }) ∙ signed_below c.args.s.now _
    (sym c.is_negative.ensures ∙ c.if-is_negative.true) c.magnitude-n.ensures)

pub returns-else-is_negative : goal.returns-else-is_negative
returns-else-is_negative c =
    rw c.above.ensures (to_z-of_z {w = w64} (record { sfits = held_fits _ }) ∙ signed_above c.args.s.now _
    (sym c.is_negative.ensures ∙ c.if-is_negative.false) c.magnitude-n.ensures)
