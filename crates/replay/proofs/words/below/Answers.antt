use mathlib.Core.Path.{ap, ◌∙◌}
use lib.IntN.{pos}
use mir.Syntax.{w64}
use mir.Facts.{to_z-of_z}
use borrow.Author.Rules.{rules}
use Rattle.saturate.specs.Saturate.{clamp}
use Rattle.saturate.proofs.Laws.{is-clamp, zero-sub}
use Rattle.replay.proofs.words.below.Goals as goal

pub returns : goal.returns
returns c =
    let r = c.saturating_sub_unsigned in
    rw (to_z-of_z {w = w64} {z = r.result} (search rules)) (r.ensures ∙ is-clamp _ ∙ ap clamp (zero-sub (pos c.args.n)))
