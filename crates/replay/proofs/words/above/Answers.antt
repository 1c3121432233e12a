use mathlib.Core.Path.{ap, ◌∙◌}
use lib.IntN.{pos, +ℤ_idl}
use mir.Syntax.{w64}
use mir.Facts.{to_z-of_z}
use borrow.Author.Rules.{rules}
use Rattle.saturate.specs.Saturate.{clamp}
use Rattle.saturate.proofs.Laws.{is-clamp}
use Rattle.replay.proofs.words.above.Goals as goal

pub returns : goal.returns
returns c =
    let r = c.saturating_add_unsigned in
    rw (to_z-of_z {w = w64} {z = r.result} (search rules)) (r.ensures ∙ is-clamp _ ∙ ap clamp (+ℤ_idl (pos c.args.n)))
