use mathlib.Core.Path.{◌∙◌, ap, refl}
use mir.Syntax.{w64}
use mir.Facts.{to_z-of_z}
use Rattle.le.specs.Le.{signed}
use Rattle.le.proofs.Laws.{is-signed, signed-small}
use Rattle.le.proofs.I64Word.read_at.Goals as goal

pub returns : goal.returns
returns c =
    let s = c.cast_signed.ensures ∙ is-signed w64 c.read_at.result refl in
    rw s (to_z-of_z {w = w64} (record { sfits = signed-small 63 _ c.read_at.type_inv }) ∙ ap (signed 63) c.read_at.ensures)
