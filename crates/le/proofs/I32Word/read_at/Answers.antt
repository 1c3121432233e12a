use mathlib.Core.Path.{◌∙◌, ap, refl}
use mir.Syntax.{w32}
use mir.Facts.{to_z-of_z}
use Rattle.le.specs.Le.{signed}
use Rattle.le.proofs.Laws.{is-signed, signed-small}
use Rattle.le.proofs.I32Word.read_at.Goals as goal

pub returns : goal.returns
returns c =
    let s = c.cast_signed.ensures ∙ is-signed w32 c.read_at.result refl in
    rw s (to_z-of_z {w = w32} (record { sfits = signed-small 31 _ c.read_at.type_inv }) ∙ ap (signed 31) c.read_at.ensures)
