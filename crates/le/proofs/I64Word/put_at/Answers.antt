use mathlib.Core.Path.{refl}
use mir.Syntax.{w64}
use mir.Facts.{to_z-of_z}
use Rattle.le.proofs.Laws.{is-unsigned}
use Rattle.le.proofs.I64Word.put_at.Goals as goal

pub returns : goal.returns
returns c = rw (c.cast_unsigned.ensures, to_z-of_z c.ranges.self, is-unsigned w64 c.args.self refl) at c.put_at.ensures
