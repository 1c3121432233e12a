use mir.Facts.{to_z-of_z}
use Rattle.replay.proofs.TextLaws.{signed-plain, signed-minus, puts-puts}
use Rattle.replay.proofs.text.put_signed.Goals as goal

pub returns-then-z-lt0 : goal.returns-then-z-lt0
returns-then-z-lt0 c =
    let a = c.args in
    let s = rw (to_z-of_z c.ranges.z) at c.if-z-lt0.true in
    let p = rw (c.unsigned_abs.ensures.value, to_z-of_z c.ranges.z) at c.put_number.ensures in
    rw (signed-minus a.z s) (puts-puts a.line.now a.at _ _ _ _ _ _ c.put-end.ensures p)

pub returns-else-z-lt0 : goal.returns-else-z-lt0
returns-else-z-lt0 c =
    let s = rw (to_z-of_z c.ranges.z) at c.if-z-lt0.false in
    let p = rw (c.unsigned_abs-else-z-lt0.ensures.value, to_z-of_z c.ranges.z) at c.put_number-else-z-lt0.ensures in
    rw (signed-plain c.args.z s) p
