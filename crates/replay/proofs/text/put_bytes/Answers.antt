use mathlib.Core.Path.{refl}
use native.Mathlib.Omega.{arith}
use Rattle.replay.specs.Text.{hex_of}
use Rattle.replay.proofs.TextLaws.{puts-nil, puts-puts, hex-step}
use Rattle.replay.proofs.text.put_bytes.Goals as goal

pub loop-b-init : goal.loop-b-init
unfolding hex_of
loop-b-init c = (omega arith, refl, puts-nil c.args.line.now c.args.at)

pub loop-b-preserved : goal.loop-b-preserved
loop-b-preserved c =
    let a = c.args in
    let l = c.loop-b in (
      omega arith,
      omega arith,
      rw (hex-step a.s.now l.b-index (omega arith))
          (puts-puts a.line.now a.at _ l.line l.end _ _ _ l.invariant.2 c.put_byte-end.ensures),
    )
