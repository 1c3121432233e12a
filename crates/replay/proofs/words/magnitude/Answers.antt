use mathlib.Core.Path.{◌∙◌}
use Prim.Native.Nat.{◌+◌}
use native.Mathlib.Omega.{arith}
use lib.ListN.{drop, get_or}
use Rattle.replay.specs.Words.{grown}
use Rattle.replay.proofs.WordsLaws.{spelled-held, spelled_step, spelled-end}
use Rattle.replay.proofs.words.magnitude.Goals as goal

pub loop-b-preserved : goal.loop-b-preserved
loop-b-preserved c =
    let s = c.args.s.now in
    let l = c.loop-b in
    let g = c.grow-n.ensures in (
      omega arith,
      omega arith,
      rw g (spelled-held (grown l.n (get_or s l.b-index 0)) 0xffff_ffff_ffff_ffff (drop (l.b-index + 1) s) ∙ rw
          (← spelled_step s l.b-index l.n (omega arith)) l.invariant.2),
    )

pub returns : goal.returns
returns c =
    let l = c.loop-b in
    let e = spelled-end c.args.s.now l.b-index l.n (omega arith) in
    let i = rw e at l.invariant.2 in
    omega arith
