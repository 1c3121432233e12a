use Rattle.std.proofs.Common.{sym, ◌∙◌, arith}
use Rattle.le.specs.Rows.{flat}
use Rattle.le.proofs.Parts.{put-none}
use Rattle.le.proofs.RowLaws.{put_one_more}
use Rattle.le.proofs.put_all.Goals as goal

pub loop-x-init : goal.loop-x-init
unfolding flat
loop-x-init g c = record { place = omega arith; so_far = sym (put-none c.args.s.now c.args.at) }

pub loop-x-preserved : goal.loop-x-preserved
loop-x-preserved g c =
    let word = g.T.Word in
    let before = c.loop-x.invariant in
    record {
      place = grind arith;
      so_far = rw (before.so_far, before.place) at c.put_at.ensures
          ∙ put_one_more word.LEN word.bytes g.met.T.Word.laws.width_of c.args.s.now c.args.at c.loop-x.x-index c.args.xs.now c.x-item.result
          c.loop-x-test.true c.requires c.x-item.is;
    }
