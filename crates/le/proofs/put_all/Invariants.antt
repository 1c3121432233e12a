use Rattle.std.proofs.Common.{◌≡◌, ◌+◌, ◌*◌, take}
use Rattle.le.specs.Le.{put}
use Rattle.le.specs.Rows.{flat}
use Rattle.le.proofs.put_all.Given as goal

abbrev pub invariant-loop-x : goal.invariant-loop-x
invariant-loop-x g l =
    let word = g.T.Word in
    record {
      place : l.end ≡ l.at + l.x-index * word.LEN;
      so_far : l.s ≡ put l.fn.s l.at (flat word.bytes (take l.x-index l.xs));
    }
