use Rattle.std.proofs.Common.{rules}
use mir.Syntax.{w64}
use mir.Val.{SFits}
use mir.Facts.{to_z-of_z}
use Rattle.sync_write.proofs.WriteLaws.{put_eleven}
use Rattle.sync_write.proofs.put_stat_v2.Goals as goal

pub returns : goal.returns
returns c =
    let a : SFits w64 c.args.stat.atime = search rules in
    let b : SFits w64 c.args.stat.mtime = search rules in
    let d : SFits w64 c.args.stat.ctime = search rules in
    cc (put_eleven c.args.out.now c.args.stat c.requires, to_z-of_z a, to_z-of_z b, to_z-of_z d)
