use Rattle.std.proofs.Common.{rules, refl}
use mir.Syntax.{w64}
use mir.Val.{SFits}
use mir.Facts.{to_z-of_z}
use Rattle.le.proofs.Laws.{is-unsigned}
use Rattle.sync_v2.proofs.ValuesV2Numbers16.numbers_of.Goals as goal

pub returns : goal.returns
returns c =
    let stat = c.args.said.values.stat in
    let a : SFits w64 stat.atime = search rules in
    let m : SFits w64 stat.mtime = search rules in
    let s : SFits w64 stat.ctime = search rules in
    cc (to_z-of_z a, to_z-of_z m, to_z-of_z s, is-unsigned w64 stat.atime refl, is-unsigned w64 stat.mtime refl, is-unsigned w64 stat.ctime refl)
