use Rattle.std.proofs.Common.{arith}
use Rattle.checksum.proofs.ChecksumLaws.{cut_step}
use Rattle.checksum.proofs.sum_parts.Goals as goal

pub loop-part-preserved : goal.loop-part-preserved
loop-part-preserved c =
    let s = c.in-Some.ensures.cases in
    let e = cut_step c.loop-part.rest.now c.in-Some.part.now c.in-Some.more.now 16 s.0 s.1 in
    (omega arith, omega arith)
