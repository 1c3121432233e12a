use Rattle.std.proofs.Common.{arith}
use Rattle.checksum.specs.declared.TheConstants.{RUN}
use Rattle.checksum.proofs.ChecksumLaws.{cut_step}
use Rattle.checksum.proofs.payload_checksum.Goals as goal

pub loop-run-preserved : goal.loop-run-preserved
loop-run-preserved c =
    let s = c.in-Some.ensures.cases in
    let e = cut_step c.loop-run.rest.now c.in-Some.run'.now c.in-Some.more.now RUN s.0 s.1 in
    omega arith
