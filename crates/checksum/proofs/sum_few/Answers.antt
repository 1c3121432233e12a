use Rattle.std.proofs.Common.{◌≡◌, sum, arith, rules}
use Rattle.checksum.specs.Checksum.{total}
use Rattle.checksum.proofs.ChecksumLaws.{total_bound}
use Rattle.checksum.proofs.sum_few.Goals as goal

pub returns-clause-bound : goal.returns-clause-bound
unfolding total
returns-clause-bound c =
    let e : c.sum.result ≡ sum c.args.bytes.now = search rules in
    omega (arith, total_bound c.args.bytes.now (λ k. (c.type_inv.bytes k).fits))
