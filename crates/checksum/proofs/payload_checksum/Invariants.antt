use Rattle.std.proofs.Common.{◌≡◌, ◌+◌, ◌%◌, ◌^◌, length}
use Rattle.checksum.specs.Checksum.{total, sum_of}
use Rattle.checksum.proofs.payload_checksum.Given as goal

abbrev pub invariant-loop-run : goal.invariant-loop-run
invariant-loop-run l = (l.sum + total l.rest) % 2 ^ 32 ≡ sum_of l.payload

abbrev pub decreases-loop-run : goal.decreases-loop-run
decreases-loop-run l = length l.rest
