use Rattle.std.proofs.Common.{◌≡◌, ◌+◌, ◌*◌, ◌≤◌, length}
use Rattle.checksum.specs.Checksum.{total}
use Rattle.checksum.proofs.sum_blocks.Given as goal

abbrev pub invariant-loop-block : goal.invariant-loop-block
invariant-loop-block g l = (l.sum + total l.rest ≡ total l.bytes) × (l.sum + 255 * length l.rest ≤ 255 * length l.bytes)

abbrev pub decreases-loop-block : goal.decreases-loop-block
decreases-loop-block g l = length l.rest
