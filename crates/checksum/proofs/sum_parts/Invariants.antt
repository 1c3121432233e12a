use Rattle.std.proofs.Common.{◌≡◌, ◌+◌, ◌*◌, ◌≤◌, length}
use Rattle.checksum.specs.Checksum.{total}
use Rattle.checksum.proofs.sum_parts.Given as goal

abbrev pub invariant-loop-part : goal.invariant-loop-part
invariant-loop-part l = (l.sum + total l.rest ≡ total l.bytes) × (l.sum + 255 * length l.rest ≤ 255 * length l.bytes)

abbrev pub decreases-loop-part : goal.decreases-loop-part
decreases-loop-part l = length l.rest
