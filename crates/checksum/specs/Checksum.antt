-- The check of a payload (protocol.txt, "protocol overview and basics": data_crc32; it is a sum, see
-- docs/DIFFERENCES.md). Assumes nothing.
use Rattle.std.specs.Prelude.{ℕ, ◌%◌, ◌^◌, cond, List, sum, nat_le}
use Rattle.checksum.specs.declared.Checksum.{Checksum}
use Rattle.checksum.specs.declared.Checksum.TheVariants.{Compute, Skip}

-- the sum of some bytes
unfoldable pub total : List ℕ → ℕ
total l = sum l

-- the sum of the payload's bytes modulo 2^32
unfoldable pub sum_of : List ℕ → ℕ
sum_of payload = total payload % 2 ^ 32

-- from version 0x01000001 on the check is left out
unfoldable pub policy_for : ℕ → Checksum
policy_for version = cond (nat_le 0x0100_0001 version) Skip Compute

-- the check that a frame is sent with
unfoldable pub check_for : Checksum → List ℕ → ℕ
check_for Compute payload = sum_of payload
check_for Skip payload = 0
