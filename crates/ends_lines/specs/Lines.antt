-- A line of bytes between two ends (docs/SCOPE.md, 16). Assumes nothing.
use Rattle.std.specs.Prelude.{ℕ, List, length}
use Rattle.connection.specs.Frames.{Sent}
use Rattle.history.specs.Seen.{sent_in}

-- the frames that bytes begin with, one behind the other, as decoding at the limit 1,048,576 reads them
unfoldable pub frames_on : List ℕ → List Sent
frames_on l = sent_in (length l) l
