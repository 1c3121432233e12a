-- What is taken is held. Assumes nothing.
use Rattle.std.proofs.Common.{◌≡◌, List, ℕ, ◌+◌, ◌≤◌, length, arith, Some, Ok}
use Rattle.capture.specs.Capture.{next_frame, next_record}
use Rattle.capture.proofs.FrameLaws.{record-here}
use Rattle.capture.proofs.FramePieces.{frame-says}
use Rattle.convert.specs.Convert.{hold}

-- a frame is here
pub frame_here : (s : List ℕ) (n : ℕ) → next_frame hold s ≡ Ok (Some n) → 0 + n ≤ length s
frame_here s n e = omega (arith, (frame-says hold s n e).here)

-- a record's header and its frame are here
pub record_here : (s : List ℕ) (n : ℕ) → next_record hold s ≡ Ok (Some n) → 16 + n ≤ length s
record_here s n e = record-here hold s n e
