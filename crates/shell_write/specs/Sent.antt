-- Frames that were written, as what a reader is to find. Assumes nothing.
use Rattle.std.specs.Prelude.{ℕ, ◌≡◌, List, Ok}
use Rattle.shell.specs.Kind.{code_of}
use Rattle.shell.specs.Pieces.{Frame}
use Rattle.shell_write.specs.Write.{frame_bytes, write_frame}

-- the bytes of a frame with its data
unfoldable pub bytes_for : Frame → List ℕ
bytes_for g = frame_bytes g.kind g.payload

-- a frame that the writer wrote, into some buffer, with the code that its data has
pub record Sent (g : Frame) : Type 0 where
  pub code_is : g.code ≡ code_of g.kind g.payload
  pub buffer : List ℕ
  pub count : ℕ
  pub was-written : (write_frame g.kind g.payload buffer).result ≡ Ok count
