-- Frames that were written one behind the other are read as they were, in whatever pieces their bytes arrive. Assumes nothing.
use mathlib.Core.Path.{◌≡◌}
use mathlib.Core.List.{List, []}
use Prim.Native.Nat.{ℕ}
use Rattle.stream.specs.Stream.{more, joined, begun, feed_all, Every, written, ReadsBack}
use Rattle.stream.proofs.Cut.{arrives, every}
use Rattle.shell.specs.Frame.{used_of}
use Rattle.shell.proofs.ReadLaws.{known, code-number}
use Rattle.shell.specs.Pieces.{Frame, answer_of, receives}
use Rattle.shell.proofs.Pieces.{stable}
use Rattle.shell_write.specs.Sent.{bytes_for, Sent}
use Rattle.shell_write.proofs.WriteLaws.{length-frame}
use Rattle.shell_write.proofs.RoundTrip.{written-says, not-refused, payload-here}

-- a frame that was written is read back, whatever is behind it
pub reads-back : (g : Frame) → Sent g → ReadsBack receives bytes_for g
unfolding receives answer_of used_of bytes_for
reads-back g s rest =
    let w = written-says g.kind g.payload s.buffer s.count s.was-written in
    let k = known g.kind w.known in
    rw (
      not-refused g.kind g.payload rest k.kind k.from_is w.full w.long,
      payload-here g.kind g.payload rest,
      length-frame g.kind g.payload,
      code-number k.kind g.payload,
      k.number_is,
      ← s.code_is,
    )

pub sent-arrives : (gs : List Frame) (cs : List (List ℕ)) → Every Sent gs → joined cs ≡ written bytes_for gs
    → feed_all receives begun cs ≡ record { messages = gs; ending = more; rest = [] }
sent-arrives gs cs e j = arrives receives stable bytes_for gs cs (every reads-back gs e) j
