-- Messages that were written one behind the other are read as they were, in whatever pieces their bytes arrive. Assumes nothing.
use mathlib.Core.Path.{◌≡◌}
use mathlib.Core.List.{List, []}
use Prim.Native.Nat.{ℕ}
use Rattle.stream.specs.Stream.{more, joined, begun, feed_all, Every, written, ReadsBack}
use Rattle.stream.proofs.Cut.{arrives, every}
use Rattle.exchange.specs.declared.Exchange.{Exchange}
use Rattle.sync.specs.Message.{used_of}
use Rattle.sync.specs.Pieces.{Got, answer_of, receives}
use Rattle.sync.proofs.Pieces.{stable}
use Rattle.sync_write.specs.Sent.{bytes_for, Sent}
use Rattle.sync_write.proofs.RoundTrip.{written-says, not-refused, text-here, message-length}

-- a message that was written is read back, whatever is behind it
reads-back : (x : Exchange) (g : Got) → Sent x g → ReadsBack (receives x) bytes_for g
unfolding receives answer_of used_of bytes_for
reads-back x g s rest =
    let w = written-says x g.got g.text s.buffer s.count s.was-written in
    rw (
      not-refused g.got g.text rest x s.fits w.found w.small w.long,
      text-here g.got g.text rest,
      message-length g.got g.text,
    )

pub sent-arrives : (x : Exchange) (gs : List Got) (cs : List (List ℕ)) → Every (Sent x) gs → joined cs ≡ written bytes_for gs
    → feed_all (receives x) begun cs ≡ record { messages = gs; ending = more; rest = [] }
sent-arrives x gs cs e j = arrives (receives x) (stable x) bytes_for gs cs (every (reads-back x) gs e) j
