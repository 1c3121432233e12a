-- What a caller of the exported functions sees. Assumes nothing.
--     seen-pieces    however the bytes are cut, the frames that reads say and the unfinished rest, or the refusal, are the same
--     seen-arrives   frames that were written one behind the other, however cut, are read as they were
--     handed-back    what a read said, handed to a write with room enough, gives back the bytes used
use mathlib.Core.Path.{◌≡◌, refl, ◌∙◌}
use mathlib.Core.List.{List, []}
use Prim.Native.Nat.{ℕ, ◌≤◌}
use native.Mathlib.Omega.{arith}
use lib.ListN.{length, get_or}
use borrow.Author.Tests.{le-ltb}
use Rattle.le.specs.Le.{Bytes}
use Rattle.stream.specs.Stream.{more, joined, begun, feed_all, Stable, Every, written}
use Rattle.stream.proofs.Cut.{every, stable-as, same-cut, arrives}
use Rattle.std.proofs.Common.{Some, None, Ok, Err}
use Rattle.shell.specs.declared.ReadError.TheVariants.{InvalidKind, EmptyExit}
use Rattle.shell.specs.Frame.{Read, read_frame, read_number, used_of}
use Rattle.shell.specs.Pieces.{Frame, answer_of, receives}
use Rattle.shell_write.specs.Sent.{bytes_for, Sent}
use Rattle.shell.proofs.Pieces.{stable}
use Rattle.shell_write.proofs.RoundTrip.{read-write}
use Rattle.shell_write.proofs.Arrives.{reads-back}
use Rattle.c_answer.specs.Answer.{says, counted, writes}
use Rattle.adb_shell.specs.Export.{said_of}
use Rattle.adb_shell.specs.Seen.{frame_in, seen_in, seen, writes_said, used_written}

-- ---- reading

seen_by : (lent : List ℕ → List ℕ) (s : List ℕ) (r : Read) → 40 ≤ length (lent s) → read_frame s ≡ r → seen lent s ≡ answer_of s r
unfolding seen seen_in says frame_in said_of answer_of used_of
seen_by lent s (Ok None) h e = rw (le-ltb (length (lent s)) 40 h, e)
seen_by lent s (Err InvalidKind) h e = rw (le-ltb (length (lent s)) 40 h, e)
seen_by lent s (Err EmptyExit) h e = rw (le-ltb (length (lent s)) 40 h, e)
seen_by lent s (Ok (Some f)) h e = rw (le-ltb (length (lent s)) 40 h, e)

module _ (lent : List ℕ → List ℕ) (long : (s : List ℕ) → 40 ≤ length (lent s)) where
  pub seen-is : (s : List ℕ) → seen lent s ≡ receives s
  unfolding receives
  seen-is s = seen_by lent s (read_frame s) (long s) refl

  pub seen-stable : Stable (seen lent)
  seen-stable = stable-as receives (seen lent) seen-is stable

  pub seen-pieces : (cs ds : List (List ℕ)) → joined cs ≡ joined ds → feed_all (seen lent) begun cs ≡ feed_all (seen lent) begun ds
  seen-pieces cs ds e = same-cut (seen lent) seen-stable cs ds e

  pub seen-arrives : (gs : List Frame) (cs : List (List ℕ)) → Every Sent gs → joined cs ≡ written bytes_for gs
      → feed_all (seen lent) begun cs ≡ record { messages = gs; ending = more; rest = [] }
  seen-arrives gs cs e j = arrives (seen lent) seen-stable bytes_for gs cs (every (λ g s rest. seen-is _ ∙ reads-back g s rest) gs e) j

-- ---- reading, then writing

handed : (s out answer : List ℕ) (r : Read) → Bytes s → read_frame s ≡ r → read_number r ≡ 0 → get_or (said_of r) 0 0 ≤ length out → 8 ≤ length answer
    → writes_said (said_of r) s out answer ≡ used_written (said_of r) s out answer
unfolding said_of writes counted
handed s out answer (Ok None) h e z room fit = absurd (omega arith)
handed s out answer (Err InvalidKind) h e z room fit = absurd (omega arith)
handed s out answer (Err EmptyExit) h e z room fit = absurd (omega arith)
handed s out answer (Ok (Some f)) h e z room fit =
    rw (le-ltb (length answer) 8 fit, read-write s f out h e room)

pub handed-back : (s out answer : List ℕ) → Bytes s → read_number (read_frame s) ≡ 0 → get_or (said_of (read_frame s)) 0 0 ≤ length out → 8 ≤ length answer
    → writes_said (said_of (read_frame s)) s out answer ≡ used_written (said_of (read_frame s)) s out answer
handed-back s out answer h z room fit = handed s out answer (read_frame s) h refl z room fit
