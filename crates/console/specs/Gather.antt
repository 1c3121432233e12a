-- The data of a session's frames of one kind (docs/SCOPE.md, 11). Assumes nothing.
use Rattle.std.specs.Prelude.{ℕ, ◌+◌, ◌-◌, ◌≤◌, ◌≡◌, cond, List, [], ◌∷◌, ◌++◌, eqb, Option, Some, None, length, drop}
use Rattle.le.specs.Le.{put}
use Rattle.stream.specs.Stream.{End, more, stopped, Reading, read_all}
use Rattle.shell.specs.declared.ReadError.{ReadError}
use Rattle.shell.specs.declared.ReadError.TheVariants.{InvalidKind, EmptyExit}
use Rattle.shell.specs.Frame.{refusal_number}
use Rattle.shell.specs.Pieces.{Frame, receives}
use Rattle.console.specs.declared.Gathered.{Gathered}

-- a frame's data where its kind is the wanted one
unfoldable pub kept : ℕ → ℕ → List ℕ → List ℕ
kept wanted kind payload = cond (eqb kind wanted) payload []

-- the data of all frames of a kind, one behind the other
unfoldable pub of_kind : ℕ → List Frame → List ℕ
of_kind wanted [] = []
of_kind wanted (f ∷ fs) = kept wanted f.kind f.payload ++ of_kind wanted fs

-- why reading ended: 100 for want of bytes, or a refusal's number
unfoldable pub end_number : End → ℕ
end_number more = 100
end_number (stopped n) = n

-- the same as the reader's refusal, none for want of bytes; its refusals have the numbers 18 and 19
unfoldable pub refusal_of : End → Option ReadError
refusal_of more = None
refusal_of (stopped n) = Some (cond (eqb n 18) InvalidKind EmptyExit)

-- and its number again
abbrev pub refusal_as_number : Option ReadError → ℕ
refusal_as_number None = 100
refusal_as_number (Some e) = refusal_number e

-- what the frames that are all there come to: the bytes that they use, the bytes gathered, and why there are no more
unfoldable pub gathered_of : ℕ → ℕ → Reading Frame → Gathered
gathered_of wanted n q = record { used = n - length q.rest; length = length (of_kind wanted q.messages); refusal = refusal_of q.ending }

unfoldable pub gathered : ℕ → List ℕ → Gathered
gathered wanted s = gathered_of wanted (length s) (read_all receives s)

-- what gathering promises: the definition's answer, every byte of out, that what is behind the bytes used is the unfinished rest,
-- and that no more is gathered than is used
pub record Gathers (wanted : ℕ) (s out : List ℕ) (r : Gathered) (out' : List ℕ) : Type 0 where
  pub result-is : r ≡ gathered wanted s
  pub out-is : out' ≡ put out 0 (of_kind wanted (read_all receives s).messages)
  pub rest-is : drop r.used s ≡ (read_all receives s).rest
  pub within : r.used ≤ length s
  pub short : r.length ≤ r.used

-- ---- inside

-- bytes put at a place, and the place behind them
pub record Keeps (bytes : List ℕ) (end : ℕ) (out : List ℕ) (r : ℕ) (out' : List ℕ) : Type 0 where
  pub end_is : r ≡ end + length bytes
  pub out-is : out' ≡ put out end bytes
