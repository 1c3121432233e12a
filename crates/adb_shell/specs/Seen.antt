-- What a caller of the exported functions sees (proofs/Seen.antt). Assumes nothing.
use Rattle.std.specs.Prelude.{ℕ, cond, List, [], ◌∷◌, eqb, get_or, take}
use Rattle.le.specs.Le.{bytes_of, part, put}
use Rattle.stream.specs.Stream.{Answer, waiting, message, refused}
use Rattle.shell.specs.Pieces.{Frame}
use Rattle.c_answer.specs.Answer.{Outcome, WriteOutcome}
use Rattle.adb_shell.specs.Export.{reads_in, writes_in}

-- a frame, from an answer's numbers and the bytes that were lent: those that it uses come first, then place, length, kind, code
unfoldable pub frame_in : List ℕ → List ℕ → Answer Frame
frame_in said s =
    message (record { kind = get_or said 3 0; payload = part s (get_or said 1 0) (get_or said 2 0); code = get_or said 4 0 }) (get_or said 0 0)

-- what a read's number, and the numbers that its answer says, come to: 100 waiting, 0 a frame, else a refusal
unfoldable pub seen_in : Outcome → List ℕ → Answer Frame
seen_in o s = cond (eqb o.number 100) waiting (cond (eqb o.number 0) (frame_in o.said s) (refused o.number (get_or o.said 0 0)))

-- a read of bytes s, with whatever answer is lent for it
unfoldable pub seen : (List ℕ → List ℕ) → List ℕ → Answer Frame
seen lent s = seen_in (reads_in s (lent s)) s

-- a write of what a read said, with the data where it stands in the received bytes
abbrev pub writes_said : List ℕ → List ℕ → List ℕ → List ℕ → WriteOutcome
writes_said said received out answer = writes_in (get_or said 3 0) (part received (get_or said 1 0) (get_or said 2 0)) out answer

-- the bytes used, at the start of out, and their count
abbrev pub used_written : List ℕ → List ℕ → List ℕ → List ℕ → WriteOutcome
used_written said received out answer =
    record {
      number = 0;
      out = put out 0 (take (get_or said 0 0) received);
      answer = put answer 0 (bytes_of 8 (get_or said 0 0));
      said = get_or said 0 0 ∷ [];
    }
