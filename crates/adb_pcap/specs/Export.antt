-- What the exported functions of captures leave (docs/ARCHITECTURE.md, "Captures"). Assumes nothing.
use Rattle.std.specs.Prelude.{ℕ, ◌≡◌, List, [], ◌∷◌, Some, None, Ok, Err}
use Rattle.le.specs.Le.{part}
use Rattle.c_answer.specs.Answer.{Outcome, says, Says}
use Rattle.pcap.specs.Record.{snap_length, Read, read_record, read_number, Composed, write_record, written_number}

-- what a write promises: the number of what the writer answers, and every byte of out
pub record WriteDoes (o : Composed) (r : ℕ) (out : List ℕ) : Type 0 where
  pub number_is : r ≡ written_number o.result
  pub out-is : out ≡ o.out

-- what is said of received bytes
pub record Said : Type 0 where
  pub used : ℕ
  pub length : ℕ
  pub seconds : ℕ
  pub micros : ℕ

-- what is said where there is no record
abbrev pub nothing_said : Said
nothing_said = record { used = 0; length = 0; seconds = 0; micros = 0 }

-- of a record the bytes used, its frame's length, its time
unfoldable pub said_of : Read → Said
said_of (Ok None) = nothing_said
said_of (Ok (Some r)) = record { used = r.used; length = r.length; seconds = r.time.seconds; micros = r.time.micros }
said_of (Err e) = nothing_said

-- the answer's four numbers
abbrev pub numbers_in : Said → List ℕ
numbers_in s = s.used ∷ s.length ∷ s.seconds ∷ s.micros ∷ []

-- a read's number, the answer's bytes after it, and the four numbers that they say: 8 for an answer under 32 bytes, which is not
-- touched; else what the reader finds, with frames up to the snap length
abbrev pub reads_in : List ℕ → List ℕ → Outcome
reads_in received answer =
    says 4 answer (read_number (read_record snap_length received)) (numbers_in (said_of (read_record snap_length received)))

-- what a read promises
abbrev pub ReadDoes : Outcome → ℕ → List ℕ → Type 0
ReadDoes = Says 4

-- a write of what a read said, with the frame where it stands in the received bytes (proofs/Handed.antt)
abbrev pub writes_said : Said → List ℕ → List ℕ → Composed
writes_said s received out = write_record (record { seconds = s.seconds; micros = s.micros }) (part received 16 s.length) out
