-- What the exported functions of the shell frames leave (docs/ARCHITECTURE.md, "Shell frames"). Assumes nothing.
use Rattle.std.specs.Prelude.{ℕ, List, [], ◌∷◌, Some, None, Ok, Err}
use Rattle.std.specs.Option.{unwrap_or}
use Rattle.shell.specs.Kind.{kind_number}
use Rattle.shell.specs.Frame.{Read, read_frame, read_number}
use Rattle.shell_write.specs.Write.{write_frame, write_refusal}
use Rattle.c_answer.specs.Answer.{Outcome, says, Says, WriteOutcome, writes}
pub use Rattle.c_answer.specs.Answer.{WriteDoes}

-- ---- reading

-- what is said where there is no frame
abbrev pub nothing_said : List ℕ
nothing_said = 0 ∷ 0 ∷ 0 ∷ 0 ∷ 0 ∷ []

-- what is said of received bytes: of a frame the bytes used, its data's place and length, its kind, and an exit's code
unfoldable pub said_of : Read → List ℕ
said_of (Ok None) = nothing_said
said_of (Ok (Some f)) = f.used ∷ f.at ∷ f.length ∷ kind_number f.kind ∷ unwrap_or f.code 0 ∷ []
said_of (Err e) = nothing_said

-- a read's number, the answer's bytes after it, and the five numbers that they say: 8 for an answer under 40 bytes, which is not
-- touched; else what the reader finds
abbrev pub reads_in : List ℕ → List ℕ → Outcome
reads_in received answer = says 5 answer (read_number (read_frame received)) (said_of (read_frame received))

-- what a read promises
abbrev pub ReadDoes : Outcome → ℕ → List ℕ → Type 0
ReadDoes = Says 5

-- ---- writing

-- a write's number, the outgoing bytes and the answer's after it, and the count that these say: 8 for an answer under 8 bytes, and
-- nothing is touched; else what the writer does
abbrev pub writes_in : ℕ → List ℕ → List ℕ → List ℕ → WriteOutcome
writes_in kind payload out answer = writes write_refusal (write_frame kind payload out) out answer
