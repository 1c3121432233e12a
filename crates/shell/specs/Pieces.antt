-- The reader of shell frames, as a reader of bytes that arrive in pieces. Assumes nothing.
use Rattle.std.specs.Prelude.{ℕ, List, Some, None, Ok, Err}
use Rattle.std.specs.Option.{unwrap_or}
use Rattle.le.specs.Le.{part}
use Rattle.stream.specs.Stream.{Answer, waiting, message, refused}
use Rattle.shell.specs.Kind.{kind_number}
use Rattle.shell.specs.Frame.{Read, read_frame, read_number, used_of}

-- a frame: its kind's number, its data (payload), and an exit's code
pub record Frame : Type 0 where
  pub kind : ℕ
  pub payload : List ℕ
  pub code : ℕ

unfoldable pub answer_of : List ℕ → Read → Answer Frame
answer_of s (Ok None) = waiting
answer_of s (Err e) = refused (read_number (Err e)) (used_of (Err e))
answer_of s (Ok (Some f)) = message (record { kind = kind_number f.kind; payload = part s f.at f.length; code = unwrap_or f.code 0 }) (used_of (Ok (Some f)))

unfoldable pub receives : List ℕ → Answer Frame
receives s = answer_of s (read_frame s)
