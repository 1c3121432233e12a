-- The reader of an exchange, as a reader of bytes that arrive in pieces. Assumes nothing.
use Rattle.std.specs.Prelude.{ℕ, List, Some, None, Ok, Err}
use Rattle.le.specs.Le.{part}
use Rattle.stream.specs.Stream.{Answer as Piece, waiting, message, refused}
use Rattle.exchange.specs.declared.Exchange.{Exchange}
use Rattle.sync.specs.declared.Message.{Message}
use Rattle.sync.specs.Message.{Answer, read_message, error_number}

-- a message with its text
pub record Got : Type 0 where
  pub got : Message
  pub text : List ℕ

unfoldable pub answer_of : List ℕ → Answer → Piece Got
answer_of s (Ok (Some w)) = message (record { got = w.message; text = part s w.at w.length }) w.used
answer_of s (Ok None) = waiting
answer_of s (Err e) = refused (error_number e) 0

unfoldable pub receives : Exchange → List ℕ → Piece Got
receives x s = answer_of s (read_message x s)
