-- Messages that were written, as what a reader of the exchange is to find. Assumes nothing.
use Rattle.std.specs.Prelude.{ℕ, ◌≡◌, List, Ok}
use Rattle.exchange.specs.declared.Exchange.{Exchange}
use Rattle.sync.specs.Pieces.{Got}
use Rattle.sync_write.specs.Write.{Fits, message_bytes, write_message}

-- the bytes of a message with its text
unfoldable pub bytes_for : Got → List ℕ
bytes_for g = message_bytes g.got g.text

-- a message whose numbers have their bits and that the writer wrote, into some buffer
pub record Sent (x : Exchange) (g : Got) : Type 0 where
  pub fits : Fits g.got.fields
  pub buffer : List ℕ
  pub count : ℕ
  pub was-written : (write_message x g.got g.text buffer).result ≡ Ok count
