-- What is said to C of a message, and the message that C's numbers make, over the numbers that C sees (docs/ARCHITECTURE.md, "Sync
-- messages"). Assumes nothing.
use Rattle.std.specs.Prelude.{ℕ, List, ◌∷◌, Option, Some, None, Ok, Err}
use Rattle.le.specs.Le.{bytes_of}
use Rattle.le.specs.Rows.{flat}
use Rattle.exchange.specs.declared.Layout.{Layout}
use Rattle.exchange.specs.declared.Exchange.{Exchange}
use Rattle.exchange.specs.Exchange.{Row, word_of}
use Rattle.sync.specs.declared.Fields.{Fields}
use Rattle.sync.specs.declared.Fields.TheVariants.{Text}
use Rattle.sync.specs.Message.{Answer}
use Rattle.refusal.specs.declared.WriteError.TheVariants.{Refused}
use Rattle.sync.specs.declared.ReadError.TheVariants.{InvalidId}
use Rattle.sync_write.specs.Write.{Composed, write_message}
use Rattle.sync_v2.specs.declared.Said.{Said}

module _ {V : Type 0} where
  -- numbers alone
  abbrev pub alone : V → Said V
  alone v = record { used = 0; at = 0; length = 0; word = 0; values = v }

  -- what is said of received bytes: of a message the bytes used, its text's place and length, its id's word and its numbers; where there
  -- is none, the numbers of a text, which are 0
  unfoldable pub said_of : (Fields → V) → Answer → Said V
  said_of of_fields (Ok (Some w)) =
      record { used = w.used; at = w.at; length = w.length; word = word_of w.message.id; values = of_fields w.message.fields }
  said_of of_fields (Ok None) = alone (of_fields Text)
  said_of of_fields (Err e) = alone (of_fields Text)

  -- the answer's numbers
  abbrev pub numbers_of : (V → List ℕ) → Said V → List ℕ
  numbers_of in_order s = s.used ∷ s.at ∷ s.length ∷ s.word ∷ in_order s.values

  -- its bytes
  unfoldable pub said_bytes : (V → List ℕ) → Said V → List ℕ
  said_bytes in_order s = flat (bytes_of 8) (numbers_of in_order s)

  -- a message under an id that was found, or 14
  unfoldable pub write_found : (Layout → V → Fields) → Exchange → V → List ℕ → List ℕ → Option Row → Composed
  write_found to_fields x v text out (Some (id, k)) = write_message x (record { id = id; fields = to_fields k v }) text out
  write_found to_fields x v text out None = record { result = Err (Refused InvalidId); out = out }
