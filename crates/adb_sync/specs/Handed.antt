-- What a read said, handed to a write (proofs/Handed.antt). Assumes nothing.
use Rattle.std.specs.Prelude.{ℕ, List, [], ◌∷◌, take}
use Rattle.le.specs.Le.{bytes_of, part, put}
use Rattle.exchange.specs.declared.Layout.{Layout}
use Rattle.exchange.specs.declared.Exchange.{Exchange}
use Rattle.exchange.specs.Exchange.{exchange_of}
use Rattle.sync.specs.declared.Fields.{Fields}
use Rattle.sync_v2.specs.declared.Said.{Said}
use Rattle.adb_sync.specs.declared.Values.{Values}
use Rattle.c_answer.specs.Answer.{WriteOutcome}
use Rattle.adb_sync.specs.Export.{fields_from, writes}

module _ {V : Type 0} where
  -- a write of what was said, with the text where it stands in the received bytes
  abbrev pub hands : (Layout → V → Fields) → Exchange → Said V → List ℕ → List ℕ → List ℕ → WriteOutcome
  hands to_fields x said received out answer =
      writes to_fields x said.word said.values (part received said.at said.length) out answer

  -- the bytes used, at the start of out, and their count
  abbrev pub used_written : Said V → List ℕ → List ℕ → List ℕ → WriteOutcome
  used_written said received out answer =
      record {
        number = 0;
        out = put out 0 (take said.used received);
        answer = put answer 0 (bytes_of 8 said.used);
        said = said.used ∷ [];
      }

-- of four values
abbrev pub writes_said : ℕ → Said Values → List ℕ → List ℕ → List ℕ → WriteOutcome
writes_said exchange = hands fields_from (exchange_of exchange)
