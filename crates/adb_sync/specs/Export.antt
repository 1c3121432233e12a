-- What the exported functions of the sync messages leave (docs/ARCHITECTURE.md, "Sync messages"). Assumes nothing.
use Rattle.std.specs.Prelude.{ℕ, List, [], ◌∷◌, get_or}
use Rattle.c_answer.specs.Answer.{Outcome, says, Says, WriteOutcome, writes as writes_by}
use Rattle.exchange.specs.declared.StatLayout.TheVariants.{V1, V2}
use Rattle.exchange.specs.declared.Layout.{Layout}
use Rattle.exchange.specs.declared.Layout.TheVariants.{Text, Number, Stat, Entry, End}
use Rattle.exchange.specs.declared.Exchange.{Exchange}
use Rattle.sync.specs.declared.StatV1.{StatV1}
use Rattle.sync.specs.declared.Stat.TheVariants.{V1 as First}
use Rattle.sync.specs.declared.Fields.{Fields}
use Rattle.sync.specs.declared.Fields.TheVariants.{Text as TextFields, Number as NumberFields, Stat as StatFields, Entry as EntryFields, End as EndFields}
use Rattle.exchange.specs.Exchange.{found_of, exchange_of}
use Rattle.sync.specs.Message.{Answer, read_message, read_number}
use Rattle.sync_write.specs.Write.{numbers_of, error_number}
use Rattle.sync_v2.specs.declared.Said.{Said}
use Rattle.sync_v2.specs.Said.{said_of as said_by, numbers_of as numbers_by, write_found}
use Rattle.adb_sync.specs.declared.Values.{Values}

-- ---- reading

-- the numbers of a message, filled up to four with 0
unfoldable pub values_of : Fields → Values
values_of f = record { a = get_or (numbers_of f) 0 0; b = get_or (numbers_of f) 1 0; c = get_or (numbers_of f) 2 0; d = get_or (numbers_of f) 3 0 }

-- what is said of received bytes: of a message the bytes used, its text's place and length, its id's word and its numbers
abbrev pub said_of : Answer → Said Values
said_of = said_by values_of

-- four values in a row
abbrev pub values_in : Values → List ℕ
values_in v = v.a ∷ v.b ∷ v.c ∷ v.d ∷ []

-- the answer's eight numbers
abbrev pub numbers_in : Said Values → List ℕ
numbers_in = numbers_by values_in

-- a read's number, the answer's bytes after it, and the numbers that they say: 8 for an answer under 64 bytes, which is not touched;
-- else what the reader finds
abbrev pub reads_in : ℕ → List ℕ → List ℕ → Outcome
reads_in exchange received answer =
    says 8 answer (read_number (read_message (exchange_of exchange) received)) (numbers_in (said_of (read_message (exchange_of exchange) received)))

-- what a read promises, of eight numbers
abbrev pub ReadDoes : Outcome → ℕ → List ℕ → Type 0
ReadDoes = Says 8

-- ---- writing

-- mode, size and time of the values
unfoldable pub stat_from : Values → StatV1
stat_from v = record { mode = record { 0 = v.a }; size = v.b; mtime = v.c }

-- the fields of a layout, of the values that it has; four make none of the second stat layout
unfoldable pub fields_from : Layout → Values → Fields
fields_from Text v = TextFields
fields_from Number v = NumberFields v.a
fields_from (Stat V1) v = StatFields (First (stat_from v))
fields_from (Entry V1) v = EntryFields (First (stat_from v))
fields_from (End V1) v = EndFields (First (stat_from v)) v.d
fields_from (Stat V2) v = TextFields
fields_from (Entry V2) v = TextFields
fields_from (End V2) v = TextFields

-- a write's number, the outgoing bytes and the answer's after it, and the count that these say: 8 for an answer under 8 bytes, and
-- nothing is touched; else what the writer does
abbrev pub writes : {V : Type 0} → (Layout → V → Fields) → Exchange → ℕ → V → List ℕ → List ℕ → List ℕ → WriteOutcome
writes to_fields x word v text out answer = writes_by error_number (write_found to_fields x v text out (found_of x word)) out answer

-- of four values
abbrev pub writes_in : ℕ → ℕ → Values → List ℕ → List ℕ → List ℕ → WriteOutcome
writes_in exchange = writes fields_from (exchange_of exchange)
