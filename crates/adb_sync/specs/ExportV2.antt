-- What the exported functions of the second stat layout leave (docs/ARCHITECTURE.md, "Sync messages"). Assumes nothing.
use Rattle.std.specs.Prelude.{ℕ, List, ℤ, pos, Ok, Err}
use Rattle.sync.specs.declared.StatV1.{StatV1}
use Rattle.sync.specs.declared.StatV2.{StatV2}
use Rattle.sync.specs.declared.Stat.TheVariants.{V1 as First}
use Rattle.sync.specs.declared.Fields.TheVariants.{Stat as StatFields}
use Rattle.exchange.specs.Exchange.{exchange_v2_of}
use Rattle.sync.specs.Message.{read_message, read_number}
use Rattle.stat_convert.specs.Convert.{Narrowed, narrow_of, narrow_number, widen_of}
use Rattle.sync_v2.specs.declared.Said.{Said}
use Rattle.sync_v2.specs.declared.ValuesV2.{ValuesV2}
use Rattle.sync_v2.specs.Said.{alone}
use Rattle.sync_v2.specs.AnswerV2.{said_v2_of, stat_said, numbers_v2, fields_v2_from}
use Rattle.adb_sync.specs.declared.Values.{Values}
use Rattle.c_answer.specs.Answer.{Outcome, says, Says, WriteOutcome}
use Rattle.adb_sync.specs.Export.{values_of, numbers_in, writes}
use Rattle.adb_sync.specs.Handed.{hands, used_written}

-- ---- reading and writing

-- an answer of the second stat layout: 8 under 128 bytes, which are not touched; else a number and what is said
abbrev pub says_v2 : List ℕ → ℕ → Said ValuesV2 → Outcome
says_v2 answer number s = says 16 answer number (numbers_v2 s)

-- what the reader finds
abbrev pub reads_v2_in : ℕ → List ℕ → List ℕ → Outcome
reads_v2_in exchange received answer =
    says_v2 answer (read_number (read_message (exchange_v2_of exchange) received)) (said_v2_of (read_message (exchange_v2_of exchange) received))

-- what such a call promises, of sixteen numbers
abbrev pub ReadV2Does : Outcome → ℕ → List ℕ → Type 0
ReadV2Does = Says 16

-- 8 for an answer under 8 bytes, and nothing is touched; else what the writer does
abbrev pub writes_v2_in : ℕ → ℕ → StatV2 → ℕ → List ℕ → List ℕ → List ℕ → WriteOutcome
writes_v2_in exchange word s last = writes fields_v2_from (exchange_v2_of exchange) word (record { stat = s; last = last })

-- ---- between the layouts

-- a stat of the first layout, widened
abbrev pub widens_in : StatV1 → List ℕ → Outcome
widens_in s answer = says_v2 answer 0 (stat_said (widen_of s))

-- what is said of one that was narrowed: its values, as of a STAT reply
unfoldable pub narrow_said : Narrowed → Said Values
narrow_said (Ok s) = alone (values_of (StatFields (First s)))
narrow_said (Err e) = alone (record { a = 0; b = 0; c = 0; d = 0 })

-- 8 for an answer under 64 bytes, which is not touched; else the number of narrowing, and what is said
abbrev pub narrows_in : StatV2 → List ℕ → Outcome
narrows_in s answer = says 8 answer (narrow_number (narrow_of s)) (numbers_in (narrow_said (narrow_of s)))

-- the numbers that decide it, and 0 for the others
abbrev pub four_of : ℕ → ℕ → ℕ → ℤ → StatV2
four_of error mode size mtime =
    record {
      error = error;
      dev = 0;
      ino = 0;
      mode = record { 0 = mode };
      nlink = 0;
      uid = 0;
      gid = 0;
      size = size;
      atime = pos 0;
      mtime = mtime;
      ctime = pos 0;
    }

-- ---- what a read said, handed to a write

-- a write of what was said, with the text where it stands in the received bytes
abbrev pub writes_said_v2 : ℕ → Said ValuesV2 → List ℕ → List ℕ → List ℕ → WriteOutcome
writes_said_v2 exchange = hands fields_v2_from (exchange_v2_of exchange)

-- the bytes used, at the start of out, and their count
abbrev pub used_written_v2 : Said ValuesV2 → List ℕ → List ℕ → List ℕ → WriteOutcome
used_written_v2 = used_written
