-- The numbers that C sees of a message of the second stat layout, and the fields that they make (docs/ARCHITECTURE.md, "Sync
-- messages"). Assumes nothing.
use Rattle.std.specs.Prelude.{ℕ, List, [], ◌∷◌}
use Rattle.le.specs.Le.{unsigned}
use Rattle.exchange.specs.declared.StatLayout.TheVariants.{V1, V2}
use Rattle.exchange.specs.declared.Layout.{Layout}
use Rattle.exchange.specs.declared.Layout.TheVariants.{Text, Number, Stat, Entry, End}
use Rattle.sync.specs.declared.StatV2.{StatV2}
use Rattle.sync.specs.declared.Stat.TheVariants.{V1 as First, V2 as Second}
use Rattle.sync.specs.declared.Fields.{Fields}
use Rattle.sync.specs.declared.Fields.TheVariants.{Text as TextFields, Number as NumberFields, Stat as StatFields, Entry as EntryFields, End as EndFields}
use Rattle.sync.specs.Message.{Answer}
use Rattle.sync_write.specs.Write.{stat_v2_in}
use Rattle.sync_v2.specs.declared.Said.{Said}
use Rattle.sync_v2.specs.declared.ValuesV2.{ValuesV2}
use Rattle.sync_v2.specs.Said.{alone, said_of, numbers_of, said_bytes}

-- ---- reading

-- the number where an entry has the length of its name, of a listing's end
unfoldable pub last_in : Fields → ℕ
last_in TextFields = 0
last_in (NumberFields a) = 0
last_in (StatFields s) = 0
last_in (EntryFields s) = 0
last_in (EndFields (First s) a) = 0
last_in (EndFields (Second s) a) = a

-- a message's stat and that number
abbrev pub values_v2_of : Fields → ValuesV2
values_v2_of f = record { stat = stat_v2_in f; last = last_in f }

-- a stat alone
abbrev pub stat_said : StatV2 → Said ValuesV2
stat_said s = alone (record { stat = s; last = 0 })

-- what is said of received bytes
abbrev pub said_v2_of : Answer → Said ValuesV2
said_v2_of = said_of values_v2_of

-- the stat in the order of its bytes, times as the 64 bits that stand for them, and the number behind it
abbrev pub values_v2_in : ValuesV2 → List ℕ
values_v2_in v =
    v.stat.error ∷ v.stat.dev ∷ v.stat.ino ∷ v.stat.mode.0 ∷ v.stat.nlink ∷ v.stat.uid ∷ v.stat.gid ∷ v.stat.size
    ∷ unsigned 63 v.stat.atime ∷ unsigned 63 v.stat.mtime ∷ unsigned 63 v.stat.ctime ∷ v.last ∷ []

-- all sixteen numbers of an answer, and its 128 bytes
abbrev pub numbers_v2 : Said ValuesV2 → List ℕ
numbers_v2 = numbers_of values_v2_in

abbrev pub said_v2_bytes : Said ValuesV2 → List ℕ
said_v2_bytes = said_bytes values_v2_in

-- ---- writing

-- the fields of a layout; a stat of the second layout makes none of the others'
unfoldable pub fields_v2_from : Layout → ValuesV2 → Fields
fields_v2_from Text v = TextFields
fields_v2_from Number v = TextFields
fields_v2_from (Stat V1) v = TextFields
fields_v2_from (Entry V1) v = TextFields
fields_v2_from (End V1) v = TextFields
fields_v2_from (Stat V2) v = StatFields (Second v.stat)
fields_v2_from (Entry V2) v = EntryFields (Second v.stat)
fields_v2_from (End V2) v = EndFields (Second v.stat) v.last
