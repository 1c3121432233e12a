-- What a read of the second stat layout said, handed to a write. Assumes nothing.
--     handed-back-v2    the text at its place, the id's word and the numbers, with room enough, give back the bytes used
use mathlib.Core.Path.{◌≡◌, refl}
use mathlib.Core.List.{List}
use Prim.Native.Nat.{ℕ, ◌≤◌}
use native.Mathlib.Omega.{arith}
use lib.ListN.{length}
use Rattle.le.specs.Le.{Bytes}
use Rattle.exchange.specs.declared.StatLayout.TheVariants.{V1, V2}
use Rattle.exchange.specs.declared.Layout.{Layout}
use Rattle.exchange.specs.declared.Layout.TheVariants.{Text, Number, Stat, Entry, End}
use Rattle.exchange.specs.Exchange.{exchange_v2_of, layout_number}
use Rattle.sync.specs.Message.{either_of, fields_of, read_message, read_number}
use Rattle.sync_write.specs.Write.{stat_v2_in}
use Rattle.exchange.proofs.ExchangeLaws.{second-layout}
use Rattle.sync_v2.specs.AnswerV2.{last_in, values_v2_of, said_v2_of, fields_v2_from}
use Rattle.adb_sync.specs.ExportV2.{writes_said_v2, used_written_v2}
use Rattle.adb_sync.proofs.Handed.{handed}

-- fields that were read, made again from their values
fields-again : (k : Layout) (s : List ℕ) → 5 ≤ layout_number k → fields_v2_from k (values_v2_of (fields_of k s)) ≡ fields_of k s
unfolding fields_v2_from stat_v2_in last_in fields_of either_of layout_number
fields-again Text s h = absurd (omega arith)
fields-again Number s h = absurd (omega arith)
fields-again (Stat V1) s h = absurd (omega arith)
fields-again (Entry V1) s h = absurd (omega arith)
fields-again (End V1) s h = absurd (omega arith)
fields-again (Stat V2) s h = refl
fields-again (Entry V2) s h = refl
fields-again (End V2) s h = refl

pub handed-back-v2 : (x : ℕ) (s out answer : List ℕ) → Bytes s → read_number (read_message (exchange_v2_of x) s) ≡ 0 → (said_v2_of (read_message (exchange_v2_of x) s)).used ≤ length out → 8 ≤ length answer
    → writes_said_v2 x (said_v2_of (read_message (exchange_v2_of x) s)) s out answer ≡ used_written_v2 (said_v2_of (read_message (exchange_v2_of x) s)) s out answer
handed-back-v2 x =
    handed values_v2_of fields_v2_from (exchange_v2_of x) (λ w id k s found. fields-again k s (second-layout x w id k found))
