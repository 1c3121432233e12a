-- The exported conversions. Assumes nothing.
--     four-enough         of a stat of the second layout, narrowing asks the four numbers that it is handed
--     widened-narrowed    what widening says, handed to narrowing, says the first stat again
use mathlib.Core.Path.{◌≡◌, refl}
use mathlib.Core.List.{List, [], ◌∷◌}
use Prim.Native.Nat.{ℕ, ◌^◌, ◌≤◌, ◌<◌}
use lib.ListN.{length}
use borrow.Author.Tests.{le-ltb}
use Rattle.le.specs.Le.{put}
use Rattle.sync.specs.declared.StatV1.{StatV1}
use Rattle.sync.specs.declared.StatV2.{StatV2}
use Rattle.stat_convert.specs.Convert.{narrow_of, widen_of}
use Rattle.stat_convert.proofs.BothWays.{old-wide-old}
use Rattle.sync_write.specs.Write.{numbers_of}
use Rattle.sync_v2.specs.declared.Said.{Said}
use Rattle.adb_sync.specs.declared.Values.{Values}
use Rattle.sync_v2.specs.Said.{said_bytes}
use Rattle.c_answer.specs.Answer.{says}
use Rattle.adb_sync.specs.Export.{values_of, values_in}
use Rattle.adb_sync.specs.ExportV2.{narrow_said, narrows_in, four_of}

pub four-enough : (s : StatV2) → narrow_of (four_of s.error s.mode.0 s.size s.mtime) ≡ narrow_of s
unfolding narrow_of
four-enough s = refl

-- mode, size and time, as a read says a STAT reply's
abbrev pub said_again : StatV1 → Said Values
said_again s = record { used = 0; at = 0; length = 0; word = 0; values = record { a = s.mode.0; b = s.size; c = s.mtime; d = 0 } }

pub widened-narrowed : (s : StatV1) (answer : List ℕ) → s.size < 2 ^ 32 → s.mtime < 2 ^ 32 → 64 ≤ length answer
    → narrows_in (four_of (widen_of s).error (widen_of s).mode.0 (widen_of s).size (widen_of s).mtime) answer
    ≡ record { number = 0; answer = put answer 0 (said_bytes values_in (said_again s)); said = 0 ∷ 0 ∷ 0 ∷ 0 ∷ s.mode.0 ∷ s.size ∷ s.mtime ∷ 0 ∷ [] }
unfolding says said_bytes narrow_said values_of numbers_of
widened-narrowed s answer h k fit =
    rw (le-ltb (length answer) 64 fit, four-enough (widen_of s), old-wide-old s h k)
