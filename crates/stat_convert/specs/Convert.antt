-- Conversion between the two stat layouts (docs/SCOPE.md, 13). Assumes nothing.
use Rattle.std.specs.Prelude.{ℕ, Bool, true, cond, ltb, ℤ, pos, negsuc, nat_abs, Result, Ok, Err}
use Rattle.sync.specs.declared.FileMode.{FileMode}
use Rattle.sync.specs.declared.StatV1.{StatV1}
use Rattle.sync.specs.declared.StatV2.{StatV2}
use Rattle.stat_convert.specs.declared.NarrowError.{NarrowError}
use Rattle.stat_convert.specs.declared.NarrowError.TheVariants.{OutOfRange, Failed}
use Rattle.refusal.specs.Refusal.{number_of}

-- what narrowing answers: a stat of the first layout, or a refusal
abbrev pub Narrowed : Type 0
Narrowed = Result StatV1 NarrowError

-- a time that is negative, or 2^32 or more
unfoldable pub is_far : ℤ → Bool
is_far (negsuc n) = true
is_far (pos n) = ltb 0xffff_ffff n

-- 16 for such a time of the contents; else mode, size and that time
unfoldable pub narrow_at : FileMode → ℕ → ℤ → Narrowed
narrow_at mode size z = cond (is_far z) (Err OutOfRange) (Ok (record { mode = mode; size = size; mtime = nat_abs z }))

-- 17 for an error, then 16 for a size of 2^32 or more, then what the time gives
unfoldable pub narrow_of : StatV2 → Narrowed
narrow_of s = cond (ltb 0 s.error) (Err Failed) (cond (ltb 0xffff_ffff s.size) (Err OutOfRange) (narrow_at s.mode s.size s.mtime))

-- the number of a refusal
unfoldable pub error_number : NarrowError → ℕ
error_number OutOfRange = 16
error_number Failed = 17

-- the number of that answer: a refusal's own, 0 for a stat
abbrev pub narrow_number : Narrowed → ℕ
narrow_number = number_of error_number

-- what the first layout has not is 0
unfoldable pub widen_of : StatV1 → StatV2
widen_of s =
    record {
      error = 0;
      dev = 0;
      ino = 0;
      mode = s.mode;
      nlink = 0;
      uid = 0;
      gid = 0;
      size = s.size;
      atime = pos 0;
      mtime = pos s.mtime;
      ctime = pos 0;
    }
