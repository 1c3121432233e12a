-- Both ways between the stat layouts. Assumes nothing.
--     old-wide-old   a stat of the first layout, widened, narrows to itself
--     kept           where narrowing is not refused, there was no error, and mode, size and the time of the contents are kept
--     error-first    an error is refused by 17, whatever the size and the time
--     out_of_range   without one, 16 is given for a size of 2^32 or more, and for a time that is negative or that large
use mathlib.Core.Path.{◌≡◌, refl, subst}
use mathlib.Core.Bool.{true, false}
use mathlib.Core.Logic.{◌⊎◌, inl, inr}
use Prim.Native.Nat.{ℕ, ◌≤◌, ◌<◌, ◌^◌}
use native.Mathlib.Omega.{arith}
use lib.Dec.{T, ltb}
use lib.IntN.{ℤ, pos, negsuc, nat_abs}
use borrow.Author.Tests.{ltb-false, lt-ltb, le-ltb}
use Rattle.le.proofs.Parts.{by-test}
use Rattle.sync.specs.declared.FileMode.{FileMode}
use Rattle.sync.specs.declared.StatV1.{StatV1}
use Rattle.sync.specs.declared.StatV2.{StatV2}
use Rattle.stat_convert.specs.declared.NarrowError.TheVariants.{OutOfRange, Failed}
use Rattle.std.specs.Prelude.{Ok, Err}
use Rattle.stat_convert.specs.Convert.{narrow_at, narrow_of, widen_of, is_far}

pub old-wide-old : (s : StatV1) → s.size < 2 ^ 32 → s.mtime < 2 ^ 32 → narrow_of (widen_of s) ≡ Ok s
unfolding narrow_of widen_of narrow_at is_far
old-wide-old s h k = rw (le-ltb 0xffff_ffff s.size (omega arith), le-ltb 0xffff_ffff s.mtime (omega arith))

pub record Kept (w : StatV2) (s : StatV1) : Type 0 where
  pub no-error : w.error ≡ 0
  pub mode-kept : s.mode ≡ w.mode
  pub size-kept : s.size ≡ w.size
  pub time-kept : pos s.mtime ≡ w.mtime

near : (z : ℤ) → is_far z ≡ false → pos (nat_abs z) ≡ z
unfolding is_far
near (pos n) e = refl
near (negsuc n) e = absurd (subst T e tt)

at-kept : (mode : FileMode) (size : ℕ) (z : ℤ) (s : StatV1) → narrow_at mode size z ≡ Ok s → (s.mode ≡ mode) × ((s.size ≡ size) × (pos s.mtime ≡ z))
unfolding narrow_at
at-kept mode size z s e =
    by-test (is_far z)
    (λ t. let f = rw t at e in cc)
    (λ t. let f = rw t at e in let g = near z t in (cc, (cc, cc)))

pub kept : (w : StatV2) (s : StatV1) → narrow_of w ≡ Ok s → Kept w s
unfolding narrow_of
kept w s e =
    by-test (ltb 0 w.error)
    (λ t. let f = rw t at e in cc)
    (λ t₁. by-test (ltb 0xffff_ffff w.size)
    (λ t. let f = rw (t₁, t) at e in cc)
    (λ t₂. let k = at-kept w.mode w.size w.mtime s (rw (t₁, t₂) at e) in
    record { no-error = omega (arith, ltb-false 0 w.error t₁); mode-kept = k.0; size-kept = k.1.0; time-kept = k.1.1 }))

pub error-first : (w : StatV2) → 0 < w.error → narrow_of w ≡ Err Failed
unfolding narrow_of
error-first w h = rw (lt-ltb 0 w.error h)

pub out_of_range : (w : StatV2) → w.error ≡ 0 → (2 ^ 32 ≤ w.size) ⊎ (is_far w.mtime ≡ true) → narrow_of w ≡ Err OutOfRange
unfolding narrow_of narrow_at
out_of_range w e (inl h) = rw (le-ltb 0 w.error (omega arith), lt-ltb 0xffff_ffff w.size (omega arith))
out_of_range w e (inr f) =
    by-test (ltb 0xffff_ffff w.size)
    (λ t. rw (le-ltb 0 w.error (omega arith), t))
    (λ t. rw (le-ltb 0 w.error (omega arith), t, f))
