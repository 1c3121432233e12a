-- Laws of the readers: their answers case by case, what an accepted record's bytes say, and that an answer does not change by what
-- arrives behind. Assumes nothing.
use Rattle.std.proofs.Common.{Some, None, Ok, Err}
use mathlib.Core.Path.{◌≡◌, refl, sym, ap, subst}
use mathlib.Core.Bool.{false, not}
use mathlib.Core.List.{List, ◌++◌}
use Prim.Native.Nat.{ℕ, ◌+◌, ◌≤◌, ◌<◌}
use native.Mathlib.Omega.{arith}
use lib.Dec.{T, ltb, eqb}
use lib.ListN.{length, length-append}
use borrow.Author.Tests.{ltb-false, lt-ltb, le-ltb, eqb-true, not-false}
use Rattle.le.proofs.Parts.{by-test, part-front}
use Rattle.pcap.specs.declared.Record.{Record}
use Rattle.pcap.specs.declared.ReadError.TheVariants.{InvalidLength}
use Rattle.pcap.specs.Header.{has_other, is_other, read_header}
use Rattle.pcap.specs.Record.{snap_length, time_of, kept_of, original_of, is_refused, Read, record_in, read_record, used_of}

-- ---- what an accepted record's bytes say

pub record Says (limit : ℕ) (s : List ℕ) (r : Record) : Type 0 where
  pub record-is : r ≡ record_in (time_of s) (kept_of s)
  pub same : original_of s ≡ kept_of s
  pub within : kept_of s ≤ limit
  pub small : kept_of s ≤ snap_length
  pub whole : 16 + kept_of s ≤ length s

taken-says : (limit kept original : ℕ) → is_refused limit kept original ≡ false → (original ≡ kept) × (kept ≤ limit) × (kept ≤ snap_length)
unfolding is_refused
taken-says limit kept original e =
    by-test (not (eqb kept original))
    (λ t. let f = rw t at e in absurd (subst T f tt))
    (λ t₁. by-test (ltb limit kept)
    (λ t. let f = rw (t₁, t) at e in absurd (subst T f tt))
    (λ t₂. let f = rw (t₁, t₂) at e in (sym (eqb-true kept original (not-false _ t₁)), ltb-false limit kept t₂, ltb-false snap_length kept f)))

pub says : (limit : ℕ) (s : List ℕ) (r : Record) → read_record limit s ≡ Ok (Some r) → Says limit s r
unfolding read_record
says limit s r e =
    by-test (ltb (length s) 16)
    (λ t. let f = rw t at e in let z : ◌≡◌ {A = ℕ} 0 1 = cc in absurd (omega arith))
    (λ t₁. by-test (is_refused limit (kept_of s) (original_of s))
    (λ t. let f = rw (t₁, t) at e in let z : ◌≡◌ {A = ℕ} 0 1 = cc in absurd (omega arith))
    (λ t₂. by-test (ltb (length s) (16 + kept_of s))
    (λ t. let f = rw (t₁, t₂, t) at e in let z : ◌≡◌ {A = ℕ} 0 1 = cc in absurd (omega arith))
    (λ t₃. let f = rw (t₁, t₂, t₃) at e in
    let y = taken-says limit (kept_of s) (original_of s) t₂ in
    record {
      record-is = cc;
      same = y.0;
      within = y.1;
      small = y.2;
      whole = ltb-false _ _ t₃;
    })))

-- what is used is here
used-of : (limit : ℕ) (s : List ℕ) (r : Read) → read_record limit s ≡ r → used_of r ≤ length s
unfolding used_of
used-of limit s (Ok None) e = omega arith
used-of limit s (Err x) e = omega arith
used-of limit s (Ok (Some r)) e = let a = says limit s r e in let u = ap (λ (x : Record). x.used) a.record-is in omega (arith, a.whole)

pub used-within : (limit : ℕ) (s : List ℕ) → used_of (read_record limit s) ≤ length s
used-within limit s = used-of limit s (read_record limit s) refl

-- ---- a limit

-- a record within a limit is read as at any other limit that it is within
pub same-limit : (a b : ℕ) (s : List ℕ) → kept_of s ≤ a → kept_of s ≤ b → read_record a s ≡ read_record b s
unfolding read_record is_refused
same-limit a b s h g = rw (le-ltb a (kept_of s) h, le-ltb b (kept_of s) g)

-- one over a limit is refused once its header is here
pub over-limit : (limit : ℕ) (s : List ℕ) → 16 ≤ length s → limit < kept_of s → read_record limit s ≡ Err InvalidLength
unfolding read_record is_refused
over-limit limit s h g =
    by-test (not (eqb (kept_of s) (original_of s)))
    (λ t. rw (le-ltb (length s) 16 h, t))
    (λ t. rw (le-ltb (length s) 16 h, t, lt-ltb limit (kept_of s) g))

-- ---- with more behind

module _ (s m : List ℕ) where
  pub time-front : 16 ≤ length s → time_of (s ++ m) ≡ time_of s
  unfolding time_of
  time-front h = rw (part-front s m 0 4 (omega arith), part-front s m 4 4 (omega arith))

  pub kept-front : 16 ≤ length s → kept_of (s ++ m) ≡ kept_of s
  unfolding kept_of
  kept-front h = rw (part-front s m 8 4 (omega arith))

  pub original-front : 16 ≤ length s → original_of (s ++ m) ≡ original_of s
  unfolding original_of
  original-front h = rw (part-front s m 12 4 h)

  other-front : (at word : ℕ) → at + 4 ≤ length s → has_other (s ++ m) at word ≡ has_other s at word
  unfolding has_other
  other-front at word h = rw (part-front s m at 4 h)

  header-front : 24 ≤ length s → is_other (s ++ m) ≡ is_other s
  unfolding is_other
  header-front h =
      rw (
        other-front 0 0xa1b2_c3d4 (omega arith),
        other-front 4 0x0004_0002 (omega arith),
        other-front 8 0 (omega arith),
        other-front 12 0 (omega arith),
        other-front 16 snap_length (omega arith),
        other-front 20 147 (omega arith),
      )

  -- once 24 bytes are here, the answer stays
  pub header-stays : 24 ≤ length s → read_header (s ++ m) ≡ read_header s
  unfolding read_header
  header-stays h =
      let la = length-append s m in
      rw (le-ltb (length (s ++ m)) 24 (omega arith), le-ltb (length s) 24 h, header-front h)
