-- Laws of the reader: what a number says of a kind, what a frame's bytes say, and that what is used is here. Assumes nothing.
use Rattle.std.proofs.Common.{◌≡◌, refl, sym, ap, ◌∙◌, true, false, List, ◌++◌, ℕ, ◌+◌, ◌≤◌, length, arith, Some, None, Result, Ok, Err}
use Rattle.std.specs.Option.{unwrap_or}
use Rattle.std.proofs.lemmas.Option.{unwrap_or-slice_get}
use lib.Dec.{ltb, eqb}
use lib.ListN.{get_or-append}
use borrow.Author.Tests.{ltb-true, ltb-false, eqb-true, eqb-false, ne_eqb}
use Rattle.le.proofs.Parts.{by-test, part-front}
use Rattle.stream.specs.Here.{ReadHere}
use Rattle.shell.specs.declared.Kind.{Kind}
use Rattle.shell.specs.declared.Kind.TheVariants.{Input, Output, Errors, Exit, CloseInput, WindowSize}
use Rattle.shell.specs.declared.UnknownKind.{UnknownKind}
use Rattle.shell.specs.declared.Frame.{Frame}
use Rattle.shell.specs.Kind.{kind_number, kind_from, is_unknown, is_empty_exit, exit_code, code_of}
use Rattle.shell.specs.Frame.{Read, kind_of, length_of, payload_of, frame_in, headed_of, kinded, read_frame, DataHere, used_of}

-- ---- kinds and their numbers

-- a number is a kind's, or of none
pub by-kind : {P : Type 0} (r : Result Kind UnknownKind) → ((kind : Kind) → r ≡ Ok kind → P) → ((e : UnknownKind) → r ≡ Err e → P) → P
by-kind (Ok kind) f g = f kind refl
by-kind (Err e) f g = g e refl

pub from_number : (kind : Kind) → kind_from (kind_number kind) ≡ Ok kind
unfolding kind_from
from_number Input = refl
from_number Output = refl
from_number Errors = refl
from_number Exit = refl
from_number CloseInput = refl
from_number WindowSize = refl

-- a number that is a kind's, and that kind
pub record Known (n : ℕ) : Type 0 where
  pub kind : Kind
  pub from_is : kind_from n ≡ Ok kind
  pub number_is : kind_number kind ≡ n

is-kind : (n k : ℕ) (kind : Kind) → eqb n k ≡ true → kind_number kind ≡ k → Known n
is-kind n k kind t e =
    let f : k ≡ n = sym (eqb-true n k t) in
    record { kind = kind; from_is = ap kind_from (sym (e ∙ f)) ∙ from_number kind; number_is = e ∙ f }

pub known : (n : ℕ) → is_unknown n ≡ false → Known n
unfolding is_unknown
known n e =
    by-test (eqb n 0) (λ t. is-kind n 0 Input t refl)
    (λ t₀. by-test (eqb n 1) (λ t. is-kind n 1 Output t refl)
    (λ t₁. by-test (eqb n 2) (λ t. is-kind n 2 Errors t refl)
    (λ t₂. by-test (eqb n 3) (λ t. is-kind n 3 Exit t refl)
    (λ t₃. by-test (eqb n 4) (λ t. is-kind n 4 CloseInput t refl)
    (λ t₄. by-test (eqb n 5) (λ t. is-kind n 5 WindowSize t refl)
    (λ t₅. let h = ltb-false 5 n e in absurd (omega (arith, eqb-false n 0 t₀, eqb-false n 1 t₁, eqb-false n 2 t₂, eqb-false n 3 t₃, eqb-false n 4 t₄, eqb-false n 5 t₅))))))))

pub unknown : (n : ℕ) → is_unknown n ≡ true → kind_from n ≡ Err (record { 0 = n })
unfolding is_unknown kind_from
unknown n e =
    let h = ltb-true 5 n e in
    rw (ne_eqb n 0 (omega arith), ne_eqb n 1 (omega arith), ne_eqb n 2 (omega arith), ne_eqb n 3 (omega arith), ne_eqb n 4 (omega arith), ne_eqb n 5 (omega arith))

one-kind : (a b : Kind) (r : Result Kind UnknownKind) → r ≡ Ok a → r ≡ Ok b → a ≡ b
one-kind a b r e f = cc

-- a kind's number is the one that it comes from
pub number-of : (n : ℕ) (kind : Kind) → kind_from n ≡ Ok kind → kind_number kind ≡ n
number-of n kind e =
    by-test (is_unknown n)
    (λ t. let f = sym e ∙ unknown n t in let z : ◌≡◌ {A = ℕ} 0 1 = cc in absurd (omega arith))
    (λ t. let y = known n t in rw (one-kind kind y.kind (kind_from n) e y.from_is) y.number_is)

pub known-of : (n : ℕ) (kind : Kind) → kind_from n ≡ Ok kind → is_unknown n ≡ false
known-of n kind e =
    by-test (is_unknown n)
    (λ t. let f = sym e ∙ unknown n t in let z : ◌≡◌ {A = ℕ} 0 1 = cc in absurd (omega arith))
    (λ t. t)

pub unknown-of : (n : ℕ) (u : UnknownKind) → kind_from n ≡ Err u → is_unknown n ≡ true
unknown-of n u e =
    by-test (is_unknown n)
    (λ t. t)
    (λ t. let f = sym e ∙ (known n t).from_is in let z : ◌≡◌ {A = ℕ} 0 1 = cc in absurd (omega arith))

-- the code of a frame, as a number
pub code-number : (kind : Kind) (payload : List ℕ) → unwrap_or (exit_code kind payload) 0 ≡ code_of (kind_number kind) payload
unfolding exit_code code_of
code-number kind payload = by-test (eqb (kind_number kind) 3) (λ t. rw t (unwrap_or-slice_get payload 0 0)) (λ t. rw t)

-- ---- with more behind

pub kind-front : (s t : List ℕ) → 1 ≤ length s → kind_of (s ++ t) ≡ kind_of s
unfolding kind_of
kind-front s t h = get_or-append s t 0 0 h

pub length_front : (s t : List ℕ) → 5 ≤ length s → length_of (s ++ t) ≡ length_of s
unfolding length_of
length_front s t h = rw (part-front s t 1 4 h)

pub payload-front : (s t : List ℕ) → 5 + length_of s ≤ length s → payload_of (s ++ t) ≡ payload_of s
unfolding payload_of
payload-front s t h = rw (length_front s t (omega arith), part-front s t 5 (length_of s) h)

-- ---- what a frame's bytes say

pub record Says (s : List ℕ) (f : Frame) : Type 0 where
  pub kind-is : kind_from (kind_of s) ≡ Ok f.kind
  pub full : is_empty_exit (kind_number f.kind) (length_of s) ≡ false
  pub whole : 5 + length_of s ≤ length s
  pub frame-is : f ≡ frame_in f.kind (length_of s) (exit_code f.kind (payload_of s))

pub says : (s : List ℕ) (f : Frame) → read_frame s ≡ Ok (Some f) → Says s f
unfolding read_frame kinded headed_of
says s f e =
    by-test (ltb (length s) 1)
    (λ t. let g = rw t at e in let z : ◌≡◌ {A = ℕ} 0 1 = cc in absurd (omega arith))
    (λ t₁. by-kind (kind_from (kind_of s))
    (λ kind t₂. by-test (ltb (length s) 5)
    (λ t. let g = rw (t₁, t₂, t) at e in let z : ◌≡◌ {A = ℕ} 0 1 = cc in absurd (omega arith))
    (λ t₃. by-test (is_empty_exit (kind_number kind) (length_of s))
    (λ t. let g = rw (t₁, t₂, t₃, t) at e in let z : ◌≡◌ {A = ℕ} 0 1 = cc in absurd (omega arith))
    (λ t₄. by-test (ltb (length s) (5 + length_of s))
    (λ t. let g = rw (t₁, t₂, t₃, t₄, t) at e in let z : ◌≡◌ {A = ℕ} 0 1 = cc in absurd (omega arith))
    (λ t₅. let g = rw (t₁, t₂, t₃, t₄, t₅) at e in
    let is : frame_in kind (length_of s) (exit_code kind (payload_of s)) ≡ f = cc in
    let k : kind ≡ f.kind = ap (λ (x : Frame). x.kind) is in
    record {
      kind-is = rw k at t₂;
      full = rw k at t₄;
      whole = ltb-false (length s) (5 + length_of s) t₅;
      frame-is = rw k at (sym is);
    }))))
    (λ u t. let g = rw (t₁, t) at e in let z : ◌≡◌ {A = ℕ} 0 1 = cc in absurd (omega arith)))

-- what is used is here
used-of : (s : List ℕ) (r : Read) → read_frame s ≡ r → used_of r ≤ length s
unfolding used_of
used-of s (Ok None) e = omega arith
used-of s (Ok (Some f)) e = let y = says s f e in let u = ap (λ (x : Frame). x.used) y.frame-is in omega (arith, y.whole)
used-of s (Err x) e = omega arith

-- and so is its data
pub is_here : (s : List ℕ) (r : Read) → r ≡ read_frame s → ReadHere DataHere (length s) r
is_here s (Ok None) e = tt
is_here s (Ok (Some f)) e =
    let y = says s f (sym e) in
    record {
      ends = ap (λ (x : Frame). x.at + x.length) y.frame-is ∙ sym (ap (λ (x : Frame). x.used) y.frame-is);
      within = let u = ap (λ (x : Frame). x.used) y.frame-is in omega (arith, y.whole);
    }
is_here s (Err x) e = tt

pub used-within : (s : List ℕ) → used_of (read_frame s) ≤ length s
used-within s = used-of s (read_frame s) refl
