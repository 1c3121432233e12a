-- Shell frames to bytes (docs/SCOPE.md, 11). Assumes nothing.
use Rattle.std.specs.Prelude.{ℕ, ◌+◌, ◌≤◌, cond, List, ◌++◌, ltb, Result, Ok, Err, length}
use Rattle.le.specs.Le.{bytes_of, put}
use Rattle.refusal.specs.Refusal.{number_of}
use Rattle.refusal.specs.declared.WriteError.{WriteError}
use Rattle.refusal.specs.declared.WriteError.TheVariants.{Refused, OutShort}
use Rattle.refusal.specs.Written.{Composed as ComposedOf, write_refusal as refusal_of}
pub use Rattle.refusal.specs.Written.{Writes}
use Rattle.shell.specs.Kind.{is_unknown, is_empty_exit}
use Rattle.shell.specs.Frame.{refusal_number}
use Rattle.shell.specs.declared.ReadError.{ReadError}
use Rattle.shell.specs.declared.ReadError.TheVariants.{InvalidKind, EmptyExit}

-- the kind, and the length of n bytes of data
unfoldable pub head_bytes : ℕ → ℕ → List ℕ
head_bytes kind n = bytes_of 1 kind ++ bytes_of 4 n

-- the bytes of a frame with this data
unfoldable pub frame_bytes : ℕ → List ℕ → List ℕ
frame_bytes kind payload = head_bytes kind (length payload) ++ payload

-- what a writer asks: a length with a field of 32 bits, and room for the frame
pub record Room (out payload : List ℕ) : Type 0 where
  pub small : length payload ≤ 0xffff_ffff
  pub fits : 5 + length payload ≤ length out

-- what became of a frame that was to be written: its length, or why it was not
abbrev pub Written : Type 0
Written = Result ℕ (WriteError ReadError)

-- what writing gives: its answer, and the outgoing bytes after it
abbrev pub Composed : Type 0
Composed = ComposedOf (WriteError ReadError)

-- a kind above 5 is refused by 18, an exit with no data by 19, data past its length's field and a short buffer by 9
unfoldable pub write_frame : ℕ → List ℕ → List ℕ → Composed
write_frame kind payload out =
    cond (is_unknown kind) (record { result = Err (Refused InvalidKind); out = out })
    (cond (is_empty_exit kind (length payload)) (record { result = Err (Refused EmptyExit); out = out })
    (cond (ltb 0xffff_ffff (length payload)) (record { result = Err OutShort; out = out })
    (cond (ltb (length out) (5 + length payload)) (record { result = Err OutShort; out = out })
    (record { result = Ok (5 + length payload); out = put out 0 (frame_bytes kind payload) }))))

-- a refusal's number
abbrev pub write_refusal : WriteError ReadError → ℕ
write_refusal = refusal_of refusal_number

-- the number of its answer: a refusal's own, 0 for a frame
abbrev pub written_number : Written → ℕ
written_number = number_of write_refusal
