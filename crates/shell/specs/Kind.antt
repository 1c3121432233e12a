-- The kinds of the shell protocol's frames (docs/SCOPE.md, 11). Assumes nothing.
use Rattle.std.specs.Prelude.{ℕ, Bool, false, cond, List, ltb, eqb, Option, None, Result, Ok, Err, get_or, slice_get}
use Rattle.shell.specs.declared.Kind.{Kind}
use Rattle.shell.specs.declared.Kind.TheVariants.{Input, Output, Errors, Exit, CloseInput, WindowSize}
use Rattle.shell.specs.declared.UnknownKind.{UnknownKind}

-- the byte that stands for a kind
abbrev pub kind_number : Kind → ℕ
kind_number Input = 0
kind_number Output = 1
kind_number Errors = 2
kind_number Exit = 3
kind_number CloseInput = 4
kind_number WindowSize = 5

-- the kind that a number stands for
unfoldable pub kind_from : ℕ → Result Kind UnknownKind
kind_from n =
    cond (eqb n 0) (Ok Input)
    (cond (eqb n 1) (Ok Output)
    (cond (eqb n 2) (Ok Errors)
    (cond (eqb n 3) (Ok Exit)
    (cond (eqb n 4) (Ok CloseInput)
    (cond (eqb n 5) (Ok WindowSize)
    (Err (record { 0 = n })))))))

-- a number of no kind: above 5
unfoldable pub is_unknown : ℕ → Bool
is_unknown kind = ltb 5 kind

-- an exit, kind 3, with no byte for its code
unfoldable pub is_empty_exit : ℕ → ℕ → Bool
is_empty_exit kind n = cond (eqb kind 3) (eqb n 0) false

-- an exit's code is its first data byte; other kinds have none
unfoldable pub exit_code : Kind → List ℕ → Option ℕ
exit_code kind payload = cond (eqb (kind_number kind) 3) (slice_get payload 0) None

-- the same as a number: 0 of other kinds
unfoldable pub code_of : ℕ → List ℕ → ℕ
code_of kind payload = cond (eqb kind 3) (get_or payload 0 0) 0
