-- The frames of the shell protocol from bytes (docs/SCOPE.md, 11). Assumes nothing.
use Rattle.std.specs.Prelude.{ℕ, ◌+◌, cond, List, ltb, Option, Some, None, Result, Ok, Err, length, get_or}
use Rattle.le.specs.Le.{num_of, part}
use Rattle.refusal.specs.Refusal.{read_number_of}
use Rattle.stream.specs.Here.{IsHere}
use Rattle.shell.specs.declared.Kind.{Kind}
use Rattle.shell.specs.declared.UnknownKind.{UnknownKind}
use Rattle.shell.specs.declared.Frame.{Frame}
use Rattle.shell.specs.declared.ReadError.{ReadError}
use Rattle.shell.specs.declared.ReadError.TheVariants.{InvalidKind, EmptyExit}
use Rattle.shell.specs.Kind.{kind_number, kind_from, is_empty_exit, exit_code}

-- what received bytes begin with
abbrev pub Read : Type 0
Read = Result (Option Frame) ReadError

-- the first byte is the kind
unfoldable pub kind_of : List ℕ → ℕ
kind_of s = get_or s 0 0

-- the four bytes behind it are the data's length
unfoldable pub length_of : List ℕ → ℕ
length_of s = num_of (part s 1 4)

-- then the data
unfoldable pub payload_of : List ℕ → List ℕ
payload_of s = part s 5 (length_of s)

-- a frame of n bytes of data, and its header ahead of them
abbrev pub frame_in : Kind → ℕ → Option ℕ → Frame
frame_in kind n code = record { kind = kind; at = 5; length = n; used = 5 + n; code = code }

-- once the header is here: 19, waiting for the data, a frame
unfoldable pub headed_of : Kind → List ℕ → Read
headed_of kind s =
    cond (is_empty_exit (kind_number kind) (length_of s)) (Err EmptyExit)
    (cond (ltb (length s) (5 + length_of s)) (Ok None)
    (Ok (Some (frame_in kind (length_of s) (exit_code kind (payload_of s))))))

-- once the first byte is here: 18 from it, waiting for the header
unfoldable pub kinded : List ℕ → Result Kind UnknownKind → Read
kinded s (Err e) = Err InvalidKind
kinded s (Ok kind) = cond (ltb (length s) 5) (Ok None) (headed_of kind s)

-- no byte: waiting
unfoldable pub read_frame : List ℕ → Read
read_frame s = cond (ltb (length s) 1) (Ok None) (kinded s (kind_from (kind_of s)))

-- a frame's data is here
abbrev pub DataHere : ℕ → Frame → Type 0
DataHere n f = IsHere n f.at f.length f.used

-- a refusal's number
abbrev pub refusal_number : ReadError → ℕ
refusal_number InvalidKind = 18
refusal_number EmptyExit = 19

-- the number of an answer: a refusal's own, 100 for waiting, 0 for a frame
abbrev pub read_number : Read → ℕ
read_number = read_number_of refusal_number

-- bytes used: those of a frame with its data, none otherwise
unfoldable pub used_of : Read → ℕ
used_of (Ok None) = 0
used_of (Ok (Some f)) = f.used
used_of (Err e) = 0
