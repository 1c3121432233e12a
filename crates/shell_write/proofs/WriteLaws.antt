-- Laws of the writer: the bytes that it puts, and what its tests leave. Assumes nothing.
use mathlib.Core.Path.{◌≡◌}
use mathlib.Core.Bool.{false}
use mathlib.Core.List.{List, ◌++◌}
use Prim.Native.Nat.{ℕ, ◌+◌, ◌≤◌}
use native.Mathlib.Omega.{arith}
use lib.ListN.{length, length-append}
use borrow.Author.Tests.{ltb-false}
use Rattle.le.specs.Le.{bytes_of, put}
use Rattle.le.proofs.Laws.{length-bytes_of}
use Rattle.le.proofs.Parts.{put-put}
use Rattle.shell.specs.Kind.{is_unknown}
use Rattle.shell.proofs.ReadLaws.{known-of, unknown-of, number-of}
use Rattle.shell_write.specs.Write.{head_bytes, frame_bytes}

pub length-head : (kind n : ℕ) → length (head_bytes kind n) ≡ 5
unfolding head_bytes
length-head kind n = rw (length-append, length-bytes_of 1 kind, length-bytes_of 4 n)

pub length-frame : (kind : ℕ) (payload : List ℕ) → length (frame_bytes kind payload) ≡ 5 + length payload
unfolding frame_bytes
length-frame kind payload = rw (length-append, length-head)

-- kind, length and data, put one behind the other, are the frame
pub put_parts : (d : List ℕ) (kind : ℕ) (payload : List ℕ) → 5 + length payload ≤ length d
    → put (put (put d 0 (bytes_of 1 kind)) 1 (bytes_of 4 (length payload))) 5 payload ≡ put d 0 (frame_bytes kind payload)
unfolding frame_bytes head_bytes
put_parts d kind payload h =
    let a = bytes_of 1 kind in
    let b = bytes_of 4 (length payload) in
    let la = length-bytes_of 1 kind in
    let lb = length-bytes_of 4 (length payload) in
    let lab = length-append a b in
    rw (put-put d 0 a 1 b (omega arith) (omega arith)) (put-put d 0 (a ++ b) 5 payload (omega arith) h)

-- what a kind's number says of it
pub ruleset kinds = (known-of, unknown-of, number-of)

-- a kind that is not unknown is at most 5
pub known_small : (kind : ℕ) → is_unknown kind ≡ false → kind ≤ 5
unfolding is_unknown
known_small kind e = ltb-false 5 kind e
