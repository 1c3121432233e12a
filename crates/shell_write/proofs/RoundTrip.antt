-- Shell frames from bytes and to bytes, both ways. Assumes nothing.
--     write_read                 what `write_frame` makes, `read_frame` gives back, whatever follows
--     read-write                 what `read_frame` accepts, `write_frame` makes byte for byte
--     unknown-read, empty-read   what the writer refuses by 18 or 19, the reader does
use mathlib.Core.Path.{◌≡◌, refl, sym, ap, ◌∙◌}
use mathlib.Core.Bool.{true, false}
use mathlib.Core.List.{List, ◌++◌, append_assoc}
use Prim.Native.Nat.{ℕ, ◌+◌, ◌%◌, ◌≤◌, ◌<◌}
use native.Mathlib.Omega.{arith}
use lib.Dec.{ltb}
use lib.ListN.{length, take, get_or, length-append}
use lib.Seq.{drop_at, take-append_seam, drop-cons}
use borrow.Author.Tests.{ltb-false, le-ltb}
use Rattle.le.specs.Le.{bytes_of, part, put, Bytes}
use Rattle.le.proofs.Laws.{num_of-part, write_read as number-back, read-write-part}
use Rattle.le.proofs.Parts.{by-test, length_part, part-put-same, part_join}
use Rattle.std.proofs.Common.{Some, Ok, Err}
use Rattle.shell.specs.declared.Kind.{Kind}
use Rattle.shell.specs.declared.Frame.{Frame}
use Rattle.shell.specs.declared.ReadError.TheVariants.{InvalidKind, EmptyExit}
use Rattle.shell.specs.Kind.{kind_number, kind_from, is_unknown, is_empty_exit, exit_code}
use Rattle.shell.specs.Frame.{kind_of, length_of, payload_of, frame_in, kinded, headed_of, read_frame}
use Rattle.shell_write.specs.Write.{head_bytes, frame_bytes, write_frame}
use Rattle.shell.proofs.ReadLaws.{known, unknown, known-of, number-of, says}
use Rattle.shell_write.proofs.WriteLaws.{length-head, length-frame, known_small}

-- ---- writing, then reading

pub record WrittenSays (kind : ℕ) (payload out : List ℕ) (n : ℕ) : Type 0 where
  pub known : is_unknown kind ≡ false
  pub full : is_empty_exit kind (length payload) ≡ false
  pub long : length payload ≤ 0xffff_ffff
  pub room : 5 + length payload ≤ length out
  pub count-is : n ≡ 5 + length payload
  pub out-is : (write_frame kind payload out).out ≡ put out 0 (frame_bytes kind payload)

pub written-says : (kind : ℕ) (payload out : List ℕ) (n : ℕ) → (write_frame kind payload out).result ≡ Ok n → WrittenSays kind payload out n
unfolding write_frame
written-says kind payload out n e =
    by-test (is_unknown kind)
    (λ t. let f = rw t at e in let z : ◌≡◌ {A = ℕ} 0 1 = cc in absurd (omega arith))
    (λ t₁. by-test (is_empty_exit kind (length payload))
    (λ t. let f = rw (t₁, t) at e in let z : ◌≡◌ {A = ℕ} 0 1 = cc in absurd (omega arith))
    (λ t₂. by-test (ltb 0xffff_ffff (length payload))
    (λ t. let f = rw (t₁, t₂, t) at e in let z : ◌≡◌ {A = ℕ} 0 1 = cc in absurd (omega arith))
    (λ t₃. by-test (ltb (length out) (5 + length payload))
    (λ t. let f = rw (t₁, t₂, t₃, t) at e in let z : ◌≡◌ {A = ℕ} 0 1 = cc in absurd (omega arith))
    (λ t₄. let f = rw (t₁, t₂, t₃, t₄) at e in
    record {
      known = t₁;
      full = t₂;
      long = ltb-false _ _ t₃;
      room = ltb-false _ _ t₄;
      count-is = cc;
      out-is = rw (t₁, t₂, t₃, t₄);
    }))))

-- the bytes of a frame, with anything behind them
module _ (kind : ℕ) (payload rest : List ℕ) where
  head-rest : frame_bytes kind payload ++ rest ≡ head_bytes kind (length payload) ++ (payload ++ rest)
  unfolding frame_bytes
  head-rest = append_assoc (head_bytes kind (length payload)) payload rest

  all_here : length (frame_bytes kind payload ++ rest) ≡ 5 + length payload + length rest
  all_here = rw (length-append, length-frame)

  kind-here : kind < 256 → kind_of (frame_bytes kind payload ++ rest) ≡ kind
  unfolding kind_of head_bytes bytes_of
  kind-here h = rw head-rest (omega arith)

  length-here : length payload ≤ 0xffff_ffff → length_of (frame_bytes kind payload ++ rest) ≡ length payload
  unfolding length_of head_bytes bytes_of part
  length-here h = rw head-rest (number-back 4 (length payload) (omega arith))

  pub payload-here : part (frame_bytes kind payload ++ rest) 5 (length payload) ≡ payload
  unfolding part
  payload-here =
      rw (head-rest, drop_at (head_bytes kind (length payload)) (payload ++ rest) 5 (length-head kind (length payload)), take-append_seam)

  -- they are read as that frame
  pub not-refused : (k : Kind) → kind_from kind ≡ Ok k → is_empty_exit kind (length payload) ≡ false → length payload ≤ 0xffff_ffff
      → read_frame (frame_bytes kind payload ++ rest) ≡ Ok (Some (frame_in k (length payload) (exit_code k payload)))
  unfolding read_frame kinded headed_of payload_of
  not-refused k from full long =
      let s = frame_bytes kind payload ++ rest in
      let a = all_here in
      let small = known_small kind (known-of kind k from) in
      rw (
        le-ltb (length s) 1 (omega arith),
        kind-here (omega arith),
        from,
        le-ltb (length s) 5 (omega arith),
        length-here long,
        number-of kind k from,
        full,
        le-ltb (length s) (5 + length payload) (omega arith),
        payload-here,
      )

  -- what the writer refuses by 18, the reader does, for a kind that has a byte
  pub unknown-read : kind < 256 → is_unknown kind ≡ true → read_frame (frame_bytes kind payload ++ rest) ≡ Err InvalidKind
  unfolding read_frame kinded
  unknown-read h t =
      let s = frame_bytes kind payload ++ rest in
      let a = all_here in
      rw (le-ltb (length s) 1 (omega arith), kind-here h, unknown kind t)

  -- what the writer refuses by 19, the reader does
  pub empty-read : is_unknown kind ≡ false → is_empty_exit kind (length payload) ≡ true → length payload ≤ 0xffff_ffff
      → read_frame (frame_bytes kind payload ++ rest) ≡ Err EmptyExit
  unfolding read_frame kinded headed_of
  empty-read t empty long =
      let s = frame_bytes kind payload ++ rest in
      let a = all_here in
      let small = known_small kind t in
      let k = known kind t in
      rw (
        le-ltb (length s) 1 (omega arith),
        kind-here (omega arith),
        k.from_is,
        le-ltb (length s) 5 (omega arith),
        length-here long,
        k.number_is,
        empty,
      )

-- a frame that is read at the start of bytes, its data with it
pub record FrameComesBack (kind : ℕ) (payload : List ℕ) (n : ℕ) (s : List ℕ) : Type 0 where
  pub frame : Frame
  pub read_is : read_frame s ≡ Ok (Some frame)
  pub kind-is : kind_number frame.kind ≡ kind
  pub length-is : frame.length ≡ length payload
  pub used-is : frame.used ≡ n
  pub code_is : frame.code ≡ exit_code frame.kind payload
  pub payload-is : part s frame.at frame.length ≡ payload

-- what the writer made, with anything behind it, is read as the frame that was written
pub write_read : (kind : ℕ) (payload out : List ℕ) (n : ℕ) (rest : List ℕ) → (write_frame kind payload out).result ≡ Ok n
    → FrameComesBack kind payload n (take n (write_frame kind payload out).out ++ rest)
unfolding part
write_read kind payload out n rest e =
    let w = written-says kind payload out n e in
    let b = frame_bytes kind payload in
    let l : length b ≡ n = length-frame kind payload ∙ sym w.count-is in
    let r = w.room in
    let t : take n (write_frame kind payload out).out ≡ b =
    ap (take n) w.out-is ∙ ap (λ (j : ℕ). take j (put out 0 b)) (sym l) ∙ part-put-same out 0 b (omega (arith, w.count-is)) in
    let k = known kind w.known in
    rw t (record {
      frame = frame_in k.kind (length payload) (exit_code k.kind payload);
      read_is = not-refused kind payload rest k.kind k.from_is w.full w.long;
      kind-is = k.number_is;
      length-is = refl;
      used-is = sym w.count-is;
      code_is = refl;
      payload-is = payload-here kind payload rest;
    })

-- ---- reading, then writing

-- a length that was read has its field
length-fits : (s : List ℕ) → Bytes s → length_of s ≤ 0xffff_ffff
unfolding length_of
length-fits s h = omega (arith, num_of-part 4 s 1 h)

-- a first byte, written again
kind-written : (s : List ℕ) → Bytes s → 1 ≤ length s → bytes_of 1 (kind_of s) ≡ part s 0 1
unfolding kind_of bytes_of part
kind-written s h n =
    let small = h 0 in
    let e : get_or s 0 0 % 256 ≡ get_or s 0 0 = omega arith in
    rw (e, drop-cons s 0 0 n)

head-written : (s : List ℕ) → Bytes s → 5 ≤ length s → head_bytes (kind_of s) (length_of s) ≡ part s 0 5
unfolding head_bytes length_of
head-written s h n =
    rw (kind-written s h (omega arith), read-write-part s 1 4 h n) (part_join s 0 1 4)

pub read-write : (s : List ℕ) (f : Frame) (out : List ℕ) → Bytes s → read_frame s ≡ Ok (Some f) → f.used ≤ length out
    → write_frame (kind_number f.kind) (part s f.at f.length) out ≡ record { result = Ok f.used; out = put out 0 (take f.used s) }
unfolding write_frame frame_bytes part
read-write s f out h e room =
    let a = says s f e in
    let n = length_of s in
    let kind-is = number-of (kind_of s) f.kind a.kind-is in
    let at-is = ap (λ (x : Frame). x.at) a.frame-is in
    let length-is = ap (λ (x : Frame). x.length) a.frame-is in
    let used-is = ap (λ (x : Frame). x.used) a.frame-is in
    let l : length (part s 5 n) ≡ n = length_part s 5 n a.whole in
    let fit = length-fits s h in
    rw (
      at-is,
      length-is,
      used-is,
      l,
      a.full,
      le-ltb 0xffff_ffff n fit,
      le-ltb (length out) (5 + n) (omega arith),
      kind-is,
      known-of (kind_of s) f.kind a.kind-is,
      head-written s h (omega (arith, a.whole)),
      part_join s 0 5 n,
    )
