-- Laws of gathering: what was read up to a place, and what is gathered of it. Assumes nothing.
use mathlib.Core.Path.{◌≡◌, refl, sym, ap, ◌∙◌}
use mathlib.Core.List.{List, [], ◌∷◌, ◌++◌, append_assoc, append-nil}
use Prim.Native.Nat.{ℕ, ◌+◌, ◌-◌, ◌≤◌}
use native.Mathlib.Omega.{arith}
use lib.Dec.{eqb}
use lib.ListN.{length, take, drop, length-append, length-drop}
use lib.Seq.{drop-drop, take_all}
use Rattle.le.specs.Le.{part, put}
use Rattle.le.proofs.Parts.{by-test, lent-part, put-none, put-put, length_part, length-put}
use Rattle.stream.specs.Stream.{message, End, more, stopped, Reading, ahead, read_all}
use Rattle.stream.proofs.Cut.{goes-on, waits, stops}
use Rattle.std.proofs.Common.{Option, Some, None, Ok, Err}
use Rattle.std.specs.Option.{unwrap_or}
use Rattle.shell.specs.declared.Frame.{Frame as Found}
use Rattle.shell.specs.declared.ReadError.{ReadError}
use Rattle.shell.specs.declared.ReadError.TheVariants.{InvalidKind, EmptyExit}
use Rattle.shell.specs.Kind.{kind_number}
use Rattle.shell.specs.Frame.{read_frame, used_of}
use Rattle.shell.specs.Pieces.{Frame, answer_of, receives}
use Rattle.shell.proofs.ReadLaws.{says}
use Rattle.shell.proofs.Pieces.{stable}
use Rattle.console.specs.Gather.{kept, of_kind, refusal_of, gathered_of, gathered, Gathers, Keeps}

-- no bytes put change nothing
pub ruleset puts_none = put-none

-- what a call that is lent `s[at..]` sees
pub lent-rest : (s : List ℕ) (at : ℕ) → take (length s - at) (drop at s) ≡ drop at s
lent-rest s at = take_all (length s - at) (drop at s) (omega (arith, length-drop at s))

-- ---- the frame at a place, or why there is none

-- a frame at place at of s
pub record Here (s : List ℕ) (at : ℕ) (f : Found) : Type 0 where
  pub place : f.at ≡ 5
  pub used-is : f.used ≡ 5 + f.length
  pub within : at + f.used ≤ length s
  pub goes : read_all receives (drop at s)
      ≡ ahead (record { kind = kind_number f.kind; payload = part s (at + f.at) f.length; code = unwrap_or f.code 0 }) (read_all receives (drop (at + f.used) s))

-- none
pub record Over (s : List ℕ) (at : ℕ) (refusal : Option ReadError) : Type 0 where
  pub ending : End
  pub refusal-is : refusal ≡ refusal_of ending
  pub ends : read_all receives (drop at s) ≡ record { messages = []; ending = ending; rest = drop at s }

module _ (s : List ℕ) (at : ℕ) (within : at ≤ length s) where
  pub here : (f : Found) → read_frame (drop at s) ≡ Ok (Some f) → Here s at f
  unfolding receives answer_of used_of part
  here f e =
      let a = says (drop at s) f e in
      let l = length-drop at s in
      let place = ap (λ (x : Found). x.at) a.frame-is in
      let n = ap (λ (x : Found). x.length) a.frame-is in
      let u = ap (λ (x : Found). x.used) a.frame-is in
      let g : Frame = record { kind = kind_number f.kind; payload = part (drop at s) f.at f.length; code = unwrap_or f.code 0 } in
      let r : receives (drop at s) ≡ message g f.used = rw e in
      record {
        place = place;
        used-is = omega arith;
        within = omega (arith, a.whole);
        goes = goes-on receives stable (drop at s) g f.used r ∙ rw (drop-drop f.at at s, drop-drop f.used at s);
      }

  -- as a call that is lent the rest finds it
  pub here-lent : (f : Found) → read_frame (take (length s - at) (drop at s)) ≡ Ok (Some f) → Here s at f
  here-lent f e = here f (sym (ap read_frame (lent-rest s at)) ∙ e)

  pub over-waits : read_frame (drop at s) ≡ Ok None → Over s at None
  unfolding receives answer_of refusal_of
  over-waits e = record { ending = more; refusal-is = refl; ends = waits receives stable (drop at s) (rw e) }

  pub over-refused : (x : ReadError) → read_frame (drop at s) ≡ Err x → Over s at (Some x)
  unfolding receives answer_of used_of refusal_of
  over-refused InvalidKind e = record { ending = stopped 18; refusal-is = refl; ends = stops receives stable (drop at s) 18 0 (rw e) }
  over-refused EmptyExit e = record { ending = stopped 19; refusal-is = refl; ends = stops receives stable (drop at s) 19 0 (rw e) }

-- ---- gathering

pub of-kind-append : (wanted : ℕ) (fs gs : List Frame) → of_kind wanted (fs ++ gs) ≡ of_kind wanted fs ++ of_kind wanted gs
unfolding of_kind
of-kind-append wanted [] gs = refl
of-kind-append wanted (f ∷ fs) gs =
    rw (of-kind-append wanted fs gs) (sym (append_assoc (kept wanted f.kind f.payload) (of_kind wanted fs) (of_kind wanted gs)))

-- what was read, with frames ahead of it
abbrev pub behind : List Frame → Reading Frame → Reading Frame
behind fs r = record { messages = fs ++ r.messages; ending = r.ending; rest = r.rest }

-- s is read up to place at, and what is gathered of it stands in out up to end
pub record Gathering (wanted : ℕ) (s out₀ out : List ℕ) (at end : ℕ) : Type 0 where
  pub before : List Frame
  pub reads : read_all receives s ≡ behind before (read_all receives (drop at s))
  pub out-is : out ≡ put out₀ 0 (of_kind wanted before)
  pub same : length out ≡ length out₀
  pub end_is : end ≡ length (of_kind wanted before)
  pub within : at ≤ length s
  pub room : end ≤ at
  pub fits : length s ≤ length out₀

pub gathering-starts : (wanted : ℕ) (s out : List ℕ) → length s ≤ length out → Gathering wanted s out out 0 0
unfolding of_kind
gathering-starts wanted s out h =
    record {
      before = [];
      reads = refl;
      out-is = sym (put-none out 0);
      same = refl;
      end_is = refl;
      within = omega arith;
      room = omega arith;
      fits = h;
    }

kept-short : (wanted kind : ℕ) (payload : List ℕ) → length (kept wanted kind payload) ≤ length payload
unfolding kept
kept-short wanted kind payload = by-test (eqb kind wanted) (λ t. rw t (omega arith)) (λ t. rw t (omega arith))

-- what is lent of a frame's data, and the room for it
part-lent : (s : List ℕ) (at a n : ℕ) → part (take (length s - at) (drop at s)) a n ≡ part s (at + a) n
unfolding part
part-lent s at a n = rw (lent-rest s at, drop-drop a at s)

pub gathering-room : (wanted : ℕ) (s out₀ out : List ℕ) (at end : ℕ) (x : Found) (bytes : List ℕ) → Gathering wanted s out₀ out at end → Here s at x
    → bytes ≡ part (take (length s - at) (drop at s)) x.at x.length → end + length bytes ≤ length out
gathering-room wanted s out₀ out at end x bytes g h e =
    let n = ap length (e ∙ part-lent s at x.at x.length) ∙ length_part s (at + x.at) x.length (omega (arith, h.place, h.used-is, h.within)) in
    omega (arith, g.room, g.same, g.fits, g.within, h.used-is, h.within)

-- a frame's data is gathered
pub gathering-goes : (wanted : ℕ) (s out₀ out : List ℕ) (at end : ℕ) (x : Found) (bytes out' : List ℕ) (end' : ℕ) → Gathering wanted s out₀ out at end → Here s at x
    → bytes ≡ part (take (length s - at) (drop at s)) x.at x.length → Keeps (kept wanted (kind_number x.kind) bytes) end out end' out'
    → Gathering wanted s out₀ out' (at + x.used) end'
unfolding of_kind ahead
gathering-goes wanted s out₀ out at end x bytes out' end' g h e k =
    let p = part s (at + x.at) x.length in
    let f : Frame = record { kind = kind_number x.kind; payload = p; code = unwrap_or x.code 0 } in
    let b = g.before in
    let o = of_kind wanted b in
    let y = kept wanted (kind_number x.kind) p in
    let ly : length y ≤ x.length = omega (arith, kept-short wanted (kind_number x.kind) p, length_part s (at + x.at) x.length (omega arith)) in
    let same = ap (kept wanted (kind_number x.kind)) (e ∙ part-lent s at x.at x.length) in
    let all : of_kind wanted (b ++ (f ∷ [])) ≡ o ++ y = of-kind-append wanted b (f ∷ []) ∙ ap (λ (l : List ℕ). o ++ l) (append-nil y) in
    let la = length-append o y in
    let n : end' ≡ end + length y = k.end_is ∙ ap (λ (l : List ℕ). end + length l) same in
    let z : out' ≡ put (put out₀ 0 o) end y = k.out-is ∙ ap (put out end) same ∙ ap (λ (l : List ℕ). put l end y) g.out-is in
    let w = z ∙ put-put out₀ 0 o end y (omega arith) (omega arith) in
    record {
      before = b ++ (f ∷ []);
      reads = g.reads ∙ ap (behind b) h.goes ∙ rw (append_assoc b (f ∷ []) (read_all receives (drop (at + x.used) s)).messages);
      out-is = w ∙ ap (put out₀ 0) (sym all);
      same = ap length w ∙ length-put out₀ 0 (o ++ y) (omega arith);
      end_is = n ∙ rw all (omega arith);
      within = h.within;
      room = omega arith;
      fits = g.fits;
    }

-- no frame is left
pub gathering-ends : (wanted : ℕ) (s out₀ out : List ℕ) (at end : ℕ) (x : Option ReadError) → Gathering wanted s out₀ out at end → Over s at x
    → Gathers wanted s out₀ (record { used = at; length = end; refusal = x }) out
unfolding gathered gathered_of
gathering-ends wanted s out₀ out at end x g v =
    let q = g.reads ∙ ap (behind g.before) v.ends in
    let l = length-drop at s in
    let u : at ≡ length s - length (drop at s) = omega arith in
    let m : (read_all receives s).messages ≡ g.before = ap (λ (r : Reading Frame). r.messages) q ∙ append-nil g.before in
    record {
      result-is = rw (m, q) (cc v.refusal-is);
      out-is = g.out-is ∙ ap (λ (fs : List Frame). put out₀ 0 (of_kind wanted fs)) (sym m);
      rest-is = sym (ap (λ (r : Reading Frame). r.rest) q);
      within = g.within;
      short = g.room;
    }
