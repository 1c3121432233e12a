-- From what a call has done so far to what it leaves. Assumes nothing.
--     did-begun, did-slot, did-frames, did-acted, did-ends   the steps of a call, as the definitions have them
--     stops-leaves                                           a call that only stores a header
--     leaves-on                                              what goes on behind some work leaves what the whole does
--     refused-leaves, goes-on                                the refusals ahead of every step
use mathlib.Core.Path.{◌≡◌, refl, sym, ap, subst, ◌∙◌}
use mathlib.Core.Bool.{Bool, true, false, true≢false}
use mathlib.Core.List.{List, [], ◌∷◌, ◌++◌}
use Prim.Native.Nat.{ℕ, ◌+◌, ◌≤◌}
use native.Mathlib.Omega.{arith}
use lib.Dec.{ltb}
use lib.ListN.{length, length-append}
use borrow.Author.Tests.{ltb-false}
use Rattle.le.specs.Le.{put, Bytes}
use Rattle.le.proofs.Parts.{length-put, put-none, put-put}
use Rattle.config.specs.declared.negotiated.Negotiated.{Negotiated}
use Rattle.config.specs.Config.{stores_fit}
use Rattle.protocol.specs.Packet.{Puts}
use Rattle.slot.specs.declared.ChannelSlot.{ChannelSlot}
use Rattle.slot.proofs.Kept.{pick}
use Rattle.slot.proofs.Laws.{cond-true, cond-false}
use Rattle.state.specs.declared.Header.{Header}
use Rattle.state.specs.Change.{Change, slot_to, header_to, put_change, put_all}
use Rattle.le.specs.Rows.{flat}
use Rattle.state.specs.State.{state_of, put_slot, put_header}
use Rattle.state_whole.specs.Whole.{is_whole}
use Rattle.connection.specs.declared.Answer.{Answer}
use Rattle.connection.specs.declared.Answer.TheVariants.{Refused}
use Rattle.connection.specs.declared.Refusal.{Refusal}
use Rattle.connection.specs.declared.Refusal.TheVariants.{StoreShort, OutShort, BrokenState}
use Rattle.call.specs.declared.Reply.{Reply}
use Rattle.call.specs.declared.act.ActedOn.{ActedOn}
use Rattle.connection.specs.Act.{Acted}
use Rattle.connection.specs.Calls.{dropped, Lent, Outcome, written_by, looked, untouched, Work, begun, then, then_acted, ends, checked, checked_out}
use Rattle.connection.specs.Frames.{Frame, frames_bytes}
use Rattle.call.specs.Promise.{Begins, BeginsState, lent_of, agreed_in, Leaves, admitted_out, Admits, ActsOn}
use Rattle.call.proofs.AdmitLaws.{whole_long, admits-state}
use Rattle.call.proofs.FrameLaws.{puts_none, frames-append}
use Rattle.std.specs.Prelude.{Result, Ok, Err}

-- changes after others
pub put-append : (b : List ℕ) (xs ys : List Change) → put_all b (xs ++ ys) ≡ put_all (put_all b xs) ys
put-append b [] ys = refl
put-append b (x ∷ xs) ys = put-append (put_change b x) xs ys

-- ---- what a call has done so far

-- the lent bytes after some work: frames stand from place `at` on, `end` is the place past them
pub record Did (n : Negotiated) (w : Work) (at : ℕ) (state out : List ℕ) (state' rx store out' : List ℕ) (end : ℕ) : Type 0 where
  pub state-is : state' ≡ put_all state w.changes
  pub rx-is : rx ≡ w.rx
  pub store_is : store ≡ w.store
  pub out-is : out' ≡ put out at (frames_bytes n w.frames)
  pub end_is : end ≡ at + length (frames_bytes n w.frames)
  pub fits : at + length (frames_bytes n w.frames) ≤ length out

module _ (n : Negotiated) (at : ℕ) (state out : List ℕ) where
  pub did-begun : (h : Header) (l : Lent) → at ≤ length out → Did n (begun h l) at state out state l.rx l.store out at
  unfolding frames_bytes flat
  did-begun h l k = record { state-is = refl; rx-is = refl; store_is = refl; out-is = sym (put-none out at); end_is = omega arith; fits = omega arith }

  -- frames behind frames
  joined : (fs gs : List Frame) (out₁ out₂ : List ℕ) (end end' : ℕ) → out₁ ≡ put out at (frames_bytes n fs) → end ≡ at + length (frames_bytes n fs)
      → out₂ ≡ put out₁ end (frames_bytes n gs) → end' ≡ end + length (frames_bytes n gs) → end' ≤ length out
      → (out₂ ≡ put out at (frames_bytes n (fs ++ gs))) × (end' ≡ at + length (frames_bytes n (fs ++ gs)))
  joined fs gs out₁ out₂ end end' e f g h k =
      let z = length-append (frames_bytes n fs) (frames_bytes n gs) in
      let y = ap (λ (x : List ℕ). length x) (frames-append n fs gs) in (
        g ∙ ap (λ (x : List ℕ). put x end (frames_bytes n gs)) e ∙ put-put out at (frames_bytes n fs) end (frames_bytes n gs) (omega arith) (omega arith)
            ∙ ap (put out at) (sym (frames-append n fs gs)),
        omega arith,
      )

  module _ (w : Work) (state₁ rx store out₁ : List ℕ) (end : ℕ) (d : Did n w at state out state₁ rx store out₁ end) where
    -- changes are stored, frames are written
    pub did_then : (xs : List Change) (fs : List Frame) (state₂ out₂ : List ℕ) (end' : ℕ) → state₂ ≡ put_all state₁ xs → Puts out₁ end (frames_bytes n fs) end' out₂
        → end + length (frames_bytes n fs) ≤ length out → Did n (then w xs fs) at state out state₂ rx store out₂ end'
    did_then xs fs state₂ out₂ end' s p k =
        let z = p.end_is in
        let j = joined w.frames fs out₁ out₂ end end' d.out-is d.end_is p.out-is p.end_is (omega arith) in
        let y = j.1 in
        record {
          state-is = s ∙ ap (λ (x : List ℕ). put_all x xs) d.state-is ∙ sym (put-append state w.changes xs);
          rx-is = d.rx-is;
          store_is = d.store_is;
          out-is = j.0;
          end_is = y;
          fits = omega arith;
        }

    -- a slot is stored
    pub did-slot : (i : ℕ) (s : ChannelSlot) (state₂ : List ℕ) → state₂ ≡ put_slot state₁ i s → Did n (then w (slot_to i s ∷ []) []) at state out state₂ rx store out₁ end
    unfolding frames_bytes flat
    did-slot i s state₂ e =
        let k = d.end_is in
        let f = d.fits in
        did_then (slot_to i s ∷ []) [] state₂ out₁ end e (puts_none n out₁ end) (omega arith)

    -- frames are written
    pub did-frames : (fs : List Frame) (out₂ : List ℕ) (end' : ℕ) → Puts out₁ end (frames_bytes n fs) end' out₂ → end + length (frames_bytes n fs) ≤ length out
        → Did n (then w [] fs) at state out state₁ rx store out₂ end'
    did-frames fs out₂ end' p k = did_then [] fs state₁ out₂ end' refl p k

    -- a packet is acted on
    pub did-acted : (a : Acted) (r : ActedOn) (state₂ rx₂ store₂ out₂ : List ℕ) → ActsOn n a end state₁ out₁ r state₂ rx₂ store₂ out₂
        → Did n (then_acted w a) at state out state₂ rx₂ store₂ out₂ r.end
    did-acted a r state₂ rx₂ store₂ out₂ g =
        let f = g.out-fits in
        let e = g.end_is in
        let q = d.fits in
        let s = ap (λ (x : List ℕ). length x) d.out-is ∙ length-put out at (frames_bytes n w.frames) q in
        let j = joined w.frames a.frames out₁ out₂ end r.end d.out-is d.end_is g.out-is g.end_is (omega arith) in
        let y = j.1 in
        record {
          state-is = g.state-is ∙ ap (λ (x : List ℕ). put_all x a.changes) d.state-is ∙ sym (put-append state w.changes a.changes);
          rx-is = g.rx-is;
          store_is = g.store_is;
          out-is = j.0;
          end_is = y;
          fits = omega arith;
        }

    -- the call ends: its header is stored
    pub did-ends : (buf buf' state₂ : List ℕ) (h : Header) (a : Answer) (used : ℕ) (handed : List ℕ) (r : Reply) → h ≡ w.header → state₂ ≡ put_header state₁ h
        → r ≡ record { answer = a; used = used; written = end } → buf' ≡ put buf 0 handed → length handed ≤ length buf
        → Leaves n (ends w a used handed) at state out buf r state₂ rx store out₁ buf'
    unfolding ends written_by
    did-ends buf buf' state₂ h a used handed r i s e p k =
        let f = d.fits in
        record {
          answer-is = ap (λ (x : Reply). x.answer) e;
          used-is = ap (λ (x : Reply). x.used) e;
          written_is = ap (λ (x : Reply). x.written) e ∙ d.end_is;
          state-is = s ∙ ap (put_header state₁) i ∙ ap (λ (x : List ℕ). put_header x w.header) d.state-is ∙ sym (put-append state w.changes (header_to w.header ∷ []));
          rx-is = d.rx-is;
          store_is = d.store_is;
          out-is = d.out-is;
          out-fits = f;
          buf-is = p;
          buf-fits = k;
        }

    -- with nothing handed over
    pub did-stops : (buf state₂ : List ℕ) (h : Header) (a : Answer) (used : ℕ) (r : Reply) → h ≡ w.header → state₂ ≡ put_header state₁ h
        → r ≡ record { answer = a; used = used; written = end } → Leaves n (ends w a used []) at state out buf r state₂ rx store out₁ buf
    did-stops buf state₂ h a used r i s e = did-ends buf buf state₂ h a used [] r i s e (sym (put-none buf 0)) (omega arith)

-- a call that only stores a header
pub stops-leaves : {x : Header} (state rx store : List ℕ) (h : Header) → h ≡ x → (out buf : List ℕ) (o : Outcome) (a : Answer) (used : ℕ) (r : Reply) (state' : List ℕ)
    → o ≡ ends (begun x (lent_of state rx store)) a used [] → state' ≡ put_header state h → r ≡ record { answer = a; used = used; written = 0 }
    → Leaves (agreed_in state) o 0 state out buf r state' rx store out buf
stops-leaves {x} state rx store h i out buf o a used r state' e s q =
    let w = did-begun (agreed_in state) 0 state out x (lent_of state rx store) (omega arith) in
    subst (λ (v : Outcome). Leaves (agreed_in state) v 0 state out buf r state' rx store out buf) (sym e)
    (did-stops (agreed_in state) 0 state out _ _ _ _ _ _ w buf state' h a used r i s q)

-- ---- what goes on behind some work

-- o is what o' is, behind the work w
pub record Behind (w : Work) (o o' : Outcome) : Type 0 where
  pub answer : o.answer ≡ o'.answer
  pub used : o.used ≡ o'.used
  pub frames : o.frames ≡ w.frames ++ o'.frames
  pub handed : o.handed ≡ o'.handed
  pub changes : o.changes ≡ w.changes ++ o'.changes
  pub rx : o.rx ≡ o'.rx
  pub store : o.store ≡ o'.store

pub leaves-on : (n : Negotiated) (w : Work) (o o' : Outcome) (at : ℕ) (state out : List ℕ) (state₁ rx₁ store₁ out₁ : List ℕ) (end : ℕ) (buf : List ℕ) (r : Reply)
    (state' rx store out' buf' : List ℕ) → Did n w at state out state₁ rx₁ store₁ out₁ end → Behind w o o' → Leaves n o' end state₁ out₁ buf r state' rx store out' buf'
    → Leaves n o at state out buf r state' rx store out' buf'
unfolding written_by
leaves-on n w o o' at state out state₁ rx₁ store₁ out₁ end buf r state' rx store out' buf' d b g =
    let f = g.out-fits in
    let q = d.fits in
    let s = ap (λ (x : List ℕ). length x) d.out-is ∙ length-put out at (frames_bytes n w.frames) q in
    let j = joined n at state out w.frames o'.frames out₁ out' end (end + length (frames_bytes n o'.frames)) d.out-is d.end_is g.out-is refl (omega arith) in
    let y = j.1 in
    let v = g.buf-fits in
    let z = ap (λ (x : List Frame). length (frames_bytes n x)) b.frames in
    let u = g.written_is in
    record {
      answer-is = g.answer-is ∙ sym b.answer;
      used-is = g.used-is ∙ sym b.used;
      written_is = omega arith;
      state-is = g.state-is ∙ ap (λ (x : List ℕ). put_all x o'.changes) d.state-is ∙ sym (put-append state w.changes o'.changes) ∙ ap (put_all state) (sym b.changes);
      rx-is = g.rx-is ∙ sym b.rx;
      store_is = g.store_is ∙ sym b.store;
      out-is = j.0 ∙ ap (λ (x : List Frame). put out at (frames_bytes n x)) (sym b.frames);
      out-fits = omega arith;
      buf-is = g.buf-is ∙ ap (put buf 0) (sym b.handed);
      buf-fits = subst (λ (x : List ℕ). length x ≤ length buf) (sym b.handed) v;
    }

-- ---- the refusals ahead of every step

-- an answer, and nothing changes
pub looked-leaves : (n : Negotiated) (l : Lent) (a : Answer) (state out buf : List ℕ) (r : Reply) → r ≡ record { answer = a; used = 0; written = 0 }
    → Leaves n (looked l a) 0 state out buf r state l.rx l.store out buf
unfolding frames_bytes flat written_by
looked-leaves n l a state out buf r e =
    record {
      answer-is = ap (λ (y : Reply). y.answer) e;
      used-is = ap (λ (y : Reply). y.used) e;
      written_is = ap (λ (y : Reply). y.written) e;
      state-is = refl;
      rx-is = refl;
      store_is = refl;
      out-is = sym (put-none out 0);
      out-fits = omega arith;
      buf-is = sym (put-none buf 0);
      buf-fits = omega arith;
    }

pub untouched-leaves : (n : Negotiated) (l : Lent) (x : Refusal) (state out buf : List ℕ) (r : Reply) → r ≡ record { answer = Refused x; used = 0; written = 0 }
    → Leaves n (untouched l x) 0 state out buf r state l.rx l.store out buf
untouched-leaves n l x state out buf r e = looked-leaves n l (Refused x) state out buf r e

abbrev is_yes : Result Header Refusal → Bool
is_yes (Ok h) = true
is_yes (Err r) = false

abbrev refusal_in : Result Header Refusal → Refusal
refusal_in (Ok h) = BrokenState
refusal_in (Err r) = r

abbrev header_in : Header → Result Header Refusal → Header
header_in d (Ok h) = h
header_in d (Err r) = d

module _ (state rx store : List ℕ) (out : ℕ) where
  abbrev lent : Lent
  lent = lent_of state rx store

  abbrev fit : Bool
  fit = stores_fit (agreed_in state).config (length rx) (length store)

  -- why a call is admitted, or not
  data Tells : Result Header Refusal → Type 0 where
    broken : is_whole state ≡ false → Tells (Err BrokenState)
    short : is_whole state ≡ true → fit ≡ false → Tells (Err StoreShort)
    narrow : is_whole state ≡ true → fit ≡ true → ltb out 56 ≡ true → Tells (Err OutShort)
    goes : is_whole state ≡ true → fit ≡ true → ltb out 56 ≡ false → Tells (Ok (state_of state).header)

  tells : Tells (admitted_out state (length rx) (length store) out)
  unfolding admitted_out
  tells = pick Tells (is_whole state) (λ w. pick Tells fit (λ f. pick Tells (ltb out 56) (λ o. narrow w f o) (λ o. goes w f o)) (λ f. short w f)) (λ w. broken w)

  refused-by : (a : Result Header Refusal) (r : Refusal) (o : Outcome) → Tells a → a ≡ Err r → checked_out (is_whole state) lent out o ≡ untouched lent r
  unfolding checked_out checked
  refused-by a r o (broken w) e = cond-false (is_whole state) _ _ w ∙ ap (λ (x : Result Header Refusal). untouched lent (refusal_in x)) e
  refused-by a r o (short w f) e = cond-true (is_whole state) _ _ w ∙ cond-false fit _ _ f ∙ ap (λ (x : Result Header Refusal). untouched lent (refusal_in x)) e
  refused-by a r o (narrow w f n) e =
      cond-true (is_whole state) _ _ w ∙ cond-true fit _ _ f ∙ cond-true (ltb out 56) _ _ n ∙ ap (λ (x : Result Header Refusal). untouched lent (refusal_in x)) e
  refused-by a r o (goes w f n) e = absurd (true≢false (ap is_yes e))

  -- refused: nothing changes
  pub refused-leaves : (n : Negotiated) (x : Refusal) (o : Outcome) (outs buf : List ℕ) (a : Result Header Refusal) (r : Reply) → a ≡ admitted_out state (length rx) (length store) out → a ≡ Err x
      → r ≡ record { answer = Refused x; used = 0; written = 0 } → Leaves n (checked_out (is_whole state) lent out o) 0 state outs buf r state rx store outs buf
  refused-leaves n x o outs buf a r e f g =
      subst (λ (y : Outcome). Leaves n y 0 state outs buf r state rx store outs buf) (sym (refused-by _ x o tells (sym e ∙ f))) (untouched-leaves n lent x state outs buf r g)

  -- admitted: what is so then
  pub record Goes (h : Header) : Type 0 where
    pub header : h ≡ (state_of state).header
    pub is-whole : is_whole state ≡ true
    pub stores : fit ≡ true
    pub room : 56 ≤ out
    pub checked-is : (o : Outcome) → checked_out (is_whole state) lent out o ≡ o

  goes_by : (a : Result Header Refusal) (h : Header) → Tells a → a ≡ Ok h → Goes h
  unfolding checked_out checked
  goes_by a h (broken w) e = absurd (true≢false (sym (ap is_yes e)))
  goes_by a h (short w f) e = absurd (true≢false (sym (ap is_yes e)))
  goes_by a h (narrow w f n) e = absurd (true≢false (sym (ap is_yes e)))
  goes_by a h (goes w f n) e =
      record {
        header = sym (ap (header_in h) e);
        is-whole = w;
        stores = f;
        room = ltb-false out 56 n;
        checked-is = λ o. cond-true (is_whole state) _ _ w ∙ cond-true fit _ _ f ∙ cond-false (ltb out 56) _ _ n;
      }

  pub admitted-goes : (h : Header) (a : Result Header Refusal) → a ≡ admitted_out state (length rx) (length store) out → a ≡ Ok h → Goes h
  admitted-goes h a e f = goes_by _ h tells (sym e ∙ f)

  -- and what a step is then asked
  pub goes-admits : (h : Header) → Goes h → Bytes state → Admits state rx store out
  goes-admits h g y = record { state-fits = whole_long state g.is-whole; bytes = y; is-whole = g.is-whole; stores = g.stores; room = g.room }

  -- with what is pending dropped
  pub begins-is : (h k : Header) (a : Result Header Refusal) → a ≡ admitted_out state (length rx) (length store) out → a ≡ Ok h → Bytes state → k ≡ dropped h → Begins state rx store out k
  begins-is h k a e f y i = let g = admitted-goes h a e f in (goes-admits h g y, i ∙ ap dropped g.header)

  pub begins-state : (h : Header) → Begins state rx store out h → BeginsState state out h
  begins-state h g = (admits-state g.0, g.1)

  -- the step's promise is the call's
  pub goes-leaves : (n : Negotiated) (h : Header) (o : Outcome) (outs buf : List ℕ) (r : Reply) (state' rx' store' out' buf' : List ℕ) → Goes h
      → Leaves n o 0 state outs buf r state' rx' store' out' buf' → Leaves n (checked_out (is_whole state) lent out o) 0 state outs buf r state' rx' store' out' buf'
  goes-leaves n h o outs buf r state' rx' store' out' buf' g k =
      subst (λ (y : Outcome). Leaves n y 0 state outs buf r state' rx' store' out' buf') (sym (g.checked-is o)) k

-- calls with no outgoing buffer are checked as with one of 56 bytes
pub checked-wide : (whole : Bool) (l : Lent) (o : Outcome) → checked whole l o ≡ checked_out whole l 56 o
unfolding checked_out
checked-wide whole l o = refl
