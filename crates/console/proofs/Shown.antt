-- However a session's bytes are cut, a console shows the same. Assumes nothing.
--     shown-cut    pieces shown one after the other give what is to be shown of the whole
--     same-shown   so two lists of pieces that make up the same bytes show the same
use mathlib.Core.Path.{◌≡◌, refl, sym, ap, ◌∙◌}
use mathlib.Core.Bool.{false}
use mathlib.Core.List.{List, [], ◌∷◌, ◌++◌}
use Prim.Native.Nat.{ℕ}
use native.Mathlib.Omega.{arith}
use lib.Dec.{eqb}
use Rattle.stream.specs.Stream.{refused, End, more, stopped, Ends, Reading, joined, read_all, begun, fed_by, feed, feed_all}
use Rattle.stream.proofs.Cut.{rest-left, read-ends}
use Rattle.std.proofs.Common.{Some, None, Ok, Err}
use Rattle.shell.specs.declared.ReadError.TheVariants.{InvalidKind, EmptyExit}
use Rattle.shell.specs.Frame.{Read, read_frame}
use Rattle.shell.specs.Pieces.{Frame, answer_of, receives}
use Rattle.shell.proofs.Pieces.{stable, pieces}
use Rattle.console.specs.Gather.{of_kind, end_number, refusal_of, refusal_as_number, gathered_of, gathered}
use Rattle.console.specs.Shown.{Shown, blank, goes_on, shows, shows_all, shown_of}
use Rattle.console.proofs.GatherLaws.{of-kind-append}

-- a refusal is known by its number, which is not waiting's
record Known (n : ℕ) : Type 0 where
  other : eqb n 100 ≡ false
  again : refusal_as_number (refusal_of (stopped n)) ≡ n

known-by : (l : List ℕ) (r : Read) (number n : ℕ) → answer_of l r ≡ refused number n → Known number
unfolding answer_of refusal_of
known-by l (Ok None) number n e = let z : ◌≡◌ {A = ℕ} 0 1 = cc in absurd (omega arith)
known-by l (Ok (Some f)) number n e = let z : ◌≡◌ {A = ℕ} 0 1 = cc in absurd (omega arith)
known-by l (Err InvalidKind) number n e = let z : number ≡ 18 = cc in rw z (record { other = refl; again = refl })
known-by l (Err EmptyExit) number n e = let z : number ≡ 19 = cc in rw z (record { other = refl; again = refl })

plain : (l : List ℕ) → Ends Known (read_all receives l).ending
unfolding receives
plain l = read-ends receives stable Known (λ t number n e. known-by t (read_frame t) number n e) l

same-number : (e : End) → Ends Known e → refusal_as_number (refusal_of e) ≡ end_number e
unfolding refusal_of end_number Ends
same-number more h = refl
same-number (stopped n) h = h.again

-- a piece is shown as it is read
shows-by : (wanted : ℕ) (ms : List Frame) (rest c : List ℕ) (e : End) → Ends Known e
    → shows wanted (shown_of wanted (record { messages = ms; ending = e; rest = rest })) c ≡ shown_of wanted (feed receives (record { messages = ms; ending = e; rest = rest }) c)
unfolding shows goes_on shown_of end_number feed fed_by Ends gathered gathered_of
shows-by wanted ms rest c more h =
    let q = read_all receives (rest ++ c) in
    rw (of-kind-append wanted ms q.messages, rest-left receives stable (rest ++ c), same-number q.ending (plain (rest ++ c)))
shows-by wanted ms rest c (stopped n) h = rw h.other

feed-ends : (r : Reading Frame) (c : List ℕ) (e : End) → Ends Known e → Ends Known (fed_by receives r c e).ending
unfolding fed_by
feed-ends r c more h = plain (r.rest ++ c)
feed-ends r c (stopped n) h = h

all_shown : (wanted : ℕ) (r : Reading Frame) (cs : List (List ℕ)) → Ends Known r.ending
    → shows_all wanted (shown_of wanted r) cs ≡ shown_of wanted (feed_all receives r cs)
unfolding shows_all feed_all feed
all_shown wanted r [] h = refl
all_shown wanted r (c ∷ cs) h =
    ap (λ (k : Shown). shows_all wanted k cs) (shows-by wanted r.messages r.rest c r.ending h)
    ∙ all_shown wanted (feed receives r c) cs (feed-ends r c r.ending h)

begins : (wanted : ℕ) → blank ≡ shown_of wanted begun
unfolding shown_of begun of_kind end_number
begins wanted = refl

pub shown-cut : (wanted : ℕ) (cs : List (List ℕ)) → shows_all wanted blank cs ≡ shown_of wanted (read_all receives (joined cs))
unfolding begun Ends
shown-cut wanted cs =
    ap (λ (k : Shown). shows_all wanted k cs) (begins wanted) ∙ all_shown wanted begun cs tt ∙ ap (shown_of wanted) (pieces cs)

pub same-shown : (wanted : ℕ) (cs ds : List (List ℕ)) → joined cs ≡ joined ds → shows_all wanted blank cs ≡ shows_all wanted blank ds
same-shown wanted cs ds e =
    shown-cut wanted cs ∙ ap (λ (l : List ℕ). shown_of wanted (read_all receives l)) e ∙ sym (shown-cut wanted ds)
