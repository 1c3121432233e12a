-- What a console shows of one kind while a session's bytes arrive in pieces (proofs/Shown.antt). Assumes nothing.
use Rattle.std.specs.Prelude.{ℕ, cond, List, [], ◌∷◌, ◌++◌, eqb, drop}
use Rattle.stream.specs.Stream.{Reading, read_all}
use Rattle.shell.specs.Pieces.{Frame, receives}
use Rattle.console.specs.Gather.{of_kind, end_number, refusal_as_number, gathered}

-- the text so far, the bytes that are left, and why there is no more: 100, or a refusal's number
pub record Shown : Type 0 where
  pub text : List ℕ
  pub rest : List ℕ
  pub number : ℕ

-- before any byte
abbrev pub blank : Shown
blank = record { text = []; rest = []; number = 100 }

-- a caller of `gather` on bytes s: what was gathered goes behind the text, what is used goes
unfoldable pub goes_on : ℕ → List ℕ → List ℕ → Shown
goes_on wanted text s =
    record {
      text = text ++ of_kind wanted (read_all receives s).messages;
      rest = drop (gathered wanted s).used s;
      number = refusal_as_number (gathered wanted s).refusal;
    }

-- a piece more: gathered with the rest ahead of it; after a refusal it is only kept
unfoldable pub shows : ℕ → Shown → List ℕ → Shown
shows wanted k c =
    cond (eqb k.number 100) (goes_on wanted k.text (k.rest ++ c)) (record { text = k.text; rest = k.rest ++ c; number = k.number })

-- one piece after the other
unfoldable pub shows_all : ℕ → Shown → List (List ℕ) → Shown
shows_all wanted k [] = k
shows_all wanted k (c ∷ cs) = shows_all wanted (shows wanted k c) cs

-- what is to be shown of frames that were read
unfoldable pub shown_of : ℕ → Reading Frame → Shown
shown_of wanted q = record { text = of_kind wanted q.messages; rest = q.rest; number = end_number q.ending }
