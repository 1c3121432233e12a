-- What `adb_stretch` leaves (docs/SCOPE.md, 14). State and stores are lent to be looked at. Assumes nothing.
use Rattle.std.specs.Prelude.{ℕ, ◌≡◌, Bool, true, cond, List, ◌∷◌, length, Option, Result}
use Rattle.le.specs.Le.{bytes_of, put}
use Rattle.le.specs.Rows.{flat}
use Rattle.call_stretch.specs.Promise.{stretched_number, stretched_values, is_refused, stretch_of, Spares}
use Rattle.call_answer.specs.Answer.{said_in}
use Rattle.adb.specs.Export.{is_short}
use Rattle.connection.specs.declared.Refusal.{Refusal}
use Rattle.stretch.specs.declared.Stretch.{Stretch}

-- the number, the answer's bytes and what they say, and whether the call was refused
pub record Found : Type 0 where
  pub number : ℕ
  pub answer : List ℕ
  pub said : List ℕ
  pub refused : Bool

-- an answer's six numbers: 0 used, 0 written, then the first frame's place and the count
abbrev pub found_numbers : Result (Option Stretch) Refusal → List ℕ
found_numbers s = 0 ∷ 0 ∷ stretched_values s

-- what is answered for a stretch, for none, or for a refusal
unfoldable pub answered_by : Result (Option Stretch) Refusal → List ℕ → Found
answered_by s answer =
    record { number = stretched_number s; answer = put answer 0 (flat (bytes_of 8) (found_numbers s)); said = found_numbers s; refused = is_refused s }

-- 8, ahead of every other refusal, and nothing is touched; else the call
unfoldable pub stretch_found : List ℕ → List ℕ → List ℕ → List ℕ → ℕ → ℕ → List ℕ → Found
stretch_found state rx opens received spare_rx spare_opens answer =
    cond (is_short (length state) (length answer)) (record { number = 8; answer = answer; said = said_in answer; refused = true })
    (answered_by (stretch_of state rx opens received spare_rx spare_opens) answer)

-- what the exported function promises: the number, every byte of the answer, and what is kept of the spare stores
pub record Stretches (f : Found) (rx opens : ℕ) (spare_rx spare_opens : List ℕ) (r : ℕ) (spare_rx₂ spare_opens₂ answer : List ℕ) : Type 0 where
  pub number_is : r ≡ f.number
  pub answer-is : answer ≡ f.answer
  pub said-is : said_in answer ≡ f.said
  pub rx-spared : Spares rx f.refused spare_rx spare_rx₂
  pub opens-spared : Spares opens f.refused spare_opens spare_opens₂

-- what `adb_stretch` promises
abbrev pub AdbStretchDoes : List ℕ → List ℕ → List ℕ → List ℕ → List ℕ → List ℕ → List ℕ → ℕ → List ℕ → List ℕ → List ℕ → Type 0
AdbStretchDoes state rx opens received spare_rx spare_opens answer r spare_rx₂ spare_opens₂ answer₂ =
    Stretches (stretch_found state rx opens received (length spare_rx) (length spare_opens) answer) (length rx) (length opens) spare_rx spare_opens r spare_rx₂ spare_opens₂ answer₂
