-- Answers to C as bytes: numbers of 64 bits at the start of a lent buffer (docs/ARCHITECTURE.md, "The C interface"). Assumes nothing.
use Rattle.std.specs.Prelude.{ℕ, ◌≡◌, ◌*◌, cond, List, [], ◌∷◌, ltb, Result, length}
use Rattle.std.specs.Result.{result_unwrap_or}
use Rattle.le.specs.Le.{num_of, bytes_of, put}
use Rattle.le.specs.Rows.{flat, rows}
use Rattle.refusal.specs.Refusal.{number_of}
use Rattle.refusal.specs.Written.{Composed}

-- the number of a call whose answer is too short
abbrev pub answer_short : ℕ
answer_short = 8

-- ---- what a call says

-- a call's number, the answer's bytes after it, and the numbers that they say
pub record Outcome : Type 0 where
  pub number : ℕ
  pub answer : List ℕ
  pub said : List ℕ

-- an answer of n numbers: 8 where it is too short, and it is not touched; else a number and what is said
unfoldable pub says : ℕ → List ℕ → ℕ → List ℕ → Outcome
says n answer number said =
    cond (ltb (length answer) (n * 8)) (record { number = answer_short; answer = answer; said = rows 8 num_of n answer })
    (record { number = number; answer = put answer 0 (flat (bytes_of 8) said); said = said })

-- what such a call promises: the number, every byte of the answer, and that these say the definition's n numbers (each is below 2^64)
pub record Says (n : ℕ) (o : Outcome) (r : ℕ) (answer : List ℕ) : Type 0 where
  pub number_is : r ≡ o.number
  pub answer-is : answer ≡ o.answer
  pub said-is : rows 8 num_of n answer ≡ o.said

-- ---- what a write says

-- a write's number, the outgoing bytes and the answer's after it, and the count that these say
pub record WriteOutcome : Type 0 where
  pub number : ℕ
  pub out : List ℕ
  pub answer : List ℕ
  pub said : List ℕ

module _ {E : Type 0} where
  -- bytes written, none where that was refused
  abbrev pub count_of : Result ℕ E → ℕ
  count_of w = result_unwrap_or w 0

  -- what writing gave, with its count in the answer
  unfoldable pub counted : (E → ℕ) → Composed E → List ℕ → WriteOutcome
  counted number o answer =
      record {
        number = number_of number o.result;
        out = o.out;
        answer = put answer 0 (bytes_of 8 (count_of o.result));
        said = count_of o.result ∷ [];
      }

  -- 8 for an answer under 8 bytes, and nothing is touched; else what the writer does to the outgoing bytes
  unfoldable pub writes : (E → ℕ) → Composed E → List ℕ → List ℕ → WriteOutcome
  writes number o out answer =
      cond (ltb (length answer) 8) (record { number = answer_short; out = out; answer = answer; said = rows 8 num_of 1 answer })
      (counted number o answer)

-- what a write promises: the number, every byte of out and of the answer, and that this says the definition's count
pub record WriteDoes (o : WriteOutcome) (r : ℕ) (out answer : List ℕ) : Type 0 where
  pub number_is : r ≡ o.number
  pub out-is : out ≡ o.out
  pub answer-is : answer ≡ o.answer
  pub said-is : rows 8 num_of 1 answer ≡ o.said
