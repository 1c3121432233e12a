-- The credit of a delayed OKAY (docs/SCOPE.md, 4; delayed_ack.md; slot.rs, `parse_ready_credit`). Assumes nothing.
use Rattle.std.specs.Prelude.{ℕ, cond, List, ltb, ℤ, pos, negsuc, length}
use Rattle.le.specs.Le.{num_of, signed, part}
use Rattle.refusal.specs.Refusal.{number_of}
use Rattle.credit.specs.declared.CreditFault.{CreditFault}
use Rattle.credit.specs.declared.CreditFault.TheVariants.{Short, Long, Negative}
use Rattle.std.specs.Prelude.{Result, Ok, Err}

-- a credit is at least 0: refusal 21
unfoldable pub at_least_zero : ℤ → Result ℤ CreditFault
at_least_zero (pos n) = Ok (pos n)
at_least_zero (negsuc n) = Err Negative

-- four bytes as a signed number, at least 0; under four bytes: refusal 5; over four: 20
unfoldable pub credit_of : List ℕ → Result ℤ CreditFault
credit_of payload =
    cond (ltb (length payload) 4) (Err Short) (cond (ltb 4 (length payload)) (Err Long) (at_least_zero (signed 31 (num_of (part payload 0 4)))))

-- 5: under four bytes; 20: over four; 21: below 0
abbrev pub credit_fault_number : CreditFault → ℕ
credit_fault_number Short = 5
credit_fault_number Long = 20
credit_fault_number Negative = 21

-- the number of an answer: a refusal's own, 0 for a credit
abbrev pub credit_number : Result ℤ CreditFault → ℕ
credit_number = number_of credit_fault_number
