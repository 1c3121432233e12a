-- The numbers of a slot's answers (docs/SCOPE.md, 6): a refusal's own, 0 for none, 100 for waiting, 101 for nothing there.
-- Assumes nothing.
use Rattle.std.specs.Prelude.{ℕ, Option, Result}
use Rattle.refusal.specs.Refusal.{number_of, found_number_of, there_number_of}
use Rattle.credit.specs.Credit.{credit_fault_number}
use Rattle.slot.specs.declared.ChannelFault.{ChannelFault}
use Rattle.slot.specs.declared.ChannelFault.TheVariants.{RxOverflow, BadCredit, UnexpectedCommand}
use Rattle.slot.specs.declared.ChannelError.{ChannelError}
use Rattle.slot.specs.declared.ChannelError.TheVariants.{Closed, Fault}
use Rattle.slot.specs.declared.ChannelSlot.{ChannelSlot}
use Rattle.slot.specs.declared.Settled.{Settled}
use Rattle.credit.specs.declared.CreditFault.{CreditFault}

-- 11, a credit's own, and 6
abbrev pub fault_number : ChannelFault → ℕ
fault_number RxOverflow = 11
fault_number (BadCredit f) = credit_fault_number f
fault_number UnexpectedCommand = 6

-- 10: closed
abbrev pub error_number : ChannelError → ℕ
error_number Closed = 10
error_number (Fault f) = fault_number f

-- 5, 20 or 21: an OKAY whose credit is refused
abbrev pub readied_number : Result ChannelSlot CreditFault → ℕ
readied_number = number_of credit_fault_number

-- 11: over the cap; 6: a WRTE for a channel still opening
abbrev pub decision_number : Result Settled ChannelFault → ℕ
decision_number = number_of fault_number

-- 101: nothing is buffered
abbrev pub taken_number : Result (Option (ChannelSlot × ℕ)) ChannelError → ℕ
taken_number = found_number_of error_number 101

-- 100: nothing may be sent now
abbrev pub budget_number : Option ℕ → ℕ
budget_number = there_number_of 100
