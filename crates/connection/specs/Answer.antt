-- The numbers and values of answers (docs/SCOPE.md, 6; docs/LAYOUT.md, "The answer"). Assumes nothing.
use Rattle.std.specs.Prelude.{ℕ, cond, List, [], ◌∷◌, Option, Some, None}
use Rattle.connection.specs.declared.Answer.{Answer}
use Rattle.connection.specs.declared.Answer.TheVariants.{Done, Waiting, Nothing, Opened, Settled, Read, Written, Front, Numbers, Refused}
use Rattle.credit.specs.Credit.{credit_fault_number}
use Rattle.connection.specs.declared.Refusal.{Refusal}
use Rattle.connection.specs.declared.Refusal.TheVariants.{InvalidCommand, InvalidMagic, PayloadTooLarge, InvalidChecksum, BadCredit, UnexpectedCommand, BadConfig, StoreShort, OutShort, ChannelClosed, ChannelRxOverflow, NoFreeChannels, BrokenState}

-- a refusal's number
abbrev pub refusal_number : Refusal → ℕ
refusal_number (InvalidCommand word) = 1
refusal_number InvalidMagic = 2
refusal_number PayloadTooLarge = 3
refusal_number InvalidChecksum = 4
refusal_number (BadCredit f) = credit_fault_number f
refusal_number UnexpectedCommand = 6
refusal_number BadConfig = 7
refusal_number StoreShort = 8
refusal_number OutShort = 9
refusal_number ChannelClosed = 10
refusal_number ChannelRxOverflow = 11
refusal_number NoFreeChannels = 12
refusal_number BrokenState = 13

-- 0 for a call that is done, a refusal's own, 100 for waiting, 101 for nothing there, 102 for the numbers of a closed channel
unfoldable pub answer_number : Answer → ℕ
answer_number Done = 0
answer_number Waiting = 100
answer_number Nothing = 101
answer_number (Opened ch) = 0
answer_number (Settled ack) = 0
answer_number (Read n) = 0
answer_number (Written n) = 0
answer_number (Front remote credit place len) = 0
answer_number (Numbers closed total buffered unacked budget) = cond closed 102 0
answer_number (Refused refusal) = refusal_number refusal

-- the length acknowledged, 0 for none
unfoldable pub ack_length : Option ℕ → ℕ
ack_length (Some n) = n
ack_length None = 0

-- refusal 1 gives the word
unfoldable pub refusal_word : Refusal → ℕ
refusal_word (InvalidCommand word) = word
refusal_word InvalidMagic = 0
refusal_word PayloadTooLarge = 0
refusal_word InvalidChecksum = 0
refusal_word (BadCredit f) = 0
refusal_word UnexpectedCommand = 0
refusal_word BadConfig = 0
refusal_word StoreShort = 0
refusal_word OutShort = 0
refusal_word ChannelClosed = 0
refusal_word ChannelRxOverflow = 0
refusal_word NoFreeChannels = 0
refusal_word BrokenState = 0

-- an answer's four values, 0 where unused
unfoldable pub answer_values : Answer → List ℕ
answer_values Done = 0 ∷ 0 ∷ 0 ∷ 0 ∷ []
answer_values Waiting = 0 ∷ 0 ∷ 0 ∷ 0 ∷ []
answer_values Nothing = 0 ∷ 0 ∷ 0 ∷ 0 ∷ []
answer_values (Opened ch) = ch.slot ∷ ch.local.0 ∷ 0 ∷ 0 ∷ []
answer_values (Settled ack) = ack_length ack ∷ 0 ∷ 0 ∷ 0 ∷ []
answer_values (Read n) = n ∷ 0 ∷ 0 ∷ 0 ∷ []
answer_values (Written n) = n ∷ 0 ∷ 0 ∷ 0 ∷ []
answer_values (Front remote credit place len) = remote.0 ∷ credit ∷ place ∷ len ∷ []
answer_values (Numbers closed total buffered unacked budget) = total ∷ buffered ∷ unacked ∷ budget ∷ []
answer_values (Refused refusal) = refusal_word refusal ∷ 0 ∷ 0 ∷ 0 ∷ []
