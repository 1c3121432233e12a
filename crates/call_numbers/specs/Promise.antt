-- What the call for a channel's numbers promises. Assumes nothing.
use Rattle.std.specs.Prelude.{ℕ, cond, List, []}
use Rattle.slot.specs.declared.ChannelSlot.{ChannelSlot}
use Rattle.state_whole.specs.Whole.{is_whole}
use Rattle.table.specs.declared.ChannelId.{ChannelId}
use Rattle.table.specs.Table.{there_in, slot_in}
use Rattle.connection.specs.declared.Answer.{Answer}
use Rattle.connection.specs.declared.Answer.TheVariants.{Refused}
use Rattle.connection.specs.declared.Refusal.TheVariants.{ChannelClosed}
use Rattle.connection.specs.Calls.{numbers_in, numbers_outcome}
use Rattle.call.specs.declared.Reply.{Reply}
use Rattle.call.specs.Promise.{lent_of, agreed_in, Leaves}

-- the numbers of a channel of the first n slots, or 10
unfoldable pub numbers_of : ℕ → List ChannelSlot → ChannelId → Answer
numbers_of n ss ch = cond (there_in n ss ch) (numbers_in (slot_in ss ch.slot)) (Refused ChannelClosed)

-- what `numbers` promises: the state and both stores are only read
abbrev pub NumbersLeaves : List ℕ → List ℕ → List ℕ → ChannelId → Reply → Type 0
NumbersLeaves state rx store ch r =
    Leaves (agreed_in state) (numbers_outcome (is_whole state) (lent_of state rx store) ch) 0 state [] [] r state rx store [] []
