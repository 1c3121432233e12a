-- A run of slots as its holder lends it. Assumes nothing.
use Rattle.std.specs.Prelude.{ℕ, List}
use Rattle.slot.specs.declared.ChannelSlot.{ChannelSlot}
use Rattle.table.specs.Table.{count_of}

-- slots that hold a channel: `table`'s count, of the whole run
unfoldable pub filled_in : List ChannelSlot → ℕ
filled_in ss = count_of (λ (s : ChannelSlot). s.filled) ss
