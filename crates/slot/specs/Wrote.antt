-- What a WRTE leaves. Assumes nothing.
use Rattle.std.specs.Prelude.{Result, Ok, Err}
use Rattle.slot.specs.declared.ChannelFault.{ChannelFault}
use Rattle.slot.specs.declared.ChannelSlot.{ChannelSlot}
use Rattle.slot.specs.declared.Settled.{Settled}

-- the slot and its acknowledgement, or why the WRTE is refused
abbrev pub Wrote : Type 0
Wrote = Result Settled ChannelFault

-- the slot afterwards: a WRTE that is refused leaves it as it is
abbrev pub left_by : ChannelSlot → Wrote → ChannelSlot
left_by s (Ok w) = w.slot
left_by s (Err f) = s
