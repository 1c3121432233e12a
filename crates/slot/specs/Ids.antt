-- The numbers of a channel (docs/SCOPE.md, 4; ids.rs). Assumes nothing.
use Rattle.std.specs.Prelude.{ℕ, Bool, true, false, cond, eqb}
use Rattle.protocol.specs.Command.{is_close}
use Rattle.protocol.specs.declared.packet.Packet.{Packet}
use Rattle.slot.specs.declared.ids.ChannelIds.{ChannelIds}

-- arg1 is our number, or it is 0 and arg0 is the device's
unfoldable pub named_by : ChannelIds → ℕ → ℕ → Bool
named_by ids a b = cond (eqb b ids.local.0) true (cond (eqb b 0) (eqb a ids.remote.0) false)

-- the packet is a CLSE that names the channel
unfoldable pub closed_by : ChannelIds → Packet → Bool
closed_by ids p = cond (is_close p.command) (named_by ids p.arg0 p.arg1) false
