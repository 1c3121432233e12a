-- Outgoing frames (docs/SCOPE.md, 2; wire.rs and packet.rs). Assumes nothing.
use Rattle.std.specs.Prelude.{ℕ, Bool, true, false, cond, List, [], Option, Some, None}
use Rattle.le.specs.Le.{bytes_of}
use Rattle.checksum.specs.declared.Checksum.{Checksum}
use Rattle.protocol.specs.declared.command.Command.TheVariants.{Open, Ready, Close, Write}
use Rattle.protocol.specs.Packet.{frame_for}
use Rattle.slot.specs.declared.ids.LocalId.{LocalId}
use Rattle.slot.specs.declared.ids.ChannelIds.{ChannelIds}

-- an OKAY's payload: the acknowledged length where acknowledgements are delayed, nothing otherwise
unfoldable pub credit_bytes : Bool → ℕ → List ℕ
credit_bytes delayed n = cond delayed (bytes_of 4 n) []

-- the OKAY of a channel
unfoldable pub okay_bytes : ChannelIds → Bool → ℕ → Checksum → List ℕ
okay_bytes ids delayed n k = frame_for Ready ids.local.0 ids.remote.0 (credit_bytes delayed n) k

-- the same, with the length where acknowledgements are delayed
abbrev pub okay_with : ChannelIds → Option ℕ → Checksum → List ℕ
okay_with ids (Some n) k = okay_bytes ids true n k
okay_with ids None k = okay_bytes ids false 0 k

-- the CLSE of a channel
unfoldable pub close_bytes : ChannelIds → Checksum → List ℕ
close_bytes ids k = frame_for Close ids.local.0 ids.remote.0 [] k

-- an OPEN, with our credit for the device
abbrev pub open_bytes : LocalId → ℕ → List ℕ → Checksum → List ℕ
open_bytes local credit destination k = frame_for Open local.0 credit destination k

-- a WRTE of a channel
abbrev pub write_bytes : ChannelIds → List ℕ → Checksum → List ℕ
write_bytes ids bytes k = frame_for Write ids.local.0 ids.remote.0 bytes k
