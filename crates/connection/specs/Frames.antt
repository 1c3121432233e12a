-- Frames that a call writes, one after the other from the outgoing buffer's start. Assumes nothing.
use Rattle.std.specs.Prelude.{ℕ, List}
use Rattle.config.specs.declared.negotiated.Negotiated.{Negotiated}
use Rattle.protocol.specs.declared.command.Command.{Command}
use Rattle.checksum.specs.Checksum.{policy_for}
use Rattle.slot.specs.declared.ids.ChannelIds.{ChannelIds}
use Rattle.slot.specs.declared.ids.LocalId.{LocalId}
use Rattle.le.specs.Rows.{flat}
use Rattle.wire.specs.Wire.{okay_bytes, close_bytes, open_bytes, write_bytes}

-- an OKAY with the length acknowledged, a CLSE, an OPEN with its credit and destination, a WRTE
pub data Frame : Type 0 where
  okay_frame : ChannelIds → ℕ → Frame
  close_frame : ChannelIds → Frame
  open_frame : LocalId → ℕ → List ℕ → Frame
  write_frame : ChannelIds → List ℕ → Frame

-- a frame as its receiver sees it
pub record Sent : Type 0 where
  pub command : Command
  pub arg0 : ℕ
  pub arg1 : ℕ
  pub payload : List ℕ

-- its bytes; the check is left out by the version
unfoldable pub frame_bytes : Negotiated → Frame → List ℕ
frame_bytes n (okay_frame ids len) = okay_bytes ids n.delayed_ack len (policy_for n.protocol_version)
frame_bytes n (close_frame ids) = close_bytes ids (policy_for n.protocol_version)
frame_bytes n (open_frame local credit destination) = open_bytes local credit destination (policy_for n.protocol_version)
frame_bytes n (write_frame ids bytes) = write_bytes ids bytes (policy_for n.protocol_version)

-- all of them
unfoldable pub frames_bytes : Negotiated → List Frame → List ℕ
frames_bytes n fs = flat (frame_bytes n) fs
