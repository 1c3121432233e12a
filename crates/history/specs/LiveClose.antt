-- A CLSE that leaves our number out goes to a live channel (docs/SCOPE.md, 4). Assumes nothing.
use Rattle.std.specs.Prelude.{ℕ, suc, ◌≤◌, ◌<◌, true, false, List, ◌≡◌, length, take}
use Rattle.le.specs.Le.{Bytes}
use Rattle.config.specs.Config.{stores_fit}
use Rattle.protocol.specs.declared.command.Command.TheVariants.{Close}
use Rattle.protocol.specs.declared.packet.Packet.{Packet}
use Rattle.protocol.specs.Packet.{decode_of}
use Rattle.slot.specs.declared.ids.RemoteId.{RemoteId}
use Rattle.slot.specs.Slot.{closed_slot}
use Rattle.state_whole.specs.Whole.{is_whole}
use Rattle.table.specs.declared.Want.TheVariants.{Live}
use Rattle.table.specs.Table.{wanted_by, count_of}
use Rattle.connection.specs.Answer.{answer_number}
use Rattle.history.specs.Run.{bytes_in, dispatch_call, World, lent, outcome, after}
use Rattle.history.specs.Demand3.{place_slot}
use Rattle.std.specs.Prelude.{Some, Ok}

-- how many channels have this remote number and are not closed
unfoldable pub live_count : World → RemoteId → ℕ
live_count w r = count_of (wanted_by (Live r)) (take (lent w).state.header.negotiated.config.channels (lent w).state.slots)

-- a CLSE of this remote number that leaves our number out, with a payload of this length
abbrev pub closing : RemoteId → ℕ → Packet
closing r len = record { command = Close; arg0 = r.0; arg1 = 0; data_length = len }

-- the lowest live channel of that number is closed, so that there is one fewer; all other slots and both stores stay
pub record ClosesLowest (w w' : World) (r : RemoteId) : Type 0 where
  pub place : ℕ
  pub live : wanted_by (Live r) (place_slot w place) ≡ true
  pub lowest : (j : ℕ) → j < place → wanted_by (Live r) (place_slot w j) ≡ false
  pub closed : place_slot w' place ≡ closed_slot (place_slot w place)
  pub others : (j : ℕ) → (j ≡ place → ⊥) → place_slot w' j ≡ place_slot w j
  pub fewer : suc (live_count w' r) ≡ live_count w r
  pub rx-same : w'.rx ≡ w.rx
  pub store_same : w'.store ≡ w.store

-- on every whole state, where a channel of that number, which is not 0, is live at some place, and the call is not refused
abbrev pub ClseGoesLive : Type 0
ClseGoesLive =
    (w : World) (out received : List ℕ) (r : RemoteId) (len i : ℕ) → Bytes w.state → is_whole w.state ≡ true
    → stores_fit (lent w).state.header.negotiated.config (length w.rx) (length w.store) ≡ true → 56 ≤ length out
    → decode_of (bytes_in received) (lent w).state.header.negotiated.config.max_payload ≡ Ok (Some (closing r len)) → (r.0 ≡ 0 → ⊥)
    → wanted_by (Live r) (place_slot w i) ≡ true
    → ClosesLowest w (after w (dispatch_call out received)) r × (answer_number (outcome w (dispatch_call out received)).answer ≡ 0)
