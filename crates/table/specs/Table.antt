-- The channel table (channel_table.rs): the 64 slots of a state, of which the first `channels` are used. Assumes nothing.
use Rattle.refusal.specs.Refusal.{number_of}
use Rattle.std.specs.Prelude.{ℕ, suc, ◌+◌, ◌%◌, max, Bool, cond, not, ◌&&◌, List, [], ◌∷◌, take, ◌==◌, nat_lt, slice_index_or, Option, Some, None, Result, Ok, Err}
use Rattle.slot.specs.declared.ChannelSlot.{ChannelSlot}
use Rattle.slot.specs.Slot.{empty_slot, is_closed}
use Rattle.state.specs.declared.Header.{Header}
use Rattle.table.specs.declared.ChannelId.{ChannelId}
use Rattle.table.specs.declared.Want.{Want}
use Rattle.table.specs.declared.Want.TheVariants.{Empty, Local, Remote, Live}
use Rattle.table.specs.declared.NoFreeChannels.{NoFreeChannels}

-- the place of the first element that passes, or the length where none does
unfoldable pub first : {A : Type 0} → (A → Bool) → List A → ℕ
first p [] = 0
first p (x ∷ xs) = cond (p x) 0 (suc (first p xs))

-- a slot with no channel; one whose channel has our number; one whose channel has the device's; such a one that is not closed
unfoldable pub wanted_by : Want → ChannelSlot → Bool
wanted_by Empty s = not s.filled
wanted_by (Local n) s = s.filled && s.local.0 == n.0
wanted_by (Remote n) s = s.filled && s.has_remote && s.remote.0 == n.0
wanted_by (Live n) s = s.filled && s.has_remote && s.remote.0 == n.0 && not (is_closed s.state)

-- the lowest such place below n, or n
unfoldable pub place_of : Want → ℕ → List ChannelSlot → ℕ
place_of w n ss = first (wanted_by w) (take n ss)

-- a place below n, if it is one
unfoldable pub below : ℕ → ℕ → Option ℕ
below n i = cond (nat_lt i n) (Some i) None

-- how many elements pass
unfoldable pub count_of : {A : Type 0} → (A → Bool) → List A → ℕ
count_of p [] = 0
count_of p (x ∷ xs) = cond (p x) 1 0 + count_of p xs

-- slots that hold a channel
unfoldable pub in_use : ℕ → List ChannelSlot → ℕ
in_use n ss = count_of (λ (s : ChannelSlot). s.filled) (take n ss)

-- the number after n: a wrapping sum on 32 bits, 0 replaced by 1
unfoldable pub next_local_id : ℕ → ℕ
next_local_id n = max ((n + 1) % 0x1_0000_0000) 1

-- a header whose next number has moved on
abbrev pub numbered : Header → Header
numbered h = record { negotiated = h.negotiated; next_local = next_local_id h.next_local; pending = h.pending; queued = h.queued }

-- the lowest empty place and the next number, or none
unfoldable pub allocated : Header → List ChannelSlot → Result ChannelId NoFreeChannels
allocated h ss =
    cond (nat_lt (place_of Empty h.negotiated.config.channels ss) h.negotiated.config.channels)
    (Ok (record { slot = place_of Empty h.negotiated.config.channels ss; local = record { 0 = h.next_local } }))
    (Err (record {}))

-- the slot at a place
unfoldable pub slot_in : List ChannelSlot → ℕ → ChannelSlot
slot_in ss i = slice_index_or ss i empty_slot

-- 12: no slot is empty
abbrev pub allocated_number : Result ChannelId NoFreeChannels → ℕ
allocated_number = number_of (λ _. 12)

-- whether a channel is in the table of the first n slots: its place is below n, filled, and has its number
abbrev pub there_in : ℕ → List ChannelSlot → ChannelId → Bool
there_in n ss ch = nat_lt ch.slot n && wanted_by (Local ch.local) (slot_in ss ch.slot)
