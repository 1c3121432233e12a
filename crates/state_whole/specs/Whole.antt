-- What makes a state whole: refusal 13's list in docs/SCOPE.md, 6, and nothing else. Assumes nothing.
use Rattle.std.specs.Prelude.{ℕ, zero, suc, ◌≤◌, Bool, true, false, not, cond, ◌&&◌, List, [], ◌∷◌, leb, ltb, eqb, ◌≡◌, get_or, take, drop}
use Rattle.config.specs.Config.{within_limits, Within, cap_of}
use Rattle.slot.specs.declared.ChannelSlot.{ChannelSlot}
use Rattle.slot.specs.Slot.{empty_slot, is_opening, is_failed, slot_ok}
use Rattle.state.specs.declared.Header.{Header}
use Rattle.state.specs.declared.QueuedOpen.{QueuedOpen}
use Rattle.state.specs.State.{header_len, slot_len, Connection, is_ours, is_offer, none_queued, slot_of, is_slot, is_state, state_of}

-- a filled slot is not opening, not failed, has its remote number, and its numbers are within its share
unfoldable pub filled_ok : ChannelSlot → ℕ → Bool
filled_ok s cap = not (is_opening s.state) && not (is_failed s.failed) && s.has_remote && slot_ok s cap

-- a slot at place i: empty, or below channels and as a filled slot is
unfoldable pub slot_fine : ℕ → ℕ → ℕ → ChannelSlot → Bool
slot_fine channels cap i s = cond s.filled (ltb i channels && filled_ok s cap) true

-- every slot from place i on
unfoldable pub slots_fine : ℕ → ℕ → ℕ → List ChannelSlot → Bool
slots_fine channels cap i [] = true
slots_fine channels cap i (s ∷ ss) = slot_fine channels cap i s && slots_fine channels cap (suc i) ss

-- a row of the table: it is a slot's bytes, and the slot may stand at place i
unfoldable pub row_fine : ℕ → ℕ → ℕ → List ℕ → Bool
row_fine channels cap i l = is_slot l && slot_fine channels cap i (slot_of l)

-- n rows from place i on, in one pass
unfoldable pub rows_fine : ℕ → ℕ → ℕ → ℕ → List ℕ → Bool
rows_fine channels cap i zero l = true
rows_fine channels cap i (suc n) l = row_fine channels cap i (take slot_len l) && rows_fine channels cap (suc i) n (drop slot_len l)

-- a queued open: its destination within max_payload, its share one of the store's
unfoldable pub queued_fine : ℕ → ℕ → QueuedOpen → Bool
queued_fine channels payload q = leb q.length payload && ltb q.share channels

-- every one of some queued opens
unfoldable pub queue_fine : ℕ → ℕ → List QueuedOpen → Bool
queue_fine channels payload [] = true
queue_fine channels payload (q ∷ qs) = queued_fine channels payload q && queue_fine channels payload qs

-- a pending open: its place is below channels and empty
unfoldable pub pending_fine : Header → Bool → Bool
pending_fine h filled = cond (is_ours h.pending.what) (ltb h.pending.slot h.negotiated.config.channels && not filled) true

-- an offer, whose entry stands behind those that are queued: as one more queued open
unfoldable pub offer_fine : Header → List QueuedOpen → Bool
offer_fine h queue =
    cond (is_offer h.pending.what)
    (ltb h.queued h.negotiated.config.channels
    && queued_fine h.negotiated.config.channels h.negotiated.config.max_payload (get_or queue h.queued none_queued))
    true

-- what is queued, and an offer
unfoldable pub opens_fine : Header → List QueuedOpen → Bool
opens_fine h queue =
    queue_fine h.negotiated.config.channels h.negotiated.config.max_payload (take h.queued queue) && offer_fine h queue

-- limits and negotiated values kept, a next number that is not 0, no more opens than channels
unfoldable pub header_fine : Header → Bool
header_fine h =
    within_limits h.negotiated.config && leb h.negotiated.max_payload 1_048_576 && leb h.negotiated.protocol_version 0x0100_0001
    && not (eqb h.next_local 0) && leb h.queued h.negotiated.config.channels

-- whether the slot at a place is filled
unfoldable pub filled_at : List ChannelSlot → ℕ → Bool
filled_at [] i = false
filled_at (s ∷ ss) zero = s.filled
filled_at (s ∷ ss) (suc i) = filled_at ss i

-- what a fine header says, as facts
pub record HeaderOk (h : Header) : Type 0 where
  pub within : Within h.negotiated.config
  pub queue-fits : h.queued ≤ h.negotiated.config.channels

-- what is left once the header is fine, in one pass
unfoldable pub rest_whole : Header → List ℕ → Bool
rest_whole h b =
    rows_fine h.negotiated.config.channels (cap_of h.negotiated.config) 0 64 (drop header_len b)
    && pending_fine h (filled_at (state_of b).slots h.pending.slot)
    && opens_fine h (state_of b).queue

-- a whole state
unfoldable pub whole : Connection → Bool
whole c =
    header_fine c.header && slots_fine c.header.negotiated.config.channels (cap_of c.header.negotiated.config) 0 c.slots
    && pending_fine c.header (filled_at c.slots c.header.pending.slot)
    && opens_fine c.header c.queue

-- bytes that are a whole state: all else is refused by 13
unfoldable pub is_whole : List ℕ → Bool
is_whole b = is_state b && whole (state_of b)

-- ---- the counts of a filled slot, which have 32 bits: what 13 lets pass

-- twice the largest cap
abbrev pub most_count : ℕ
most_count = 33_554_432

-- none of them passes it
pub record CountsWithin (s : ChannelSlot) : Type 0 where
  pub buffered : s.buffered ≤ most_count
  pub settled : s.settled ≤ most_count
  pub head : s.head ≤ most_count

-- in each filled slot of bytes that are a whole state
abbrev pub CountsBounded : List ℕ → Type 0
CountsBounded b = is_whole b ≡ true → (i : ℕ) → (get_or (state_of b).slots i empty_slot).filled ≡ true → CountsWithin (get_or (state_of b).slots i empty_slot)
