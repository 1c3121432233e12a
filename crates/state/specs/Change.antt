-- What a step does to a state, once for the record and once for the bytes. Assumes nothing.
use Rattle.std.specs.Prelude.{ℕ, ◌≤◌, ◌<◌, ◌≡◌, List, [], ◌∷◌, ◌++◌, length, drop}
use Rattle.le.specs.Le.{put}
use Rattle.slot.specs.declared.ChannelSlot.{ChannelSlot}
use Rattle.state.specs.declared.Header.{Header}
use Rattle.state.specs.declared.QueuedOpen.{QueuedOpen}
use Rattle.le.specs.Rows.{flat}
use Rattle.state.specs.State.{queue_at, Connection, queued_bytes, put_slot, put_queued, put_header, with_slot, with_header, with_queued_at}

-- one slot, the header, one queued open, or the first of them
pub data Change : Type 0 where
  slot_to : ℕ → ChannelSlot → Change
  header_to : Header → Change
  queued_to : ℕ → QueuedOpen → Change
  queue_to : List QueuedOpen → Change

-- the first queued opens, in place
unfoldable pub put_queue : List ℕ → List QueuedOpen → List ℕ
put_queue b qs = put b queue_at (flat queued_bytes qs)

-- the first queued opens become these, the rest stay
abbrev pub with_queue : Connection → List QueuedOpen → Connection
with_queue c qs = record { header = c.header; slots = c.slots; queue = qs ++ drop (length qs) c.queue }

-- to the record
abbrev pub changed : Connection → Change → Connection
changed c (slot_to i s) = with_slot c i s
changed c (header_to h) = with_header c h
changed c (queued_to i q) = with_queued_at c i q
changed c (queue_to qs) = with_queue c qs

-- one change after the other
abbrev pub changed_all : Connection → List Change → Connection
changed_all c [] = c
changed_all c (x ∷ xs) = changed_all (changed c x) xs

-- to the bytes
abbrev pub put_change : List ℕ → Change → List ℕ
put_change b (slot_to i s) = put_slot b i s
put_change b (header_to h) = put_header b h
put_change b (queued_to i q) = put_queued b i q
put_change b (queue_to qs) = put_queue b qs

-- one change after the other
abbrev pub put_all : List ℕ → List Change → List ℕ
put_all b [] = b
put_all b (x ∷ xs) = put_all (put_change b x) xs

-- a change's places are among the 64
abbrev pub InPlace : Change → Type 0
InPlace (slot_to i s) = i < 64
InPlace (header_to h) = Unit {0}
InPlace (queued_to i q) = i < 64
InPlace (queue_to qs) = length qs ≤ 64

-- an answer, and what changes in the state
pub record Step (R : Type 0) : Type 0 where
  pub result : R
  pub changes : List Change

-- what a function promises that gives both: the answer, and every byte of the state
pub record Steps {R : Type 0} (s : Step R) (before : List ℕ) (r : R) (after : List ℕ) : Type 0 where
  pub result-is : r ≡ s.result
  pub state-is : after ≡ put_all before s.changes
