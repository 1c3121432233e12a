-- The slots of a state under changes. Assumes nothing.
use mathlib.Core.Path.{◌≡◌, refl, ◌∙◌}
use mathlib.Core.List.{List, [], ◌∷◌, ◌++◌}
use Prim.Native.Nat.{ℕ, ◌<◌}
use lib.ListN.{length, set, length-set}
use lib.Seq.{get_or-set_same, get_or-set_other}
use Rattle.slot.specs.declared.ChannelSlot.{ChannelSlot}
use Rattle.slot.specs.Slot.{empty_slot}
use Rattle.state.specs.Change.{Change, slot_to, header_to, queued_to, queue_to, changed, changed_all}
use Rattle.state.specs.State.{Connection}
use Rattle.table.specs.Table.{slot_in}

-- slots after some changes to a state
abbrev pub slots_by : List ChannelSlot → List Change → List ChannelSlot
slots_by ss [] = ss
slots_by ss (slot_to i s ∷ xs) = slots_by (set ss i s) xs
slots_by ss (header_to h ∷ xs) = slots_by ss xs
slots_by ss (queued_to i q ∷ xs) = slots_by ss xs
slots_by ss (queue_to qs ∷ xs) = slots_by ss xs

pub slots-by : (c : Connection) (xs : List Change) → (changed_all c xs).slots ≡ slots_by c.slots xs
slots-by c [] = refl
slots-by c (slot_to i s ∷ xs) = slots-by (changed c (slot_to i s)) xs
slots-by c (header_to h ∷ xs) = slots-by (changed c (header_to h)) xs
slots-by c (queued_to i q ∷ xs) = slots-by (changed c (queued_to i q)) xs
slots-by c (queue_to qs ∷ xs) = slots-by (changed c (queue_to qs)) xs

pub slots-append : (ss : List ChannelSlot) (xs ys : List Change) → slots_by ss (xs ++ ys) ≡ slots_by (slots_by ss xs) ys
slots-append ss [] ys = refl
slots-append ss (slot_to i s ∷ xs) ys = slots-append (set ss i s) xs ys
slots-append ss (header_to h ∷ xs) ys = slots-append ss xs ys
slots-append ss (queued_to i q ∷ xs) ys = slots-append ss xs ys
slots-append ss (queue_to qs ∷ xs) ys = slots-append ss xs ys

pub slots_length : (ss : List ChannelSlot) (xs : List Change) → length (slots_by ss xs) ≡ length ss
slots_length ss [] = refl
slots_length ss (slot_to i s ∷ xs) = slots_length (set ss i s) xs ∙ length-set ss i s
slots_length ss (header_to h ∷ xs) = slots_length ss xs
slots_length ss (queued_to i q ∷ xs) = slots_length ss xs
slots_length ss (queue_to qs ∷ xs) = slots_length ss xs

pub slot-set-same : (ss : List ChannelSlot) (i : ℕ) (t : ChannelSlot) → i < length ss → slot_in (set ss i t) i ≡ t
unfolding slot_in
slot-set-same ss i t h = get_or-set_same ss i t empty_slot h

pub slot-set-other : (ss : List ChannelSlot) (f i : ℕ) (t : ChannelSlot) → (i ≡ f → ⊥) → slot_in (set ss f t) i ≡ slot_in ss i
unfolding slot_in
slot-set-other ss f i t d = get_or-set_other ss f i t empty_slot d
