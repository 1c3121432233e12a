-- A change to a state's bytes is the change to the state. Assumes nothing.
use mathlib.Core.Path.{◌≡◌, refl, sym, ap, ◌∙◌}
use mathlib.Core.Bool.{true}
use mathlib.Core.List.{List, [], ◌∷◌, ◌++◌}
use Prim.Native.Nat.{ℕ, ◌≤◌}
use native.Mathlib.Omega.{arith}
use lib.ListN.{length, drop, length-append, length-drop, length-set}
use Rattle.le.specs.Le.{Bytes}
use Rattle.state.specs.declared.QueuedOpen.{QueuedOpen}
use Rattle.le.specs.Rows.{flat}
use Rattle.state.specs.State.{queue_at, queued_len, slot_len, state_len, Connection, slot_bytes, queued_bytes, state_header, layout, state_of, is_state}
use Rattle.state.specs.Change.{Change, slot_to, header_to, queued_to, queue_to, changed, changed_all, put_change, put_all, put_queue, with_queue, InPlace, Step, Steps}
use Rattle.state.proofs.Fields.{length-slot, length-open, length-header}
use Rattle.le.proofs.RowLaws.{put-rows, length-flat, Every, every_set, every_append, every_drop}
use Rattle.state.proofs.StateLaws.{Full, state-full, Fits, SlotFits, HeaderFits, OpenFits, state-split, rows-forth, state-forth, state-fits, put-slot-layout, put-header-layout, put-queued-layout, layout-is-state}

-- the first of 64 are replaced: there are 64 still
opens-length : {A : Type 0} (qs x : List A) → length qs ≤ 64 → length x ≡ 64 → length (qs ++ drop (length qs) x) ≡ 64
opens-length qs x h e = simp (length-append, length-drop) (omega arith)

pub changed-full : (c : Connection) (x : Change) → Full c → InPlace x → Full (changed c x)
changed-full c (slot_to i s) f w = record { slots = length-set c.slots i s ∙ f.slots; queue = f.queue }
changed-full c (header_to h) f w = record { slots = f.slots; queue = f.queue }
changed-full c (queued_to i q) f w = record { slots = f.slots; queue = length-set c.queue i q ∙ f.queue }
changed-full c (queue_to qs) f w = record { slots = f.slots; queue = opens-length qs c.queue w f.queue }

pub full-all : (c : Connection) (xs : List Change) → Full c → Every InPlace xs → Full (changed_all c xs)
full-all c [] f w = f
full-all c (x ∷ xs) f w = full-all (changed c x) xs (changed-full c x f w.0) w.1

put-opens-layout : (c : Connection) (r : List ℕ) (qs : List QueuedOpen) → Full c → length qs ≤ 64 → put_queue (layout c ++ r) qs ≡ layout (with_queue c qs) ++ r
unfolding put_queue layout
put-opens-layout c r qs f h =
    let p = state_header c.header ++ flat slot_bytes c.slots in
    let n = f.slots in
    let k = f.queue in
    let a = length-header c.header in
    let b = length-flat slot_len slot_bytes length-slot c.slots in
    let m : length p ≡ queue_at = simp length-append (omega arith) in
    put-rows queued_len queued_bytes length-open p c.queue r queue_at qs (omega arith) m

pub change-layout : (c : Connection) (r : List ℕ) (x : Change) → Full c → InPlace x → put_change (layout c ++ r) x ≡ layout (changed c x) ++ r
change-layout c r (slot_to i s) f w = put-slot-layout c r i s (rw f.slots w)
change-layout c r (header_to h) f w = put-header-layout c r h
change-layout c r (queued_to i q) f w = put-queued-layout c r i q f.slots (rw f.queue w)
change-layout c r (queue_to qs) f w = put-opens-layout c r qs f w

-- changes to a layout are the layout of the changed record
pub changes-layout : (c : Connection) (r : List ℕ) (xs : List Change) → Full c → Every InPlace xs → put_all (layout c ++ r) xs ≡ layout (changed_all c xs) ++ r
changes-layout c r [] f w = refl
changes-layout c r (x ∷ xs) f w = rw (change-layout c r x f w.0) (changes-layout (changed c x) r xs (changed-full c x f w.0) w.1)

-- the same of bytes that are a state's: what a call's exported function says of its state
pub changes-bytes : (b : List ℕ) (xs : List Change) → Bytes b → is_state b ≡ true → Every InPlace xs → put_all b xs ≡ layout (changed_all (state_of b) xs) ++ drop state_len b
changes-bytes b xs y t w =
    ap (λ (l : List ℕ). put_all l xs) (sym (state-split b y t))
    ∙ changes-layout (state_of b) (drop state_len b) xs (state-full b) w

-- a change fits where what it puts does
abbrev pub ChangeFits : Change → Type 0
ChangeFits (slot_to i s) = SlotFits s
ChangeFits (header_to h) = HeaderFits h
ChangeFits (queued_to i q) = OpenFits q
ChangeFits (queue_to qs) = (length qs ≤ 64) × Every OpenFits qs

pub changed-fits : (c : Connection) (x : Change) → Fits c → ChangeFits x → Fits (changed c x)
changed-fits c (slot_to i s) f g =
    record { header = f.header; full = record { slots = length-set c.slots i s ∙ f.full.slots; queue = f.full.queue }; slots = every_set SlotFits c.slots i s f.slots g; queue = f.queue }
changed-fits c (header_to h) f g = record { header = g; full = record { slots = f.full.slots; queue = f.full.queue }; slots = f.slots; queue = f.queue }
changed-fits c (queued_to i q) f g =
    record { header = f.header; full = record { slots = f.full.slots; queue = length-set c.queue i q ∙ f.full.queue }; slots = f.slots; queue = every_set OpenFits c.queue i q f.queue g }
changed-fits c (queue_to qs) f g =
    record { header = f.header; full = record { slots = f.full.slots; queue = opens-length qs c.queue g.0 f.full.queue }; slots = f.slots; queue = every_append OpenFits qs (drop (length qs) c.queue) g.1 (every_drop OpenFits (length qs) c.queue f.queue) }

pub changes-fit : (c : Connection) (xs : List Change) → Fits c → Every ChangeFits xs → Fits (changed_all c xs)
changes-fit c [] f g = f
changes-fit c (x ∷ xs) f g = changes-fit (changed c x) xs (changed-fits c x f g.0) g.1

-- changes one behind the other
pub changes-append : (c : Connection) (xs ys : List Change) → changed_all c (xs ++ ys) ≡ changed_all (changed_all c xs) ys
changes-append c [] ys = refl
changes-append c (x ∷ xs) ys = changes-append (changed c x) xs ys

-- so the next call reads the state that this one left
pub next-state : (b : List ℕ) (xs : List Change) (r : List ℕ) → Bytes b → Every ChangeFits xs → state_of (layout (changed_all (state_of b) xs) ++ r) ≡ changed_all (state_of b) xs
next-state b xs r y g = state-forth (changed_all (state_of b) xs) r (changes-fit (state_of b) xs (state-fits b y) g)

-- and its bytes are a state's
pub next-is-state : (b : List ℕ) (xs : List Change) (r : List ℕ) → Every InPlace xs → is_state (layout (changed_all (state_of b) xs) ++ r) ≡ true
next-is-state b xs r w = layout-is-state (changed_all (state_of b) xs) r (full-all (state_of b) xs (state-full b) w)

-- a step's promise is that of a step that is the same
pub steps-by : {R : Type 0} (d e : Step R) (r : R) (before after : List ℕ) → d ≡ e → Steps e before r after → Steps d before r after
steps-by d e r before after h s =
    record { result-is = s.result-is ∙ sym (ap (λ x. x.result) h); state-is = s.state-is ∙ sym (ap (λ x. put_all before x.changes) h) }

-- slots and queued opens after some changes, read from the bytes
pub rows-after : (b : List ℕ) (xs : List Change) → Bytes b → is_state b ≡ true → Every InPlace xs → Every SlotFits (changed_all (state_of b) xs).slots → Every OpenFits (changed_all (state_of b) xs).queue
    → ((state_of (put_all b xs)).slots ≡ (changed_all (state_of b) xs).slots) × ((state_of (put_all b xs)).queue ≡ (changed_all (state_of b) xs).queue)
rows-after b xs y e k s o =
    let z = changes-bytes b xs y e k in
    let r = rows-forth (changed_all (state_of b) xs) (drop state_len b) (full-all (state_of b) xs (state-full b) k) s o in
    (ap (λ (x : List ℕ). (state_of x).slots) z ∙ r.0, ap (λ (x : List ℕ). (state_of x).queue) z ∙ r.1)
