-- Demand 3: one statement over every list of calls (docs/SCOPE.md, 7 and 8). Assumes nothing.
use Rattle.std.specs.Prelude.{ℕ, ◌+◌, ◌-◌, ◌^◌, ◌≤◌, ◌<◌, min, true, false, List, [], ◌∷◌, ◌++◌, ◌≡◌, pos, length}
use Rattle.protocol.specs.Command.{is_ready}
use Rattle.le.specs.Le.{part}
use Rattle.config.specs.declared.negotiated.RxPolicy.{RxPolicy}
use Rattle.slot.specs.declared.ChannelSlot.{ChannelSlot}
use Rattle.credit.specs.Credit.{credit_of}
use Rattle.state.specs.State.{state_of}
use Rattle.table.specs.Table.{slot_in}
use Rattle.rx_store.specs.RxStore.{share_of}
use Rattle.connection.specs.Frames.{Sent}
use Rattle.history.specs.Run.{Call, received_in, World, after, after_all, Start, begins, policy_in}
use Rattle.history.specs.Seen.{said_by, count_of, Event, seen_of, events_of}
use Rattle.history.specs.Book.{Book, credit_in, header_at, is_wrte, Ledger, clean, book_at, entry, ledger_of}
use Rattle.protocol.specs.Message.{message_size}
use Rattle.std.specs.Prelude.{Ok}

-- the slot at a place
abbrev pub place_slot : World → ℕ → ChannelSlot
place_slot w i = slot_in (state_of w.state).slots i

-- the bytes that its numbers name in its share of the receive store
unfoldable pub run_of : List ℕ → ℕ → ℕ → ChannelSlot → List ℕ
run_of rx cap i s = part (share_of rx cap i) s.head s.buffered

-- no two channels in the table share a local number
abbrev pub Distinct : World → Type 0
Distinct w = (i j : ℕ) → (place_slot w i).filled ≡ true → (place_slot w j).filled ≡ true → (place_slot w i).local.0 ≡ (place_slot w j).local.0 → i ≡ j

-- asked after every call
unfoldable pub Apart : World → List Call → Type 0
Apart w [] = Unit {0}
Apart w (c ∷ cs) = Distinct (after w c) × Apart (after w c) cs

-- what is claimed of a channel in the table; buffered: the bytes that its slot's numbers name
pub record Claim (p : RxPolicy) (s : ChannelSlot) (buffered : List ℕ) (b : Book) : Type 0 where
  -- each byte reaches its reader exactly, in order, once
  pub exact : b.handed ++ buffered ≡ b.accepted
  -- credit adds up, while under 2^64 bytes were accepted
  pub sum : p.delayed ≡ true → b.closed ≡ false → length b.accepted < 2 ^ 64 → length b.accepted ≡ b.acked + s.unacked
  pub aside : p.delayed ≡ true → b.closed ≡ false → b.aside ≡ s.settled
  pub most : p.delayed ≡ true → b.closed ≡ false → b.acked ≤ length b.handed + b.aside
  -- a device that keeps its rule never meets refusal 11
  pub never11 : p.delayed ≡ true → b.kept ≡ true → b.over ≡ false

-- and of a place: the book says that a channel is there exactly where the slot is filled
pub record Place (p : RxPolicy) (s : ChannelSlot) (buffered : List ℕ) (b : Book) : Type 0 where
  pub there : b.there ≡ s.filled
  pub claim : b.there ≡ true → Claim p s buffered b
  -- the slot's total is the credit in the OKAYs of its channel, closed or not, and of its last one after our close; it stops at the
  -- largest value. In the plain mode it is 0
  pub total : p.delayed ≡ true → s.acked_total ≡ min b.acked (2 ^ 64 - 1)
  pub plain : p.delayed ≡ false → s.acked_total ≡ 0

-- ---- what is claimed of each call

-- the lengths of frames together
unfoldable pub size_of : List Sent → ℕ
size_of [] = 0
size_of (f ∷ fs) = message_size + length f.payload + size_of fs

-- an OKAY reads, as the signed number that it is, as what the book adds; in the plain mode it carries none
pub record Reads (p : RxPolicy) (f : Sent) : Type 0 where
  pub signed : is_ready f.command ≡ true → p.delayed ≡ true → credit_of f.payload ≡ Ok (pos (credit_in f.payload))
  pub bare : is_ready f.command ≡ true → p.delayed ≡ false → f.payload ≡ []

-- so do all
abbrev pub AllRead : RxPolicy → List Sent → Type 0
AllRead p [] = Unit {0}
AllRead p (f ∷ fs) = Reads p f × AllRead p fs

-- an 11 does not go unseen: l is the ledger before the call, m the one after it
pub record Noted (p : RxPolicy) (l m : Ledger) (e : Event) : Type 0 where
  -- the call used a WRTE that carries the local number of a channel that is there
  pub place : ℕ
  pub there : (book_at l place).there ≡ true
  pub used : e.held.used ≡ 0 → ⊥
  pub write : is_wrte (header_at (received_in e.call)) ≡ true
  pub named : (header_at (received_in e.call)).arg1 ≡ (book_at l place).local
  -- it is there after the call too; its book has the 11, and in delayed mode that the device broke its rule
  pub stays : (book_at m place).there ≡ true
  pub over : (book_at m place).over ≡ true
  pub broke : p.delayed ≡ true → (book_at m place).kept ≡ false

-- what is claimed of a call
pub record Told (p : RxPolicy) (l : Ledger) (e : Event) : Type 0 where
  -- the bytes that the answer counts are within the reader's buffer
  pub counted : count_of e.call (said_by e.held).number (said_by e.held).values ≤ length e.held.buf
  -- the bytes written are within the outgoing buffer, and exactly the frames that are read from them, at most two
  pub within : (said_by e.held).written ≤ length e.held.out
  pub frames : size_of (seen_of e).sent ≡ (said_by e.held).written
  pub okays : AllRead p (seen_of e).sent
  pub noted : e.held.number ≡ 11 → Noted p l (entry p e.call (seen_of e) l) e

-- and of every call of a list
abbrev pub AllTold : RxPolicy → Ledger → List Event → Type 0
AllTold p l [] = Unit {0}
AllTold p l (e ∷ es) = Told p l e × AllTold p (entry p e.call (seen_of e) l) es

-- ---- demand 3

-- what is claimed of a list of calls that left w
pub record Claims (p : RxPolicy) (w : World) (es : List Event) : Type 0 where
  pub places : (i : ℕ) → Place p (place_slot w i) (run_of w.rx p.rx_cap i (place_slot w i)) (book_at (ledger_of p clean es) i)
  pub calls : AllTold p clean es

-- for every make that is not refused and all lists of calls in which no two channels share a local number
abbrev pub Demand3 : Type 0
Demand3 = (s : Start) (cs : List Call) → Apart (begins s) cs → Claims (policy_in s) (after_all (begins s) cs) (events_of (begins s) cs)
