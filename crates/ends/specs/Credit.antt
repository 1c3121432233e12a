-- Credit between two ends adds up (docs/SCOPE.md, 16; delayed acknowledgement, facts 2 to 5). Assumes nothing.
use Rattle.std.specs.Prelude.{ℕ, ◌+◌, ◌%◌, ◌^◌, ◌<◌, ◌≡◌, true, false, cond, ◌&&◌, List, [], ◌∷◌, ◌++◌, eqb, length, pos, ◌+ℤ◌}
use Rattle.config.specs.Negotiated.{offered_credit}
use Rattle.protocol.specs.Command.{is_ready, is_write}
use Rattle.slot.specs.declared.ChannelSlot.{ChannelSlot}
use Rattle.slot.specs.Slot.{is_closed}
use Rattle.state.specs.State.{is_ours}
use Rattle.connection.specs.Frames.{Sent}
use Rattle.connection.specs.Answer.{answer_number}
use Rattle.connection.specs.Calls.{policy}
use Rattle.history.specs.Run.{Call, World, lent, outcome, begins, agreed_in, policy_in}
use Rattle.history.specs.Seen.{events_of}
use Rattle.history.specs.Book.{credit_in, clean, book_at, ledger_of}
use Rattle.history.specs.Demand3.{place_slot, run_of}
use Rattle.history.specs.Numbers.{given_in}
use Rattle.device_history.specs.Run.{connection, device_begins}
use Rattle.device_history.specs.Owner.{device_events, taken_in}
use Rattle.ends_lines.specs.Lines.{frames_on}
use Rattle.ends.specs.Ends.{Ends, EndsStart, both, Turn, ours, our_call, turned_all, our_calls, their_calls, all_up, HostCall, HostCalls}

-- ---- what is on a line, of the channel with our number l and the device's number r

-- the bytes of its WRTEs
unfoldable pub data_of : ℕ → ℕ → List Sent → List ℕ
data_of l r [] = []
data_of l r (f ∷ fs) = cond (is_write f.command && (eqb f.arg0 r && eqb f.arg1 l)) f.payload [] ++ data_of l r fs

-- the amounts in our OKAYs
unfoldable pub amounts_of : ℕ → ℕ → List Sent → ℕ
amounts_of l r [] = 0
amounts_of l r (f ∷ fs) = cond (is_ready f.command && (eqb f.arg0 l && eqb f.arg1 r)) (credit_in f.payload) 0 + amounts_of l r fs

-- ---- a channel that we opened, closed by neither end

-- at our end: our open of it is pending, with no byte unacknowledged; or it is in the table and open, with so many
pub data AtUs (w : World) (l : ℕ) : ℕ → Type 0 where
  pends : is_ours (lent w).state.header.pending.what ≡ true → (lent w).state.header.pending.local.0 ≡ l → AtUs w l 0
  stands : (i : ℕ) → (place_slot w i).filled ≡ true → is_closed (place_slot w i).state ≡ false → (place_slot w i).local.0 ≡ l → AtUs w l (place_slot w i).unacked

-- at the device, from the call in which it read the OPEN
pub record AtDevice (w : World) (l r : ℕ) : Type 0 where
  pub place : ℕ
  pub filled : (place_slot w place).filled ≡ true
  pub live : is_closed (place_slot w place).state ≡ false
  pub ours : (place_slot w place).remote.0 ≡ l
  pub own : (place_slot w place).local.0 ≡ r

-- ---- premises

-- both ends are in delayed mode
pub record BothDelayed (s : EndsStart) : Type 0 where
  pub ours : (policy_in s.ours).delayed ≡ true
  pub device : (policy (lent (connection (both s).device))).delayed ≡ true

-- at most 2^32 − 1 numbers are given out at either end, so that none is given out twice
pub record Few (s : EndsStart) (ts : List Turn) : Type 0 where
  pub ours : given_in (events_of (begins s.ours) (our_calls (both s) ts)) < 2 ^ 32
  pub device : taken_in (device_events (device_begins s.device) (s.early ++ s.first ∷ their_calls (both s) ts)) < 2 ^ 32

-- ---- the sum

-- the opening credit: the second number of our OPENs, of 32 bits
abbrev pub opening : EndsStart → ℕ
opening s = offered_credit (agreed_in s.ours) % 2 ^ 32

-- the device's credit, its bytes on the line, our unacknowledged bytes, the amounts in our OKAYs on the line: the opening credit
abbrev pub Adds : EndsStart → Ends → (l r unacked : ℕ) → ChannelSlot → Type 0
Adds s e l r unacked t =
    t.send_budget +ℤ pos (length (data_of l r (frames_on e.up)) + unacked + amounts_of l r (frames_on e.down)) ≡ pos (opening s)

-- after every call of either end, for each channel that we opened, closed by neither, from the call in which the device read its OPEN
abbrev pub AddsUp : Type 0
AddsUp =
    (s : EndsStart) (ts : List Turn) → HostCalls ts → BothDelayed s → Few s ts → let e = turned_all (both s) ts in
    (l r unacked : ℕ) → AtUs e.host l unacked → (d : AtDevice (connection e.device) l r)
    → Adds s e l r unacked (place_slot (connection e.device) d.place)

-- ---- what goes with it

-- our end never answers 11: with what it is handed, no call of ours is refused for a WRTE that does not fit
abbrev pub EndsNever11 : Type 0
EndsNever11 =
    (s : EndsStart) (ts : List Turn) (c : Call) (n : ℕ) → HostCalls ts → HostCall c → BothDelayed s → Few s (ts ++ ours c n ∷ []) → let e = turned_all (both s) ts in
    answer_number (outcome e.host (our_call e c n)).answer ≡ 11 → ⊥

-- every byte that the device wrote on a channel in our table was handed over, is buffered, or is on the line, in order
abbrev pub EachByte : Type 0
EachByte =
    (s : EndsStart) (ts : List Turn) → HostCalls ts → BothDelayed s → Few s ts → let e = turned_all (both s) ts in
    let p = policy_in s.ours in
    (i : ℕ) → let t = place_slot e.host i in
    t.filled ≡ true
    → data_of t.local.0 t.remote.0 (frames_on (all_up (both s) ts))
    ≡ (book_at (ledger_of p clean (events_of (begins s.ours) (our_calls (both s) ts))) i).handed ++ (run_of e.host.rx p.rx_cap i t ++ data_of t.local.0 t.remote.0 (frames_on e.up))

-- and while our open of it is pending, every byte is on the line
abbrev pub EachByteWaits : Type 0
EachByteWaits =
    (s : EndsStart) (ts : List Turn) → HostCalls ts → BothDelayed s → Few s ts → let e = turned_all (both s) ts in
    let l = (lent e.host).state.header.pending.local.0 in
    (r : ℕ) → is_ours (lent e.host).state.header.pending.what ≡ true → AtDevice (connection e.device) l r
    → data_of l r (frames_on (all_up (both s) ts)) ≡ data_of l r (frames_on e.up)
