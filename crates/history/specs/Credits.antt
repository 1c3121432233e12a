-- The book of what may be sent on a channel, told as the books of docs/SCOPE.md, 8 are: from each call's arguments, its answer and
-- the frames that it wrote. Assumes nothing.
use Rattle.std.specs.Prelude.{ℕ, ◌+◌, ◌^◌, ◌<◌, Bool, true, false, cond, ◌&&◌, ◌||◌, List, [], ◌∷◌, ◌≡◌, pos, ◌-ℤ◌, eqb, length, get_or}
use Rattle.config.specs.declared.negotiated.RxPolicy.{RxPolicy}
use Rattle.protocol.specs.declared.command.Command.TheVariants.{Ready}
use Rattle.protocol.specs.declared.message.Message.{Message}
use Rattle.protocol.specs.Command.{word_of, is_write}
use Rattle.connection.specs.Frames.{Sent}
use Rattle.history.specs.Run.{Call, open_call, dispatch_call, settle_call, take_call, read_call, write_call, close_call, front_taken, look_call, accept_call, reject_call, let_go_call, verdict_call, word_in, bytes_in, received_in, after_all, Start, begins, policy_in}
use Rattle.history.specs.Seen.{Seen, Event, seen_of, events_of}
use Rattle.history.specs.Book.{Book, credit_in, header_at, payload_at, Ledger, clean, book_at, entry}
use Rattle.history.specs.Demand3.{place_slot, Apart}

-- what is kept of the channel at a place
pub record Credit : Type 0 where
  -- we opened it, or a verdict took it at once; the opening credit of one that was offered is not told here
  pub told : Bool
  -- the credit in the peer's OPEN; 0 where we opened it
  pub opening : ℕ
  -- the credit in the OKAYs that were used
  pub added : ℕ
  -- bytes of the WRTEs that were written
  pub sent : ℕ

-- that of a place with no channel
abbrev pub no_credit : Credit
no_credit = record { told = false; opening = 0; added = 0; sent = 0 }

-- an OKAY's header
abbrev pub is_okay : Message → Bool
is_okay m = eqb m.command (word_of Ready)

-- refused by 4, 5, 20 or 21: an OKAY adds nothing
abbrev pub is_lost : ℕ → Bool
is_lost number = eqb number 4 || eqb number 5 || eqb number 20 || eqb number 21

-- the credit in the packet that a call used, if it is an OKAY with this local number in arg1
unfoldable pub added_in : List ℕ → ℕ → ℕ → ℕ → ℕ
added_in received number used l =
    cond (eqb used 0) 0
    (cond (is_lost number) 0 (cond (is_okay (header_at received) && eqb (header_at received).arg1 l) (credit_in (payload_at received used)) 0))

-- the bytes of the WRTEs with this local number in arg0
unfoldable pub writes_of : ℕ → List Sent → ℕ
writes_of l [] = 0
writes_of l (f ∷ fs) = cond (is_write f.command && eqb f.arg0 l) (length f.payload) 0 + writes_of l fs

-- a call beside a channel that is there
abbrev pub moved : Call → Seen → ℕ → Credit → Credit
moved c o l k = record { told = k.told; opening = k.opening; added = k.added + added_in (received_in c) o.number o.used l; sent = k.sent + writes_of l o.sent }

-- a call that is done fills the slot that its answer names
abbrev pub fills_at : ℕ → Seen → Bool
fills_at i o = eqb o.number 0 && eqb (get_or o.values 0 0) i

-- the channel that a call fills a place with: an open's own OKAY is the first that adds
unfoldable pub begun_by : ℕ → Call → Seen → Credit → Credit
begun_by i (open_call out destination received) o k =
    cond (fills_at i o) (record { told = true; opening = 0; added = credit_in (payload_at (bytes_in received) o.used); sent = 0 }) k
begun_by i (dispatch_call out received) o k = k
begun_by i (settle_call out ch want) o k = k
begun_by i (take_call ch buf) o k = k
begun_by i (read_call out ch buf received) o k = k
begun_by i (write_call spending out ch bytes received) o k = k
begun_by i (close_call out ch) o k = k
begun_by i front_taken o k = k
begun_by i (look_call x) o k = k
begun_by i (accept_call out) o k = cond (fills_at i o) no_credit k
begun_by i (reject_call out) o k = k
begun_by i let_go_call o k = k
begun_by i (verdict_call out take remote credit) o k =
    cond (take && fills_at i o) (record { told = true; opening = word_in credit; added = 0; sent = 0 }) k

-- what is kept of place i after a call. b: its book before
unfoldable pub credit_after : ℕ → Call → Seen → Book → Credit → Credit
credit_after i c o b k = cond b.there (moved c o b.local k) (begun_by i c o k)

-- and after a list of calls
unfoldable pub credits_of : RxPolicy → ℕ → Ledger → Credit → List Event → Credit
credits_of p i l k [] = k
credits_of p i l k (e ∷ es) = credits_of p i (entry p e.call (seen_of e) l) (credit_after i e.call (seen_of e) (book_at l i) k) es

-- of a list from a make
abbrev pub credit_at : Start → List Call → ℕ → Credit
credit_at s cs i = credits_of (policy_in s) i clean no_credit (events_of (begins s) cs)

-- for every make that is not refused and all lists of calls in which no two channels share a local number, in delayed mode: the
-- budget of a channel in the table is its opening credit and what was added, less what was sent, while both sums are under 2^63
abbrev pub Budgets : Type 0
Budgets =
    (s : Start) (cs : List Call) → Apart (begins s) cs → (policy_in s).delayed ≡ true → (i : ℕ) → (place_slot (after_all (begins s) cs) i).filled ≡ true
    → (credit_at s cs i).told ≡ true → (credit_at s cs i).opening + (credit_at s cs i).added < 2 ^ 63 → (credit_at s cs i).sent < 2 ^ 63
    → (place_slot (after_all (begins s) cs) i).send_budget ≡ pos ((credit_at s cs i).opening + (credit_at s cs i).added) -ℤ pos (credit_at s cs i).sent
