-- Reads leak no credit: what they hand over was acknowledged. Assumes nothing.
use Rattle.std.specs.Prelude.{ℕ, true, false, List, [], ◌∷◌, ◌≡◌, length}
use Rattle.history.specs.Run.{Call, open_call, dispatch_call, settle_call, take_call, read_call, write_call, close_call, front_taken, look_call, accept_call, reject_call, let_go_call, verdict_call, Start, begins, policy_in}
use Rattle.history.specs.Seen.{events_of}
use Rattle.history.specs.Book.{Book, clean, book_at, ledger_of}
use Rattle.history.specs.Demand3.{Apart}

-- a call that is no take from the place
abbrev pub NoTake : ℕ → Call → Type 0
NoTake i (open_call out destination received) = Unit {0}
NoTake i (dispatch_call out received) = Unit {0}
NoTake i (settle_call out ch want) = Unit {0}
NoTake i (take_call ch buf) = ch.slot ≡ i → ⊥
NoTake i (read_call out ch buf received) = Unit {0}
NoTake i (write_call spending out ch bytes received) = Unit {0}
NoTake i (close_call out ch) = Unit {0}
NoTake i front_taken = Unit {0}
NoTake i (look_call x) = Unit {0}
NoTake i (accept_call out) = Unit {0}
NoTake i (reject_call out) = Unit {0}
NoTake i let_go_call = Unit {0}
NoTake i (verdict_call out take remote credit) = Unit {0}

-- so is every one: the channel there is read by reads alone
abbrev pub ReadOnly : ℕ → List Call → Type 0
ReadOnly i [] = Unit {0}
ReadOnly i (x ∷ cs) = NoTake i x × ReadOnly i cs

-- in delayed mode, of a channel that is there and closed by neither end: once all accepted bytes are handed over, all are
-- acknowledged
abbrev pub EvenAt : Book → Type 0
EvenAt b = b.there ≡ true → b.closed ≡ false → b.handed ≡ b.accepted → b.acked ≡ length b.accepted

-- for every make that is not refused and all lists of calls, at each place that is read by reads alone
abbrev pub NoLeak : Type 0
NoLeak =
    (s : Start) (cs : List Call) → Apart (begins s) cs → (policy_in s).delayed ≡ true
    → (i : ℕ) → ReadOnly i cs → EvenAt (book_at (ledger_of (policy_in s) clean (events_of (begins s) cs)) i)
