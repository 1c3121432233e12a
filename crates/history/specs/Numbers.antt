-- The premise of demand 3 on local numbers, for free: while at most 2^32 − 1 numbers are given out no two channels share one.
-- Assumes nothing.
use Rattle.std.specs.Prelude.{ℕ, ◌+◌, ◌^◌, ◌<◌, Bool, false, cond, ◌&&◌, ◌||◌, List, [], ◌∷◌, eqb, ltb, length}
use Rattle.protocol.specs.Packet.{payload_limit}
use Rattle.protocol.specs.Command.{is_open}
use Rattle.connection.specs.Frames.{Sent}
use Rattle.history.specs.Run.{Call, open_call, dispatch_call, settle_call, take_call, read_call, write_call, close_call, front_taken, look_call, accept_call, reject_call, let_go_call, verdict_call, after_all, Start, begins, policy_in}
use Rattle.history.specs.Seen.{Seen, Event, seen_of, events_of}
use Rattle.history.specs.Demand3.{Apart, Claims}

-- an OPEN is among the frames written
unfoldable pub opens_in : List Sent → Bool
opens_in [] = false
opens_in (f ∷ fs) = is_open f.command || opens_in fs

-- a number is given out by an open call that writes an OPEN, and by one that is refused by 3 with a destination over the
-- maximum, which moves the next number on and writes nothing. So is a pending open counted that is refused by 3 for a
-- frame while it is handed such a destination, though it gives none out: the count is never too small. An accept that is done
-- gives one out, and so does a verdict that takes
unfoldable pub given_by : Call → Seen → ℕ
given_by (open_call out destination received) o = cond (opens_in o.sent || (eqb o.number 3 && ltb payload_limit (length destination))) 1 0
given_by (dispatch_call out received) o = 0
given_by (settle_call out ch want) o = 0
given_by (take_call ch buf) o = 0
given_by (read_call out ch buf received) o = 0
given_by (write_call spending out ch bytes received) o = 0
given_by (close_call out ch) o = 0
given_by front_taken o = 0
given_by (look_call x) o = 0
given_by (accept_call out) o = cond (eqb o.number 0) 1 0
given_by (reject_call out) o = 0
given_by let_go_call o = 0
given_by (verdict_call out take remote credit) o = cond (take && eqb o.number 0) 1 0

-- by a list of calls
unfoldable pub given_in : List Event → ℕ
given_in [] = 0
given_in (e ∷ es) = given_by e.call (seen_of e) + given_in es

-- no two channels share a local number, after any call
abbrev pub NumbersApart : Type 0
NumbersApart = (s : Start) (cs : List Call) → given_in (events_of (begins s) cs) < 2 ^ 32 → Apart (begins s) cs

-- so demand 3 has no premise on such lists
abbrev pub Demand3Free : Type 0
Demand3Free =
    (s : Start) (cs : List Call) → given_in (events_of (begins s) cs) < 2 ^ 32
    → Claims (policy_in s) (after_all (begins s) cs) (events_of (begins s) cs)
