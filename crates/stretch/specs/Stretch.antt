-- The shortest stretch that still refuses (docs/SCOPE.md, 14). Received frames are dispatched, one packet a call, up to the first
-- refusal; of the neighbouring ones among them, the fewest that end in the same number are wanted. Assumes nothing.
use Rattle.std.specs.Prelude.{ℕ, zero, suc, ◌+◌, ◌≤◌, ◌<◌, ◌≡◌, Bool, false, cond, ◌&&◌, ◌||◌, List, [], ◌∷◌, ◌++◌, eqb, leb, ltb, length, take, drop, get_or, Option, Some, None}
use Rattle.state.specs.Change.{put_all}
use Rattle.state.specs.State.{state_of}
use Rattle.state_whole.specs.Whole.{is_whole}
use Rattle.connection.specs.Answer.{answer_number}
use Rattle.connection.specs.Calls.{Outcome, dispatch_outcome}
use Rattle.stretch.specs.declared.Ran.{Ran}
use Rattle.stretch.specs.declared.Stretch.{Stretch}
use Rattle.stretch.specs.declared.Turn.{Turn}

-- ---- one packet

-- the bytes that last from call to call: the state's, and both stores
pub record World : Type 0 where
  pub state : List ℕ
  pub rx : List ℕ
  pub store : List ℕ

-- the same from what a caller lends
abbrev pub world_of : List ℕ → List ℕ → List ℕ → World
world_of state rx store = record { state = state; rx = rx; store = store }

-- dispatch's own definition, with an outgoing buffer of 56 bytes
unfoldable pub dispatched : World → List ℕ → Outcome
dispatched w received =
    dispatch_outcome (is_whole w.state) (record { state = state_of w.state; rx = w.rx; store = w.store }) 56 received

-- its number, and the bytes that it uses
unfoldable pub turn_of : World → List ℕ → Turn
turn_of w received = record { number = answer_number (dispatched w received).answer; used = (dispatched w received).used }

-- what it leaves
unfoldable pub after : World → List ℕ → World
after w received =
    record { state = put_all w.state (dispatched w received).changes; rx = (dispatched w received).rx; store = (dispatched w received).store }

-- it is done: neither refused nor waiting
unfoldable pub is_done : World → List ℕ → Bool
is_done w received = eqb (turn_of w received).number 0

-- ---- the frames

-- the places in the received bytes of at most n frames, the first at `at`: the next one stands behind the bytes that dispatch used,
-- and the last is the first that is not done
unfoldable pub places_in : ℕ → World → List ℕ → ℕ → List ℕ
places_in zero w received at = []
places_in (suc n) w received at =
    at ∷ cond (is_done w (drop at received)) (places_in n (after w (drop at received)) received (at + (turn_of w (drop at received)).used)) []

-- the first 32 frames count
unfoldable pub frames_in : World → List ℕ → List ℕ
frames_in w received = places_in 32 w received 0

-- what frames at some places end in, dispatched one a call: the number of the first that is not done, 0 where all are
unfoldable pub ends_in : World → List ℕ → List ℕ → ℕ
ends_in w received [] = 0
ends_in w received (p ∷ ps) =
    cond (is_done w (drop p received)) (ends_in (after w (drop p received)) received ps) (turn_of w (drop p received)).number

-- ---- the stretches

-- m stretches of n frames, the first at place i
unfoldable pub of_count : ℕ → ℕ → ℕ → List Stretch
of_count n i zero = []
of_count n i (suc m) = record { first = i; count = n } ∷ of_count n (suc i) m

-- all stretches of n frames or more, of n + m − 1 frames: fewest first, then earliest
unfoldable pub from_count : ℕ → ℕ → List Stretch
from_count n zero = []
from_count n (suc m) = of_count n 0 (suc m) ++ from_count (suc n) m

-- all stretches of k frames
unfoldable pub stretches_of : ℕ → List Stretch
stretches_of k = from_count 1 k

-- the first of them that passes a test
unfoldable pub first_of : (Stretch → Bool) → List Stretch → Option Stretch
first_of t [] = None
first_of t (s ∷ ss) = cond (t s) (Some s) (first_of t ss)

-- a stretch's frames, dispatched from this state, end in x
unfoldable pub ends_so : World → List ℕ → List ℕ → ℕ → Stretch → Bool
ends_so w received ps x s = eqb (ends_in w received (take s.count (drop s.first ps))) x

-- of frames that end in x, the fewest neighbouring ones that do; of equally many the earliest
unfoldable pub shortest_in : World → List ℕ → List ℕ → ℕ → Option Stretch
shortest_in w received ps x = first_of (ends_so w received ps x) (stretches_of (length ps))

-- refusals that count: 1 to 5, 11, 20, 21
unfoldable pub is_counted : ℕ → Bool
is_counted x = cond (ltb x 1) false (leb x 5 || eqb x 11 || eqb x 20 || eqb x 21)

-- the answer: nothing where the frames end in no such refusal
unfoldable pub shortest_of : World → List ℕ → Option Stretch
shortest_of w received =
    cond (is_counted (ends_in w received (frames_in w received))) (shortest_in w received (frames_in w received) (ends_in w received (frames_in w received)))
    None

-- ---- what the functions ask and promise

-- what is worked on after one packet; it is lent whole
pub record Turns (w : World) (received : List ℕ) (r : Turn) (state rx store : List ℕ) : Type 0 where
  pub turn_is : r ≡ turn_of w received
  pub state-is : state ≡ (after w received).state
  pub rx-is : rx ≡ (after w received).rx
  pub store_is : store ≡ (after w received).store

-- one frame more
abbrev pub one_more : Ran → Ran
one_more r = record { count = suc r.count; number = r.number }

-- how many of the frames at some places are dispatched up to the first that is not done, and its number; all of them and 0
-- where all are
unfoldable pub run_of : World → List ℕ → List ℕ → Ran
run_of w received [] = record { count = 0; number = 0 }
run_of w received (p ∷ ps) =
    cond (is_done w (drop p received)) (one_more (run_of (after w (drop p received)) received ps))
    (record { count = 1; number = (turn_of w (drop p received)).number })

-- places that lie in the received bytes
abbrev pub Inside : List ℕ → List ℕ → Type 0
Inside received ps = (j : ℕ) → j < length ps → get_or ps j 0 ≤ length received

-- the frames told apart: how many, what they end in, and their places at the start of those lent
pub record Tells (w : World) (received : List ℕ) (r : Ran) (places : List ℕ) : Type 0 where
  pub ran-is : r ≡ run_of w received (frames_in w received)
  pub places-are : take r.count places ≡ frames_in w received

-- a run that ends in the number after fewer frames
unfoldable pub is_shorter : Ran → ℕ → ℕ → Bool
is_shorter r number count = eqb r.number number && ltb r.count count

-- what a search asks: frames that end in the number, which is none of 0
pub record Searches (w : World) (received ps : List ℕ) (number : ℕ) : Type 0 where
  pub inside : Inside received ps
  pub ends : ends_in w received ps ≡ number
  pub refused : 0 < number
