-- Lists of calls through the exported functions, and what the theorems say of them: whatever a C program can do with them after
-- an adb_make or adb_make_from_cnxn that answered 0, short answers included, with the state and both stores lent whole as the
-- last call left them. Assumes nothing.
use Rattle.call_answer.specs.Export.{Does, MakesState}
use Rattle.std.specs.Prelude.{ℕ, ◌<◌, ◌^◌, ◌≡◌, Bool, true, List, [], ◌∷◌, map, pos, neg_ℤ, ◌<ℤ◌, length, drop, get_or}
use Rattle.config.specs.declared.ConnectionConfig.{ConnectionConfig}
use Rattle.config.specs.declared.negotiated.Negotiated.{Negotiated}
use Rattle.config.specs.declared.negotiated.RxPolicy.{RxPolicy}
use Rattle.config.specs.Config.{stores_fit}
use Rattle.config.specs.Negotiated.{negotiated_of, policy_of}
use Rattle.call_make.specs.Make.{make_in}
use Rattle.history.specs.Book.{clean, book_at, ledger_of}
use Rattle.history.specs.Demand3.{place_slot, Distinct, Claims}
use Rattle.history.specs.Never13.{Unbroken}
use Rattle.history.specs.NoLeak.{ReadOnly, EvenAt}
use Rattle.history.specs.Numbers.{given_in}
use Rattle.history.specs.Queue.{Queues}
use Rattle.history.specs.Run.{Call, out_of, buf_of, World}
use Rattle.history.specs.Seen.{Held, Event}
use Rattle.history.specs.Spending.{longest}
use Rattle.call_answer.specs.Answer.{said_in}
use Rattle.adb.specs.Export.{world_of, exported, is_yes}

-- ---- one call

-- a call with its arguments, the number that its function answered, and all that it was lent as the function left it
pub record Step : Type 0 where
  pub call : Call
  pub number : ℕ
  pub state : List ℕ
  pub rx : List ℕ
  pub store : List ℕ
  pub out : List ℕ
  pub buf : List ℕ
  pub answer : List ℕ

-- what lasts
abbrev pub left_in : Step → World
left_in x = world_of x.state x.rx x.store

-- what its caller holds after it: what the answer's bytes say, and both buffers
unfoldable pub held_in : Step → Held
held_in x =
    record {
      number = x.number;
      used = get_or (said_in x.answer) 0 0;
      written = get_or (said_in x.answer) 1 0;
      values = drop 2 (said_in x.answer);
      out = x.out;
      buf = x.buf;
    }

-- the same with the call
abbrev pub event_in : Step → Event
event_in x = record { call = x.call; held = held_in x }

-- the call's function was lent w and an answer of any length, and kept its promise
pub record Ran (w : World) (x : Step) : Type 0 where
  pub before : List ℕ
  pub does : Does (exported w x.call (out_of x.call) (buf_of x.call) before) x.number x.state x.rx x.store x.out x.buf x.answer

-- ---- a list of them

-- each on what the last one left
abbrev pub Runs : World → List Step → Type 0
Runs w [] = Unit {0}
Runs w (x ∷ xs) = Ran w x × Runs (left_in x) xs

-- what the last one left
abbrev pub leaves : World → List Step → World
leaves w [] = w
leaves w (x ∷ xs) = leaves (left_in x) xs

-- what a caller holds, call by call
abbrev pub events : List Step → List Event
events xs = map event_in xs

-- that no two channels share a local number is asked after every call
abbrev pub ApartIn : List Step → Type 0
ApartIn [] = Unit {0}
ApartIn (x ∷ xs) = Distinct (left_in x) × ApartIn xs

-- no call answers 13
abbrev pub None13 : List Step → Type 0
None13 [] = Unit {0}
None13 (x ∷ xs) = (x.number ≡ 13 → ⊥) × None13 xs

-- the channel at a place is read by reads alone
abbrev pub ReadsAt : ℕ → List Step → Type 0
ReadsAt i xs = ReadOnly i (map (λ (x : Step). x.call) xs)

-- ---- where it begins

-- a make that answered 0, by either function: its arguments, with whether the device lists delayed acknowledgement, the state as it
-- left it, and both stores as they are lent from then on
pub record Making : Type 0 where
  pub config : ConnectionConfig
  pub version : ℕ
  pub most : ℕ
  pub host : ℕ
  pub device : Bool
  pub state : List ℕ
  pub left : List ℕ
  pub rx : List ℕ
  pub store : List ℕ
  pub number : ℕ
  pub makes : MakesState (make_in config version most (is_yes host) device state) number left
  pub done : number ≡ 0

-- what the first call is lent
abbrev pub lends_by : Making → World
lends_by m = world_of m.left m.rx m.store

-- what was negotiated
abbrev pub agreed_by : Making → Negotiated
agreed_by m = negotiated_of (is_yes m.host) m.device m.version m.most m.config

-- and the receive policy that follows from it
abbrev pub policy_by : Making → RxPolicy
policy_by m = policy_of (agreed_by m)

-- ---- the theorems, of the functions that are linked

-- demand 3
abbrev pub LinkedDemand3 : Type 0
LinkedDemand3 = (m : Making) (xs : List Step) → Runs (lends_by m) xs → ApartIn xs → Claims (policy_by m) (leaves (lends_by m) xs) (events xs)

-- and with no premise, where at most 2^32 − 1 numbers are given out
abbrev pub LinkedFree : Type 0
LinkedFree = (m : Making) (xs : List Step) → Runs (lends_by m) xs → given_in (events xs) < 2 ^ 32 → Claims (policy_by m) (leaves (lends_by m) xs) (events xs)

-- what they leave is never broken, and none of them answers 13
abbrev pub LinkedNever13 : Type 0
LinkedNever13 =
    (m : Making) (xs : List Step) → Runs (lends_by m) xs → Unbroken (agreed_by m) m.state m.rx m.store (leaves (lends_by m) xs) × None13 xs

-- what is queued is the Rust's queue
abbrev pub LinkedQueue : Type 0
LinkedQueue =
    (m : Making) → stores_fit m.config (length m.rx) (length m.store) ≡ true
    → (xs : List Step) → Runs (lends_by m) xs → Queues m.config.channels (leaves (lends_by m) xs)

-- reads leak no credit
abbrev pub LinkedNoLeak : Type 0
LinkedNoLeak =
    (m : Making) (xs : List Step) → Runs (lends_by m) xs → ApartIn xs → (policy_by m).delayed ≡ true
    → (i : ℕ) → ReadsAt i xs → EvenAt (book_at (ledger_of (policy_by m) clean (events xs)) i)

-- each budget is above 0 less the longest payload
abbrev pub LinkedFloor : Type 0
LinkedFloor =
    (m : Making) (xs : List Step) → Runs (lends_by m) xs → (i : ℕ) → neg_ℤ (pos (longest (agreed_by m))) <ℤ (place_slot (leaves (lends_by m) xs) i).send_budget
