-- What taking the first queued open promises. Assumes nothing.
use Rattle.std.specs.Prelude.{List, [], ℕ}
use Rattle.state_whole.specs.Whole.{is_whole}
use Rattle.connection.specs.Calls.{take_front_step, take_front_outcome}
use Rattle.call.specs.Promise.{lent_of, agreed_in, Leaves}
use Rattle.call.specs.declared.Reply.{Reply}

-- what `take_front_step` promises, whatever the stores
abbrev pub TakeFrontStepLeaves : List ℕ → Reply → List ℕ → Type 0
TakeFrontStepLeaves state r state' =
    ((rx store : List ℕ) → Leaves (agreed_in state) (take_front_step (lent_of state rx store)) 0 state [] [] r state' rx store [] [])

-- what `take_front` promises
abbrev pub TakeFrontLeaves : List ℕ → List ℕ → List ℕ → Reply → List ℕ → Type 0
TakeFrontLeaves state rx store r state' =
    Leaves (agreed_in state) (take_front_outcome (is_whole state) (lent_of state rx store)) 0 state [] [] r state' rx store [] []
