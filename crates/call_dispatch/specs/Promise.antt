-- What dispatching a packet promises. Assumes nothing.
use Rattle.std.specs.Prelude.{List, [], length, ℕ}
use Rattle.state_whole.specs.Whole.{is_whole}
use Rattle.connection.specs.Calls.{dispatch_step, dispatch_outcome}
use Rattle.call.specs.Promise.{lent_of, agreed_in, Leaves}
use Rattle.call.specs.declared.Reply.{Reply}

-- what `dispatch_step` promises
abbrev pub DispatchStepLeaves : List ℕ → List ℕ → List ℕ → List ℕ → List ℕ → Reply → List ℕ → List ℕ → List ℕ → List ℕ → Type 0
DispatchStepLeaves state rx store received out r state' rx' store' out' =
    Leaves (agreed_in state) (dispatch_step (lent_of state rx store) received) 0 state out [] r state' rx' store' out' []

-- what `dispatch` promises
abbrev pub DispatchLeaves : List ℕ → List ℕ → List ℕ → List ℕ → List ℕ → Reply → List ℕ → List ℕ → List ℕ → List ℕ → Type 0
DispatchLeaves state rx store received out r state' rx' store' out' =
    Leaves (agreed_in state) (dispatch_outcome (is_whole state) (lent_of state rx store) (length out) received) 0 state out [] r state' rx' store' out'
    []
