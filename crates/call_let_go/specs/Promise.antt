-- What letting the open go that is offered promises. Assumes nothing.
use Rattle.std.specs.Prelude.{List, [], ℕ}
use Rattle.state_whole.specs.Whole.{is_whole}
use Rattle.connection.specs.Calls.{let_go_step, let_go_outcome}
use Rattle.call.specs.Promise.{lent_of, agreed_in, Leaves}
use Rattle.call.specs.declared.Reply.{Reply}

-- what `let_go_step` promises, whatever the stores
abbrev pub LetGoStepLeaves : List ℕ → Reply → List ℕ → Type 0
LetGoStepLeaves state r state' =
    ((rx store : List ℕ) → Leaves (agreed_in state) (let_go_step (lent_of state rx store)) 0 state [] [] r state' rx store [] [])

-- what `let_go` promises
abbrev pub LetGoLeaves : List ℕ → List ℕ → List ℕ → Reply → List ℕ → Type 0
LetGoLeaves state rx store r state' =
    Leaves (agreed_in state) (let_go_outcome (is_whole state) (lent_of state rx store)) 0 state [] [] r state' rx store [] []
