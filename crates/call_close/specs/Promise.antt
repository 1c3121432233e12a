-- What closing a channel promises. Assumes nothing.
use Rattle.std.specs.Prelude.{List, [], length, ℕ}
use Rattle.state_whole.specs.Whole.{is_whole}
use Rattle.connection.specs.Calls.{close_step, close_outcome}
use Rattle.call.specs.Promise.{lent_of, agreed_in, Leaves}
use Rattle.call.specs.declared.Reply.{Reply}
use Rattle.table.specs.declared.ChannelId.{ChannelId}

-- what `close_step` promises, whatever the stores
abbrev pub CloseStepLeaves : List ℕ → ChannelId → List ℕ → Reply → List ℕ → List ℕ → Type 0
CloseStepLeaves state ch out r state' out' =
    ((rx store : List ℕ) → Leaves (agreed_in state) (close_step (lent_of state rx store) ch) 0 state out [] r state' rx store out' [])

-- what `close` promises
abbrev pub CloseLeaves : List ℕ → List ℕ → List ℕ → ChannelId → List ℕ → Reply → List ℕ → List ℕ → Type 0
CloseLeaves state rx store ch out r state' out' =
    Leaves (agreed_in state) (close_outcome (is_whole state) (lent_of state rx store) (length out) ch) 0 state out [] r state' rx store out' []
