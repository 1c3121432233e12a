-- What settling promises. Assumes nothing.
use Rattle.std.specs.Prelude.{List, [], length, ℕ}
use Rattle.state_whole.specs.Whole.{is_whole}
use Rattle.connection.specs.Calls.{settle_step, settle_outcome}
use Rattle.call.specs.Promise.{lent_of, agreed_in, Leaves}
use Rattle.call.specs.declared.Reply.{Reply}
use Rattle.table.specs.declared.ChannelId.{ChannelId}

-- what `settle_step` promises, whatever the stores
abbrev pub SettleStepLeaves : List ℕ → ChannelId → ℕ → List ℕ → Reply → List ℕ → List ℕ → Type 0
SettleStepLeaves state ch want out r state' out' =
    ((rx store : List ℕ) → Leaves (agreed_in state) (settle_step (lent_of state rx store) ch want) 0 state out [] r state' rx store out' [])

-- what `settle` promises
abbrev pub SettleLeaves : List ℕ → List ℕ → List ℕ → ChannelId → ℕ → List ℕ → Reply → List ℕ → List ℕ → Type 0
SettleLeaves state rx store ch want out r state' out' =
    Leaves (agreed_in state) (settle_outcome (is_whole state) (lent_of state rx store) (length out) ch want) 0 state out [] r state' rx store out' []
