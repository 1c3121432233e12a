-- The numbers of the queue's answers (docs/SCOPE.md, 6). Assumes nothing.
use Rattle.refusal.specs.Refusal.{there_number_of}
use Rattle.std.specs.Prelude.{ℕ, Option}
use Rattle.state.specs.declared.Header.{Header}
use Rattle.state.specs.declared.QueuedOpen.{QueuedOpen}

-- one that is not queued is answered by a CLSE, and the call is done
abbrev pub pushed_number : Option Header → ℕ
pushed_number = there_number_of 0

-- 101: none is queued
abbrev pub front_number : Option (QueuedOpen × Header) → ℕ
front_number = there_number_of 101
