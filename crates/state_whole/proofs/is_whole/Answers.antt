use native.Mathlib.Omega.{arith}
use borrow.Author.Tests.{lt-leb, le-leb}
use mathlib.Core.Path.{sym, ap, ◌∙◌}
use lib.ListN.{length, get_or}
use Rattle.state_whole.specs.Whole.{is_whole, rest_whole, header_fine}
use Rattle.state.specs.State.{state_len, is_state}
use Rattle.state_whole.proofs.ValidLaws.{header_ok, rest-is-whole, header-not-whole}
use Rattle.state_whole.proofs.is_whole.Goals as goal
use Rattle.state_whole.proofs.is_whole.Goals.{then-state-lt-STATE_LEN-via-then-state-lt-STATE_LEN, then-state-lt-STATE_LEN-via-else-state-lt-STATE_LEN+then-state-gt1, then-state-lt-STATE_LEN-via-else-state-lt-STATE_LEN+else-state-gt1+then-state-gt2}

pub returns-then-state-lt-STATE_LEN : goal.returns-then-state-lt-STATE_LEN
unfolding is_whole is_state
returns-then-state-lt-STATE_LEN c = elim c.then-state-lt-STATE_LEN.branch [
  | then-state-lt-STATE_LEN-via-then-state-lt-STATE_LEN w ↦ rw (lt-leb state_len (length c.args.state.now) (omega arith))
  | then-state-lt-STATE_LEN-via-else-state-lt-STATE_LEN+then-state-gt1 w ↦
      rw (le-leb state_len (length c.args.state.now) (omega arith), lt-leb (get_or c.args.state.now 56 0) 1 (omega arith))
  | then-state-lt-STATE_LEN-via-else-state-lt-STATE_LEN+else-state-gt1+then-state-gt2 w ↦
      rw (
        le-leb state_len (length c.args.state.now) (omega arith),
        le-leb (get_or c.args.state.now 56 0) 1 (omega arith),
        lt-leb (get_or c.args.state.now 57 0) 2 (omega arith),
      )
]

pub rest_whole-requires : goal.rest_whole-requires
rest_whole-requires c = (header_ok c.header_of-h.result (sym c.header_fine.ensures ∙ c.if-header_fine.true), omega arith)

pub returns-then-header_fine : goal.returns-then-header_fine
returns-then-header_fine c =
    c.rest_whole.ensures
    ∙ ap (λ h. rest_whole h c.args.state.now) c.header_of-h.ensures
    ∙ rest-is-whole c.args.state.now (omega arith) (omega arith) (omega arith)
    (ap header_fine (sym c.header_of-h.ensures) ∙ sym c.header_fine.ensures ∙ c.if-header_fine.true)

pub returns-else-header_fine : goal.returns-else-header_fine
returns-else-header_fine c =
    c.if-header_fine.false
    ∙ header-not-whole c.args.state.now (ap header_fine (sym c.header_of-h.ensures) ∙ sym c.header_fine.ensures ∙ c.if-header_fine.false)
