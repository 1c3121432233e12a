use Rattle.std.proofs.Common.{sym, ◌∙◌}
use Rattle.device.proofs.HeadLaws.{head-long, admits-inner}
use Rattle.device.proofs.head.admit.Goals as goal

pub slice_bounds-admit_out-count : goal.slice_bounds-admit_out-count
slice_bounds-admit_out-count c = head-long c.args.state.now (sym c.head_fine.ensures ∙ c.if-head_fine.true)

pub slice_bounds-admit_out-start : goal.slice_bounds-admit_out-start
slice_bounds-admit_out-start c = head-long c.args.state.now (sym c.head_fine.ensures ∙ c.if-head_fine.true)

pub returns-then-head_fine : goal.returns-then-head_fine
returns-then-head_fine c =
    admits-inner c.args.state.now c.args.rx c.args.store c.args.out (sym c.head_fine.ensures ∙ c.if-head_fine.true) _ c.admit_out.ensures
