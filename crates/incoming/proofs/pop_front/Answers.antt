use native.Mathlib.Omega.{arith}
use mathlib.Core.Path.{ap, ◌∙◌}
use Rattle.incoming.specs.Incoming.{offering}
use Rattle.incoming.proofs.Laws.{pop-nothing, left_below, pop-gives}
use borrow.Author.Rules.{rules}
use Rattle.incoming.proofs.pop_front.Goals as goal

pub returns-then-h-eq0 : goal.returns-then-h-eq0
returns-then-h-eq0 c = pop-nothing c.args.h c.args.state.now c.if-h-eq0.true

pub put_queued-requires : goal.put_queued-requires
put_queued-requires c = (
  left_below c.args.h c.args.state.now c.retain-left.result _ c.if-h-eq0.false (omega arith)
      c.retain-left.ensures,
  search rules,
)

pub returns : goal.returns
returns c =
    pop-gives c.args.h c.args.state.now c.queued_at-front.result c.retain-left.result
    c.retain-left.new.state c.offer_behind.result c.if-h-eq0.false (omega (arith, c.requires))
    c.queued_at-front.ensures c.retain-left.ensures (c.offer_behind.ensures ∙ ap offering
    c.with_queued.ensures) (omega (arith, c.requires)) _ c.put_queued.ensures
