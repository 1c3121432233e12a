use mathlib.Core.List.{[]}
use Rattle.call_take_front.proofs.FrontLaws.{queue-ok, front-place, front-none, front-some}
use native.Mathlib.Omega.{arith}
use Rattle.call_take_front.proofs.take_front_step.Goals as goal

pub pop_front-requires : goal.pop_front-requires
pop_front-requires c = queue-ok c.args.state.now [] [] c.args.h c.requires.1 c.requires.0

pub overflow_mul-place : goal.overflow_mul-place
overflow_mul-place c =
    let k = front-place c.args.state.now [] [] c.args.h c.requires.1 c.requires.0
    c.pop_front.result _ c.pop_front.ensures _ _ c.in-Some.is in omega arith

pub returns-in-None : goal.returns-in-None
returns-in-None c =
    λ rx store. front-none c.args.state.now rx store c.args.h c.requires.1 c.requires.0
    c.pop_front.result _ c.pop_front.ensures _ _ c.in-None.is
    c.ends.ensures.0 c.ends.ensures.1

pub returns-in-Some : goal.returns-in-Some
returns-in-Some c =
    λ rx store. front-some c.args.state.now rx store c.args.h c.requires.1 c.requires.0
    c.pop_front.result _ c.pop_front.ensures _ _ _ _ c.in-Some.is c.ends-in-Some.ensures.0
    c.ends-in-Some.ensures.1
