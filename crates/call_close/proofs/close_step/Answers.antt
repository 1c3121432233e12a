use mathlib.Core.List.{[]}
use Rattle.call_close.proofs.CloseLaws.{close-place, close-refuses, close-leaves}
use Rattle.call.proofs.ThereLaws.{looks}
use Rattle.call_close.proofs.close_step.Goals as goal

pub get-requires : goal.get-requires
get-requires c = looks c.args.state.now [] [] c.args.h c.requires.1 _ c.requires.0

pub ends_with-requires : goal.ends_with-requires
ends_with-requires c = (
  close-place c.args.state.now [] [] c.args.out.now c.args.h c.requires.1
      c.args.ch c.get.result c.get.ensures c.requires.0 _ c.in-Some.is,
  c.requires.0.state-fits,
)

pub returns-in-Some : goal.returns-in-Some
returns-in-Some c =
    λ rx store. close-leaves c.args.state.now rx store c.args.out.now c.args.h c.requires.1
    c.args.ch c.get.result c.get.ensures c.requires.0 _ c.in-Some.is c.emptied-gone.result
    c.ids_in.result _ _ _ _ c.ids_in.ensures c.put_close-end.ensures c.emptied-gone.ensures
    c.ends_with.ensures.0 c.ends_with.ensures.1

pub returns-in-None : goal.returns-in-None
returns-in-None c =
    λ rx store. close-refuses c.args.state.now rx store c.args.out.now c.args.h c.requires.1
    c.args.ch c.get.result c.get.ensures _ _ c.in-None.is c.not_there.ensures.0
    c.not_there.ensures.1
