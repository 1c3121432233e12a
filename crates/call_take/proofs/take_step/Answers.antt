use mathlib.Core.List.{[]}
use Rattle.call_take.proofs.TakeLaws.{take-refuses}
use Rattle.call.proofs.ThereLaws.{found_none, found-there, found-slot, looks}
use Rattle.call_take.proofs.take_step.Goals as goal

pub get-requires : goal.get-requires
get-requires c = looks c.args.state.now c.args.rx.now [] c.args.h c.requires.0.1 _ c.requires.0.0

pub take_there-requires : goal.take_there-requires
take_there-requires c = (
  c.requires.0,
  c.requires.1,
  (λ store. found-there c.args.state.now c.args.rx.now store c.args.h
      c.requires.0.1 c.args.ch c.get.result c.get.ensures _ c.in-Some.is),
  (λ store. found-slot c.args.state.now c.args.rx.now store c.args.h c.requires.0.1 c.args.ch
      c.get.result c.get.ensures _ c.in-Some.is),
)

pub returns-in-None : goal.returns-in-None
returns-in-None c =
    λ store. take-refuses c.args.state.now c.args.rx.now store c.args.h c.requires.0.1 c.args.ch
    (found_none c.args.state.now c.args.rx.now store c.args.h c.requires.0.1 c.args.ch
    c.get.result c.get.ensures c.in-None.is) _ _ _ c.not_there.ensures.0 c.not_there.ensures.1
