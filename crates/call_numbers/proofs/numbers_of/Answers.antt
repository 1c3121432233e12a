use mathlib.Core.Path.{◌∙◌}
use Rattle.state.specs.State.{state_of}
use Rattle.call_numbers.proofs.NumbersLaws.{found-numbers}
use Rattle.call_numbers.proofs.numbers_of.Goals as goal

pub returns-in-Some : goal.returns-in-Some
returns-in-Some c = c.numbers_in.ensures ∙ found-numbers c.args.channels (state_of c.args.state.now).slots c.args.ch c.get.result _ c.get.ensures c.in-Some.is

pub returns-in-None : goal.returns-in-None
returns-in-None c = found-numbers c.args.channels (state_of c.args.state.now).slots c.args.ch c.get.result _ c.get.ensures c.in-None.is
