use mir.Syntax.{w64}
use mir.Val.{SFits}
use mir.Facts.{to_z-of_z}
use mathlib.Core.Path.{refl}
use Rattle.le.proofs.Laws.{is-unsigned}
use Rattle.connection.specs.Calls.{numbers_in}
use borrow.Author.Rules.{rules}
use Rattle.call_numbers.proofs.numbers_in.Goals as goal

pub returns : goal.returns
unfolding numbers_in
returns c =
    let f : SFits w64 c.args.s.send_budget = search rules in
    rw (c.is_closed.ensures, c.cast_unsigned.ensures, to_z-of_z f, is-unsigned w64 c.args.s.send_budget refl)
