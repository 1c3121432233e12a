use mir.Syntax.{w64}
use mir.Val.{SFits}
use mir.Facts.{to_z-of_z}
use Rattle.state.proofs.Fields.{numbers-put}
use borrow.Author.Rules.{rules}
use Rattle.state.proofs.fill_numbers.Goals as goal

pub returns : goal.returns
returns c =
    let f : SFits w64 c.args.s.send_budget = search rules in
    cc (numbers-put c.args.p.now c.args.s c.requires, to_z-of_z f)
