use mathlib.Core.Path.{◌≡◌, sym, ◌∙◌}
use borrow.Author.Rules.{rules}
use lib.ListN.{length}
use native.Mathlib.Omega.{arith}
use Rattle.adb.proofs.ExportLaws.{long-answer}
use Rattle.call_answer.proofs.AnswerLaws.{said-six}
use Rattle.adb.proofs.StretchLaws.{stretch-short, stretch-called}
use Rattle.adb.proofs.shortest.adb_stretch.Goals as goal

pub returns-then-is_short : goal.returns-then-is_short
returns-then-is_short c = stretch-short c.args.state.now c.args.rx.now c.args.opens.now c.args.received.now c.args.spare_rx.now c.args.spare_opens.now c.args.answer.now (sym c.is_short.ensures ∙ c.if-is_short.true)

pub put-requires : goal.put-requires
put-requires c =
    let n : length c.stretch_numbers.result ≡ 6 = search rules in
    let k = (long-answer _ _ (sym c.is_short.ensures ∙ c.if-is_short.false)).1 in
    omega (arith, n, k)

pub returns : goal.returns
returns c =
    stretch-called c.args.state.now c.args.rx.now c.args.opens.now c.args.received.now c.args.spare_rx.now c.args.spare_opens.now c.args.answer.now (sym c.is_short.ensures ∙ c.if-is_short.false)
    c.stretch-found.result _ _ c.stretch-found.ensures c.stretch_numbers.result c.stretch_numbers.ensures _ (c.put.ensures.put, said-six _ _ (search rules) c.put.ensures.says) _ c.stretched_number.ensures
