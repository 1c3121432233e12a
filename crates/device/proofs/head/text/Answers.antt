use Rattle.std.proofs.Common.{arith}
use Rattle.device.proofs.HeadLaws.{head-long, text_short, text-cut}
use Rattle.device.proofs.head.text.Goals as goal

pub text_len-requires : goal.text_len-requires
text_len-requires c = head-long c.args.state.now c.requires

pub overflow_add-result : goal.overflow_add-result
overflow_add-result c = let s = text_short c.args.state.now c.requires in omega (arith, c.text_len.ensures)

pub slice_bounds-result-end : goal.slice_bounds-result-end
slice_bounds-result-end c =
    let s = text_short c.args.state.now c.requires in
    let l = head-long c.args.state.now c.requires in
    omega (arith, c.text_len.ensures)

pub returns : goal.returns
returns c = text-cut c.args.state.now c.requires c.text_len.result c.text_len.ensures
