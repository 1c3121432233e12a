use Rattle.std.proofs.Common.{◌≡◌, Bool, cond, sym, ◌∙◌, arith}
use Rattle.slot.specs.declared.ChannelSlot.{ChannelSlot}
use Rattle.state.specs.State.{slot_at}
use Rattle.table.proofs.Laws.{bit-small, bit-is, count-step, count-end}
use Rattle.table.specs.Table.{in_use}
use Rattle.table.proofs.in_use.Goals as goal

abbrev is_filled : ChannelSlot → Bool
is_filled s = s.filled

pub loop-i-init : goal.loop-i-init
loop-i-init c = (omega arith, omega arith, omega arith)

pub overflow_add-used : goal.overflow_add-used
overflow_add-used c = let z = bit-small c.slot_at-s.result.filled in omega arith

pub loop-i-preserved : goal.loop-i-preserved
loop-i-preserved c =
    let z = bit-small c.slot_at-s.result.filled in let e : cond (slot_at c.args.state.now c.loop-i.i).filled 1 0 ≡ c.from-used.result = sym (rw c.slot_at-s.ensures at (c.from-used.ensures ∙ bit-is c.slot_at-s.result.filled)) in let k = count-step is_filled c.args.state.now
    c.args.n c.loop-i.i (omega arith) (omega arith) in (omega arith, omega arith, omega arith)

pub returns : goal.returns
unfolding in_use
returns c = let k = count-end is_filled c.args.state.now c.args.n c.loop-i.i (omega arith) in omega arith
