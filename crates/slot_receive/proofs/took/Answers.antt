use Rattle.std.proofs.Common.{◌*◌, arith}
use Rattle.rx_store.proofs.Laws.{head-taken}
use Rattle.slot.specs.Slot.{took_of}
use Rattle.slot_receive.proofs.took.Goals as goal

pub overflow_cast-head : goal.overflow_cast-head
overflow_cast-head c =
    let r = head-taken (2 * c.args.cap) c.args.slot.head c.args.slot.buffered c.args.n
    (omega arith) (omega arith) in
    record { fits = omega arith }

pub returns : goal.returns
unfolding took_of
returns c = cc
