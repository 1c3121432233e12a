use borrow.Author.Tests.{leb-true, leb-false, lt-leb}
use lib.Dec.{leb}
use Rattle.le.proofs.Parts.{by-test}
use Rattle.std.proofs.Common.{sym, arith, ◌+◌, ◌-◌, ◌*◌, ◌%◌}
use Rattle.slot.proofs.Kept.{unsound, sound-holds}
use Rattle.slot_receive.proofs.is_sound.Goals as goal

pub returns-then-settled-cap : goal.returns-then-settled-cap
returns-then-settled-cap c = unsound c.args.slot c.args.cap (omega arith) (λ ok. omega arith)

pub returns-then-held-cap : goal.returns-then-held-cap
returns-then-held-cap c =
    by-test (leb c.args.slot.head (2 * c.args.cap - c.args.slot.buffered))
    (λ t. let fits = leb-true c.args.slot.head (2 * c.args.cap - c.args.slot.buffered) t in
    rw t (sym (sound-holds c.args.slot c.args.cap (record {
      settled-buffered = omega arith;
      settled-cap = omega arith;
      held-cap = omega arith;
      run_fits = omega arith;
      cap-small = omega arith;
    }))))
    (λ t. let over = leb-false c.args.slot.head (2 * c.args.cap - c.args.slot.buffered) t in
    rw t (unsound c.args.slot c.args.cap (omega arith) (λ ok. omega arith)))

pub returns-else-held-cap : goal.returns-else-held-cap
returns-else-held-cap c =
    let wrapped = (c.args.slot.buffered + (18446744073709551616 - c.args.slot.settled)) % 18446744073709551616 in
    rw (lt-leb wrapped c.args.cap (omega arith)) (unsound c.args.slot c.args.cap (omega arith) (λ ok. omega arith))
