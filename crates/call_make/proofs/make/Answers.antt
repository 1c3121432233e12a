use Rattle.call_make.proofs.MakeLaws.{make-short, make-bad, make-done}
use native.Mathlib.Omega.{arith}
use mathlib.Core.Path.{refl, sym, ◌∙◌}
use Rattle.call_make.proofs.make.Goals as goal

pub returns-then-state-lt-STATE_LEN : goal.returns-then-state-lt-STATE_LEN
returns-then-state-lt-STATE_LEN c =
    make-short c.args.state.now c.args.config c.args.version c.args.max_payload c.args.host_delayed_ack
    c.args.device_delayed_ack _ (omega arith) refl

pub returns-then-within_limits : goal.returns-then-within_limits
returns-then-within_limits c =
    make-done c.args.state.now c.args.config c.args.version c.args.max_payload c.args.host_delayed_ack
    c.args.device_delayed_ack _ c.new-n.result c.fresh_header.result _ _ _ (omega arith)
    (sym c.within_limits.ensures ∙ c.if-within_limits.true) c.new-n.ensures c.clear_slots.ensures
    c.clear_queue.ensures c.fresh_header.ensures c.put_header.ensures refl

pub returns : goal.returns
returns c =
    make-bad c.args.state.now c.args.config c.args.version c.args.max_payload c.args.host_delayed_ack
    c.args.device_delayed_ack _ (omega arith) (sym c.within_limits.ensures ∙ c.if-within_limits.false) refl
