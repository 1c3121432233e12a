use mathlib.Core.Path.{sym, ap, ◌∙◌}
use Rattle.std.specs.Prelude.{Err}
use Rattle.connection.specs.Calls.{received_by}
use Rattle.call.proofs.recv.recv_pkt.Goals as goal

pub returns-in-Err-InvalidChecksum : goal.returns-in-Err-InvalidChecksum
unfolding received_by
returns-in-Err-InvalidChecksum c =
    let k = c.in-Err-InvalidChecksum in
    ap received_by (sym (k.is ∙ ap Err k.field-0-is) ∙ c.decode.ensures)
