use mathlib.Core.Path.{ap, ◌∙◌}
use Rattle.slot.specs.Slot.{reserved_of, reserved_by}
use Rattle.slot_send.proofs.try_reserve_send.Goals as goal

pub returns-in_err-most : goal.returns-in_err-most
unfolding reserved_of reserved_by
returns-in_err-most c = c.from_residual.ensures ∙ ap (reserved_by c.args.slot c.args.policy c.args.want) c.in_err-most.ensures

pub returns : goal.returns
unfolding reserved_of reserved_by
returns c =
    rw (c.spend.ensures, c.min-n.ensures) (ap (reserved_by c.args.slot c.args.policy c.args.want) c.in_ok-most.ensures)
