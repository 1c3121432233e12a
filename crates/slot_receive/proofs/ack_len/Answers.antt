use Rattle.std.proofs.Common.{ap, ◌∙◌, arith, le-ltb, lt-ltb, eq-eqb, ne_eqb}
use Rattle.slot.specs.Slot.{ack_len_of, some_len}
use Rattle.slot_receive.proofs.ack_len.Goals as goal

pub returns-then-slot-eq0 : goal.returns-then-slot-eq0
unfolding ack_len_of
returns-then-slot-eq0 c = rw (eq-eqb c.args.slot.unacked 0 c.if-slot-eq0.true)

pub returns-then-policy : goal.returns-then-policy
unfolding ack_len_of
returns-then-policy c = rw (ne_eqb c.args.slot.unacked 0 c.if-slot-eq0.false, c.if-policy.true) (c.some_len.ensures ∙ ap some_len c.min.ensures)

pub returns-then-remaining-policy : goal.returns-then-remaining-policy
unfolding ack_len_of
returns-then-remaining-policy c =
    rw (
      ne_eqb c.args.slot.unacked 0 c.if-slot-eq0.false,
      c.if-policy.false,
      lt-ltb c.args.remaining
          c.args.policy.watermark (omega arith),
    )

pub returns : goal.returns
unfolding ack_len_of
returns c =
    rw (
      ne_eqb c.args.slot.unacked 0 c.if-slot-eq0.false,
      c.if-policy.false,
      le-ltb c.args.remaining
          c.args.policy.watermark (omega arith),
    )
