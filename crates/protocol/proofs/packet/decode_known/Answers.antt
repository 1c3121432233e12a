use native.Mathlib.Omega.{arith}
use mathlib.Core.Path.{sym, ◌∙◌}
use mathlib.Core.Bool.{true, false}
use Prim.Native.Nat.{◌+◌, min}
use lib.ListN.{length}
use borrow.Author.Tests.{eq-eqb, ne_eqb, lt-ltb, le-ltb}
use Rattle.protocol.specs.Command.{magic_of}
use Rattle.protocol.specs.Packet.{payload_limit, known_of, packet_of}
use Rattle.protocol.proofs.PacketLaws.{lent-check}
use Rattle.protocol.proofs.packet.decode_known.Goals as goal

pub returns-then-message-magic : goal.returns-then-message-magic
unfolding known_of packet_of
returns-then-message-magic c = rw (ne_eqb c.args.message.magic (magic_of c.args.command) (λ e. c.if-message-magic.true (e ∙ sym c.magic.ensures)))

pub returns-then-message-min : goal.returns-then-message-min
unfolding known_of packet_of
returns-then-message-min c =
    rw (
      eq-eqb c.args.message.magic (magic_of c.args.command) (c.if-message-magic.false ∙ c.magic.ensures),
      lt-ltb
          (min c.args.max_payload payload_limit) c.args.message.data_length (omega arith),
    )

pub returns-then-received-end : goal.returns-then-received-end
unfolding known_of packet_of
returns-then-received-end c =
    rw (
      eq-eqb c.args.message.magic (magic_of c.args.command) (c.if-message-magic.false ∙ c.magic.ensures),
      le-ltb
          (min c.args.max_payload payload_limit) c.args.message.data_length (omega arith),
      lt-ltb (length c.args.received.now)
          (24 + c.args.message.data_length) (omega arith),
    )

pub returns-then-check_passes : goal.returns-then-check_passes
unfolding known_of packet_of
returns-then-check_passes c =
    rw (
      eq-eqb c.args.message.magic (magic_of c.args.command) (c.if-message-magic.false ∙ c.magic.ensures),
      le-ltb
          (min c.args.max_payload payload_limit) c.args.message.data_length (omega arith),
      le-ltb (length c.args.received.now)
          (24 + c.args.message.data_length) (omega arith),
      lent-check c.args.received.now c.args.message.data_length
          c.args.message.data_check c.check_passes.result true c.check_passes.ensures c.if-check_passes.true,
    )

pub returns : goal.returns
unfolding known_of packet_of
returns c =
    rw (
      eq-eqb c.args.message.magic (magic_of c.args.command) (c.if-message-magic.false ∙ c.magic.ensures),
      le-ltb
          (min c.args.max_payload payload_limit) c.args.message.data_length (omega arith),
      le-ltb (length c.args.received.now)
          (24 + c.args.message.data_length) (omega arith),
      lent-check c.args.received.now c.args.message.data_length
          c.args.message.data_check c.check_passes.result false c.check_passes.ensures c.if-check_passes.false,
    )
