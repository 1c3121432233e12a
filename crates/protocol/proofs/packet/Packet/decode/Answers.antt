use native.Mathlib.Omega.{arith}
use mathlib.Core.Path.{◌≡◌, ◌∙◌}
use borrow.Author.Rules.{rules}
use borrow.Author.Tests.{lt-ltb}
use Rattle.std.specs.Prelude.{Ok, Err}
use Rattle.protocol.specs.declared.packet.DecodeError.TheVariants.{InvalidCommand}
use Rattle.protocol.specs.Packet.{decode_of, named_of}
use Rattle.protocol.proofs.PacketLaws.{named-decode}
use Rattle.protocol.proofs.packet.Packet.decode.Goals as goal

pub returns-then-received-lt-MESSAGE_SIZE : goal.returns-then-received-lt-MESSAGE_SIZE
unfolding decode_of
returns-then-received-lt-MESSAGE_SIZE c = rw (lt-ltb _ _ c.if-received-lt-MESSAGE_SIZE.true)

pub returns-in_err-command : goal.returns-in_err-command
unfolding named_of
returns-in_err-command c =
    let unknown = c.in_err-command.field-0.0 in
    let is : c.from_residual.result ≡ Err (InvalidCommand unknown.0) = search rules in
    is ∙ named-decode c.args.received.now c.args.max_payload c.read-message.result (Err unknown) (omega arith) c.read-message.ensures
    c.in_err-command.ensures

pub returns : goal.returns
unfolding named_of
returns c =
    c.decode_known.ensures ∙ named-decode c.args.received.now c.args.max_payload c.read-message.result (Ok c.in_ok-command.command) (omega arith)
    c.read-message.ensures c.in_ok-command.ensures
