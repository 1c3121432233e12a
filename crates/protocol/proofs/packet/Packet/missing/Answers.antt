use borrow.Author.Tests.{lt-ltb, le-ltb}
use Rattle.protocol.specs.Packet.{missing_of}
use Rattle.protocol.proofs.packet.Packet.missing.Goals as goal

pub returns-then-received-lt-MESSAGE_SIZE : goal.returns-then-received-lt-MESSAGE_SIZE
unfolding missing_of
returns-then-received-lt-MESSAGE_SIZE c = rw (lt-ltb _ _ c.if-received-lt-MESSAGE_SIZE.true)

pub returns : goal.returns
unfolding missing_of
returns c = rw (le-ltb _ _ c.if-received-lt-MESSAGE_SIZE.false, c.saturating_sub.ensures, c.get.ensures)
