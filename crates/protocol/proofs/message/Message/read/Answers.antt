use Rattle.protocol.specs.Message.{message_of}
use Rattle.protocol.proofs.message.Message.read.Goals as goal

pub returns : goal.returns
unfolding message_of
returns c = cc
