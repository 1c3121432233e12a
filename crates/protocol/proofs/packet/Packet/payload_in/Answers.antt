use Rattle.le.proofs.Parts.{lent-part}
use Rattle.protocol.specs.Packet.{payload_of}
use Rattle.protocol.proofs.packet.Packet.payload_in.Goals as goal

pub returns : goal.returns
unfolding payload_of
returns c = lent-part c.args.received.now 24 c.args.self.data_length
