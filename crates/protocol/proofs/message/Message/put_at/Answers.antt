use Rattle.le.specs.Le.{bytes_of}
use Rattle.le.specs.Rows.{flat}
use Rattle.protocol.specs.Message.{header_bytes}
use Rattle.protocol.proofs.message.Message.put_at.Goals as goal

pub returns : goal.returns
unfolding flat header_bytes bytes_of
returns c = c.put_all.ensures
