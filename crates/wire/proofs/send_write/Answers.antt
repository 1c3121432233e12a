use Rattle.wire.proofs.send_write.Goals as goal

pub returns : goal.returns
returns c = c.put_at.ensures
