use Rattle.wire.proofs.send_open.Goals as goal

pub returns : goal.returns
returns c = c.put_at.ensures
