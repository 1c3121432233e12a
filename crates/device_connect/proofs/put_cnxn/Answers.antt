use Rattle.device_connect.specs.Connect.{cnxn_bytes}
use Rattle.device_connect.proofs.put_cnxn.Goals as goal

pub returns : goal.returns
unfolding cnxn_bytes
returns c = c.put_at.ensures
