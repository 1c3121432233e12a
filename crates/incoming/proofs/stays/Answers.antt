use Rattle.incoming.specs.Incoming.{stays_by}
use Rattle.incoming.proofs.stays.Goals as goal

pub returns-in-None : goal.returns-in-None
unfolding stays_by
returns-in-None c = rw c.in-None.is

pub returns-in-Some : goal.returns-in-Some
unfolding stays_by
returns-in-Some c = rw c.in-Some.is c.ne.ensures
