use mathlib.Core.Path.{ap}
use Rattle.slot.specs.Slot.{is_ack}
use Rattle.call.proofs.FrameLaws.{ack-none, ack-some}
use Rattle.call.proofs.frames.put_ack.Goals as goal

pub put_okay-requires : goal.put_okay-requires
unfolding is_ack
put_okay-requires c = c.requires (ap is_ack c.in-Some.is)

pub returns-in-None : goal.returns-in-None
returns-in-None c = ack-none c.args.n c.args.settled.slot _ _ c.args.settled.ack c.in-None.is

pub returns-in-Some : goal.returns-in-Some
returns-in-Some c =
    ack-some c.args.n c.args.settled.slot _ _ _ _ c.args.settled.ack _ _ c.in-Some.is c.ids_in.ensures
    c.put_okay.ensures
