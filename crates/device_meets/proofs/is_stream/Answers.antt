use Rattle.device_meets.proofs.MeetsLaws.{found-place, stream-found}
use Rattle.device_meets.proofs.is_stream.Goals as goal

pub slot_at-requires : goal.slot_at-requires
slot_at-requires c =
    (found-place c.args.state.now c.args.channels c.args.local _ c.requires.0 c.place_below.ensures _ c.in-Some.is, c.requires.1)

pub returns-in-Some : goal.returns-in-Some
returns-in-Some c =
    rw (c.is_closed.ensures, c.slot_at.ensures)
    (stream-found c.args.state.now c.args.channels c.args.local _ c.requires.0 c.place_below.ensures _ c.in-Some.is c.if-local-eq0.false)
