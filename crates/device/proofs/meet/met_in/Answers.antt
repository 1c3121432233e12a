use Rattle.std.proofs.Common.{ap, ◌∙◌, List, ℕ}
use Rattle.state.specs.State.{state_of}
use Rattle.device_meets.specs.Meets.{meets}
use Rattle.device.specs.Device.{met_in}
use Rattle.device.proofs.HeadLaws.{head-long}
use Rattle.device.proofs.MeetLaws.{inner-lent}
use Rattle.device.proofs.meet.met_in.Goals as goal

pub is_connected-requires : goal.is_connected-requires
is_connected-requires c = head-long c.args.state.now c.requires.fine

pub slice_bounds-meets-count : goal.slice_bounds-meets-count
slice_bounds-meets-count c = head-long c.args.state.now c.requires.fine

pub slice_bounds-meets-start : goal.slice_bounds-meets-start
slice_bounds-meets-start c = head-long c.args.state.now c.requires.fine

pub meets-requires : goal.meets-requires
meets-requires c = rw (inner-lent c.args.state.now c.requires.fine) c.requires.inner

pub returns-then-is_connected : goal.returns-then-is_connected
unfolding met_in
returns-then-is_connected c =
    rw (← c.is_connected.ensures, c.if-is_connected.true)
    (c.meets.ensures ∙ ap (λ (x : List ℕ). meets c.args.h (state_of x).slots c.args.names.now c.args.received.now) (inner-lent c.args.state.now c.requires.fine))
