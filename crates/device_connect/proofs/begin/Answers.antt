use Rattle.std.proofs.Common.{arith}
use Rattle.device.proofs.HeadLaws.{head-long}
use Rattle.device_connect.proofs.ConnectLaws.{set-long, begins-anew}
use Rattle.device_connect.proofs.begin.Goals as goal

pub bounds-state-0 : goal.bounds-state-0
bounds-state-0 c = let h = head-long c.args.state.now c.requires in omega arith

pub slice_bounds-inner-count : goal.slice_bounds-inner-count
slice_bounds-inner-count c = set-long c.args.state.now c.requires

pub slice_bounds-inner-start : goal.slice_bounds-inner-start
slice_bounds-inner-start c = set-long c.args.state.now c.requires

pub returns : goal.returns
returns c =
    begins-anew c.args.state.now c.requires c.args.config c.args.packet c.args.ours c.args.theirs _ c.make-made.ensures.state-is
