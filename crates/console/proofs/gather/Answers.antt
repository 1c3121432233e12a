use Rattle.std.proofs.Common.{arith, Some, None}
use Rattle.console.proofs.GatherLaws.{here-lent, over-waits, over-refused, lent-rest, gathering-starts, gathering-room, gathering-goes, gathering-ends}
use Rattle.console.proofs.gather.Goals as goal

pub loop-frame-init : goal.loop-frame-init
loop-frame-init c = gathering-starts c.args.wanted c.args.received.now c.args.out.now c.requires

pub keep-length-requires : goal.keep-length-requires
keep-length-requires c =
    let g = c.loop-frame.invariant in
    let h = here-lent c.args.received.now c.loop-frame.used g.within c.in-Ok-Some.frame (cc) in
    gathering-room c.args.wanted c.args.received.now c.args.out.now c.loop-frame.out c.loop-frame.used c.loop-frame.length c.in-Ok-Some.frame _ g h c.payload.ensures

pub loop-frame-smaller : goal.loop-frame-smaller
loop-frame-smaller c =
    let g = c.loop-frame.invariant in
    let h = here-lent c.args.received.now c.loop-frame.used g.within c.in-Ok-Some.frame (cc) in
    omega arith

pub loop-frame-preserved : goal.loop-frame-preserved
loop-frame-preserved c =
    let g = c.loop-frame.invariant in
    let h = here-lent c.args.received.now c.loop-frame.used g.within c.in-Ok-Some.frame (cc) in
    gathering-goes c.args.wanted c.args.received.now c.args.out.now c.loop-frame.out c.loop-frame.used c.loop-frame.length c.in-Ok-Some.frame _ _ _ g h
    c.payload.ensures c.keep-length.ensures

pub returns-in-Ok-None : goal.returns-in-Ok-None
returns-in-Ok-None c =
    let g = c.loop-frame.invariant in
    gathering-ends c.args.wanted c.args.received.now c.args.out.now c.loop-frame.out c.loop-frame.used c.loop-frame.length None g
    (over-waits c.args.received.now c.loop-frame.used g.within (cc (lent-rest c.args.received.now c.loop-frame.used)))

pub returns-in-Err : goal.returns-in-Err
returns-in-Err c =
    let g = c.loop-frame.invariant in
    gathering-ends c.args.wanted c.args.received.now c.args.out.now c.loop-frame.out c.loop-frame.used c.loop-frame.length (Some c.in-Err.refusal) g
    (over-refused c.args.received.now c.loop-frame.used g.within c.in-Err.refusal (cc (lent-rest c.args.received.now c.loop-frame.used)))
