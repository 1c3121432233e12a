use mathlib.Core.List.{[]}
use Rattle.call_open.proofs.OpenLaws.{open_none, open-large, open-short, open-sends, begin-looks, begin-limits}
use native.Mathlib.Omega.{arith}
use Rattle.call_open.proofs.open_channel.Goals as goal

pub allocate-requires : goal.allocate-requires
allocate-requires c =
    begin-looks c.args.state.now [] [] c.args.out.now c.args.h c.requires.1
    c.requires.0

pub returns-then-len : goal.returns-then-len
returns-then-len c =
    λ rx store. open-large c.args.state.now rx store c.args.out.now c.args.h c.requires.1
    c.args.destination.now c.allocate.result c.allocate.ensures _ c.in-Ok.is
    c.numbered.result _ _ c.if-len.true c.numbered.ensures c.ends-then-len.ensures.0
    c.ends-then-len.ensures.1

pub returns-then-out-len : goal.returns-then-out-len
returns-then-out-len c =
    λ rx store. open-short c.args.state.now rx store c.args.out.now c.args.h c.requires.1
    c.args.destination.now c.allocate.result c.allocate.ensures _ c.in-Ok.is c.if-len.false
    _ c.if-out-len.true c.refused.ensures

pub put_open-end-requires : goal.put_open-end-requires
put_open-end-requires c = (
  begin-limits c.args.state.now [] [] c.args.out.now c.args.h c.requires.1
      c.requires.0,
  record { small = c.if-len.false; fits = c.if-out-len.false },
)

pub ends-requires-in-Ok : goal.ends-requires-in-Ok
ends-requires-in-Ok c = omega (arith, c.requires, c.out-1.given)

pub returns-in-Err : goal.returns-in-Err
returns-in-Err c =
    λ rx store. open_none c.args.state.now rx store c.args.out.now c.args.h c.requires.1
    c.args.destination.now c.allocate.result c.allocate.ensures _ _ c.in-Err.is
    c.ends.ensures.0 c.ends.ensures.1

pub returns-else-out-len : goal.returns-else-out-len
returns-else-out-len c =
    λ rx store. open-sends c.args.state.now rx store c.args.out.now c.args.h c.requires.1
    c.args.destination.now c.allocate.result c.allocate.ensures _ c.in-Ok.is c.if-len.false
    c.numbered-in-Ok.result c.pending_for.result _ _ _ _ c.if-out-len.false c.put_open-end.ensures
    c.numbered-in-Ok.ensures c.pending_for.ensures c.ends-in-Ok.ensures.0 c.ends-in-Ok.ensures.1
