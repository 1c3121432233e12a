use mathlib.Core.List.{[]}
use mathlib.Core.Path.{◌≡◌}
use borrow.Author.Rules.{rules}
use Rattle.std.specs.Prelude.{Ok, Some, None}
use Rattle.call.proofs.ThereLaws.{slot-fits}
use Rattle.call_take.proofs.TakeLaws.{take-ok, hand-room, take-data, take-nothing, take-closed}
use Rattle.call_take.proofs.take_there.Goals as goal

pub take_buffered-requires : goal.take_buffered-requires
take_buffered-requires c =
    take-ok c.args.state.now c.args.rx.now [] 56 c.args.h c.requires.0.1 c.requires.0.0
    c.args.ch (c.requires.2 []) c.args.s c.rx_cap-cap.result (c.requires.3 []) c.rx_cap-cap.ensures

pub hand_over-requires : goal.hand_over-requires
hand_over-requires c =
    let is : c.take_buffered.result ≡ Ok (Some (c.in-Ok-Some.rest, c.in-Ok-Some.len)) = search rules in
    hand-room c.args.state.now c.args.rx.now [] 56 c.args.h c.requires.0.1 c.requires.0.0
    c.args.ch (c.requires.2 []) c.args.s c.rx_cap-cap.result (c.requires.3 []) c.rx_cap-cap.ensures
    c.args.buf.now c.take_buffered.result c.take_buffered.ensures _ _ c.requires.1 is

pub ends_with-requires : goal.ends_with-requires
ends_with-requires c =
    slot-fits c.args.state.now c.args.rx.now [] c.args.h c.requires.0.1 56 c.requires.0.0
    c.args.ch (c.requires.2 [])

pub returns-in-Ok-Some : goal.returns-in-Ok-Some
returns-in-Ok-Some c =
    let is : c.take_buffered.result ≡ Ok (Some (c.in-Ok-Some.rest, c.in-Ok-Some.len)) = search rules in
    λ store. take-data c.args.state.now c.args.rx.now store 56 c.args.h c.requires.0.1 c.requires.0.0
    c.args.ch (c.requires.2 store) c.args.s c.rx_cap-cap.result (c.requires.3 store) c.rx_cap-cap.ensures
    c.args.buf.now c.take_buffered.result c.take_buffered.ensures _ _ _ _ _
    is c.hand_over.ensures c.ends_with.ensures.0 c.ends_with.ensures.1

pub returns-in-Ok-None : goal.returns-in-Ok-None
returns-in-Ok-None c =
    let is : c.take_buffered.result ≡ Ok None = search rules in
    λ store. take-nothing c.args.state.now c.args.rx.now store 56 c.args.h c.requires.0.1 c.requires.0.0
    c.args.ch (c.requires.2 store) c.args.s c.rx_cap-cap.result (c.requires.3 store) c.rx_cap-cap.ensures
    c.args.buf.now c.take_buffered.result c.take_buffered.ensures _ _
    is c.ends.ensures.0 c.ends.ensures.1

pub returns-in-Err : goal.returns-in-Err
returns-in-Err c =
    λ store. take-closed c.args.state.now c.args.rx.now store 56 c.args.h c.requires.0.1 c.requires.0.0
    c.args.ch (c.requires.2 store) c.args.s c.rx_cap-cap.result (c.requires.3 store) c.rx_cap-cap.ensures
    c.args.buf.now c.take_buffered.result c.take_buffered.ensures _ c.from.result
    _ _ c.in-Err.is c.from.ensures c.ends-in-Err.ensures.0 c.ends-in-Err.ensures.1
