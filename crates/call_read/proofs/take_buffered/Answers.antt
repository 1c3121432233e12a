use mathlib.Core.Path.{◌≡◌}
use borrow.Author.Rules.{rules}
use Rattle.std.specs.Prelude.{Ok, Some, None}
use Rattle.call_read.proofs.ReadLaws.{ack-due, set-sound, take-room-is, tries-nothing, tries-closed, tries-data}
use Rattle.call_read.proofs.take_buffered.Goals as goal

pub put_ack-end-requires : goal.put_ack-end-requires
put_ack-end-requires c =
    ack-due c.args.h c.args.ch c.args.used c.args.fault c.args.at c.args.state.now
    c.args.rx.now c.args.rx.now c.args.out.now c.args.buf.now c.args.slot
    c.rx_policy-policy.result c.settle_take-settled.result c.requires.1 c.rx_policy-policy.ensures
    c.settle_take-settled.ensures c.requires.0

pub take_buffered-taken-requires : goal.take_buffered-taken-requires
take_buffered-taken-requires c =
    set-sound c.args.h c.args.ch c.args.used c.args.fault c.args.at c.args.state.now
    c.args.rx.now c.args.rx.now c.args.out.now c.args.buf.now c.args.slot
    c.rx_policy-policy.result c.settle_take-settled.result c.requires.1 c.rx_policy-policy.ensures
    c.settle_take-settled.ensures c.requires.0

pub hand_over-requires : goal.hand_over-requires
hand_over-requires c =
    let is : c.take_buffered-taken.result ≡ Ok (Some (c.in-Ok-Some.t, c.in-Ok-Some.len)) = search rules in
    take-room-is c.args.h c.args.ch c.args.used c.args.fault c.args.at c.args.state.now
    c.args.rx.now c.args.rx.now c.args.out.now c.args.buf.now c.args.slot
    c.rx_policy-policy.result c.settle_take-settled.result c.requires.1 c.rx_policy-policy.ensures
    c.settle_take-settled.ensures c.requires.0 _ _ _ c.take_buffered-taken.ensures is

pub ends_with-requires-in-Err : goal.ends_with-requires-in-Err
ends_with-requires-in-Err c = (c.requires.0.place-fits, c.requires.0.state-fits)

pub returns-in-Ok-None : goal.returns-in-Ok-None
returns-in-Ok-None c =
    let is : c.take_buffered-taken.result ≡ Ok None = search rules in
    λ store. tries-nothing c.args.h c.args.ch c.args.used c.args.fault c.args.at c.args.state.now
    c.args.rx.now store c.args.out.now c.args.buf.now c.args.slot c.rx_policy-policy.result
    c.settle_take-settled.result c.requires.1 c.rx_policy-policy.ensures c.settle_take-settled.ensures c.requires.0 _
    _ c.put_ack-end.ensures _ c.take_buffered-taken.ensures is

pub returns-in-Err : goal.returns-in-Err
returns-in-Err c =
    λ store. tries-closed c.args.h c.args.ch c.args.used c.args.fault c.args.at c.args.state.now
    c.args.rx.now store c.args.out.now c.args.buf.now c.args.slot c.rx_policy-policy.result
    c.settle_take-settled.result c.requires.1 c.rx_policy-policy.ensures c.settle_take-settled.ensures c.requires.0 _
    _ c.put_ack-end.ensures _ _ c.unless_fault-answer.result c.from.result _ _ c.take_buffered-taken.ensures
    c.in-Err.is c.from.ensures c.unless_fault-answer.ensures c.ends_with-in-Err.ensures.0 c.ends_with-in-Err.ensures.1

pub returns-in-Ok-Some : goal.returns-in-Ok-Some
returns-in-Ok-Some c =
    let is : c.take_buffered-taken.result ≡ Ok (Some (c.in-Ok-Some.t, c.in-Ok-Some.len)) = search rules in
    λ store. tries-data c.args.h c.args.ch c.args.used c.args.fault c.args.at c.args.state.now
    c.args.rx.now store c.args.out.now c.args.buf.now c.args.slot c.rx_policy-policy.result
    c.settle_take-settled.result c.requires.1 c.rx_policy-policy.ensures c.settle_take-settled.ensures c.requires.0 _
    _ c.put_ack-end.ensures _ _ _ _ _ _ c.take_buffered-taken.ensures is
    c.hand_over.ensures c.ends_with.ensures.0 c.ends_with.ensures.1
