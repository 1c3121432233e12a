use Rattle.call_peek.proofs.PeekLaws.{refused-as, refused-peeks, peeking, admitted-as, admitted-peeks, in-table}
use Rattle.call_peek.proofs.peek.Goals as goal

pub peek_step-requires : goal.peek_step-requires
peek_step-requires c = peeking c.args.state.now c.args.received.now c.args.rx c.args.store c.admit.result c.admit.ensures _ c.in-Ok.is (λ j. (c.type_inv.state j).fits)

pub returns-in-Err-clause-answered : goal.returns-in-Err-clause-answered
returns-in-Err-clause-answered c = refused-peeks c.args.state.now c.args.received.now c.args.rx c.args.store c.admit.result c.admit.ensures _ c.in-Err.is _ c.no_packet.ensures

pub returns-in-Err-clause-as_dispatch : goal.returns-in-Err-clause-as_dispatch
returns-in-Err-clause-as_dispatch c = refused-as c.args.state.now c.args.received.now c.args.rx c.args.store c.admit.result c.admit.ensures _ c.in-Err.is _ c.no_packet.ensures

pub returns-in-Ok-clause-answered : goal.returns-in-Ok-clause-answered
returns-in-Ok-clause-answered c =
    admitted-peeks c.args.state.now c.args.received.now c.args.rx c.args.store c.admit.result c.admit.ensures _ c.in-Ok.is (λ j. (c.type_inv.state j).fits)
    _ c.peek_step.ensures

pub returns-in-Ok-clause-as_dispatch : goal.returns-in-Ok-clause-as_dispatch
returns-in-Ok-clause-as_dispatch c =
    admitted-as c.args.state.now c.args.received.now c.args.rx c.args.store c.admit.result c.admit.ensures _ c.in-Ok.is (λ j. (c.type_inv.state j).fits)
    _ c.peek_step.ensures

pub returns-in-Ok-clause-in_table : goal.returns-in-Ok-clause-in_table
returns-in-Ok-clause-in_table c =
    let here = peeking c.args.state.now c.args.received.now c.args.rx c.args.store c.admit.result c.admit.ensures _ c.in-Ok.is (λ j. (c.type_inv.state j).fits) in
    in-table c.args.state.now c.args.received.now here.0 _ c.peek_step.ensures
