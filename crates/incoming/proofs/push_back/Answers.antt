use native.Mathlib.Omega.{arith}
use Rattle.state.specs.State.{state_of}
use Rattle.incoming.proofs.Laws.{push-full, push-queued}
use Rattle.incoming.proofs.ShareLaws.{share-fits}
use Rattle.incoming.proofs.push_back.Goals as goal

pub returns-then-queued-config : goal.returns-then-queued-config
returns-then-queued-config c =
    push-full c.args.h c.args.state.now c.args.remote c.args.credit c.args.destination.now
    c.args.store.now (omega arith)

pub overflow_mul-at : goal.overflow_mul-at
overflow_mul-at c =
    let z = share-fits c.args.h.negotiated.config.channels c.args.h.negotiated.config.max_payload c.args.h.queued
    c.free_share-share.result (state_of c.args.state.now).queue (omega arith) c.free_share-share.ensures in omega arith

pub copy_at-requires : goal.copy_at-requires
copy_at-requires c =
    let z = share-fits c.args.h.negotiated.config.channels c.args.h.negotiated.config.max_payload c.args.h.queued
    c.free_share-share.result (state_of c.args.state.now).queue (omega arith) c.free_share-share.ensures in omega arith

pub returns : goal.returns
returns c =
    push-queued c.args.h c.args.state.now c.args.remote c.args.credit c.args.destination.now
    c.args.store.now c.free_share-share.result c.put_queued.new.state c.copy_at.new.dst
    c.with_queued.result (omega arith) c.free_share-share.ensures c.put_queued.ensures c.copy_at.ensures
    c.with_queued.ensures
