use Rattle.call.proofs.AdmitLaws.{admits-state, admits-stores}
use Prim.Native.Nat.{ℕ}
use Rattle.call_open.proofs.OpenLaws.{packet-fits, open-room, open-acts}
use native.Mathlib.Omega.{arith}
use mathlib.Core.Path.{ap, ◌∙◌}
use Rattle.call_open.proofs.open_act.Goals as goal

pub frame_len-used-requires : goal.frame_len-used-requires
frame_len-used-requires c =
    (packet-fits c.args.state.now c.args.rx.now c.args.store.now c.args.out.now c.args.h c.requires.1
    c.args.received.now c.args.packet c.requires.2).most

pub payload_in-payload-requires : goal.payload_in-payload-requires
payload_in-payload-requires c =
    (packet-fits c.args.state.now c.args.rx.now c.args.store.now c.args.out.now c.args.h c.requires.1
    c.args.received.now c.args.packet c.requires.2).whole

pub act_on-acted-requires : goal.act_on-acted-requires
act_on-acted-requires c =
    open-room c.args.state.now c.args.rx.now c.args.store.now c.args.out.now c.args.h c.requires.1
    (admits-state c.requires.0) c.args.received.now c.payload_in-payload.result.now c.args.packet (admits-stores c.requires.0) c.requires.2
    c.payload_in-payload.ensures

pub ends-requires : goal.ends-requires
ends-requires c = omega (arith, c.requires, c.state-1.given)

pub returns : goal.returns
returns c =
    open-acts c.args.state.now c.args.rx.now c.args.store.now c.args.out.now c.args.h c.requires.1
    c.args.received.now c.args.packet c.payload_in-payload.result.now c.act_on-acted.result
    c.unless_fault-answer.result c.still_pending-later.result _ _ _ _ _ _ c.payload_in-payload.ensures
    c.act_on-acted.ensures c.unless_fault-answer.ensures c.still_pending-later.ensures
    c.ends.ensures.0 (c.ends.ensures.1 ∙ ap (λ (x : ℕ). record
    { answer = c.unless_fault-answer.result; used = x; written = c.act_on-acted.result.end }) c.frame_len-used.ensures)
