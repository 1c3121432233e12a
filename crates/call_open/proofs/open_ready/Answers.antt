use mathlib.Core.List.{[]}
use Rattle.connection.specs.declared.Refusal.TheVariants.{BadCredit}
use Rattle.connection.specs.declared.Answer.TheVariants.{Opened, Refused}
use Rattle.call_open.proofs.OpenLaws.{packet-fits, open-limits, open-place, ready-fills, ready-bad}
use Rattle.table.specs.declared.ChannelId.{ChannelId}
use lib.ListN.{length}
use Prim.Native.Nat.{◌≤◌, ◌<◌, ℕ}
use native.Mathlib.Omega.{arith}
use mathlib.Core.Path.{sym, subst, ap, ◌∙◌}
use Rattle.state.specs.State.{state_len}
use Rattle.call_open.proofs.open_ready.Goals as goal

pub frame_len-used-requires : goal.frame_len-used-requires
frame_len-used-requires c =
    (packet-fits c.args.state.now [] [] c.args.out.now c.args.h c.requires.1
    c.args.received.now c.args.packet (c.requires.3 [] [])).most

pub payload_in-payload-requires : goal.payload_in-payload-requires
payload_in-payload-requires c =
    (packet-fits c.args.state.now [] [] c.args.out.now c.args.h c.requires.1
    c.args.received.now c.args.packet (c.requires.3 [] [])).whole

pub rx_policy-requires : goal.rx_policy-requires
rx_policy-requires c =
    open-limits c.args.state.now [] [] c.args.out.now c.args.h c.requires.1
    c.requires.0

pub ends_with-requires : goal.ends_with-requires
ends_with-requires c =
    subst (λ (x : ChannelId). (x.slot < 64) × (state_len ≤ length c.args.state.now)) (sym c.pending_channel-ch.ensures)
    (open-place c.args.state.now [] [] c.args.out.now c.args.h c.requires.1
    c.requires.0 c.requires.2)

pub close_open-requires : goal.close_open-requires
close_open-requires c = let k = c.requires.0.room in let j = c.requires.0.state-fits in (j, omega arith)

pub returns-in-Ok : goal.returns-in-Ok
returns-in-Ok c =
    λ rx store. ready-fills c.args.state.now rx store c.args.out.now c.args.h c.requires.1
    c.args.received.now c.args.packet c.pending_channel-ch.result c.pending_channel-ch.ensures
    c.payload_in-payload.result.now c.payload_in-payload.ensures c.rx_policy.result c.rx_policy.ensures
    c.opening-opening.result c.opening-opening.ensures c.accept_open_ready.result
    c.accept_open_ready.ensures _ c.drop_pending.result _ _ c.in-Ok.is
    c.drop_pending.ensures c.ends_with.ensures.0
    (c.ends_with.ensures.1 ∙ ap (λ (x : ℕ). record { answer = Opened c.pending_channel-ch.result; used = x; written = 0 })
    c.frame_len-used.ensures)

pub returns-in-Err : goal.returns-in-Err
returns-in-Err c =
    λ rx store. ready-bad c.args.state.now rx store c.args.out.now c.args.h c.requires.1
    c.args.received.now c.args.packet c.pending_channel-ch.result c.pending_channel-ch.ensures
    c.payload_in-payload.result.now c.payload_in-payload.ensures c.rx_policy.result c.rx_policy.ensures
    c.opening-opening.result c.opening-opening.ensures c.accept_open_ready.result
    c.accept_open_ready.ensures _ _ _ _ _ c.requires.0.room c.in-Err.is
    c.close_open.ensures.0 c.close_open.ensures.1.0
    (c.close_open.ensures.1.1 ∙ ap (λ (x : ℕ). record { answer = Refused (BadCredit c.in-Err.fault); used = x; written = c.close_open.result.written })
    c.frame_len-used.ensures)
