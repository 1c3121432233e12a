use Rattle.std.proofs.Common.{List, ℕ, [], length, sym, ◌∙◌}
use Rattle.state_whole.specs.Whole.{is_whole}
use Rattle.connection.specs.Calls.{settle_outcome}
use Rattle.call.specs.Promise.{lent_of}
use Rattle.device.proofs.HeadLaws.{head-long}
use Rattle.device.proofs.HostLaws.{host-refused, host-leaves}
use Rattle.device_settle.specs.Promise.{device_settle}
use Rattle.device_settle.proofs.settle.Goals as goal

pub split_at_mut-inner-requires : goal.split_at_mut-inner-requires
split_at_mut-inner-requires c = head-long c.args.state.now (sym c.head_fine.ensures ∙ c.if-head_fine.true)

pub returns-then-head_fine : goal.returns-then-head_fine
unfolding device_settle
returns-then-head_fine c =
    host-leaves c.args.state.now c.args.rx.now c.args.store.now c.args.out.now []
    (λ (i : List ℕ). settle_outcome (is_whole i) (lent_of i c.args.rx.now c.args.store.now) (length c.args.out.now) c.args.ch c.args.want)
    _ c.head_fine.ensures _ _ _ _ _ _ _ _ _ c.if-head_fine.true
    c.split_at_mut-inner.ensures.front c.split_at_mut-inner.ensures.back c.settle.ensures c.plain.ensures

pub returns : goal.returns
unfolding device_settle
returns c =
    host-refused c.args.state.now c.args.rx.now c.args.store.now c.args.out.now []
    (λ (i : List ℕ). settle_outcome (is_whole i) (lent_of i c.args.rx.now c.args.store.now) (length c.args.out.now) c.args.ch c.args.want)
    _ c.head_fine.ensures _ _ c.if-head_fine.false c.refused.ensures c.plain-2.ensures
