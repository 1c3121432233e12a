-- How far a WRTE takes the credit at a device's end: as far as in the connection's list. Assumes nothing.
use Rattle.std.proofs.Common.{sym, subst}
use Rattle.std.specs.Prelude.{pos, neg_ℤ, ◌<ℤ◌}
use Rattle.history.specs.Run.{World}
use Rattle.history.specs.Demand3.{place_slot}
use Rattle.history.specs.Spending.{longest}
use Rattle.history.proofs.Floor.{floor}
use Rattle.device_history.specs.Trace.{story}
use Rattle.device_history.specs.Spending.{agreed_at, DeviceFloor}
use Rattle.device_history.proofs.Follows.{start_of, keeps}

pub device-floor : DeviceFloor
device-floor d xs i =
    let s = story d xs in
    let k = keeps d xs in
    subst (λ (v : World). neg_ℤ (pos (longest (agreed_at s.from))) <ℤ (place_slot v i).send_budget) (sym k.same)
    (floor (start_of s.from k.within k.long) s.calls i)
