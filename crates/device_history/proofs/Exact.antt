-- Demand 3 at a device's end: it is that of the connection's list. Assumes nothing.
use Rattle.std.proofs.Common.{sym, subst}
use Rattle.history.specs.Run.{World}
use Rattle.history.specs.Seen.{events_of}
use Rattle.history.specs.Demand3.{Claims}
use Rattle.history.proofs.Theorem.{demand-3}
use Rattle.history.proofs.Given.{numbers_apart}
use Rattle.device_history.specs.Trace.{begins_at, policy_at, story}
use Rattle.device_history.specs.Exact.{DeviceExact, DeviceExactFree}
use Rattle.device_history.proofs.Follows.{start_of, keeps}

pub device-exact : DeviceExact
device-exact d xs apart =
    let s = story d xs in
    let k = keeps d xs in
    subst (λ (v : World). Claims (policy_at s.from) v (events_of (begins_at s.from) s.calls)) (sym k.same) (demand-3 (start_of s.from k.within k.long) s.calls apart)

pub device-exact-free : DeviceExactFree
device-exact-free d xs few =
    let s = story d xs in
    let k = keeps d xs in
    device-exact d xs (numbers_apart (start_of s.from k.within k.long) s.calls few)
