-- How far a WRTE takes the credit at a device's end (docs/SCOPE.md, 15; delayed acknowledgement, fact 5). Assumes nothing.
use Rattle.std.specs.Prelude.{ℕ, List, pos, neg_ℤ, ◌<ℤ◌}
use Rattle.config.specs.declared.negotiated.Negotiated.{Negotiated}
use Rattle.config.specs.Negotiated.{negotiated_of}
use Rattle.history.specs.Demand3.{place_slot}
use Rattle.history.specs.Spending.{longest}
use Rattle.device_history.specs.Run.{DeviceCall, connection, leaves_all, DeviceStart, device_begins}
use Rattle.device_history.specs.Trace.{Beginning, story}

-- what was negotiated
abbrev pub agreed_at : Beginning → Negotiated
agreed_at g = negotiated_of g.host g.device g.version g.most g.config

-- after every list of a device's calls each credit is above 0 less the longest payload of a WRTE
abbrev pub DeviceFloor : Type 0
DeviceFloor =
    (d : DeviceStart) (xs : List DeviceCall) (i : ℕ)
    → neg_ℤ (pos (longest (agreed_at (story d xs).from))) <ℤ (place_slot (connection (leaves_all (device_begins d) xs)) i).send_budget
