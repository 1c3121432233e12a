use Rattle.std.proofs.Common.{sym}
use Rattle.features.proofs.FeaturesLaws.{behind-one}
use Rattle.features.proofs.after_colons.Goals as goal

pub returns-in_err-second : goal.returns-in_err-second
returns-in_err-second c =
    rw c.from_residual-in_err-second.ensures
    (behind-one c.args.banner.now c.in_ok-first.field-0 (sym c.in_ok-first.ensures) (sym c.in_err-second.ensures))
