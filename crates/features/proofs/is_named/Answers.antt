use Rattle.std.proofs.Common.{◌≡◌, true, rules}
use mathlib.Core.Path.{◌∙◌}
use Rattle.features.proofs.FeaturesLaws.{named-same}
use Rattle.features.proofs.is_named.Goals as goal

pub returns-then-is_beginning : goal.returns-then-is_beginning
returns-then-is_beginning c = c.eq.ensures ∙ named-same c.args.banner.now c.args.at (search rules)
