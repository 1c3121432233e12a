use mathlib.Core.Path.{ap, ◌∙◌}
use Rattle.state.specs.State.{put_header}
use Rattle.call.proofs.ends.ends_with.Goals as goal

pub returns : goal.returns
returns c = (c.ends.ensures.0 ∙ ap (λ s. put_header s c.args.h) c.put_slot.ensures, c.ends.ensures.1)
