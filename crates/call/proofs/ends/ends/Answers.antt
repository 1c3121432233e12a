use mathlib.Core.Path.{refl}
use Rattle.call.proofs.ends.ends.Goals as goal

pub returns : goal.returns
returns c = (c.put_header.ensures, refl)
