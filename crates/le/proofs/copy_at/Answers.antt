use mathlib.Core.Path.{refl}
use lib.ListN.{length}
use Rattle.le.proofs.Parts.{lent_back}
use Rattle.le.proofs.copy_at.Goals as goal

pub returns : goal.returns
returns c =
    rw c.copy_from_slice.ensures.after (lent_back c.args.dst.now c.args.at (length c.args.src.now) c.args.src.now refl)
