use mathlib.Core.Path.{◌∙◌}
use Rattle.le.specs.Le.{bytes_of}
use Rattle.le.proofs.Parts.{lent_back}
use Rattle.le.proofs.Laws.{is-bytes_of, length-bytes_of}
use Rattle.le.proofs.U64Word.put_at.Goals as goal

pub returns : goal.returns
returns c =
    rw (c.copy_from_slice.ensures.after, c.to_le_bytes.ensures ∙ is-bytes_of 8 c.args.self)
    (lent_back c.args.s.now c.args.at 8 (bytes_of 8 c.args.self) (length-bytes_of 8 c.args.self))
