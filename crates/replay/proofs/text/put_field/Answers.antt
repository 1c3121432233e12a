use Rattle.replay.proofs.TextLaws.{puts-puts}
use Rattle.replay.proofs.text.put_field.Goals as goal

pub returns : goal.returns
returns c = puts-puts c.args.line.now c.args.at _ _ _ _ _ _ c.put-end.ensures c.put_number.ensures
