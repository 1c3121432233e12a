use Rattle.call.proofs.FrameLaws.{okay-puts}
use Rattle.call.proofs.frames.put_okay.Goals as goal

pub returns : goal.returns
returns c =
    okay-puts c.args.n c.args.ids c.args.len c.word.result c.then_some-credit.result c.checksum.result _ _ _ _
    c.word.ensures c.then_some-credit.ensures c.checksum.ensures c.send_okay.ensures
