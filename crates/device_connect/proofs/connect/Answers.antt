use Rattle.device_connect.proofs.ConnectLaws.{text-short, connect-short, connects}
use Rattle.device_connect.proofs.connect.Goals as goal

pub returns-then-out-text : goal.returns-then-out-text
returns-then-out-text c =
    connect-short c.args.state.now c.requires.fine c.args.out.now c.args.config c.args.packet c.args.identity.now
    c.text-text.result.now c.text-text.ensures _ _ c.if-out-text.true c.refused.ensures c.plain.ensures

pub put_cnxn-written-requires : goal.put_cnxn-written-requires
put_cnxn-written-requires c =
    let s = text-short c.args.state.now c.requires.fine c.text-text.result.now c.text-text.ensures in
    (s, c.if-out-text.false)

pub returns : goal.returns
returns c =
    connects c.args.state.now c.requires.fine c.args.out.now c.args.config c.args.packet c.args.identity.now
    c.text-text.result.now c.text-text.ensures _ _ _ _ _ _ _ c.if-out-text.false c.put_cnxn-written.ensures
    c.has_feature-ours.ensures c.has_feature-theirs.ensures c.begin.ensures c.new-negotiated.ensures c.frame_len.ensures
