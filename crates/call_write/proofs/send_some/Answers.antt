use Rattle.call_write.proofs.WriteLaws.{part-first, send-short, send-sent}
use native.Mathlib.Omega.{arith}
use Rattle.call_write.proofs.send_some.Goals as goal

pub returns-then-out-len : goal.returns-then-out-len
returns-then-out-len c =
    λ rx store. send-short c.args.state.now c.args.out.now c.args.bytes.now c.args.ch c.args.h
    c.requires c.args.used c.args.s c.args.most c.send_len-len.result c.send_len-len.ensures rx store _
    (omega (arith, c.if-out-len.true)) c.refused.ensures

pub ends_with-requires : goal.ends_with-requires
ends_with-requires c = (c.requires.place-fits, c.requires.state-fits)

pub returns : goal.returns
returns c =
    λ rx store. send-sent c.args.state.now c.args.out.now c.args.bytes.now c.args.ch c.args.h c.requires
    c.args.used c.args.s c.args.most c.send_len-len.result c.send_len-len.ensures rx store _
    c.ids_in.result c.rx_policy.result c.spend-spent.result c.put_write-end.result _ _ _
    (omega (arith, c.if-out-len.false)) (part-first c.send_len-len.result c.args.bytes.now) c.ids_in.ensures
    c.put_write-end.ensures c.rx_policy.ensures c.spend-spent.ensures c.ends_with.ensures.0 c.ends_with.ensures.1
