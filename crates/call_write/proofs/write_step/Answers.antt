use Rattle.call.proofs.AdmitLaws.{admits-state}
use Rattle.call_write.proofs.WriteLaws.{step-none, step-finds, step-there, step_gone}
use Rattle.call.proofs.ThereLaws.{looks}
use native.Mathlib.Omega.{arith}
use Rattle.call_write.proofs.write_step.Goals as goal

pub returns-then-bytes-eq0 : goal.returns-then-bytes-eq0
returns-then-bytes-eq0 c =
    step-none c.args.spending c.args.state.now c.args.rx.now c.args.store.now c.args.out.now c.args.received.now
    c.args.bytes.now c.args.ch c.args.h c.requires.0 c.requires.1 _ _ (omega (arith, c.if-bytes-eq0.true))
    c.ends.ensures.0 c.ends.ensures.1

pub get-requires : goal.get-requires
get-requires c = looks c.args.state.now c.args.rx.now c.args.store.now c.args.h c.requires.1 _ (admits-state c.requires.0)

pub write_channel-requires : goal.write_channel-requires
write_channel-requires c =
    step-finds c.args.spending c.args.state.now c.args.rx.now c.args.store.now c.args.out.now c.args.received.now
    c.args.bytes.now c.args.ch c.args.h c.requires.0 c.requires.1 c.get.result c.get.ensures _
    c.in-Some.is

pub returns-in-Some : goal.returns-in-Some
returns-in-Some c =
    step-there c.args.spending c.args.state.now c.args.rx.now c.args.store.now c.args.out.now c.args.received.now
    c.args.bytes.now c.args.ch c.args.h c.requires.0 c.requires.1 c.get.result c.get.ensures
    (λ z. omega (arith, c.if-bytes-eq0.false)) _ _ _ _ _ _ c.in-Some.is c.write_channel.ensures

pub returns-in-None : goal.returns-in-None
returns-in-None c =
    step_gone c.args.spending c.args.state.now c.args.rx.now c.args.store.now c.args.out.now c.args.received.now
    c.args.bytes.now c.args.ch c.args.h c.requires.0 c.requires.1 c.get.result c.get.ensures
    (λ z. omega (arith, c.if-bytes-eq0.false)) _ _ c.in-None.is c.not_there.ensures.0 c.not_there.ensures.1
