use Rattle.call.proofs.AdmitLaws.{admits-state}
use Rattle.call.proofs.ThereLaws.{found_none, found-there, found-slot, looks}
use Rattle.call.proofs.LeaveLaws.{stops-leaves}
use Rattle.call_read.proofs.ReadSteps.{step-reads, step-closed}
use Rattle.call_read.proofs.read_step.Goals as goal

pub get-requires : goal.get-requires
get-requires c = looks c.args.state.now c.args.rx.now c.args.store.now c.args.h c.requires.1 _ (admits-state c.requires.0)

pub read_channel-requires : goal.read_channel-requires
read_channel-requires c = (
  c.requires.0,
  c.requires.1,
  (found-there c.args.state.now c.args.rx.now c.args.store.now c.args.h
      c.requires.1 c.args.ch c.get.result c.get.ensures _ c.in-Some.is),
  (found-slot c.args.state.now c.args.rx.now c.args.store.now c.args.h c.requires.1 c.args.ch
      c.get.result c.get.ensures _ c.in-Some.is),
)

pub returns-in-Some : goal.returns-in-Some
returns-in-Some c =
    step-reads c.args.state.now c.args.rx.now c.args.store.now c.args.out.now c.args.h c.args.ch
    c.args.buf.now c.args.received.now _ _ _ _ _ _
    (found-there c.args.state.now c.args.rx.now c.args.store.now c.args.h c.requires.1 c.args.ch
    c.get.result c.get.ensures _ c.in-Some.is) c.read_channel.ensures

pub returns-in-None : goal.returns-in-None
returns-in-None c =
    stops-leaves c.args.state.now c.args.rx.now c.args.store.now c.args.h c.requires.1 c.args.out.now
    c.args.buf.now _ _ 0 _ _ (step-closed c.args.state.now c.args.rx.now c.args.store.now c.args.ch _
    c.args.received.now (found_none c.args.state.now c.args.rx.now c.args.store.now c.args.h
    c.requires.1 c.args.ch c.get.result c.get.ensures c.in-None.is))
    c.not_there.ensures.0 c.not_there.ensures.1
