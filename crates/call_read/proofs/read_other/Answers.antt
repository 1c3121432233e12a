use Rattle.call_read.proofs.LookLaws.{look-place, look-room, look-acts, again-room, look-leaves}
use Rattle.call.specs.Promise.{ActRoom}
use native.Mathlib.Omega.{arith}
use Prim.Native.Nat.{ℕ}
use mathlib.Core.List.{List}
use mathlib.Core.Path.{sym, subst}
use Rattle.call_read.proofs.read_other.Goals as goal

pub put_slot-requires : goal.put_slot-requires
put_slot-requires c = (
  look-place c.args.state.now c.args.rx.now c.args.store.now c.args.out.now c.args.h c.args.ch
      c.args.s _ c.args.at c.requires.0 c.requires.1,
  c.requires.0.state-fits,
)

pub act_on-acted-requires : goal.act_on-acted-requires
act_on-acted-requires c =
    subst (λ (x : List ℕ). ActRoom c.args.h x c.args.rx.now c.args.store.now c.args.out.now c.args.at
    c.args.payload.now) (sym c.put_slot.ensures)
    (look-room c.args.state.now c.args.rx.now c.args.store.now c.args.out.now c.args.h c.args.ch
    c.args.s _ c.args.at c.requires.0 c.requires.1 c.args.payload.now c.requires.2.small)

pub read_again-requires : goal.read_again-requires
read_again-requires c =
    again-room c.args.state.now c.args.rx.now c.args.store.now c.args.out.now c.args.h c.args.ch
    c.args.s _ c.args.at c.requires.0 c.requires.1 c.args.packet c.args.payload.now c.requires.2
    c.act_on-acted.result _ _ _ _ (look-acts c.args.state.now c.args.rx.now c.args.store.now c.args.out.now
    c.args.h c.args.ch c.args.s _ c.args.at c.requires.0 c.requires.1 c.args.packet
    c.args.payload.now c.requires.2 _ c.act_on-acted.result _ _ _ _ c.put_slot.ensures c.act_on-acted.ensures)
    (omega (arith, c.requires.0.state-fits, c.state-1.given, c.state-2-1.given))

pub returns : goal.returns
returns c =
    look-leaves c.args.state.now c.args.rx.now c.args.store.now c.args.out.now c.args.h c.args.ch
    c.args.s _ c.args.at c.requires.0 c.requires.1 c.args.packet c.args.payload.now c.requires.2
    c.act_on-acted.result _ _ _ _ (look-acts c.args.state.now c.args.rx.now c.args.store.now c.args.out.now
    c.args.h c.args.ch c.args.s _ c.args.at c.requires.0 c.requires.1 c.args.packet
    c.args.payload.now c.requires.2 _ c.act_on-acted.result _ _ _ _ c.put_slot.ensures c.act_on-acted.ensures)
    c.args.used c.args.buf.now _ _ _ _ (c.read_again.ensures c.act_on-acted.new.store)
