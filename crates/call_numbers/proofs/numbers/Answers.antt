use mathlib.Core.Path.{refl}
use Rattle.call.proofs.WideLaws.{wide-refuses}
use Rattle.call.specs.Promise.{agreed_in}
use Rattle.connection.specs.Calls.{numbers_outcome}
use Rattle.call_numbers.proofs.NumbersLaws.{look-room, look-leaves}
use Rattle.call_numbers.proofs.numbers.Goals as goal

pub numbers_of-requires : goal.numbers_of-requires
numbers_of-requires c = look-room c.args.state.now c.args.rx.now c.args.store.now _ c.admit.result c.admit.ensures c.in-Ok.is (λ j. (c.type_inv.state j).fits)

pub returns-in-Err : goal.returns-in-Err
unfolding numbers_outcome
returns-in-Err c =
    wide-refuses c.args.state.now c.args.rx.now c.args.store.now (agreed_in c.args.state.now) _ _ _ _
    c.admit.result _ c.admit.ensures c.in-Err.is c.refused.ensures

pub returns-in-Ok : goal.returns-in-Ok
returns-in-Ok c = look-leaves c.args.state.now c.args.rx.now c.args.store.now _ c.admit.result c.admit.ensures c.in-Ok.is c.args.ch c.numbers_of.result _ c.numbers_of.ensures refl
