use Rattle.std.proofs.Common.{refl, List, [], ℕ, length}
use Rattle.slot.specs.declared.Spending.TheVariants.{Beyond}
use Rattle.call.specs.Promise.{lent_of, agreed_in}
use Rattle.call.proofs.AdmitLaws.{admits-state, admits-facts, admits-stores}
use Rattle.call.proofs.LeaveLaws.{begins-is, admitted-goes, goes-admits}
use Rattle.connection.specs.Calls.{write_step}
use Rattle.connection.proofs.WholeCalls.{write_kept}
use Rattle.device.proofs.CalledLaws.{handed-short, judge-room, called-leaves}
use Rattle.device_write.proofs.WriteLaws.{write_short}
use Rattle.device_write.proofs.write_inner.Goals as goal

pub write_step-reply-requires : goal.write_step-reply-requires
write_step-reply-requires c =
    begins-is c.args.inner.now c.args.rx.now c.args.store.now _ c.args.h _ _ c.requires.admits refl (λ j. (c.slice_known-1.given j).fits) c.drop_pending.ensures

pub judge-requires : goal.judge-requires
judge-requires c =
    let b = c.args.inner.now in
    let rx = c.args.rx.now in
    let store = c.args.store.now in
    let n = length c.args.out.now in
    let l = lent_of b rx store in
    let g = goes-admits b rx store _ c.args.h (admitted-goes b rx store _ c.args.h _ c.requires.admits refl) (λ j. (c.slice_known-1.given j).fits) in
    let k = write_kept l (admits-facts b _ (admits-state g)) (admits-stores g) c.args.received.now Beyond c.args.ch n c.args.bytes.now (λ j. (c.type_inv.received j).fits) in
    judge-room b rx store c.args.out.now [] (write_step Beyond l c.args.ch n c.args.bytes.now c.args.received.now) _ _ _ _ _ _ c.write_step-reply.ensures c.args.met (admits-state g) k
    (handed-short (agreed_in b) (λ (x : List ℕ). write_step Beyond l c.args.ch n c.args.bytes.now x) c.args.received.now c.args.met c.requires.handed (write_short (agreed_in b) Beyond l c.args.ch n c.args.bytes.now))

pub returns : goal.returns
returns c =
    λ head b' e. called-leaves c.args.inner.now c.args.rx.now c.args.store.now c.args.out.now [] _ _ _ _ _ _ _ c.write_step-reply.ensures _ _ _ _ head b' e c.args.met c.judge.ensures
