use Rattle.std.proofs.Common.{refl, List, ℕ, length}
use Rattle.call.specs.Promise.{lent_of, agreed_in}
use Rattle.call.proofs.AdmitLaws.{admits-state, admits-facts, admits-stores}
use Rattle.call.proofs.LeaveLaws.{begins-is, admitted-goes, goes-admits}
use Rattle.connection.specs.Calls.{read_step}
use Rattle.connection.proofs.WholeCalls.{read_kept}
use Rattle.device.proofs.CalledLaws.{handed-short, judge-room, called-leaves}
use Rattle.device_read.proofs.ReadLaws.{read-short}
use Rattle.device_read.proofs.read_inner.Goals as goal

pub read_step-reply-requires : goal.read_step-reply-requires
read_step-reply-requires c =
    begins-is c.args.inner.now c.args.rx.now c.args.store.now _ c.args.h _ _ c.requires.admits refl (λ j. (c.slice_known-1.given j).fits) c.drop_pending.ensures

pub judge-requires : goal.judge-requires
judge-requires c =
    let b = c.args.inner.now in
    let rx = c.args.rx.now in
    let store = c.args.store.now in
    let room = length c.args.buf.now in
    let l = lent_of b rx store in
    let g = goes-admits b rx store _ c.args.h (admitted-goes b rx store _ c.args.h _ c.requires.admits refl) (λ j. (c.slice_known-1.given j).fits) in
    let k = read_kept l (admits-facts b _ (admits-state g)) (admits-stores g) c.args.received.now c.args.ch room (λ j. (c.type_inv.received j).fits) in
    judge-room b rx store c.args.out.now c.args.buf.now (read_step l c.args.ch room c.args.received.now) _ _ _ _ _ _ c.read_step-reply.ensures c.args.met (admits-state g) k
    (handed-short (agreed_in b) (λ (x : List ℕ). read_step l c.args.ch room x) c.args.received.now c.args.met c.requires.handed (read-short (agreed_in b) l c.args.ch room))

pub returns : goal.returns
returns c =
    λ head b' e. called-leaves c.args.inner.now c.args.rx.now c.args.store.now c.args.out.now c.args.buf.now _ _ _ _ _ _ _ c.read_step-reply.ensures _ _ _ _ head b' e c.args.met c.judge.ensures
