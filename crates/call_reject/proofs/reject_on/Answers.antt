use Rattle.call_reject.proofs.OfferLaws.{reject-leaves}
use Rattle.call_reject.proofs.reject_on.Goals as goal

pub returns : goal.returns
returns c =
    reject-leaves c.args.state.now c.args.out.now c.args.at c.args.h c.args.remote
    c.args.answer _ _ _ _ c.requires.1 c.put_close-end.ensures c.ends.ensures.0 c.ends.ensures.1
