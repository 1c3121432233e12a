use Rattle.std.proofs.Common.{sym, ap, ◌∙◌}
use Rattle.connection.specs.Calls.{dropped}
use Rattle.state.proofs.StateLaws.{header-in}
use Rattle.device.proofs.JudgeLaws.{accept-room, does-ignore, does-refuse, does-take}
use Rattle.device.proofs.judge.by_verdict.Goals as goal

pub accept_on-reply-requires : goal.accept_on-reply-requires
accept_on-reply-requires c =
    accept-room c.args.inner.now c.args.out.now c.args.at c.requires c.args.met c.args.handled _
    (c.drop_pending-h.ensures ∙ ap dropped (c.header_of.ensures ∙ sym (header-in c.args.inner.now)))

pub returns-in-Ignore : goal.returns-in-Ignore
returns-in-Ignore c =
    does-ignore c.args.inner.now c.args.out.now c.args.at c.requires c.args.met c.args.handled _
    (c.drop_pending-h.ensures ∙ ap dropped (c.header_of.ensures ∙ sym (header-in c.args.inner.now))) c.in-Ignore.is

pub returns-in-Refuse : goal.returns-in-Refuse
returns-in-Refuse c =
    does-refuse c.args.inner.now c.args.out.now c.args.at c.requires c.args.met c.args.handled _
    (c.drop_pending-h.ensures ∙ ap dropped (c.header_of.ensures ∙ sym (header-in c.args.inner.now))) _ _ _ _ c.in-Refuse.is c.reject_on-reply.ensures

pub returns-in-Take : goal.returns-in-Take
returns-in-Take c =
    does-take c.args.inner.now c.args.out.now c.args.at c.requires c.args.met c.args.handled _
    (c.drop_pending-h.ensures ∙ ap dropped (c.header_of.ensures ∙ sym (header-in c.args.inner.now))) _ _ _ _ _ _ _ c.in-Take.is c.accept_on-reply.ensures c.taken_as.ensures
