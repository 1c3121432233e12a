use mathlib.Core.Path.{sym, subst, ◌∙◌}
use native.Mathlib.Omega.{arith}
use Rattle.state.specs.declared.Header.{Header}
use Rattle.config.specs.Config.{Within}
use Rattle.call.proofs.AdmitLaws.{whole_long, whole-header, admits-not, admits-short, admits-yes}
use Rattle.call.proofs.admit.admit.Goals as goal

pub header_of-h-requires : goal.header_of-h-requires
header_of-h-requires c = let k = whole_long c.args.state.now (sym c.is_whole.ensures ∙ c.if-is_whole.true) in omega arith

pub stores_fit-requires : goal.stores_fit-requires
stores_fit-requires c =
    subst (λ (x : Header). Within x.negotiated.config) (sym c.header_of-h.ensures)
    (whole-header c.args.state.now (sym c.is_whole.ensures ∙ c.if-is_whole.true)).within

pub returns-then-stores_fit : goal.returns-then-stores_fit
returns-then-stores_fit c =
    admits-yes c.args.state.now c.args.rx c.args.store c.header_of-h.result
    c.header_of-h.ensures (sym c.is_whole.ensures ∙ c.if-is_whole.true)
    (sym c.stores_fit.ensures ∙ c.if-stores_fit.true)

pub returns-then-is_whole : goal.returns-then-is_whole
returns-then-is_whole c =
    admits-short c.args.state.now c.args.rx c.args.store c.header_of-h.result
    c.header_of-h.ensures (sym c.is_whole.ensures ∙ c.if-is_whole.true)
    (sym c.stores_fit.ensures ∙ c.if-stores_fit.false)

pub returns : goal.returns
returns c = admits-not c.args.state.now c.args.rx c.args.store (sym c.is_whole.ensures ∙ c.if-is_whole.false)
