use Rattle.std.proofs.Common.{◌≡◌, [], arith, drop, subst}
use Rattle.std.proofs.lemmas.List.{drop_all}
use Rattle.aff_core.specs.Function.{terms_of}
use Rattle.lazy_bridge.proofs.Noting.{terms_done}
use Rattle.lazy_bridge.proofs.mentions.note_terms.Goals as goal

pub returns-clause-noted : goal.returns-clause-noted
returns-clause-noted c =
    let all = terms_of c.args.func.now in
    let l = c.loop-var in
    terms_done c.args.item c.args.noted c.args.func.now (drop l.var-index all) c.args.map.now.noted
    l.map.noted l.invariant.0
    (subst (λ ts. drop l.var-index ts ≡ []) c.terms-var-items.ensures.all
    (drop_all l.var-index c.terms-var-items.result.now (omega (arith, c.loop-var-test.false))))
