use Rattle.std.proofs.Common.{arith, get_or, sym, ◌∙◌}
use Rattle.ratio_core.specs.RationalLaws.{rational_eq-true}
use Rattle.bridge_plan.proofs.NamedLaws.{sole}
use Rattle.bridge_plan.proofs.renaming.sole_variable.Goals as goal

pub returns-in-len1 : goal.returns-in-len1
returns-in-len1 c =
    let ts = c.terms.result.now in
    let t = c.index-coefficient-0.result in
    sole c.args.func.now ts c.index-var-0.result t c.terms.ensures.all (omega arith) (omega arith)
    (rational_eq-true (get_or ts 0 t).1 c.one.result (sym c.eq.ensures ∙ c.if-eq.true)
    ∙ c.one.ensures)
    (sym c.constant.ensures ∙ c.is_zero.ensures.0 c.if-is_zero.true)
