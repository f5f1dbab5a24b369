use Rattle.std.proofs.Common.{ap₂, rules, subst, ◌∙◌}
use Rattle.aff_core.specs.Function.{function_of}
use Rattle.aff_core.specs.Rising.{RiseStrictly}
use Rattle.fresh_bridging.specs.Entries.{function_in}
use Rattle.bridge_plan.specs.Stands.{name_by}
use Rattle.bridge_plan.proofs.NamedLaws.{made_named}
use Rattle.bridge_plan.proofs.renaming.renamed.Goals as goal

pub returns : goal.returns
returns c =
    let e = function_in c.args.expressions.now in
    let has = rw c.in-Some.is at c.in_ok-terms.ensures in
    let rise : RiseStrictly c.deref.result.now = search rules in
    made_named e (name_by e) c.args.func.now c.in_ok-from_terms.field-0 c.in-Some.terms.items has.1
    has.0 (subst RiseStrictly c.deref.ensures.value rise)
    (c.in_ok-from_terms.ensures ∙ ap₂ function_of c.deref-2.ensures.value c.constant.ensures)
