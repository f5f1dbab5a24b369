use Rattle.std.proofs.Common.{ℕ, List, sym, subst, ◌∙◌}
use Rattle.aff_core.specs.Address.{Address}
use Rattle.aff_core.specs.FunctionLaws.{entries_rise}
use Rattle.aff_core.specs.Rising.{RiseStrictly}
use Rattle.bridged_report.proofs.held.push_bridged.Goals as goal

pub push_leaves-requires-clause-variables_rise : goal.push_leaves-requires-clause-variables_rise
push_leaves-requires-clause-variables_rise c =
    subst (λ (es : List (Address × ℕ)). RiseStrictly es)
    (sym (c.deref.ensures.value ∙ c.in_ok-variables.ensures))
    (entries_rise c.args.map.now.vars.indices)

pub push_leaves-requires-clause-rows_rise : goal.push_leaves-requires-clause-rows_rise
push_leaves-requires-clause-rows_rise c =
    subst (λ (es : List (Address × ℕ)). RiseStrictly es)
    (sym (c.deref-2.ensures.value ∙ c.in_ok-rows.ensures))
    (entries_rise c.args.map.now.rows.indices)
