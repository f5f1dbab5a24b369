use Rattle.std.proofs.Common.{◌∷◌, ◌++◌, [], ap, ap₂, arith, length, map, subst, sym, ◌∙◌}
use Rattle.std.specs.List.{IsDistinct}
use Rattle.std.specs.Str.{bytes_eq}
use Rattle.limit_laws.specs.Limits.{LimitsAlone}
use Rattle.model_load.specs.Loads.{after_edits}
use Rattle.relaxed_model.specs.Relaxed.{slack_count}
use Rattle.relaxation.proofs.MadeLemmas.{count_is_small, leads_to_relaxed, limits_of_relaxed, names_are, names_are_distinct, names_count}
use Rattle.relaxation.specs.RelaxedEdits.{edit_of_slack, edit_of_sum, edits_of_rows}
use Rattle.relaxation.proofs.edits.relaxed.Goals as goal

pub slack_count-requires : goal.slack_count-requires
slack_count-requires c =
    let same = ap length c.rows-rows.ensures.value in
    let within = c.rows-rows.ensures.valid.within.rows in omega (arith, same, within)

pub free_names-requires : goal.free_names-requires
free_names-requires c =
    let few = count_is_small c.args.model.now.model c.rows-rows.ensures.valid
    c.rows-rows.result.now.items c.rows-rows.ensures.value in
    let count = c.slack_count.ensures in omega (arith, few, count)

pub edits_with-requires : goal.edits_with-requires
edits_with-requires c =
    let model = c.args.model.now.model in
    let valid = c.rows-rows.ensures.valid in
    let rows = c.rows-rows.ensures.value in
    let same = c.as_slice.ensures.value
    ∙ names_are model valid c.rows-rows.result.now.items c.slack_count.result c.in_ok-names.names.items rows
    c.slack_count.ensures c.in_ok-names.ensures in record {
      size = ap length same ∙ names_count model valid ∙ sym (ap slack_count rows);
      distinct = subst (IsDistinct bytes_eq) (sym same) (names_are_distinct model valid);
    }

pub returns-clause-edits : goal.returns-clause-edits
returns-clause-edits c =
    let model = c.args.model.now.model in
    let valid = c.rows-rows.ensures.valid in
    let rows = c.rows-rows.ensures.value in
    let same = c.as_slice.ensures.value
    ∙ names_are model valid c.rows-rows.result.now.items c.slack_count.result c.in_ok-names.names.items rows
    c.slack_count.ensures c.in_ok-names.ensures in
    c.from_vec.ensures ∙ c.in_ok-edits.ensures
    ∙ ap₂ (λ rs ns. map edit_of_slack ns ++ (edits_of_rows rs ns ++ edit_of_sum ns ∷ [])) rows same

pub returns-clause-leads : goal.returns-clause-leads
returns-clause-leads c = λ m h.
    let model = c.args.model.now.model in
    let valid = c.rows-rows.ensures.valid in
    let rows = c.rows-rows.ensures.value in
    let same = c.as_slice.ensures.value
    ∙ names_are model valid c.rows-rows.result.now.items c.slack_count.result c.in_ok-names.names.items rows
    c.slack_count.ensures c.in_ok-names.ensures in
    let edits = c.from_vec.ensures ∙ c.in_ok-edits.ensures
    ∙ ap₂ (λ rs ns. map edit_of_slack ns ++ (edits_of_rows rs ns ++ edit_of_sum ns ∷ [])) rows same
    in leads_to_relaxed model valid m (sym (ap (after_edits model) edits) ∙ h)

pub returns-clause-limits : goal.returns-clause-limits
returns-clause-limits c =
    let model = c.args.model.now.model in
    let valid = c.rows-rows.ensures.valid in
    let rows = c.rows-rows.ensures.value in
    let same = c.as_slice.ensures.value
    ∙ names_are model valid c.rows-rows.result.now.items c.slack_count.result c.in_ok-names.names.items rows
    c.slack_count.ensures c.in_ok-names.ensures in
    let edits = c.from_vec.ensures ∙ c.in_ok-edits.ensures
    ∙ ap₂ (λ rs ns. map edit_of_slack ns ++ (edits_of_rows rs ns ++ edit_of_sum ns ∷ [])) rows same
    in subst (LimitsAlone model) (sym edits) (limits_of_relaxed model valid)
