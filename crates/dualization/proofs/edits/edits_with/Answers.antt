use Rattle.std.specs.Prelude.{◌∷◌, [], ◌++◌, flat_map, length, map}
use Rattle.std.proofs.Common.{◌∙◌, ap, ap₂, arith, subst, sym}
use Rattle.std.specs.List.{IsDistinct}
use Rattle.std.specs.Str.{bytes_eq}
use Rattle.certificates.specs.Points.{sense_of}
use Rattle.dual_model.specs.DualOf.{each_placed, group_groups, new_groups, row_groups}
use Rattle.dual_model.specs.GroupRowLaws.{length-own}
use Rattle.dualization.specs.DualEdits.{edit_of_group, names_added}
use Rattle.dualization.specs.Rows.{ColumnsFit, all_bounds, edit_of_objective}
use Rattle.dualization.proofs.EditLemmas.{are_distinct, columns_fit, edits_are, names_are, names_count, parts_count}
use Rattle.dualization.proofs.RowLemmas.{edits_from}
use Rattle.dualization.proofs.edits.edits_with.Goals as goal

pub push_rows-requires-clause-distinct : goal.push_rows-requires-clause-distinct
push_rows-requires-clause-distinct c =
    let m = c.args.model.now.model in
    let made = c.in_ok-edits.ensures
    ∙ ap₂ (λ rs gs. map edit_of_group (each_placed row_groups 1 rs ++ each_placed group_groups 1 gs))
    c.rows.ensures.value c.groups.ensures.value in
    let named = c.as_slice-named.ensures.value ∙ c.in_ok-names.ensures
    ∙ ap (flat_map names_added) (c.as_slice-added.ensures.value ∙ made)
    ∙ names_are (new_groups m) in
    subst (IsDistinct bytes_eq) (sym named) (are_distinct m c.rows.ensures.valid)

pub push_rows-requires-clause-columns : goal.push_rows-requires-clause-columns
push_rows-requires-clause-columns c =
    let m = c.args.model.now.model in
    subst (ColumnsFit m)
    (sym (c.len.ensures ∙ parts_count m c.rows.ensures.valid c.args.sums.now c.requires))
    (columns_fit m c.rows.ensures.valid)

pub push_rows-requires-clause-size : goal.push_rows-requires-clause-size
push_rows-requires-clause-size c =
    let m = c.args.model.now.model in
    let made = c.in_ok-edits.ensures
    ∙ ap₂ (λ rs gs. map edit_of_group (each_placed row_groups 1 rs ++ each_placed group_groups 1 gs))
    c.rows.ensures.value c.groups.ensures.value in
    let named = c.as_slice-named.ensures.value ∙ c.in_ok-names.ensures
    ∙ ap (flat_map names_added) (c.as_slice-added.ensures.value ∙ made)
    ∙ names_are (new_groups m) in
    omega (
      arith,
      c.len.ensures,
      parts_count m c.rows.ensures.valid c.args.sums.now c.requires,
      ap length named,
      names_count m c.rows.ensures.valid,
    )

pub objective_edit-requires-clause-distinct : goal.objective_edit-requires-clause-distinct
objective_edit-requires-clause-distinct c =
    let m = c.args.model.now.model in
    let made = c.in_ok-edits.ensures
    ∙ ap₂ (λ rs gs. map edit_of_group (each_placed row_groups 1 rs ++ each_placed group_groups 1 gs))
    c.rows.ensures.value c.groups.ensures.value in
    let named = c.as_slice-named.ensures.value ∙ c.in_ok-names.ensures
    ∙ ap (flat_map names_added) (c.as_slice-added.ensures.value ∙ made)
    ∙ names_are (new_groups m) in
    subst (IsDistinct bytes_eq) (sym named) (are_distinct m c.rows.ensures.valid)

pub objective_edit-requires-clause-size : goal.objective_edit-requires-clause-size
objective_edit-requires-clause-size c =
    let m = c.args.model.now.model in
    let made = c.in_ok-edits.ensures
    ∙ ap₂ (λ rs gs. map edit_of_group (each_placed row_groups 1 rs ++ each_placed group_groups 1 gs))
    c.rows.ensures.value c.groups.ensures.value in
    let named = c.as_slice-named.ensures.value ∙ c.in_ok-names.ensures
    ∙ ap (flat_map names_added) (c.as_slice-added.ensures.value ∙ made)
    ∙ names_are (new_groups m) in
    omega (
      arith,
      length-own m.groups,
      parts_count m c.rows.ensures.valid c.args.sums.now c.requires,
      ap length named,
      names_count m c.rows.ensures.valid,
    )

pub returns : goal.returns
returns c =
    let m = c.args.model.now.model in
    let sums = c.args.sums.now in
    let made = c.in_ok-edits.ensures
    ∙ ap₂ (λ rs gs. map edit_of_group (each_placed row_groups 1 rs ++ each_placed group_groups 1 gs))
    c.rows.ensures.value c.groups.ensures.value in
    let named = c.as_slice-named.ensures.value ∙ c.in_ok-names.ensures
    ∙ ap (flat_map names_added) (c.as_slice-added.ensures.value ∙ made)
    ∙ names_are (new_groups m) in
    c.in_ok-push.ensures.items
    ∙ ap₂ (λ es e. es ++ e ∷ [])
    (c.in_ok-push_rows.ensures
    ∙ (λ i. made i ++ edits_from (named i) m 0 1 (c.len.ensures i) m.groups))
    (c.in_ok-objective_edit.ensures
    ∙ ap (λ ns. edit_of_objective ns (sense_of m.objective) sums.constant
    (sums.parts ++ all_bounds m.groups)) named)
    ∙ edits_are m c.rows.ensures.valid sums c.requires
