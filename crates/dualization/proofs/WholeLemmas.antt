-- The edits of a valid model's dual make it of the empty model.
use Rattle.std.specs.Prelude.{◌≡◌, ◌+◌, length, flat_map}
use Rattle.std.proofs.Common.{sym, ◌∙◌, ap₂}
use Rattle.std.proofs.lemmas.List.{length-append}
use Rattle.user_model.specs.declared.group.Group.{Group}
use Rattle.user_model.specs.Model.{ModelValue, empty_model}
use Rattle.user_model.specs.Valid.{IsValid}
use Rattle.dual_parts.specs.Parts.{own_bounds}
use Rattle.dual_model.specs.DualOf.{at_bounds, costs, dual_of_model, row_costs}
use Rattle.dual_model.specs.GroupRowLaws.{length-own}
use Rattle.dual_model.specs.LaidLaws.{equal_adds}
use Rattle.dual_model.specs.RowPartLaws.{length-costs, total_parts}
use Rattle.limit_laws.specs.Leads.{all_edited}
use Rattle.dualization.specs.DualEdits.{dual_edits, dual_names}
use Rattle.dualization.proofs.EditLemmas.{are_distinct, columns_fit, names_count, row_variables_are}
use Rattle.dualization.proofs.MadeLemmas.{all_made}
use Rattle.dualization.proofs.ValidLemmas.{row_sets}

module _ (model : ModelValue) (valid : IsValid model) where
  pub size_of_costs : length (costs model) ≡ length (dual_names model)
  size_of_costs =
      length-append (flat_map (row_costs (at_bounds model)) model.rows)
      (flat_map (λ (g : Group). own_bounds g.set) model.groups)
      ∙ ap₂ ◌+◌
      (length-costs (at_bounds model) (λ p q. p ≡ q) equal_adds (at_bounds model) model.rows
      (row_sets model valid)) (length-own model.groups)
      ∙ sym (names_count model valid)

  pub edits_make : all_edited empty_model (dual_edits model) ≡ dual_of_model model
  edits_make =
      all_made model (total_parts model.rows) (row_variables_are model valid)
      (columns_fit model valid) (sym (names_count model valid)) size_of_costs
      (are_distinct model valid)
