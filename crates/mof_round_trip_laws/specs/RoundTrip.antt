-- What is written of a valid model makes it again: the edits that are read of the text, made one
-- after another on an empty model, are accepted and give a model that is the same up to numbers.
use Rattle.std.specs.Prelude.{◌≡◌, ℕ, List, ◌++◌, Contains, Ok, map, refl}
use Rattle.std.proofs.Common.{ap, ap₂, append_assoc, subst, sym}
use Rattle.std.proofs.lemmas.List.Elements.{All-contains_itself, Contains-get_or}
use Rattle.user_model.specs.declared.edit.Edit.{Edit}
use Rattle.user_model.specs.declared.function.UserFunc.{UserFunc}
use Rattle.user_model.specs.declared.group.Group.{Group}
use Rattle.user_model.specs.declared.group.GroupVar.{GroupVar}
use Rattle.user_model.specs.declared.objective.Objective.{Objective}
use Rattle.user_model.specs.declared.objective.Objective.TheVariants as objective
use Rattle.user_model.specs.declared.row.Row.{Row}
use Rattle.user_model.specs.Consistent.{IsConsistent}
use Rattle.user_model.specs.Edited.{group_number, row_number}
use Rattle.user_model.specs.Model.{ModelValue, empty_model}
use Rattle.user_model.specs.SameUpToNumbers.{SameUpToNumbers, group_by_position, groups_by_position, objective_by_position, row_by_position, rows_by_position, variable_by_position, variable_numbers}
use Rattle.user_model.specs.Valid.{IsValid}
use Rattle.model_laws.specs.Empty.{empty_consistent}
use Rattle.model_laws.specs.Located.{stands_in_joined}
use Rattle.mof_read.specs.Edits.{edits_in, objective_edits}
use Rattle.mof_write.specs.Sayable.{IsSayable}
use Rattle.mof_write.specs.Written.{IsTextOf, model_data, naming}
use Rattle.mof_laws.specs.BackLaws.{reads_back}
use Rattle.mof_laws.specs.EditLaws.{edits_for, group_edit, row_edit}
use Rattle.mof_laws.specs.LineEnd.{line_too}
use Rattle.mof_laws.specs.ReadBack.{said_objective}
use Rattle.mof_laws.specs.SameTokens.{as_line}
use Rattle.mof_round_trip_laws.specs.Accepted.{LeadTo, stays_consistent}
use Rattle.mof_round_trip_laws.specs.Functions.{affine_again, function_again}
use Rattle.mof_round_trip_laws.specs.Groups.{groups_lead}
use Rattle.mof_round_trip_laws.specs.Objectives.{IsPlacedObjective, objective_lead, placed_objective}
use Rattle.user_model.specs.PositionLaws.{placed_again}
use Rattle.mof_round_trip_laws.specs.Renumbered.{HasRenumberedVariables, address_again, made_variable, made_variables, made_as, number_again, numbers, renumbered}
use Rattle.mof_round_trip_laws.specs.Rows.{IsPlacedRow, placed_rows, rows_lead}

-- edits read of the text lead from an empty model to one that is the same up to numbers
pub record MakesAgain (model : ModelValue) (text : List ℕ) : Type 0 where
  pub edits : List Edit
  pub read : edits_in text ≡ Ok edits
  pub made : ModelValue
  pub lead : LeadTo empty_model edits made
  pub same : SameUpToNumbers model made

abbrev variable_at : ℕ → GroupVar → GroupVar
variable_at n v = record v { number = n }

abbrev group_at : ℕ → List GroupVar → Group → Group
group_at n vars g = record g { id = n; vars = vars }

abbrev row_at : ℕ → UserFunc → Row → Row
row_at n func r = record r { id = n; func = func }

module _ (model : ModelValue) (valid : IsValid model) where
  -- the edits of the model's text lead to it renumbered
  pub edits_lead : LeadTo empty_model (edits_for model) (renumbered model)
  unfolding edits_for
  edits_lead =
      let rows = map (row_edit (naming model)) model.rows in
      let goal = objective_edits (said_objective (naming model) model.objective) in
      subst (λ es. LeadTo empty_model es (renumbered model))
      (sym (append_assoc (map group_edit model.groups) rows goal))
      (groups_lead model valid (rows ++ goal) (renumbered model)
      (rows_lead model valid goal (renumbered model)
      (objective_lead model valid model.objective
      (placed_objective model model.objective valid.parts.valid_objective.stand)
      valid.parts.valid_objective.terms valid.within.terms)))

  pub renumbered_consistent : IsConsistent (renumbered model)
  renumbered_consistent =
      stays_consistent (edits_for model) empty_model (renumbered model) empty_consistent edits_lead

  has_variables : HasRenumberedVariables model (renumbered model)
  has_variables = record { made = made_variables model model.groups }

  groups_again : groups_by_position (renumbered model) ≡ groups_by_position model
  groups_again =
      made_as (group_by_position model) (Contains model.groups)
      (group_by_position (renumbered model)) (group_by_position model) once model.groups
      (All-contains_itself model.groups)
    where
      variables_again : (g : Group) → Contains model.groups g
          → map (variable_by_position (variable_numbers (renumbered model)))
          (map (made_variable model) g.vars)
          ≡ map (made_variable model) g.vars
      variables_again g there =
          made_as (made_variable model) (Contains g.vars)
          (variable_by_position (variable_numbers (renumbered model))) (made_variable model)
          (λ v own. ap (λ n. variable_at n v) (number_again model valid.consistent
          (renumbered model) renumbered_consistent has_variables v
          (stands_in_joined (λ g. g.vars) model.groups g v there own))) g.vars
          (All-contains_itself g.vars)

      once : (g : Group) → Contains model.groups g
          → group_by_position (renumbered model) (group_by_position model g)
          ≡ group_by_position model g
      once g there =
          ap₂ (λ n vs. group_at n vs g)
          (placed_again group_number (group_by_position model) model.groups
          valid.consistent.groups_rise renumbered_consistent.groups_rise g there)
          (variables_again g there)

  rows_again : rows_by_position (renumbered model) ≡ rows_by_position model
  rows_again =
      made_as (row_by_position model) (λ r. Contains model.rows r × IsPlacedRow model r)
      (row_by_position (renumbered model)) (row_by_position model)
      (λ r h. ap₂ (λ n f. row_at n f r)
      (placed_again row_number (row_by_position model) model.rows valid.consistent.rows_rise
      renumbered_consistent.rows_rise r h.0)
      (function_again model valid.consistent (renumbered model) renumbered_consistent has_variables
      r.func h.1)) model.rows
      (λ k d within. (
        Contains-get_or model.rows k d within,
        placed_rows model model.rows valid.parts.valid_rows k d within,
      ))

  objective_again : (o : Objective) → IsPlacedObjective model o
      → objective_by_position (variable_numbers (renumbered model))
      (objective_by_position (numbers model) o)
      ≡ objective_by_position (numbers model) o
  objective_again objective.Feasibility h = refl
  objective_again (objective.Plain sense var) h =
      ap (objective.Plain sense)
      (address_again model valid.consistent (renumbered model) renumbered_consistent has_variables
      var h)
  objective_again (objective.Affine sense f) h =
      ap (objective.Affine sense)
      (affine_again model valid.consistent
      (renumbered model) renumbered_consistent has_variables f h)

  pub same_renumbered : SameUpToNumbers model (renumbered model)
  same_renumbered = record {
    groups = sym groups_again;
    rows = sym rows_again;
    objective = sym (objective_again model.objective
        (placed_objective model model.objective valid.parts.valid_objective.stand));
  }

  -- a text of the model's value makes the model again
  pub makes_again : IsSayable model → (text : List ℕ) → IsTextOf text (model_data model)
      → MakesAgain model text
  makes_again say text h = record {
    edits = edits_for model;
    read = reads_back model valid say text h;
    made = renumbered model;
    lead = edits_lead;
    same = same_renumbered;
  }

  -- and so does the text with a newline behind it
  pub line_again : IsSayable model → (text : List ℕ) → IsTextOf text (model_data model)
      → MakesAgain model (as_line text)
  line_again say text h = makes_again say (as_line text) (line_too text (model_data model) h)
