-- The objective of a valid model, made behind its rows, is accepted and renumbered.
use Rattle.std.specs.Prelude.{◌≡◌, ℕ, ◌+◌, ◌≤◌, true, false, not, List, [], ◌∷◌, ◌++◌, map, sum_by, refl}
use Rattle.std.specs.List.{list_any}
use Rattle.std.proofs.Common.{ap, arith, subst, sym}
use Rattle.std.proofs.lemmas.Bool.{or_from}
use Rattle.aff_core.specs.Address.{Address, address_eq-Decides}
use Rattle.aff_core.specs.Function.{Function}
use Rattle.aff_core.specs.declared.sense.Sense.{Sense}
use Rattle.user_model.specs.declared.edit.Edit.TheVariants as edit
use Rattle.user_model.specs.declared.edit.NamedFunc.{NamedFunc}
use Rattle.user_model.specs.declared.edit.NamedFunc.TheVariants as named
use Rattle.user_model.specs.declared.function.UserFunc.TheVariants.{Plain, Affine}
use Rattle.user_model.specs.declared.objective.Objective.{Objective}
use Rattle.user_model.specs.declared.objective.Objective.TheVariants as objective
use Rattle.user_model.specs.Edited.{edited}
use Rattle.user_model.specs.Limits.{ALL_TERMS, TERMS}
use Rattle.user_model.specs.Model.{ModelValue, objective_mentions, objective_terms, total_terms}
use Rattle.user_model.specs.Refusals.{terms_of_objective, within}
use Rattle.user_model.specs.SameUpToNumbers.{address_by_position, affine_by_position, objective_by_position, row_by_position}
use Rattle.user_model.specs.Valid.{IsValid, Stands}
use Rattle.user_model.specs.Functions.{is_scalar_named, mentioned}
use Rattle.model_laws.specs.Needed.{unknown}
use Rattle.model_laws.specs.Passed.{IsPassed}
use Rattle.mof_read.specs.Edits.{objective_edits}
use Rattle.mof_write.specs.Written.{naming}
use Rattle.mof_laws.specs.ReadBack.{named_affine, said_objective}
use Rattle.mof_laws.specs.VariableLaws.{HasVariableAt, variable_there}
use Rattle.mof_round_trip_laws.specs.Accepted.{AreCountsWithin, LeadTo, each_within, lead_on}
use Rattle.mof_round_trip_laws.specs.Functions.{HasTerms, located_affine, placed_count}
use Rattle.mof_round_trip_laws.specs.Renumbered.{address_of_name, numbers}
use Rattle.mof_round_trip_laws.specs.Rows.{names_known, placed_rows, placed_terms_of, rows_have, terms_in, terms_kept, with_rows}

-- the model's objective has variables that stand
abbrev pub IsPlacedObjective : ModelValue → Objective → Type 0
IsPlacedObjective model objective.Feasibility = Unit {0}
IsPlacedObjective model (objective.Plain sense var) = HasVariableAt model var
IsPlacedObjective model (objective.Affine sense f) = HasTerms model f

pub placed_objective : (model : ModelValue) (o : Objective)
    → ((at : Address) → objective_mentions at o ≡ true → Stands model.groups at)
    → IsPlacedObjective model o
placed_objective model objective.Feasibility stand = tt
placed_objective model (objective.Plain sense var) stand =
    variable_there model var (stand var ((address_eq-Decides var var).1 refl))
placed_objective model (objective.Affine sense f) stand = placed_terms_of model f stand

-- what an objective's edit adds to
abbrev counts_after : ModelValue → List (ℕ × ℕ)
counts_after m =
    within TERMS (terms_of_objective m.objective) ++ (total_terms m, ALL_TERMS) ∷ []

module _ (model : ModelValue) (valid : IsValid model) where
  abbrev all_rows : ModelValue
  all_rows = with_rows model model.rows

  abbrev with_objective : Objective → ModelValue
  with_objective o = record all_rows { objective = o }

  all_terms_kept : sum_by terms_in (map (row_by_position model) model.rows)
      ≡ sum_by terms_in model.rows
  all_terms_kept =
      terms_kept model valid model.rows (placed_rows model model.rows valid.parts.valid_rows)

  -- behind all rows, an objective whose names are known, and that fits
  objective_leads : (sense : Sense) (func : NamedFunc) (o : Objective)
      → edited all_rows (edit.Objective sense func) ≡ with_objective o
      → list_any (unknown all_rows) (mentioned func) ≡ false
      → is_scalar_named func ≡ true
      → AreCountsWithin (counts_after (with_objective o))
      → LeadTo all_rows (edit.Objective sense func ∷ []) (with_objective o)
  objective_leads sense func o is known scalar fits =
      let passes : IsPassed all_rows (edit.Objective sense func) = record {
        known = or_from _ _ known refl;
        free = refl;
        shaped = ap (λ b. not b) scalar;
        dimension = refl;
        output = refl;
        interval = refl;
        lower = refl;
        upper = refl;
        of_type = refl;
        deletable = refl;
        counted = each_within _ (subst (λ m. AreCountsWithin (counts_after m)) (sym is) fits);
      } in
      lead_on all_rows (with_objective o) (with_objective o) (edit.Objective sense func) [] passes
      is refl

  plain_is : (sense : Sense) (var : Address) → HasVariableAt model var
      → edited all_rows (edit.Objective sense (named.Plain (naming model var)))
      ≡ with_objective (objective.Plain sense (address_by_position (numbers model) var))
  unfolding edited
  plain_is sense var h =
      ap (λ at. with_objective (objective.Plain sense at))
      (address_of_name model valid.consistent all_rows (rows_have model model.rows) var h)

  affine_is : (sense : Sense) (f : Function) → HasTerms model f
      → edited all_rows (edit.Objective sense (named.Affine (named_affine (naming model) f)))
      ≡ with_objective (objective.Affine sense (affine_by_position (numbers model) f))
  unfolding edited
  affine_is sense f h =
      ap (λ g. with_objective (objective.Affine sense g))
      (located_affine model valid.consistent all_rows (rows_have model model.rows) f h)

  pub objective_lead : (o : Objective) → IsPlacedObjective model o → objective_terms o ≤ TERMS
      → sum_by terms_in model.rows + objective_terms o ≤ ALL_TERMS
      → LeadTo all_rows (objective_edits (said_objective (naming model) o))
      (with_objective (objective_by_position (numbers model) o))
  objective_lead objective.Feasibility h few fits = refl
  objective_lead (objective.Plain sense var) h few fits =
      objective_leads sense (named.Plain (naming model var))
      (objective.Plain sense (address_by_position (numbers model) var)) (plain_is sense var h)
      (names_known model valid all_rows (rows_have model model.rows) (Plain var) h) refl
      (let kept = all_terms_kept in omega (arith, fits, kept), tt)
  objective_lead (objective.Affine sense f) h few fits =
      let kept = all_terms_kept in
      let count = placed_count model valid.consistent f h in
      objective_leads sense (named.Affine (named_affine (naming model) f))
      (objective.Affine sense (affine_by_position (numbers model) f)) (affine_is sense f h)
      (names_known model valid all_rows (rows_have model model.rows) (Affine f) h) refl
      (omega (arith, few, count), (omega (arith, fits, kept, count), tt))
