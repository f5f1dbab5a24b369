-- The counts of an edit that adds a function, and how its first refusal follows from those of its
-- parts.
use Rattle.std.specs.Prelude.{◌≡◌, ℕ, ◌+◌, ◌-◌, ◌≤◌, true, List, [], ◌∷◌, ◌++◌, length, sum, Option, Some, None, is_some, refl}
use Rattle.std.proofs.Common.{sym, ap, ◌∙◌}
use Rattle.std.proofs.lemmas.Bool.{both_ways}
use Rattle.named_aff.specs.declared.aff.NamedAff.{NamedAff}
use Rattle.set_core.specs.declared.set.Set.{Set}
use Rattle.user_model.specs.declared.edit.Edit.TheVariants as edit
use Rattle.user_model.specs.declared.edit.NamedFunc.{NamedFunc}
use Rattle.user_model.specs.declared.edit.NamedFunc.TheVariants as named
use Rattle.user_model.specs.declared.objective.Objective.TheVariants as objective
use Rattle.aff_core.specs.declared.sense.Sense.{Sense}
use Rattle.user_model.specs.declared.refusal.Refusal.{Refusal}
use Rattle.user_model.specs.Edited.{affine, edited, located, objective_of}
use Rattle.user_model.specs.Functions.{all_terms, named_components, term_count, term_counts}
use Rattle.user_model.specs.Limits.{ALL_TERMS, COMPONENTS, LAST_NUMBER, ROWS, TERMS}
use Rattle.user_model.specs.Model.{ModelValue, objective_terms, total_terms}
use Rattle.user_model.specs.Refusals.{counts, terms_of_objective, within}
use Rattle.model_refusals.proofs.Counting.{not_above}
use Rattle.model_refusals.proofs.Firsts.{first_found, first_full, first_later, first_within}
use Rattle.model_refusals.specs.Changes.{with_change}
use Rattle.model_refusals.proofs.Totals.{total-add_row, total-objective}

-- where one of the first passes, it is the first of all
pub first_some : (xs ys : List (ℕ × ℕ)) → is_some (first_full xs) ≡ true
    → first_full xs ≡ first_full (xs ++ ys)
first_some xs ys e = by (first_full xs) refl e
  where
    by : (o : Option Refusal) → first_full xs ≡ o → is_some o ≡ true
        → first_full xs ≡ first_full (xs ++ ys)
    by None is e = absurd (both_ways (is_some {T = Refusal} None) refl e)
    by (Some r) is e = is ∙ sym (first_found xs ys r is)

module _ (model : ModelValue) where
  module _ (name : List ℕ) (func : NamedFunc) (set : Set)
      (few : named_components func ≤ COMPONENTS) where
    abbrev others : ℕ → List (ℕ × ℕ)
    others total =
        (length model.rows + 1, ROWS) ∷ (total, ALL_TERMS) ∷ (model.next.row, LAST_NUMBER) ∷ []

    abbrev of_terms : List (ℕ × ℕ)
    of_terms = within TERMS (term_counts (located model func))

    row_counts : first_full (counts model (edit.AddRow name func set))
        ≡ first_full (of_terms ++ others (total_terms model + all_terms (located model func)))
    row_counts =
        first_within (named_components func) COMPONENTS
        (of_terms ++ others (total_terms (edited model (edit.AddRow name func set))))
        (not_above COMPONENTS (named_components func) few)
        ∙ ap (λ n. first_full (of_terms ++ others n)) (total-add_row model name func set)

    -- a component has too many terms
    pub row_refused : (r : Refusal) → first_full of_terms ≡ Some r
        → Some r ≡ first_full (counts model (edit.AddRow name func set))
    row_refused r e =
        sym (row_counts ∙ first_found of_terms
        (others (total_terms model + all_terms (located model func))) r e)

    pub row_counted : (terms : ℕ) → first_full of_terms ≡ None
        → terms ≡ sum (term_counts (located model func))
        → first_full (others (total_terms model + terms))
        ≡ first_full (counts model (edit.AddRow name func set))
    row_counted terms none is =
        ap (λ n. first_full (others (total_terms model + n))) is
        ∙ sym (row_counts ∙ first_later of_terms
        (others (total_terms model + all_terms (located model func))) none)

  pub objective_counts : (sense : Sense) (f : NamedAff)
      → counts model (edit.Objective sense (named.Affine f)) ≡ with_change (total_terms model)
      (objective_terms model.objective) (term_count (affine model f))
  unfolding edited
  objective_counts sense f =
      ap (λ n. (term_count (affine model f), TERMS) ∷ (n, ALL_TERMS) ∷ [])
      (total-objective model (objective.Affine sense (affine model f)))

  -- an objective with no terms
  pub plain_objective_counts : (sense : Sense) (var : List ℕ)
      → counts model (edit.Objective sense (named.Plain var))
      ≡ (total_terms model - objective_terms model.objective + 0, ALL_TERMS) ∷ []
  unfolding edited
  plain_objective_counts sense var =
      ap (λ n. (n, ALL_TERMS) ∷ []) (total-objective model
      (objective_of model sense (named.Plain var)))

  pub no_objective_counts : (sense : Sense) (func : NamedFunc) → objective_of model sense func
      ≡ objective.Feasibility → counts model (edit.Objective sense func)
      ≡ (total_terms model - objective_terms model.objective + 0, ALL_TERMS) ∷ []
  unfolding edited
  no_objective_counts sense func e =
      ap (λ o. within TERMS (terms_of_objective o)
      ++ (total_terms (record model { objective = o }), ALL_TERMS) ∷ []) e
      ∙ ap (λ n. (n, ALL_TERMS) ∷ []) (total-objective model objective.Feasibility)
