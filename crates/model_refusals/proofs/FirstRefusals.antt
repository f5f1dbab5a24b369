-- The first refusal of an edit, by what stands at its names.
use Rattle.std.specs.Prelude.{◌≡◌, ℕ, ◌-◌, Bool, true, false, ◌&&◌, ◌||◌, ◌==◌, nat_lt, if◌then◌else◌, not, List, [], ◌∷◌, length, map, slice_get, Some, None, refl}
use Rattle.std.specs.List.{list_any}
use Rattle.std.proofs.Common.{sym, ap, ◌∙◌}
use Rattle.ratio_core.specs.Rational.{Rational}
use Rattle.aff_core.specs.Function.{Function, with_coefficient}
use Rattle.aff_core.specs.declared.sense.Sense.{Sense}
use Rattle.set_core.specs.Shapes.{has_bad_dimension, is_crossed, is_scalar}
use Rattle.set_core.specs.declared.set.Set.{Set}
use Rattle.user_model.specs.declared.edit.Edit.TheVariants as edit
use Rattle.user_model.specs.declared.edit.NamedFunc.{NamedFunc}
use Rattle.user_model.specs.declared.function.UserFunc.TheVariants.{Affine, AffineVec}
use Rattle.user_model.specs.declared.objective.Objective.TheVariants as objective
use Rattle.user_model.specs.declared.refusal.Refusal.{Refusal}
use Rattle.user_model.specs.declared.refusal.Refusal.TheVariants.{UnknownName, NameTaken, FunctionShape, BadDimension, OutputIndex, BadInterval, LowerBoundAlreadySet, UpperBoundAlreadySet}
use Rattle.user_model.specs.declared.row.Row.{Row}
use Rattle.user_model.specs.Consistent.{IsConsistent}
use Rattle.user_model.specs.Functions.{components, is_scalar_affine, is_scalar_named, is_vector_affine, mentioned, named_components, term_count}
use Rattle.user_model.specs.Model.{ModelValue, has_lower_bound, has_upper_bound, row_named, total_terms, variable_address, variable_named}
use Rattle.user_model.specs.Sets.{sets_lower, sets_upper}
use Rattle.user_model.specs.Refusals.{counts, differ, first_of, first_refusal, full_at, has_row_named, has_twins, has_variable_named, is_affine_objective, meets_bound_already_set}
use Rattle.model_laws.specs.Located.{address_found}
use Rattle.model_refusals.specs.Bounds.{bound_tests}
use Rattle.model_refusals.specs.Changes.{with_change, with_change_at}
use Rattle.model_refusals.proofs.Firsts.{first_full}
use Rattle.model_refusals.proofs.Totals.{coef_counts, obj_coef_counts, vec_coef_counts}

-- ---- the first of some tests

first_past : (b : Bool) (r : Refusal) (rest : List (Bool × Refusal)) → b ≡ false
    → first_of ((b, r) ∷ rest) ≡ first_of rest
first_past b r rest e = ap (λ b. if b then Some r else first_of rest) e

-- where one of two tests holds, it is the first of all
pub first_of_two : (a b : Bool) (r s t : Refusal) (rest : List (Bool × Refusal))
    → Some t ≡ first_of ((a, r) ∷ (b, s) ∷ []) → first_of ((a, r) ∷ (b, s) ∷ rest) ≡ Some t
first_of_two true b r s t rest e = sym e
first_of_two false true r s t rest e = sym e
first_of_two false false r s t rest e = cc

pub none_of_two : (a b : Bool) (r s : Refusal) (rest : List (Bool × Refusal))
    → None ≡ first_of ((a, r) ∷ (b, s) ∷ []) → first_of ((a, r) ∷ (b, s) ∷ rest) ≡ first_of rest
none_of_two true b r s rest e = cc
none_of_two false true r s rest e = cc
none_of_two false false r s rest e = refl

module _ (model : ModelValue) where
  -- ---- rows

  module _ (name : List ℕ) (row : Row) (found : row_named model name ≡ Some row) (var : List ℕ)
      (n : ℕ) (there : variable_named model var ≡ Some n) (value : Rational) where
    pub coef_row : first_refusal model (edit.Coef name var value)
        ≡ first_of ((not (is_scalar_affine row.func), FunctionShape) ∷ map full_at
        (counts model (edit.Coef name var value)))
    unfolding first_refusal
    coef_row = rw (found, there) refl

    pub vec_coef_row : (output : ℕ) → first_refusal model (edit.VecCoef name output var value)
        ≡ first_of ((not (is_vector_affine row.func), FunctionShape) ∷ (
          output == 0 || nat_lt
              (components row.func) output,
          OutputIndex,
        ) ∷ map full_at
        (counts model (edit.VecCoef name output var value)))
    unfolding first_refusal
    vec_coef_row output = rw (found, there) refl

    -- the row is affine
    pub coef_full : IsConsistent model → (f : Function) → row.func ≡ Affine f
        → first_refusal model (edit.Coef name var value)
        ≡ first_full (with_change (total_terms model) (term_count f)
        (term_count (with_coefficient f (variable_address n) value)))
    coef_full c f is =
        coef_row
        ∙ (ap (λ func. first_of ((not (is_scalar_affine func), FunctionShape) ∷ map full_at
        (counts model (edit.Coef name var value)))) is
        ∙ (ap first_full (coef_counts model c name row found f is var value)
        ∙ ap (λ at. first_full (with_change (total_terms model) (term_count f)
        (term_count (with_coefficient f at value)))) (address_found model var n there)))

    -- the row is vector affine, and has the output
    pub vec_coef_full : IsConsistent model → (fs : List Function) (output place : ℕ) (f : Function)
        → row.func ≡ AffineVec fs → (output == 0 || nat_lt (length fs) output) ≡ false
        → place ≡ output - 1 → slice_get fs place ≡ Some f
        → first_refusal model (edit.VecCoef name output var value)
        ≡ first_full (with_change_at (total_terms model) fs place f
        (λ f. with_coefficient f (variable_address n) value))
    vec_coef_full c fs output place f is within at component =
        let all : first_refusal model (edit.VecCoef name output var value)
        ≡ first_full (counts model (edit.VecCoef name output var value)) =
        vec_coef_row output
        ∙ (ap (λ func. first_of ((not (is_vector_affine func), FunctionShape) ∷ (
          output == 0
              || nat_lt (components func) output,
          OutputIndex,
        ) ∷ map full_at
        (counts model (edit.VecCoef name output var value)))) is
        ∙ ap (λ b. first_of ((b, OutputIndex) ∷ map full_at
        (counts model (edit.VecCoef name output var value)))) within) in
        all
        ∙ (ap first_full (vec_coef_counts model c name row found fs is output f
        (ap (slice_get fs) (sym at) ∙ component) var value)
        ∙ (ap (λ a. first_full (with_change_at (total_terms model) fs (output - 1) f
        (λ f. with_coefficient f a value))) (address_found model var n there)
        ∙ ap (λ p. first_full (with_change_at (total_terms model) fs p f
        (λ f. with_coefficient f (variable_address n) value))) (sym at)))

  -- a new row that meets none of the first tests
  module _ (name : List ℕ) (func : NamedFunc) (set : Set)
      (known : list_any (λ n. not (has_variable_named model n)) (mentioned func) ≡ false)
      (free : has_row_named model name ≡ false)
      (shaped : differ (is_scalar_named func) (is_scalar set) ≡ false)
      (dimension : has_bad_dimension set (named_components func) ≡ false)
      (interval : is_crossed set ≡ false) where
    abbrev lower : Bool
    lower = meets_bound_already_set sets_lower has_lower_bound model (edit.AddRow name func set)

    abbrev upper : Bool
    upper = meets_bound_already_set sets_upper has_upper_bound model (edit.AddRow name func set)

    abbrev limits : List (Bool × Refusal)
    limits = map full_at (counts model (edit.AddRow name func set))

    abbrev bounds : List (Bool × Refusal)
    bounds = (lower, LowerBoundAlreadySet) ∷ (upper, UpperBoundAlreadySet) ∷ limits

    abbrev intervals : List (Bool × Refusal)
    intervals = (is_crossed set, BadInterval) ∷ bounds

    abbrev dimensions : List (Bool × Refusal)
    dimensions = (has_bad_dimension set (named_components func), BadDimension) ∷ intervals

    abbrev shapes : List (Bool × Refusal)
    shapes = (differ (is_scalar_named func) (is_scalar set), FunctionShape) ∷ dimensions

    abbrev taken : List (Bool × Refusal)
    taken = (has_row_named model name, NameTaken) ∷ shapes

    added_row : first_refusal model (edit.AddRow name func set) ≡ first_of bounds
    unfolding first_refusal
    added_row =
        first_past (list_any (λ n. not (has_variable_named model n)) (mentioned func) || false)
        UnknownName taken (ap (λ b. b || false) known)
        ∙ (first_past (has_row_named model name) NameTaken shapes free
        ∙ (first_past (differ (is_scalar_named func) (is_scalar set)) FunctionShape
        dimensions shaped
        ∙ (first_past (has_bad_dimension set (named_components func)) BadDimension
        intervals dimension
        ∙ first_past (is_crossed set) BadInterval bounds interval)))

    pub bounded_row : (r : Refusal)
        → Some r ≡ first_of (bound_tests model (edit.AddRow name func set))
        → first_refusal model (edit.AddRow name func set) ≡ Some r
    bounded_row r e =
        added_row ∙ first_of_two lower upper LowerBoundAlreadySet UpperBoundAlreadySet r limits e

    pub full_row : None ≡ first_of (bound_tests model (edit.AddRow name func set))
        → first_refusal model (edit.AddRow name func set)
        ≡ first_full (counts model (edit.AddRow name func set))
    full_row e =
        added_row ∙ none_of_two lower upper LowerBoundAlreadySet UpperBoundAlreadySet limits e

  -- ---- groups

  -- a new group that meets none of the first tests
  module _ (names : List (List ℕ)) (set : Set)
      (free : (list_any (has_variable_named model) names || has_twins names) ≡ false)
      (shaped : (is_scalar set && not (length names == 1)) ≡ false)
      (dimension : has_bad_dimension set (length names) ≡ false)
      (interval : is_crossed set ≡ false) where
    abbrev group_limits : List (Bool × Refusal)
    group_limits = map full_at (counts model (edit.AddGroup names set))

    abbrev group_intervals : List (Bool × Refusal)
    group_intervals = (is_crossed set, BadInterval) ∷ group_limits

    abbrev group_dimensions : List (Bool × Refusal)
    group_dimensions = (has_bad_dimension set (length names), BadDimension) ∷ group_intervals

    abbrev group_shapes : List (Bool × Refusal)
    group_shapes = (is_scalar set && not (length names == 1), FunctionShape) ∷ group_dimensions

    pub full_group : first_refusal model (edit.AddGroup names set)
        ≡ first_full (counts model (edit.AddGroup names set))
    unfolding first_refusal
    full_group =
        first_past (list_any (has_variable_named model) names || has_twins names) NameTaken
        group_shapes free
        ∙ (first_past (is_scalar set && not (length names == 1)) FunctionShape
        group_dimensions shaped
        ∙ (first_past (has_bad_dimension set (length names)) BadDimension group_intervals dimension
        ∙ first_past (is_crossed set) BadInterval group_limits interval))

  -- ---- the objective

  pub obj_coef : (name : List ℕ) (n : ℕ) (value : Rational) → variable_named model name ≡ Some n
      → first_refusal model (edit.ObjCoef name value)
      ≡ first_of ((not (is_affine_objective model.objective), FunctionShape) ∷ map full_at
      (counts model (edit.ObjCoef name value)))
  unfolding first_refusal
  obj_coef name n value named = rw named refl

  pub obj_coef_full : (name : List ℕ) (n : ℕ) (value : Rational)
      → variable_named model name ≡ Some n → (sense : Sense) (f : Function)
      → model.objective ≡ objective.Affine sense f → first_refusal model (edit.ObjCoef name value)
      ≡ first_full (with_change (total_terms model) (term_count f)
      (term_count (with_coefficient f (variable_address n) value)))
  obj_coef_full name n value named sense f is =
      obj_coef name n value named
      ∙ (ap (λ o. first_of ((not (is_affine_objective o), FunctionShape) ∷ map full_at
      (counts model (edit.ObjCoef name value)))) is
      ∙ (ap first_full (obj_coef_counts model sense f name value is)
      ∙ ap (λ at. first_full (with_change (total_terms model) (term_count f)
      (term_count (with_coefficient f at value)))) (address_found model name n named)))
