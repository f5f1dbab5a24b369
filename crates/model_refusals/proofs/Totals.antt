-- The counts of a model after an edit, by those before it.
use Rattle.std.specs.Prelude.{◌≡◌, ℕ, zero, suc, ◌+◌, ◌-◌, ◌≤◌, List, [], ◌∷◌, ◌++◌, map, slice_get, sum, sum_by, Some}
use Rattle.std.specs.Str.{bytes_eq}
use Rattle.std.proofs.Common.{arith, ap, ap₂, subst, ◌∙◌}
use Rattle.std.proofs.lemmas.Option.{same_Some}
use Rattle.std.proofs.lemmas.List.Sums.{get_or-le-sum_by, sum_by_push, sum_by-cons}
use Rattle.numbered_list.specs.Numbered.{put}
use Rattle.ratio_core.specs.Rational.{Rational}
use Rattle.aff_core.specs.Function.{Function, with_coefficient}
use Rattle.set_core.specs.declared.set.Set.{Set}
use Rattle.user_model.specs.declared.function.UserFunc.{UserFunc}
use Rattle.user_model.specs.declared.function.UserFunc.TheVariants.{Affine, AffineVec}
use Rattle.user_model.specs.declared.edit.Edit.TheVariants as edit
use Rattle.user_model.specs.declared.edit.NamedFunc.{NamedFunc}
use Rattle.user_model.specs.declared.objective.Objective.{Objective}
use Rattle.user_model.specs.declared.objective.Objective.TheVariants as objective
use Rattle.aff_core.specs.declared.sense.Sense.{Sense}
use Rattle.user_model.specs.declared.row.Row.{Row}
use Rattle.user_model.specs.Consistent.{IsConsistent}
use Rattle.user_model.specs.Edited.{change_function, changed_at, edited, located, on_affine, on_objective, on_output, row_number}
use Rattle.user_model.specs.Functions.{all_terms, term_count, term_counts}
use Rattle.user_model.specs.Limits.{ALL_TERMS, TERMS}
use Rattle.user_model.specs.Model.{ModelValue, address_named, is_variable, objective_terms, row_named, total_terms}
use Rattle.user_model.specs.Refusals.{counts, terms_of_objective, terms_of_row, within}
use Rattle.model_laws.specs.Changed.{change_row-found}
use Rattle.model_laws.specs.ChangedRow.{terms_after}
use Rattle.model_laws.specs.Found.{found_stands}
use Rattle.model_laws.specs.KeptRows.{row_terms}
use Rattle.model_laws.specs.Located.{row_by_number}
use Rattle.model_laws.specs.ByName.{function_change}
use Rattle.model_laws.specs.KeptShapes.{affine_shape, output_shape}
use Rattle.model_refusals.specs.Changes.{with_change}
use Rattle.model_refusals.proofs.ChangedTerms.{sum-changed_at}

module _ (model : ModelValue) (c : IsConsistent model) (name : List ℕ) (row : Row)
    (found : row_named model name ≡ Some row) where
  -- its terms are some of all
  pub row_part : all_terms row.func ≤ total_terms model
  row_part =
      let there = found_stands (λ r. bytes_eq r.name name) model.rows row found in
      let le = get_or-le-sum_by (λ r. all_terms r.func) model.rows there.0 row there.1 in
      let part : all_terms row.func ≤ sum_by (λ r. all_terms r.func) model.rows =
      subst (λ r. all_terms r.func ≤ sum_by (λ r. all_terms r.func) model.rows) there.2 le in
      omega arith

  module _ (h : UserFunc → UserFunc) (same : (n : ℕ) → is_variable n (h row.func) ≡ is_variable n
      row.func) where
    abbrev new : Row
    new = record row { func = h row.func }

    changed : change_function model name h ≡ record model { rows = put row_number new model.rows }
    changed = change_row-found model name (λ row. record row { func = h row.func }) row found

    pub total-changed : total_terms (change_function model name h)
        ≡ total_terms model - all_terms row.func + all_terms (h row.func)
    total-changed =
        let sums = row_terms model c row new (row_by_number model name row c found)
        (function_change model c name row found h same) in
        let part = row_part in
        ap total_terms changed ∙ omega (arith, sums, part)

-- ---- the counts of an edit

sum_part : (i : ℕ) (fs : List Function) (f : Function) → slice_get fs i ≡ Some f
    → term_count f ≤ sum (map term_count fs)
sum_part i [] f e = cc
sum_part zero (g ∷ fs) f e =
    let same : g ≡ f = same_Some g f e in
    subst (λ f. term_count f ≤ sum (map term_count (g ∷ fs))) same (omega (
      arith,
      sum_by-cons (λ x. x) (term_count g) (map term_count fs),
    ))
sum_part (suc i) (g ∷ fs) f e =
    omega (arith, sum_part i fs f e, sum_by-cons (λ x. x) (term_count g) (map term_count fs))

moved_total : (all old new less more : ℕ) → old ≤ all → less ≤ old → new + less ≡ old + more
    → all - old + new ≡ all - less + more
moved_total all old new less more a b e = omega arith

module _ (model : ModelValue) (c : IsConsistent model) (name : List ℕ) (row : Row)
    (found : row_named model name ≡ Some row) where
  one_term : (n : ℕ) → sum (n ∷ []) ≡ n
  one_term n = sum_by-cons (λ x. x) n [] ∙ omega arith

  -- a coefficient of a scalar affine row
  module _ (f : Function) (affine_row : row.func ≡ Affine f) (var : List ℕ) (value : Rational) where
    abbrev h : Function → Function
    h f = with_coefficient f (address_named model var) value

    pub coef_part : term_count f ≤ total_terms model
    coef_part =
        subst (λ n. n ≤ total_terms model) (ap all_terms affine_row ∙ one_term (term_count f))
        (row_part model c name row found)

    pub coef_counts : counts model (edit.Coef name var value) ≡ with_change (total_terms model)
        (term_count f) (term_count (h f))
    unfolding edited
    coef_counts =
        let same = (affine_shape h row.func).variable in
        let terms : terms_of_row (change_function model name (on_affine h)) name
        ≡ term_count (h f) ∷ [] = terms_after model c name row found (on_affine h) ∙ ap (λ func.
        term_counts (on_affine h func)) affine_row in
        let old : all_terms row.func ≡ term_count f =
        ap all_terms affine_row ∙ one_term (term_count f) in
        let new : all_terms (on_affine h row.func) ≡ term_count (h f) =
        ap (λ func. all_terms (on_affine h func)) affine_row ∙ one_term (term_count (h f)) in
        let total : total_terms (change_function model name (on_affine h))
        ≡ total_terms model - term_count f + term_count (h f) = total-changed model c name row
        found (on_affine h) same ∙ ap₂ (λ o n. total_terms model - o + n) old new in
        ap₂ (λ ts n. within TERMS ts ++ (n, ALL_TERMS) ∷ []) terms total

  -- a coefficient of a component of a vector affine row
  module _ (fs : List Function) (affine_row : row.func ≡ AffineVec fs) (output : ℕ) (f : Function)
      (component : slice_get fs (output - 1) ≡ Some f) (var : List ℕ) (value : Rational) where
    abbrev g : Function → Function
    g f = with_coefficient f (address_named model var) value

    abbrev gs : List Function
    gs = changed_at (output - 1) g fs

    component_part : term_count f ≤ sum (map term_count fs)
    component_part = let le = sum_part (output - 1) fs f component in le

    pub vec_coef_part : term_count f ≤ total_terms model
    vec_coef_part =
        let all : sum (map term_count fs) ≤ total_terms model =
        subst (λ func. all_terms func ≤ total_terms model) affine_row (row_part model c name
        row found) in
        let part = component_part in
        omega arith

    pub vec_coef_counts : counts model (edit.VecCoef name output var value)
        ≡ within TERMS (map term_count gs) ++ (
          total_terms model - term_count f + term_count (g f),
          ALL_TERMS,
        ) ∷ []
    unfolding edited
    vec_coef_counts =
        let same = (output_shape output g row.func).variable in
        let terms : terms_of_row (change_function model name (on_output output g)) name
        ≡ map term_count gs = terms_after model c name row found (on_output output g) ∙ ap
        (λ func. term_counts (on_output output g func)) affine_row in
        let old : all_terms row.func ≡ sum (map term_count fs) = ap all_terms affine_row in
        let new : all_terms (on_output output g row.func) ≡ sum (map term_count gs) =
        ap (λ func. all_terms (on_output output g func)) affine_row in
        let all : sum (map term_count fs) ≤ total_terms model =
        subst (λ func. all_terms func ≤ total_terms model) affine_row (row_part model c name
        row found) in
        let sums = sum-changed_at g (output - 1) fs f component in
        let part = component_part in
        let moved : total_terms model - sum (map term_count fs) + sum (map term_count gs)
        ≡ total_terms model - term_count f + term_count (g f) = moved_total (total_terms model)
        (sum (map term_count fs)) (sum (map term_count gs)) (term_count f)
        (term_count (g f)) all part sums in
        let total : total_terms (change_function model name (on_output output g))
        ≡ total_terms model - term_count f + term_count (g f) = total-changed model c name row
        found (on_output output g) same ∙ (ap₂ (λ o n. total_terms model - o + n) old
        new ∙ moved) in
        ap₂ (λ ts n. within TERMS ts ++ (n, ALL_TERMS) ∷ []) terms total

module _ (model : ModelValue) where
  -- the objective's terms are some of all
  pub objective_part : objective_terms model.objective ≤ total_terms model
  objective_part = omega arith

  -- a new objective
  pub total-objective : (o : Objective)
      → total_terms (record model { objective = o }) ≡ total_terms model - objective_terms
      model.objective + objective_terms o
  total-objective o = omega arith

  pub obj_coef_counts : (sense : Sense) (f : Function) (var : List ℕ) (value : Rational)
      → model.objective ≡ objective.Affine sense f → counts model (edit.ObjCoef var value)
      ≡ with_change (total_terms model) (term_count f)
      (term_count (with_coefficient f (address_named model var) value))
  unfolding edited
  obj_coef_counts sense f var value is =
      let h : Function → Function = λ f. with_coefficient f (address_named model var) value in
      let new : on_objective h model.objective ≡ objective.Affine sense (h f) =
      ap (on_objective h) is in
      let total : total_terms (record model {
        objective = on_objective h
            model.objective;
      }) ≡ total_terms model - term_count f + term_count (h f) = total-objective
      (on_objective h model.objective) ∙ ap₂ (λ o n. total_terms model - objective_terms
      o + objective_terms n) is new in
      ap₂ (λ o n. within TERMS (terms_of_objective o) ++ (n, ALL_TERMS) ∷ []) new total

  -- a new row
  pub total-add_row : (name : List ℕ) (func : NamedFunc) (set : Set)
      → total_terms (edited model (edit.AddRow name func set))
      ≡ total_terms model + all_terms (located model func)
  unfolding edited
  total-add_row name func set =
      let new : Row = record {
        id = model.next.row;
        name = name;
        func = located model func;
        set = set;
      } in
      omega (arith, sum_by_push (λ r. all_terms r.func) model.rows new)
