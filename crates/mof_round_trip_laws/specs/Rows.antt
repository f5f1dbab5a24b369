-- The rows of a valid model, added one after another behind its groups, are accepted and
-- renumbered.
use Rattle.std.specs.Prelude.{◌≡◌, ◌≢◌, ℕ, ◌+◌, ◌≤◌, Bool, true, false, ◌&&◌, not, List, [], ◌∷◌, ◌++◌, All, AllPairs, is_some, length, map, slice_index_or, sum, sum_by, bytes_eq, refl}
use Rattle.std.specs.List.{list_any}
use Rattle.std.specs.Option.{option_map_or}
use Rattle.std.proofs.Common.{ap, ap₂, arith, subst, sym, ◌∙◌}
use Rattle.std.proofs.lemmas.Bool.{and_from, or_from}
use Rattle.std.proofs.lemmas.List.{length-append, length-map, map_push}
use Rattle.std.proofs.lemmas.List.Elements.{All-append, All-cons, All-head, All-nil, All-tail, Contains-get_or}
use Rattle.std.proofs.lemmas.List.Sums.{sum_by-append, sum_by-cons}
use Rattle.map_laws.specs.EachLaws.{all_first, all_second}
use mathlib.Core.List.{map-map}
use Rattle.aff_core.specs.Address.{Address, address_eq, address_eq-Decides}
use Rattle.aff_core.specs.Function.{Function, terms_of}
use Rattle.set_core.specs.declared.set.Set.{Set}
use Rattle.set_core.specs.Shapes.{has_bad_dimension}
use Rattle.set_core.specs.ShapeLaws.{good_dimension}
use Rattle.user_model.specs.declared.function.UserFunc.{UserFunc}
use Rattle.user_model.specs.declared.function.UserFunc.TheVariants.{Plain, Affine, PlainVec, AffineVec}
use Rattle.user_model.specs.declared.objective.Objective.TheVariants as objective
use Rattle.user_model.specs.declared.edit.Edit.{Edit}
use Rattle.user_model.specs.declared.edit.Edit.TheVariants as edit
use Rattle.user_model.specs.declared.row.Row.{Row}
use Rattle.user_model.specs.Edited.{edited, located, row_number}
use Rattle.user_model.specs.Functions.{all_terms, components, func_mentions, has_term, is_scalar_function, is_scalar_named, mentioned, named_components, names_of, term_counts}
use Rattle.user_model.specs.Limits.{ALL_TERMS, TERMS}
use Rattle.user_model.specs.Model.{ModelValue, is_variable, total_terms, variable_address, variables}
use Rattle.user_model.specs.Refusals.{counts, differ, has_row_named, meets_bound_already_set}
use Rattle.user_model.specs.SameUpToNumbers.{groups_by_position, row_by_position}
use Rattle.user_model.specs.Sets.{sets_lower, sets_upper}
use Rattle.user_model.specs.Valid.{IsValid, IsValidRow, Stands, bound_count}
use Rattle.model_laws.specs.Found.{is_some-find, list_any-flat_map, one_passes}
use Rattle.map_laws.specs.PairLaws.{AllPairs-before}
use Rattle.model_laws.specs.Needed.{unknown}
use Rattle.model_laws.specs.Passed.{IsPassed}
use Rattle.mof_write.specs.Written.{naming}
use Rattle.mof_laws.specs.EditLaws.{row_edit}
use Rattle.mof_laws.specs.ModelLaws.{terms_mentioned}
use Rattle.mof_laws.specs.ReadBack.{named_affine, named_function, named_term}
use Rattle.mof_laws.specs.VariableLaws.{HasVariableAt, variable_there}
use Rattle.mof_laws.specs.WrittenLaws.{function_size}
use Rattle.mof_round_trip_laws.specs.Accepted.{AreCountsWithin, LeadTo, each_leads, each_within, terms_within}
use Rattle.mof_round_trip_laws.specs.Bounds.{has_bound, no_row_before, not_created, unbound}
use Rattle.mof_round_trip_laws.specs.Functions.{HasTerms, HasVariable, IsPlaced, located_is, placed_counts}
use Rattle.mof_round_trip_laws.specs.Groups.{other_name}
use Rattle.user_model.specs.PositionLaws.{placed_here}
use Rattle.mof_round_trip_laws.specs.Renumbered.{HasRenumberedVariables, made_variables, none_made, number_of_name}

-- ---- functions whose variables stand

module _ (model : ModelValue) where
  -- the variables of a function that mentions none but those that stand
  pub placed_terms_of : (f : Function)
      → ((at : Address) → has_term at f ≡ true → Stands model.groups at) → HasTerms model f
  placed_terms_of f stand = λ k d within.
      variable_there model _ (stand _ (terms_mentioned f k d within))

  pub placed_function : (func : UserFunc)
      → ((at : Address) → func_mentions at func ≡ true → Stands model.groups at)
      → IsPlaced model func
  placed_function (Plain var) stand =
      variable_there model var (stand var ((address_eq-Decides var var).1 refl))
  placed_function (Affine f) stand = placed_terms_of f stand
  placed_function (PlainVec vars) stand = λ k d within.
      let at = slice_index_or vars k d in
      variable_there model at (stand at (one_passes (address_eq at) vars at
      (Contains-get_or vars k d within) ((address_eq-Decides at at).1 refl)))
  placed_function (AffineVec fs) stand = λ k d within.
      placed_terms_of (slice_index_or fs k d) (λ at there. stand at
      (one_passes (has_term at) fs (slice_index_or fs k d) (Contains-get_or fs k d within) there))

module _ (model : ModelValue) (valid : IsValid model) (other : ModelValue)
    (has : HasRenumberedVariables model other) where
  name_known : (at : Address) → HasVariableAt model at
      → unknown other (naming model at) ≡ false
  name_known at h =
      ap (λ o. not (is_some o)) (number_of_name model valid.consistent other has at h)

  terms_known : (f : Function) → HasTerms model f
      → list_any (unknown other) (names_of (named_affine (naming model) f)) ≡ false
  terms_known f h =
      ap (list_any (unknown other))
      (map-map (λ t. t.variable) (named_term (naming model)) (terms_of f))
      ∙ none_made (λ t. naming model t.0) (HasVariable model) (unknown other)
      (λ t there. name_known t.0 there) (terms_of f) h

  -- its names are known
  pub names_known : (func : UserFunc) → IsPlaced model func
      → list_any (unknown other) (mentioned (named_function (naming model) func)) ≡ false
  names_known (Plain var) h = or_from _ _ (name_known var h) refl
  names_known (Affine f) h = terms_known f h
  names_known (PlainVec vars) h =
      none_made (naming model) (HasVariableAt model) (unknown other) name_known vars h
  names_known (AffineVec fs) h =
      list_any-flat_map (unknown other) names_of (map (named_affine (naming model)) fs)
      ∙ none_made (named_affine (naming model)) (HasTerms model)
      (λ f. list_any (unknown other) (names_of f)) terms_known fs h

-- ---- shapes

pub scalar_kept : (model : ModelValue) (func : UserFunc)
    → is_scalar_named (named_function (naming model) func) ≡ is_scalar_function func
scalar_kept model (Plain var) = refl
scalar_kept model (Affine f) = refl
scalar_kept model (PlainVec vars) = refl
scalar_kept model (AffineVec fs) = refl

pub same_shape : (a b : Bool) → b ≡ a → differ a b ≡ false
same_shape true b e = ap (λ b. not b) e
same_shape false b e = e

pub unless : (b c : Bool) → (b ≡ true → c ≡ false) → (b && c) ≡ false
unless true c h = h refl
unless false c h = refl

-- ---- a model with all groups and the first rows

abbrev row_with : ℕ → List ℕ → UserFunc → Set → Row
row_with n name func set = record { id = n; name = name; func = func; set = set }

module _ (model : ModelValue) where
  abbrev rows_behind : List Row → ℕ → ModelValue
  rows_behind rs n = record {
    groups = groups_by_position model;
    rows = rs;
    objective = objective.Feasibility;
    next = record {
      group = length model.groups;
      variable = length (variables model);
      row = n;
    };
  }

  -- all groups, and the first rows, renumbered
  abbrev pub with_rows : List Row → ModelValue
  with_rows done = rows_behind (map (row_by_position model) done) (length done)

  -- the row's function has variables that stand
  abbrev pub IsPlacedRow : Row → Type 0
  IsPlacedRow r = IsPlaced model r.func

  pub rows_have : (done : List Row) → HasRenumberedVariables model (with_rows done)
  rows_have done = record { made = made_variables model model.groups }

  pub placed_rows : (rs : List Row) → All (IsValidRow model.groups) rs → All IsPlacedRow rs
  placed_rows rs h = λ k d within.
      placed_function model (slice_index_or rs k d).func (h k d within).stand

abbrev pub terms_in : Row → ℕ
terms_in r = all_terms r.func

module _ (model : ModelValue) (valid : IsValid model) where
  -- renumbered rows have as many terms
  pub terms_kept : (rs : List Row) → All (IsPlacedRow model) rs
      → sum_by terms_in (map (row_by_position model) rs) ≡ sum_by terms_in rs
  terms_kept [] h = refl
  terms_kept (r ∷ rs) h =
      sum_by-cons terms_in (row_by_position model r) (map (row_by_position model) rs)
      ∙ ap₂ (λ n m. n + m)
      (ap sum (placed_counts model valid.consistent r.func (All-head (IsPlacedRow model) r rs h)))
      (terms_kept rs (All-tail (IsPlacedRow model) r rs h))
      ∙ sym (sum_by-cons terms_in r rs)

  module _ (done : List Row) (r : Row) (rest : List Row)
      (whole : model.rows ≡ done ++ r ∷ rest) where
    all_valid : All (IsValidRow model.groups) (done ++ r ∷ rest)
    all_valid = subst (All (IsValidRow model.groups)) whole valid.parts.valid_rows

    this_valid : IsValidRow model.groups r
    this_valid =
        All-head (IsValidRow model.groups) r rest
        (all_second (IsValidRow model.groups) done (r ∷ rest) all_valid)

    done_placed : All (IsPlacedRow model) done
    done_placed =
        placed_rows model done (all_first (IsValidRow model.groups) done (r ∷ rest) all_valid)

    this_placed : IsPlaced model r.func
    this_placed = placed_function model r.func this_valid.stand

    name_free : has_row_named (with_rows model done) r.name ≡ false
    name_free =
        is_some-find (λ s. bytes_eq s.name r.name) (map (row_by_position model) done)
        ∙ none_made (row_by_position model) (λ s. s.name ≢ r.name) (λ s. bytes_eq s.name r.name)
        (λ s. other_name s.name r.name) done
        (AllPairs-before (λ r s. r.name ≢ s.name) done r rest
        (subst (AllPairs {X = Row} (λ r s. r.name ≢ s.name)) whole valid.consistent.row_names))

    size : named_components (named_function (naming model) r.func) ≡ components r.func
    size = function_size (naming model) [] r.func

    -- a plain row that bounds its variable is the first that does
    bound_free : (test : Set → Bool)
        → ((n : ℕ) → bound_count test model.groups model.rows n ≤ 1) → (func : UserFunc)
        → r.func ≡ func → IsPlaced model func
        → meets_bound_already_set test (has_bound test) (with_rows model done)
        (edit.AddRow r.name (named_function (naming model) func) r.set)
        ≡ false
    bound_free test single (Plain at) e h =
        ap (λ o. test r.set && option_map_or (has_bound test (with_rows model done)) o false)
        (number_of_name model valid.consistent (with_rows model done) (rows_have model done) at h)
        ∙ unless _ _ (λ is. unbound model test (with_rows model done) h.var h.there
        refl done refl done_placed
        (no_row_before test h.var.number model.groups done r rest (at_most_one h.var.number)
        (bounds is))
        (not_created test h.var.number model.groups done r rest (at_most_one h.var.number)
        (bounds is)))
      where
        at_most_one : (n : ℕ) → bound_count test model.groups (done ++ r ∷ rest) n ≤ 1
        at_most_one n = subst (λ rs. bound_count test model.groups rs n ≤ 1) whole (single n)

        bounds : test r.set ≡ true → (is_variable h.var.number r.func && test r.set) ≡ true
        bounds is =
            and_from _ _ (ap (is_variable h.var.number) e
            ∙ (address_eq-Decides (variable_address h.var.number) at).1 h.address) is
    bound_free test single (Affine f) e h = refl
    bound_free test single (PlainVec vars) e h = refl
    bound_free test single (AffineVec fs) e h = refl

    made_row : row_with (length done) r.name
        (located (with_rows model done) (named_function (naming model) r.func)) r.set
        ≡ row_by_position model r
    made_row =
        ap₂ (λ n f. row_with n r.name f r.set)
        (sym (placed_here row_number model.rows valid.consistent.rows_rise done r rest whole))
        (located_is model valid.consistent (with_rows model done) (rows_have model done) r.func
        this_placed)

    row_added : edited (with_rows model done) (row_edit (naming model) r)
        ≡ with_rows model (done ++ r ∷ [])
    unfolding edited
    row_added = λ i. rows_behind model (row_list i) (row_count i)
      where
        row_list : map (row_by_position model) done ++ row_with (length done) r.name
            (located (with_rows model done) (named_function (naming model) r.func)) r.set ∷ []
            ≡ map (row_by_position model) (done ++ r ∷ [])
        row_list =
            ap (λ s. map (row_by_position model) done ++ s ∷ []) made_row
            ∙ sym (map_push (row_by_position model) done r)

        row_count : length done + 1 ≡ length (done ++ r ∷ [])
        row_count = omega (arith, length-append done (r ∷ []))

    terms_fit : total_terms (with_rows model (done ++ r ∷ [])) ≤ ALL_TERMS
    terms_fit =
        let kept = terms_kept (done ++ r ∷ []) (All-append (IsPlacedRow model) done (r ∷ [])
        done_placed (All-cons (IsPlacedRow model) r [] this_placed
        (All-nil (IsPlacedRow model)))) in
        let fits = valid.within.terms in
        let all : sum_by terms_in model.rows ≡ sum_by terms_in done + sum_by terms_in (r ∷ rest) =
        ap (sum_by terms_in) whole ∙ sum_by-append terms_in done (r ∷ rest) in
        let now = sum_by-append terms_in done (r ∷ []) in
        let first = sum_by-cons terms_in r rest in
        let one = sum_by-cons terms_in r [] in
        omega (arith, kept, fits, all, now, first, one)

    within_counts : AreCountsWithin (counts (with_rows model done) (row_edit (naming model) r))
    within_counts =
        let few : All (λ n. n ≤ TERMS)
        (term_counts (located (with_rows model done) (named_function (naming model) r.func))) =
        subst (All (λ n. n ≤ TERMS))
        (sym (ap term_counts (located_is model valid.consistent (with_rows model done)
        (rows_have model done) r.func this_placed)
        ∙ placed_counts model valid.consistent r.func this_placed))
        this_valid.terms in
        let limit = this_valid.limit in
        let rows = valid.within.rows in
        let total : length model.rows ≡ length done + length (r ∷ rest) =
        ap length whole ∙ length-append done (r ∷ rest) in
        let before = length-map done (row_by_position model) in
        let terms = terms_fit in
        let added = ap total_terms row_added in (
          omega (arith, limit, size),
          terms_within
              (term_counts (located (with_rows model done) (named_function (naming model) r.func)))
              _ few (
                omega (arith, rows, total, before),
                (omega (arith, terms, added), (omega (arith, rows, total), tt)),
              ),
        )

    row_passes : IsPassed (with_rows model done) (row_edit (naming model) r)
    row_passes = record {
      known = or_from _ _
          (names_known model valid (with_rows model done) (rows_have model done) r.func this_placed)
          refl;
      free = name_free;
      shaped = same_shape _ _ (this_valid.shape ∙ sym (scalar_kept model r.func));
      dimension = ap (has_bad_dimension r.set) size
          ∙ good_dimension (components r.func) r.set this_valid.set;
      output = refl;
      interval = this_valid.set.uncrossed;
      lower = bound_free sets_lower valid.parts.lower r.func refl this_placed;
      upper = bound_free sets_upper valid.parts.upper r.func refl this_placed;
      of_type = refl;
      deletable = refl;
      counted = each_within (counts (with_rows model done) (row_edit (naming model) r))
          within_counts;
    }

  -- the rows' edits lead to all rows
  pub rows_lead : (es : List Edit) (new : ModelValue)
      → LeadTo (with_rows model model.rows) es new
      → LeadTo (with_rows model []) (map (row_edit (naming model)) model.rows ++ es) new
  rows_lead =
      each_leads (with_rows model) (row_edit (naming model)) model.rows row_passes row_added []
      model.rows refl
