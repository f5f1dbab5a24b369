-- The rows and the objective of the dual pass each test but those of limits, and so does the whole.
use Rattle.std.specs.Prelude.{◌≡◌, ◌≢◌, ℕ, suc, ◌+◌, ◌<◌, ◌≤◌, ◌^◌, Bool, true, false, ◌&&◌, cond, not, List, [], ◌∷◌, ◌++◌, All, AllPairs, None, decimal, flat_map, length, map, slice_index_or, refl}
use Rattle.std.specs.List.{IsDistinct, list_any}
use Rattle.std.specs.Option.{option_map_or}
use Rattle.std.specs.Str.{bytes_eq}
use Rattle.std.proofs.Common.{sym, ◌∙◌, ap, arith, subst}
use Rattle.std.proofs.lemmas.Bool.{or_from}
use Rattle.std.proofs.lemmas.List.{append_assoc, length-map}
use Rattle.std.proofs.lemmas.List.Elements.{All-append, All-cons, All-head, All-nil, All-tail, All-weaker}
use Rattle.std.proofs.lemmas.List.Kept.{AllPairs-cons}
use Rattle.map_laws.specs.EachLaws.{cons_tail}
use Rattle.map_laws.specs.PairLaws.{AllPairs-append, AllPairs-before, AllPairs-nil}
use Rattle.ratio_core.specs.Rational.{Rational, zero_ℚ}
use Rattle.aff_core.specs.Address.{Address}
use Rattle.aff_core.specs.Function.{Function, function_of, terms_of}
use Rattle.aff_core.specs.declared.sense.Sense.{Sense}
use Rattle.named_aff.specs.declared.aff.NamedAff.{NamedAff}
use Rattle.named_aff.specs.declared.terms.NamedTerm.{NamedTerm}
use Rattle.set_core.specs.Membership.{dual_of}
use Rattle.set_core.specs.ShapeLaws.{good_dimension, scalar_one}
use Rattle.set_core.specs.Shapes.{IsSetOf, has_bad_dimension, is_crossed, is_scalar}
use Rattle.set_core.specs.declared.set.Set.{Set}
use Rattle.set_core.specs.declared.set.Set.TheVariants.{EqualTo, GreaterThan, Interval, LessThan, Nonnegatives, Nonpositives, NormInfinityCone, NormOneCone, Reals, Zeros}
use Rattle.user_model.specs.Edited.{numbered_from}
use Rattle.user_model.specs.Functions.{is_scalar_named, mentioned, named_components, names_of}
use Rattle.user_model.specs.Model.{ModelValue, empty_model, has_lower_bound, has_upper_bound, variable_named}
use Rattle.user_model.specs.Refusals.{differ, has_variable_named, meets_bound_already_set, new_bound}
use Rattle.user_model.specs.Sets.{sets_lower, sets_upper}
use Rattle.user_model.specs.Valid.{IsValid}
use Rattle.user_model.specs.declared.edit.Edit.{Edit}
use Rattle.user_model.specs.declared.function.UserFunc.TheVariants.{AffineVec}
use Rattle.user_model.specs.declared.group.Group.{Group}
use Rattle.user_model.specs.declared.group.GroupVar.{GroupVar}
use Rattle.user_model.specs.declared.objective.Objective.{Objective}
use Rattle.user_model.specs.declared.objective.Objective.TheVariants as objective
use Rattle.user_model.specs.declared.row.Row.{Row}
use Rattle.certificates.specs.Points.{addresses_of, objective_value, sense_of, variables_of}
use Rattle.dual_parts.specs.Parts.{own_bounds}
use Rattle.group_numbering.specs.NewGroups.{numbered_groups, terms_from, variable_count}
use Rattle.dual_model.specs.DualOf.{bound_numbers, costs, dual_objective_of, dual_rows, function_in, group_rows, left_for, left_less_two, new_groups, opposite, row_for, row_variables, scalar_function, signed}
use Rattle.dual_model.specs.GroupRowLaws.{HasGroupSetOf, own_total}
use Rattle.limit_laws.specs.Leads.{AllPass, PassesTests, all_edited}
use Rattle.limit_laws.specs.LeadsLaws.{limits_alone, pass_both}
use Rattle.limit_laws.specs.Limits.{LimitsAlone}
use Rattle.limit_laws.specs.NewNames.{IsNewIn, none_passes}
use Rattle.dualization.specs.DualEdits.{affine_by_name, dual_edits, dual_names, edit_of_group, edit_of_row, edits_of_objective, function_by_name, name_of, term_by_name}
use Rattle.dualization.specs.Rows.{ColumnsFit}
use Rattle.dualization.proofs.ApartLemmas.{names_apart, same_number}
use Rattle.dualization.proofs.EditLemmas.{are_distinct, columns_fit, few, names_count, row_variables_are}
use Rattle.dualization.proofs.MadeLemmas.{HasFirst, IsAgain, IsFirst, NumberedFrom, columns_more, each_first, from_none, groups_made, has_first, left_first, less_two_first, made_row, numbered_rows, rows_again, rows_made, state, variables_are}
use Rattle.dualization.proofs.PassedLemmas.{dual_set, groups_pass, is_named, names_again, new_sets, no_row_named, var_name}
use Rattle.dualization.proofs.ValidLemmas.{few_groups, few_rows, group_sets, row_sets}
use Rattle.dualization.proofs.WholeLemmas.{size_of_costs}

-- ---- functions of the variables by name

module _ (names : List (List ℕ)) where
  -- one of the names
  abbrev IsOneOf : List ℕ → Type 0
  IsOneOf name = (j : ℕ) × (j < length names) × (name ≡ slice_index_or names j [])

  abbrev HasOurs : NamedAff → Type 0
  HasOurs f = All IsOneOf (names_of f)

  ours_known : (m : ModelValue) → map var_name (variables_of m.groups) ≡ names
      → (mentions : List (List ℕ)) → All IsOneOf mentions
      → list_any (λ name. not (has_variable_named m name)) mentions ≡ false
  ours_known m has mentions h =
      none_passes (λ name. not (has_variable_named m name)) mentions
      (All-weaker IsOneOf (λ name. not (has_variable_named m name) ≡ false) one mentions h)
    where
      one : (name : List ℕ) → IsOneOf name → not (has_variable_named m name) ≡ false
      one name ours =
          let low : ours.0 < length (map var_name (variables_of m.groups)) =
          subst (λ ns. ours.0 < length ns) (sym has) ours.1 in
          let is : name ≡ slice_index_or (map var_name (variables_of m.groups)) ours.0 [] =
          ours.2 ∙ ap (λ ns. slice_index_or ns ours.0 []) (sym has) in
          ap (λ n. not (has_variable_named m n)) is
          ∙ ap not (is_named (variables_of m.groups) ours.0 low)

-- ---- rows

module _ (names : List (List ℕ)) (distinct : IsDistinct bytes_eq names) where
  ours_terms : (ts : List (Address × Rational)) → All (λ t. IsFirst names distinct t.0) ts
      → All (IsOneOf names) (map (λ (t : NamedTerm). t.variable) (map (term_by_name names) ts))
  ours_terms [] h = All-nil (IsOneOf names)
  ours_terms (t ∷ ts) h =
      let first = All-head (λ t. IsFirst names distinct t.0) t ts h in
      All-cons (IsOneOf names) (name_of names t.0)
      (map (λ (t : NamedTerm). t.variable) (map (term_by_name names) ts))
      (first.0, first.1, ap (λ (a : Address). slice_index_or names a.number []) first.2)
      (ours_terms ts (All-tail (λ t. IsFirst names distinct t.0) t ts h))

  ours_functions : (fs : List Function) → All {X = Function} (HasFirst names distinct) fs
      → All (IsOneOf names) (flat_map names_of (map (affine_by_name names) fs))
  ours_functions [] h = All-nil (IsOneOf names)
  ours_functions (f ∷ fs) h =
      All-append (IsOneOf names) (names_of (affine_by_name names f))
      (flat_map names_of (map (affine_by_name names) fs))
      (ours_terms (terms_of f) (All-head (HasFirst names distinct) f fs h))
      (ours_functions fs (All-tail (HasFirst names distinct) f fs h))

  -- a row of the model's variables whose set suits its function
  record SuitsRow (r : Row) : Type 0 where
    mentions : All (IsOneOf names) (mentioned (function_by_name names r.func))
    shaped : differ (is_scalar_named (function_by_name names r.func)) (is_scalar r.set) ≡ false
    dimension : has_bad_dimension r.set (named_components (function_by_name names r.func)) ≡ false
    uncrossed : is_crossed r.set ≡ false
    unbound : new_bound (edit_of_row names r) ≡ None

  suits : (id : ℕ) (name : List ℕ) (set : Set) (fs : List Function) → IsSetOf (length fs) set
      → All {X = Function} (HasFirst names distinct) fs
      → SuitsRow (record { id = id; name = name; func = function_in set fs; set = set })
  suits id name set fs h ours = by (is_scalar set) refl
    where
      scalar : (fs : List Function) → IsSetOf (length fs) set → length fs ≡ 1
          → is_scalar set ≡ true → All {X = Function} (HasFirst names distinct) fs
          → SuitsRow (record { id = id; name = name; func = scalar_function fs; set = set })
      scalar [] h one e ours = absurd (omega (arith, one))
      scalar (f ∷ []) h one e ours = record {
        mentions = ours_terms (terms_of f) (All-head (HasFirst names distinct) f [] ours);
        shaped = ap not e;
        dimension = good_dimension 1 set h;
        uncrossed = h.uncrossed;
        unbound = refl;
      }
      scalar (f ∷ g ∷ fs) h one e ours = absurd (omega (arith, one))

      vector : is_scalar set ≡ false
          → SuitsRow (record { id = id; name = name; func = AffineVec fs; set = set })
      vector e = record {
        mentions = ours_functions fs ours;
        shaped = e;
        dimension = good_dimension (length (map (affine_by_name names) fs)) set
            (subst (λ n. IsSetOf n set) (sym (length-map fs (affine_by_name names))) h);
        uncrossed = h.uncrossed;
        unbound = refl;
      }

      by : (b : Bool) → is_scalar set ≡ b → SuitsRow (record {
        id = id;
        name = name;
        func = cond b (scalar_function fs) (AffineVec fs);
        set = set;
      })
      by true e = scalar fs h (sym h.dimension ∙ scalar_one set e) e ours
      by false e = vector e

  module _ (model : ModelValue) where
    left_suits : (id k n : ℕ) (vs : List Address) (set : Set) → IsSetOf (length vs) set
        → ColumnsFit model n → n ≤ length names
        → All SuitsRow (record {
          id = id;
          name = 103 ∷ decimal k;
          func = function_in (dual_of set) (map (left_for model) vs);
          set = dual_of set;
        } ∷ [])
    left_suits id k n vs set h c low =
        All-cons SuitsRow _ []
        (suits id (103 ∷ decimal k) (dual_of set) (map (left_for model) vs)
        (subst (λ m. IsSetOf m (dual_of set)) (sym (length-map vs (left_for model)))
        (dual_set (length vs) set h))
        (each_first names distinct model n c (left_for model)
        (left_first names distinct model n c low) vs))
        (All-nil SuitsRow)

    row_suits : (id k n : ℕ) (vs : List Address) (set : Set) → IsSetOf (length vs) set
        → ColumnsFit model n → n + length (own_bounds set) ≤ length names
        → All SuitsRow (row_for model id k n vs set)
    row_suits id k n vs (EqualTo a) h c low = All-nil SuitsRow
    row_suits id k n vs (Zeros d) h c low = All-nil SuitsRow
    row_suits id k n vs (Interval l u) h c low =
        All-cons SuitsRow _ []
        (suits id (103 ∷ decimal k) (EqualTo zero_ℚ) (map (left_less_two model n) vs)
        (subst (λ m. IsSetOf m (EqualTo zero_ℚ)) (sym (length-map vs (left_less_two model n)))
        (record { dimension = h.dimension; enough = h.enough; uncrossed = refl }))
        (each_first names distinct model n c (left_less_two model n)
        (less_two_first names distinct model n c low) vs))
        (All-nil SuitsRow)
    row_suits id k n vs (LessThan u) h c low = left_suits id k n vs (LessThan u) h c (omega (arith, low))
    row_suits id k n vs (GreaterThan l) h c low = left_suits id k n vs (GreaterThan l) h c (omega (arith, low))
    row_suits id k n vs (Reals d) h c low = left_suits id k n vs (Reals d) h c (omega (arith, low))
    row_suits id k n vs (Nonnegatives d) h c low = left_suits id k n vs (Nonnegatives d) h c (omega (arith, low))
    row_suits id k n vs (Nonpositives d) h c low = left_suits id k n vs (Nonpositives d) h c (omega (arith, low))
    row_suits id k n vs (NormInfinityCone d) h c low =
        left_suits id k n vs (NormInfinityCone d) h c (omega (arith, low))
    row_suits id k n vs (NormOneCone d) h c low = left_suits id k n vs (NormOneCone d) h c (omega (arith, low))

    rows_suit : (id k n : ℕ) (groups : List Group) → All HasGroupSetOf groups → ColumnsFit model n
        → n + own_total groups ≤ length names → All SuitsRow (group_rows model id k n groups)
    rows_suit id k n [] sets c low = All-nil SuitsRow
    rows_suit id k n (g ∷ groups) sets c low =
        let vs : List Address = addresses_of g.vars in
        let first : List Row = row_for model id k n vs g.set in
        let more : ℕ = n + length (own_bounds g.set) in
        All-append SuitsRow first (group_rows model (id + length first) (suc k) more groups)
        (row_suits id k n vs g.set (All-head HasGroupSetOf g groups sets) c (omega (arith, low)))
        (rows_suit (id + length first) (suc k) more groups (All-tail HasGroupSetOf g groups sets)
        (columns_more names distinct model n (length (own_bounds g.set)) c) (omega (arith, low)))

    -- ---- names of rows

    abbrev IsPlaced : ℕ → Row → Type 0
    IsPlaced k r = (j : ℕ) × (k ≤ j) × (j < 2 ^ 64) × (r.name ≡ 103 ∷ decimal j)

    abbrev OtherRow : Row → Row → Type 0
    OtherRow r s = r.name ≢ s.name

    -- of a group there is one row at most
    record AreOf (k : ℕ) (rows : List Row) : Type 0 where
      named : All {X = Row} (λ r. r.name ≡ 103 ∷ decimal k) rows
      apart : AllPairs OtherRow rows

    of_one : (k : ℕ) (r : Row) → r.name ≡ 103 ∷ decimal k → AreOf k (r ∷ [])
    of_one k r is = record {
      named = All-cons (λ (s : Row). s.name ≡ 103 ∷ decimal k) r [] is
          (All-nil (λ (s : Row). s.name ≡ 103 ∷ decimal k));
      apart = AllPairs-cons OtherRow r [] (All-nil (OtherRow r)) (AllPairs-nil OtherRow);
    }

    of_none : (k : ℕ) → AreOf k []
    of_none k = record {
      named = All-nil (λ (s : Row). s.name ≡ 103 ∷ decimal k);
      apart = AllPairs-nil OtherRow;
    }

    of_group : (id k n : ℕ) (vs : List Address) (set : Set) → AreOf k (row_for model id k n vs set)
    of_group id k n vs (EqualTo a) = of_none k
    of_group id k n vs (Zeros d) = of_none k
    of_group id k n vs (Interval l u) = of_one k _ refl
    of_group id k n vs (LessThan u) = of_one k _ refl
    of_group id k n vs (GreaterThan l) = of_one k _ refl
    of_group id k n vs (Reals d) = of_one k _ refl
    of_group id k n vs (Nonnegatives d) = of_one k _ refl
    of_group id k n vs (Nonpositives d) = of_one k _ refl
    of_group id k n vs (NormInfinityCone d) = of_one k _ refl
    of_group id k n vs (NormOneCone d) = of_one k _ refl

    record AreFrom (k : ℕ) (rows : List Row) : Type 0 where
      placed : All (IsPlaced k) rows
      apart : AllPairs OtherRow rows

    later_row : (k : ℕ) (r s : Row) → k < 2 ^ 64 → r.name ≡ 103 ∷ decimal k → IsPlaced (suc k) s
        → OtherRow r s
    later_row k r s small is place e =
        let same = same_number k place.0 small place.2
        (cons_tail 103 103 (decimal k) (decimal place.0) (sym is ∙ e ∙ place.3)) in
        absurd (omega (arith, same, place.1))

    rows_from : (id k n : ℕ) (groups : List Group) → k + length groups < 2 ^ 64
        → AreFrom k (group_rows model id k n groups)
    rows_from id k n [] small =
        record { placed = All-nil (IsPlaced k); apart = AllPairs-nil OtherRow }
    rows_from id k n (g ∷ groups) small =
        let first : List Row = row_for model id k n (addresses_of g.vars) g.set in
        let others : List Row = group_rows model (id + length first) (suc k)
        (n + length (own_bounds g.set)) groups in
        let here : AreOf k first = of_group id k n (addresses_of g.vars) g.set in
        let later : AreFrom (suc k) others = rows_from (id + length first) (suc k)
        (n + length (own_bounds g.set)) groups (omega (arith, small)) in
        let low : k < 2 ^ 64 = omega (arith, small) in record {
          placed = All-append (IsPlaced k) first others
              (All-weaker (λ (r : Row). r.name ≡ 103 ∷ decimal k) (IsPlaced k)
              (λ r is. (k, omega arith, low, is)) first here.named)
              (All-weaker (IsPlaced (suc k)) (IsPlaced k)
              (λ r place. (place.0, omega (arith, place.1), place.2, place.3)) others later.placed);
          apart = AllPairs-append OtherRow first others here.apart later.apart
              (All-weaker (λ (r : Row). r.name ≡ 103 ∷ decimal k) (λ r. All (OtherRow r) others)
              (λ r is. All-weaker (IsPlaced (suc k)) (OtherRow r)
              (λ s place. later_row k r s low is place) others later.placed) first here.named);
        }

  -- ---- the rows are accepted, unless a limit is passed

  one_row : (m : ModelValue) (r : Row) → map var_name (variables_of m.groups) ≡ names → SuitsRow r
      → All {X = Row} (λ s. s.name ≢ r.name) m.rows → PassesTests m (edit_of_row names r)
  one_row m r has h new = record {
    known = or_from _ _ (ours_known names m has (mentioned (function_by_name names r.func))
        h.mentions) refl;
    free = no_row_named m.rows r.name new;
    shaped = h.shaped;
    dimension = h.dimension;
    output = refl;
    interval = h.uncrossed;
    lower = no_bound sets_lower has_lower_bound;
    upper = no_bound sets_upper has_upper_bound;
    of_type = refl;
    deletable = refl;
  }
    where
      no_bound : (sets : Set → Bool) (has_bound : ModelValue → ℕ → Bool)
          → meets_bound_already_set sets has_bound m (edit_of_row names r) ≡ false
      no_bound sets has_bound =
          ap (λ o. option_map_or (λ (bound : List ℕ × Set). sets bound.1
          && option_map_or (has_bound m) (variable_named m bound.0) false) o false) h.unbound

  rows_pass : (rs rows : List Row) (groups : List Group) (o : Objective) (n m id : ℕ)
      → variables_of groups ≡ numbered_from 0 names → All SuitsRow rs
      → AllPairs {X = Row} (λ r s. r.name ≢ s.name) (rows ++ rs)
      → NumberedFrom names distinct id rs → All (IsAgain names distinct) rs
      → AllPass (state groups rows o n m id) (map (edit_of_row names) rs)
  rows_pass [] rows groups o n m id has suit apart numbers again = tt
  rows_pass (r ∷ rs) rows groups o n m id has suit apart numbers again = (
    one_row (state groups rows o n m id) r (ap (map var_name) has ∙ names_again 0 names)
        (All-head SuitsRow r rs suit)
        (AllPairs-before (λ (r s : Row). r.name ≢ s.name) rows r rs apart),
    subst (λ s. AllPass s (map (edit_of_row names) rs))
        (sym (made_row names distinct groups rows o n m id r has numbers.0
        (All-head (IsAgain names distinct) r rs again)))
        (rows_pass rs (rows ++ r ∷ []) groups o n m (id + 1) has (All-tail SuitsRow r rs suit)
        (subst (AllPairs (λ (r s : Row). r.name ≢ s.name)) (sym (append_assoc rows (r ∷ []) rs))
        apart) numbers.1 (All-tail (IsAgain names distinct) r rs again)),
  )

  objective_passes : (m : ModelValue) (sense : Sense) (f : Function)
      → variables_of m.groups ≡ numbered_from 0 names → HasFirst names distinct f
      → AllPass m (edits_of_objective names (objective.Affine sense f))
  objective_passes m sense f has ours = (
    record {
      known = or_from _ _
          (ours_known names m (ap (map var_name) has ∙ names_again 0 names)
          (names_of (affine_by_name names f)) (ours_terms (terms_of f) ours)) refl;
      free = refl;
      shaped = refl;
      dimension = refl;
      output = refl;
      interval = refl;
      lower = refl;
      upper = refl;
      of_type = refl;
      deletable = refl;
    },
    tt,
  )

-- ---- the whole

module _ (model : ModelValue) (valid : IsValid model) where
  abbrev all_names : List (List ℕ)
  all_names = dual_names model

  abbrev groups : List Group
  groups = numbered_groups 0 0 (new_groups model)

  abbrev count : ℕ
  count = length (new_groups model)

  abbrev variables_count : ℕ
  variables_count = variable_count (new_groups model)

  distinct_names : IsDistinct bytes_eq all_names
  distinct_names = are_distinct model valid

  has_names : variables_of groups ≡ numbered_from 0 all_names
  has_names = variables_are 0 0 (new_groups model)

  columns : ColumnsFit model (row_variables model)
  columns = subst (ColumnsFit model) (sym (row_variables_are model valid)) (columns_fit model valid)

  low : row_variables model + own_total model.groups ≤ length all_names
  low = omega (arith, row_variables_are model valid, names_count model valid)

  numbers : NumberedFrom all_names distinct_names 0 (dual_rows model)
  numbers = numbered_rows all_names distinct_names model 0 1 (row_variables model) model.groups

  made_again : All (IsAgain all_names distinct_names) (dual_rows model)
  made_again =
      rows_again all_names distinct_names model 0 1 (row_variables model) model.groups columns low

  after_groups : all_edited empty_model (map edit_of_group (new_groups model))
      ≡ state groups [] objective.Feasibility count variables_count 0
  after_groups =
      groups_made (new_groups model) [] 0 0
      ∙ (λ i. state groups [] objective.Feasibility (from_none count i)
      (from_none variables_count i) 0)

  after_rows : all_edited (state groups [] objective.Feasibility count variables_count 0)
      (map (edit_of_row all_names) (dual_rows model))
      ≡ state groups (dual_rows model) objective.Feasibility count variables_count
      (0 + length (dual_rows model))
  after_rows =
      rows_made all_names distinct_names groups objective.Feasibility count variables_count 0
      (dual_rows model) [] has_names numbers made_again

  rows_of_the_dual : AllPass (state groups [] objective.Feasibility count variables_count 0)
      (map (edit_of_row all_names) (dual_rows model))
  rows_of_the_dual =
      rows_pass all_names distinct_names (dual_rows model) [] groups objective.Feasibility count
      variables_count 0 has_names
      (rows_suit all_names distinct_names model 0 1 (row_variables model) model.groups
      (group_sets model valid) columns low)
      (rows_from all_names distinct_names model 0 1 (row_variables model) model.groups
      (omega (arith, few_groups model valid))).apart
      numbers made_again

  objective_of_the_dual : AllPass
      (state groups (dual_rows model) objective.Feasibility count variables_count
      (0 + length (dual_rows model)))
      (edits_of_objective all_names (dual_objective_of model))
  objective_of_the_dual =
      objective_passes all_names distinct_names
      (state groups (dual_rows model) objective.Feasibility count variables_count
      (0 + length (dual_rows model)))
      (opposite (sense_of model.objective))
      (function_of (terms_from 0 (map (signed (sense_of model.objective)) (costs model)))
      (objective_value model (bound_numbers model.groups))) has_names
      (has_first all_names distinct_names
      (map (signed (sense_of model.objective)) (costs model))
      (objective_value model (bound_numbers model.groups))
      (omega (
        arith,
        size_of_costs model valid,
        length-map (costs model) (signed (sense_of model.objective)),
      )))

  none_there : (names : List (List ℕ)) → All (IsNewIn []) names
  none_there names = λ k d end. All-nil (λ (v : GroupVar). v.name ≢ slice_index_or names k d)

  all_pass : AllPass empty_model (dual_edits model)
  all_pass =
      let first : List Edit = map edit_of_group (new_groups model) in
      let second : List Edit = map (edit_of_row all_names) (dual_rows model) in
      let last : List Edit = edits_of_objective all_names (dual_objective_of model) in
      pass_both first (second ++ last) empty_model
      (groups_pass (new_groups model) empty_model (new_sets model (row_sets model valid))
      (none_there (dual_names model))
      (names_apart model.rows model.groups (few model valid) (few_rows model valid)
      (few_groups model valid)))
      (subst (λ m. AllPass m (second ++ last)) (sym after_groups)
      (pass_both second last (state groups [] objective.Feasibility count variables_count 0)
      rows_of_the_dual
      (subst (λ m. AllPass m last) (sym after_rows) objective_of_the_dual)))

  pub limits_of_dual : LimitsAlone empty_model (dual_edits model)
  limits_of_dual = limits_alone (dual_edits model) empty_model all_pass
