-- Each edit that is not refused keeps a model valid.
use Rattle.std.specs.Prelude.{◌≡◌, ◌≢◌, ◌⊎◌, ℕ, ◌≤◌, ◌==◌, nat_lt, Bool, true, false, ◌&&◌, ◌||◌, not, cond, List, [], ◌∷◌, ◌++◌, Option, Some, None, IfSome, All, IsSome, count_by, find, is_some, length, map, unwrap_or, refl}
use Rattle.std.specs.List.{filter_map, list_any}
use Rattle.std.specs.Option.{option_map_or, option_to_list}
use Rattle.std.proofs.Common.{arith, sym, ap, subst, inl, inr, ◌∙◌}
use Rattle.std.proofs.lemmas.Bool.{and_parts, both_ways, eqb-true, not-false, or_left, or_parts}
use Rattle.std.proofs.lemmas.List.{length-map}
use Rattle.std.proofs.lemmas.List.Elements.{All-append, All-head, All-nil, All-cons, All-tail}
use Rattle.std.proofs.lemmas.List.Folds.{list_any-append}
use Rattle.map_laws.specs.EachLaws.{All-filter_map, all_first, all_second}
use Rattle.numbered_list.specs.Numbered.{put}
use Rattle.aff_core.specs.Address.{Address, address_eq, address_eq-Decides}
use Rattle.aff_core.specs.Function.{with_coefficient}
use Rattle.set_core.specs.declared.set.Set.{Set}
use Rattle.set_core.specs.declared.set.Set.TheVariants.{Reals}
use Rattle.set_core.specs.Shapes.{IsSetOf, dimension_of, has_bad_dimension, is_crossed, is_norm_cone, is_scalar, least_dimension, same_type}
use Rattle.set_core.specs.ShapeLaws.{scalar_of_one, set_of_from_tests}
use Rattle.user_model.specs.declared.edit.Edit.{Edit}
use Rattle.user_model.specs.declared.edit.Edit.TheVariants as edit
use Rattle.user_model.specs.declared.edit.NamedFunc.{NamedFunc}
use Rattle.user_model.specs.declared.edit.NamedFunc.TheVariants as named
use Rattle.user_model.specs.declared.function.UserFunc.{UserFunc}
use Rattle.user_model.specs.declared.group.Group.{Group}
use Rattle.user_model.specs.declared.objective.Objective.{Objective}
use Rattle.user_model.specs.declared.objective.Objective.TheVariants as objective
use Rattle.user_model.specs.declared.row.Row.{Row}
use Rattle.user_model.specs.Sets.{sets_lower, sets_upper}
use Rattle.user_model.specs.Functions.{components, func_mentions, is_scalar_function, is_scalar_named, mentioned, named_components, term_counts}
use Rattle.user_model.specs.Limits.{COMPONENTS, TERMS}
use Rattle.user_model.specs.Model.{ModelValue, address_named, group_of, has_variable, is_variable, objective_mentions, objective_terms, row_named, variable_address, variable_named, variables}
use Rattle.user_model.specs.Deletion.{group_without, row_without, without_variable}
use Rattle.user_model.specs.Edited.{change_function, change_group, change_row, edited, group_number, located, numbered_from, objective_of, on_affine, on_objective, on_output, renamed, with_constant}
use Rattle.user_model.specs.Refusals.{differ, first_refusal, group_is, meets_bound_already_set, is_cone_row_of, is_in_cone, row_is, terms_of_objective, terms_of_row, within}
use Rattle.user_model.specs.Consistent.{IsConsistent}
use Rattle.user_model.specs.Valid.{HasValidParts, IsValid, IsValidGroup, IsValidRow, Stands, is_created_by}
use Rattle.model_laws.specs.ByName.{of_group, of_number}
use Rattle.model_laws.specs.Changed.{change_group-found, change_row-found, delete_row-found}
use Rattle.model_laws.specs.ChangedRow.{terms_after}
use Rattle.model_laws.specs.DeletedGroup.{group_deleted}
use Rattle.model_laws.specs.Found.{none_pass, something}
use Rattle.model_laws.specs.KeptAdditions.{new_group, new_row, vars_added}
use Rattle.model_laws.specs.KeptConsistent.{kept_consistent}
use Rattle.model_laws.specs.KeptDeletion.{sum_filter_map}
use Rattle.model_laws.specs.KeptParts.{IsGroupInPlace, IsRowInPlace, parts_of_group, parts_of_objective, parts_of_row, parts_with_group, parts_with_row, parts_without_row}
use Rattle.model_laws.specs.KeptShapes.{affine_shape, constant_counts, function_in_place, HasShapeOf, located_components, located_scalar, name_in_place, output_counts, output_shape, scalar_components, same_bounds, set_in_place, standing_coefficient}
use Rattle.model_laws.specs.KeptWithin.{kept_within}
use Rattle.model_laws.specs.Located.{group_by_number, row_by_number, variable_found, variable_located}
use Rattle.model_laws.specs.Needed.{needed_row_there, needed_variable, unknown}
use Rattle.model_laws.specs.Numbering.{numbered_length}
use Rattle.model_laws.specs.PartsLeft.{created_left, group_left_valid, objective_left_valid, resized_is, row_left_bounds, row_left_valid, stands_left}
use Rattle.model_laws.specs.Passed.{IsPassed, passed}
use Rattle.model_laws.specs.Renamed.{renamed_stands}
use Rattle.model_laws.specs.Replaced.{set_at_around}
use Rattle.model_laws.specs.SingleBounds.{bounds_less}
use Rattle.model_laws.specs.Standing.{affine_only, constant_only, function_stands, name_stands, objective_only, objective_stands, output_only}
use Rattle.model_laws.specs.Terms.{constant_adds_none, objective_change_terms}
use Rattle.model_laws.specs.Variables.{group_found, vars_renamed, vars_replaced}

abbrev Parts : ModelValue → Type 0
Parts model = HasValidParts model.groups model.rows model.objective

-- ---- tests that fail, as facts

same_shape : (function set : Bool) → differ function set ≡ false → set ≡ function
same_shape true set e = not-false set e
same_shape false set e = e

not_both : (a b : Bool) → (a && b) ≡ false → a ≡ true → b ≡ false
not_both true b e is = e
not_both false b e is = absurd (both_ways false refl is)

-- a test of what stands at a name that is found
row_fact : (test : Row → Bool) (model : ModelValue) (name : List ℕ) (row : Row)
    → row_named model name ≡ Some row → row_is test model name ≡ false → test row ≡ false
row_fact test model name row found e = sym (ap (λ o. option_map_or test o false) found) ∙ e

group_fact : (test : Group → Bool) (model : ModelValue) (name : List ℕ) (n : ℕ) (group : Group)
    → variable_named model name ≡ Some n → group_of model n ≡ Some group
    → group_is test model name ≡ false → test group ≡ false
group_fact test model name n group at found e =
    sym (ap (λ o. option_map_or test o false) found)
    ∙ (sym (ap (λ o. option_map_or (λ n. option_map_or test (group_of model n) false) o false)
    at) ∙ e)

-- counts within a limit
limited : (limit : ℕ) (terms : List ℕ) → All (λ c. c.0 ≤ c.1) (within limit terms)
    → All (λ count. count ≤ limit) terms
limited limit [] h = All-nil (λ count. count ≤ limit)
limited limit (count ∷ terms) h =
    All-cons (λ count. count ≤ limit) count terms
    (All-head (λ c. c.0 ≤ c.1) (count, limit) (within limit terms) h)
    (limited limit terms (All-tail (λ c. c.0 ≤ c.1) (count, limit) (within limit terms) h))

objective_limited : (o : Objective) (rest : List (ℕ × ℕ))
    → All (λ c. c.0 ≤ c.1) (within TERMS (terms_of_objective o) ++ rest) → objective_terms o ≤ TERMS
objective_limited objective.Feasibility rest h = omega arith
objective_limited (objective.Plain sense var) rest h = omega arith
objective_limited (objective.Affine sense f) rest h = h 0 (0, 0) (omega arith)

module _ (model : ModelValue) (c : IsConsistent model)
    (h : HasValidParts model.groups model.rows model.objective) where
  -- ---- rows by name

  module _ (name : List ℕ) (row : Row) (found : row_named model name ≡ Some row) where
    of_row : (h : Row → Row) → IsRowInPlace model.groups row (h row)
        → Parts (change_row model name h)
    of_row change is =
        subst Parts (sym (change_row-found model name change row found))
        (parts_of_row model c h row (change row) (row_by_number model name row c found) is)

    of_function : (change : UserFunc → UserFunc) → HasShapeOf row.func (change row.func)
        → ((q : Address) → func_mentions q (change row.func) ≡ true
        → Stands model.groups q ⊎ (func_mentions q row.func ≡ true))
        → (All (λ count. count ≤ TERMS) (term_counts row.func)
        → All (λ count. count ≤ TERMS) (term_counts (change row.func)))
        → Parts (change_function model name change)
    of_function change shape only terms = of_row (λ r. record r { func = change r.func })
        (function_in_place model.groups row (change row.func) shape only terms)

    -- its terms, as they were counted
    counted_terms : (change : UserFunc → UserFunc) (rest : List (ℕ × ℕ))
        → All (λ c. c.0
        ≤ c.1) (within TERMS (terms_of_row (change_function model name change) name) ++ rest)
        → All (λ count. count ≤ TERMS) (term_counts (change row.func))
    counted_terms change rest counted =
        subst (All (λ count. count ≤ TERMS)) (terms_after model c name row found change)
        (limited TERMS (terms_of_row (change_function model name change) name)
        (all_first (λ c. c.0
        ≤ c.1) (within TERMS (terms_of_row (change_function model name change) name)) rest
        counted))

  -- ---- a new row

  -- no bound of its kind was there, where the row is one
  module _ (test : Set → Bool) (name : List ℕ) (set : Set) where
    no_bound : (func : NamedFunc) → list_any (unknown model) (mentioned func) ≡ false
        → meets_bound_already_set test (λ m n. list_any (λ r. is_variable n r.func && test r.set)
        m.rows || is_created_by test m.groups n) model (edit.AddRow name func set) ≡ false → (n : ℕ)
        → (is_variable n (located model func) && test set) ≡ true
        → (list_any (λ r. is_variable n r.func && test r.set) model.rows
        || is_created_by test model.groups n) ≡ false
    no_bound (named.Plain var) known e n on =
        let parts = and_parts (address_eq (variable_address n) (address_named model var))
        (test set) on
        in
        let at = something (variable_named model var)
        (not-false (is_some (variable_named model var))
        (or_parts (unknown model var) false known).0) in
        let same : variable_address n ≡ variable_address at.0 = (address_eq-Decides
        (variable_address n) (address_named model var)).0 parts.0
        ∙ ap (λ o. variable_address (unwrap_or o 0)) at.1 in
        let number : n ≡ at.0 = ap (λ a. a.number) same in
        let bound : ℕ → Bool = λ n. list_any (λ r. is_variable n r.func && test r.set) model.rows
        || is_created_by test model.groups n in
        ap bound number
        ∙ (sym (ap (λ o. option_map_or bound o false) at.1)
        ∙ not_both (test set) (option_map_or bound (variable_named model var) false) e parts.1)
    no_bound _ known e n on = absurd (both_ways false refl on)

  row_made : (name : List ℕ) (func : NamedFunc) (set : Set)
      → IsPassed model (edit.AddRow name func set)
      → IsValidRow model.groups (new_row model name (located model func) set)
  row_made name func set p = record {
    stand = function_stands model func (or_parts (list_any (unknown model) (mentioned func)) false
        p.known).0;
    limit = omega (arith, p.counted 0 (0, 0) (omega arith), located_components model func);
    terms = limited TERMS (term_counts (located model func))
        (all_first (λ c. c.0 ≤ c.1) (within TERMS (term_counts (located model func))) _
        (All-tail (λ c. c.0 ≤ c.1) (named_components func, COMPONENTS) _ p.counted));
    shape = shape;
    set = set_of_from_tests (components (located model func)) set
        (λ e. scalar_components (located model func) (sym shape ∙ e))
        (ap (has_bad_dimension set) (located_components model func) ∙ p.dimension) p.interval;
  }
    where
      shape : is_scalar set ≡ is_scalar_function (located model func)
      shape = same_shape (is_scalar_named func) (is_scalar set) p.shaped
          ∙ sym (located_scalar model func)

  -- ---- groups by number

  module _ (name : List ℕ) (n : ℕ) (at : variable_named model name ≡ Some n) where
    of_set : (set : Set)
        → ((group : Group) → group_of model n ≡ Some group
        → IsGroupInPlace group (record group { set = set }))
        → Parts (change_group model n (λ g. record g { set = set }))
    of_set set each =
        of_group model c name n at Parts (λ g. record g { set = set }) (λ group found.
        let by_number = group_by_number model n group c found in
        subst Parts (sym (change_group-found model n (λ g. record g { set = set }) group found))
        (parts_of_group model c h group (record group { set = set }) by_number
        (each group found) (λ m there.
        group_found m (put group_number (record group { set = set }) model.groups)
        ∙ (ap (list_any (λ v. v.number == m)) (vars_replaced (record group { set = set }) group
        model.groups c.groups_rise by_number refl)
        ∙ (sym (group_found m model.groups) ∙ there)))))

    of_name : (new : List ℕ)
        → Parts (change_group model n (λ g. record g { vars = map (renamed n new) g.vars }))
    of_name new =
        of_group model c name n at Parts (λ g. record g { vars = map (renamed n new) g.vars })
        (λ group found.
        let var = variable_located model name n group c at found in
        let left : Group = record group { vars = map (renamed n new) group.vars } in
        subst Parts (sym (change_group-found model n (λ g. record g
        { vars = map (renamed n new) g.vars }) group found))
        (parts_of_group model c h group left var.1.by_number (renamed_group group new)
        (λ m there.
        group_found m (put group_number left model.groups)
        ∙ (ap (list_any (λ v. v.number == m)) (vars_renamed n new group model.groups c.groups_rise
        c.variables_rise var.1.by_number var.0 var.1.there var.1.number)
        ∙ (renamed_stands n new m (variables model)
        ∙ (sym (group_found m model.groups) ∙ there))))))
      where
        renamed_group : (group : Group) (new : List ℕ)
            → IsGroupInPlace group (record group { vars = map (renamed n new) group.vars })
        renamed_group group new =
            let long = length-map group.vars (renamed n new) in
            record {
              id = refl;
              valid = λ is. (record {
                limit = let limit = is.limit in omega (arith, limit, long);
                set = subst (λ k. IsSetOf k group.set) (sym long) is.set;
              });
              same = λ m. renamed_stands n new m group.vars;
              lower = λ e. e;
              upper = λ e. e;
            }

  -- another scalar set of the same type
  set_reset : (group : Group) (set : Set) → is_scalar group.set ≡ true → is_scalar set ≡ true
      → is_crossed set ≡ false → same_type group.set set ≡ true
      → IsGroupInPlace group (record group { set = set })
  set_reset group set was scalar ordered same = record {
    id = refl;
    valid = λ is. (record {
      limit = is.limit;
      set = set_of_from_tests (length group.vars) set
          (λ e. scalar_of_one (length group.vars) group.set is.set was)
          (ap (λ b. not b
          && (not (dimension_of set == length group.vars)
          || nat_lt (dimension_of set) (least_dimension set))) scalar) ordered;
    });
    same = λ m. refl;
    lower = λ e. ap (λ b. b.0) (same_bounds group.set set same) ∙ e;
    upper = λ e. ap (λ b. b.1) (same_bounds group.set set same) ∙ e;
  }

  set_free : (group : Group) → is_scalar group.set ≡ true
      → IsGroupInPlace group (record group { set = Reals 1 })
  set_free group was = record {
    id = refl;
    valid = λ is. (record {
      limit = is.limit;
      set = subst (λ k. IsSetOf k (Reals 1)) (sym (scalar_of_one (length group.vars) group.set
          is.set was)) (record { dimension = refl; enough = omega arith; uncrossed = refl });
    });
    same = λ m. refl;
    lower = λ e. absurd (both_ways false refl e);
    upper = λ e. absurd (both_ways false refl e);
  }

  -- ---- a new group

  group_made : (names : List (List ℕ)) (set : Set) → IsPassed model (edit.AddGroup names set)
      → IsValidGroup (new_group model names set)
  group_made names set p =
      let long = numbered_length model.next.variable names in
      record {
        limit = omega (arith, p.counted 0 (0, 0) (omega arith), long);
        set = set_of_from_tests (length (numbered_from model.next.variable names)) set
            (λ e. long ∙ eqb-true (length names) 1 (not-false (length names == 1)
            (not_both (is_scalar set) (not (length names == 1)) p.shaped e)))
            (ap (has_bad_dimension set) long ∙ p.dimension) p.interval;
      }

  still_there : (names : List (List ℕ)) (set : Set) (n : ℕ)
      → IsSome (find (has_variable n) model.groups)
      → IsSome (find (has_variable n) (model.groups ++ new_group model names set ∷ []))
  still_there names set n there =
      group_found n (model.groups ++ new_group model names set ∷ [])
      ∙ (ap (list_any (λ v. v.number == n)) (vars_added model names set)
      ∙ (list_any-append (λ v. v.number == n) (variables model)
      (numbered_from model.next.variable names)
      ∙ or_left (list_any (λ v. v.number == n) (variables model))
      (list_any (λ v. v.number == n) (numbered_from model.next.variable names))
      (sym (group_found n model.groups) ∙ there)))

  -- ---- a deleted variable

  module _ (name : List ℕ) (n : ℕ) (at : variable_named model name ≡ Some n)
      (free : is_in_cone model n ≡ false) where
    abbrev groups_left : List Group
    groups_left = filter_map (group_without n) model.groups

    free_parts : (option_map_or (λ g. is_norm_cone g.set) (group_of model n) false ≡ false)
        × (list_any (is_cone_row_of n) model.rows ≡ false)
    free_parts = or_parts (option_map_or (λ g. is_norm_cone g.set) (group_of model n) false)
        (list_any (is_cone_row_of n) model.rows) free

    left_valid : All IsValidGroup groups_left
    left_valid =
        let found = variable_found model name n c at in
        let group = found.0 in
        let var = found.1.1 in
        let plain : is_norm_cone group.set ≡ false = sym
        (ap (λ o. option_map_or (λ g. is_norm_cone g.set) o false) var.found) ∙ free_parts.0
        in
        subst (All IsValidGroup) (group_deleted n group model.groups c.groups_rise c.variables_rise
        var.by_number found.1.0 var.there var.number)
        (set_at_around group_number (λ xs ys. All IsValidGroup xs → All IsValidGroup ys) group.id
        (group_without n group) group model.groups c.groups_rise var.by_number
        (λ before after all.
        let old = all_second IsValidGroup before (group ∷ after) all in
        All-append IsValidGroup before (option_to_list (group_without n group) ++ after)
        (all_first IsValidGroup before (group ∷ after) all)
        (All-append IsValidGroup (option_to_list (group_without n group)) after
        (listed (group_without n group) (group_left_valid n group
        (All-head IsValidGroup group after old) (λ has. plain)))
        (All-tail IsValidGroup group after old))) h.valid_groups)
      where
        listed : (o : Option Group) → IfSome o IsValidGroup → All IsValidGroup (option_to_list o)
        listed None is = All-nil IsValidGroup
        listed (Some g) is = All-cons IsValidGroup g [] is (All-nil IsValidGroup)

    stay : (q : Address) → q ≢ variable_address n → Stands model.groups q → Stands groups_left q
    stay q off s = stands_left n model.groups q off s

    fewer : (test : Set → Bool) (m : ℕ)
        → count_by (λ r. is_variable m r.func && test r.set)
        (filter_map (row_without (variable_address n)) model.rows)
        ≤ count_by (λ r. is_variable m r.func && test r.set) model.rows
    fewer test m = sum_filter_map (λ r. cond (is_variable m r.func && test r.set) 1 0)
        (row_without (variable_address n)) model.rows (row_left_bounds test (variable_address n) m)

    parts_left : Parts (without_variable model n)
    parts_left = record {
      valid_groups = left_valid;
      valid_rows =
          rows_left model.rows h.valid_rows (none_pass (is_cone_row_of n) model.rows free_parts.1);
      valid_objective =
          objective_left_valid n model.groups groups_left stay model.objective h.valid_objective;
      lower = λ m. bounds_less sets_lower m model.groups groups_left model.rows
          (filter_map (row_without (variable_address n)) model.rows) (fewer sets_lower m)
          (created_left sets_lower (λ k set. (resized_is k set).lower) n m model.groups)
          (h.lower m);
      upper = λ m. bounds_less sets_upper m model.groups groups_left model.rows
          (filter_map (row_without (variable_address n)) model.rows) (fewer sets_upper m)
          (created_left sets_upper (λ k set. (resized_is k set).upper) n m model.groups)
          (h.upper m);
    }
      where
        rows_left : (rows : List Row) → All (IsValidRow model.groups) rows
            → All (λ r. is_cone_row_of n r ≡ false) rows
            → All (IsValidRow groups_left) (filter_map (row_without (variable_address n)) rows)
        rows_left rows valid plain =
            All-filter_map (IsValidRow groups_left) (λ r. IsValidRow model.groups r
            × (is_cone_row_of n r ≡ false)) (row_without (variable_address n)) rows
            (λ row is. row_left_valid n model.groups groups_left stay row is.0 is.1)
            (λ k d end. (valid k d end, plain k d end))

  -- ---- the edits

  -- what a changed objective may mention stands
  stood : {q : Address} → Stands model.groups q ⊎ (objective_mentions q model.objective ≡ true)
      → Stands model.groups q
  stood (inl s) = s
  stood {q = q} (inr was) = h.valid_objective.stand q was

  parts_by : (e : Edit) → IsPassed model e → Parts (edited model e)
  unfolding edited
  parts_by (edit.AddGroup names set) p = parts_with_group model c h (new_group model names set)
      (group_made names set p) (still_there names set)
  parts_by (edit.AddRow name func set) p =
      let known = (or_parts (list_any (unknown model) (mentioned func)) false p.known).0 in
      parts_with_row model c h (new_row model name (located model func) set)
      (row_made name func set p) (no_bound sets_lower name set func known p.lower)
      (no_bound sets_upper name set func known p.upper)
  parts_by (edit.Objective sense func) p =
      parts_of_objective model c h (objective_of model sense func) (record {
        stand = objective_stands model sense func (or_parts
            (list_any (unknown model) (mentioned func)) false p.known).0;
        terms = objective_limited (objective_of model sense func) _ p.counted;
      })
  parts_by edit.Feasibility p = parts_of_objective model c h objective.Feasibility
      (record { stand = λ q e. absurd (both_ways false refl e); terms = omega arith })
  parts_by (edit.Coef row var value) p =
      let at = needed_row_there model (edit.Coef row var value) row refl p.known in
      let set_it = standing_coefficient model.groups (address_named model var) value
      (name_stands model var (or_parts (unknown model var) false
      (or_parts _ _ p.known).0).0) in
      let change : UserFunc → UserFunc =
      on_affine (λ f. with_coefficient f (address_named model var) value) in
      of_function row at.0 at.1 change (affine_shape
      (λ f. with_coefficient f (address_named model var) value) at.0.func)
      (affine_only (Stands model.groups) (λ f. with_coefficient f (address_named model var)
      value) set_it at.0.func) (λ was. counted_terms row at.0 at.1 change _ p.counted)
  parts_by (edit.VecCoef row output var value) p =
      let at = needed_row_there model (edit.VecCoef row output var value) row refl p.known in
      let set_it = standing_coefficient model.groups (address_named model var) value
      (name_stands model var (or_parts (unknown model var) false
      (or_parts _ _ p.known).0).0) in
      let change : UserFunc → UserFunc =
      on_output output (λ f. with_coefficient f (address_named model var) value) in
      of_function row at.0 at.1 change (output_shape output
      (λ f. with_coefficient f (address_named model var) value) at.0.func)
      (output_only (Stands model.groups) (λ f. with_coefficient f (address_named model var)
      value) set_it output at.0.func) (λ was. counted_terms row at.0 at.1 change _ p.counted)
  parts_by (edit.ObjCoef var value) p =
      let set_it = standing_coefficient model.groups (address_named model var) value
      (name_stands model var (or_parts (unknown model var) false
      (or_parts _ _ p.known).0).0) in
      parts_of_objective model c h (on_objective (λ f. with_coefficient f (address_named model var)
      value) model.objective) (record {
        stand = λ q e. stood (objective_only (Stands model.groups)
            (λ f. with_coefficient f (address_named model var) value) set_it model.objective q e);
        terms = objective_limited (on_objective (λ f. with_coefficient f (address_named model var)
            value) model.objective) _ p.counted;
      })
  parts_by (edit.Constant row value) p =
      let at = needed_row_there model (edit.Constant row value) row refl p.known in
      of_function row at.0 at.1 (on_affine (λ f. with_constant f value))
      (affine_shape (λ f. with_constant f value) at.0.func)
      (affine_only (Stands model.groups) (λ f. with_constant f value)
      (constant_only (Stands model.groups) value) at.0.func)
      (subst (All (λ count. count ≤ TERMS)) (sym (constant_counts value at.0.func)))
  parts_by (edit.VecConstant row output value) p =
      let at = needed_row_there model (edit.VecConstant row output value) row refl p.known in
      of_function row at.0 at.1 (on_output output (λ f. with_constant f value))
      (output_shape output (λ f. with_constant f value) at.0.func)
      (output_only (Stands model.groups) (λ f. with_constant f value)
      (constant_only (Stands model.groups) value) output at.0.func)
      (subst (All (λ count. count ≤ TERMS)) (sym (output_counts output value at.0.func)))
  parts_by (edit.ObjConstant value) p =
      parts_of_objective model c h (on_objective (λ f. with_constant f value) model.objective)
      (record {
        stand = λ q e. stood (objective_only (Stands model.groups) (λ f. with_constant f value)
            (constant_only (Stands model.groups) value) model.objective q e);
        terms =
            let terms = h.valid_objective.terms
            in omega (
              arith,
              terms,
              objective_change_terms (λ f. with_constant f value)
                  (constant_adds_none value) model.objective,
            );
      })
  parts_by (edit.RowSet row set) p =
      let at = needed_row_there model (edit.RowSet row set) row refl p.known in
      let shape : is_scalar set ≡ is_scalar_function at.0.func = same_shape
      (is_scalar_function at.0.func) (is_scalar set)
      (row_fact (λ r. differ (is_scalar_function r.func) (is_scalar set)) model row at.0
      at.1 p.shaped) in
      of_row row at.0 at.1 (λ r. record r { set = set })
      (set_in_place model.groups at.0 set shape (set_of_from_tests (components at.0.func) set
      (λ e. scalar_components at.0.func (sym shape ∙ e))
      (row_fact (λ r. has_bad_dimension set (components r.func)) model row at.0 at.1
      p.dimension) p.interval) (not-false (same_type at.0.set set)
      (row_fact (λ r. not (same_type r.set set)) model row at.0 at.1 p.of_type)))
  parts_by (edit.Reset var set) p =
      let at = needed_variable model (edit.Reset var set) var [] refl p.known in
      let shape = or_parts (not (is_scalar set)) (group_is (λ g. not (is_scalar g.set)) model var)
      p.shaped in
      of_number model c var at.0 at.1 Parts (λ n. change_group model n
      (λ g. record g { set = set })) (of_set var at.0 at.1 set
      (λ group found. set_reset group set (not-false (is_scalar group.set)
      (group_fact (λ g. not (is_scalar g.set)) model var at.0 group at.1 found shape.1))
      (not-false (is_scalar set) shape.0) p.interval
      (not-false (same_type group.set set) (group_fact (λ g. not (same_type g.set set)) model
      var at.0 group at.1 found p.of_type))))
  parts_by (edit.FreeGroup var) p =
      let at = needed_variable model (edit.FreeGroup var) var [] refl p.known in
      of_number model c var at.0 at.1 Parts (λ n. change_group model n
      (λ g. record g { set = Reals 1 })) (of_set var at.0 at.1 (Reals 1)
      (λ group found. set_free group (not-false (is_scalar group.set)
      (group_fact (λ g. not (is_scalar g.set)) model var at.0 group at.1 found p.shaped))))
  parts_by (edit.DeleteVariable var) p =
      let at = needed_variable model (edit.DeleteVariable var) var [] refl p.known in
      of_number model c var at.0 at.1 Parts (without_variable model)
      (parts_left var at.0 at.1 (sym (ap (λ o. option_map_or (is_in_cone model) o false) at.1)
      ∙ p.deletable))
  parts_by (edit.DeleteRow row) p =
      let at = needed_row_there model (edit.DeleteRow row) row refl p.known in
      subst Parts (sym (delete_row-found model row at.0 at.1)) (parts_without_row model c h at.0.id)
  parts_by (edit.RenameVariable old new) p =
      let at = needed_variable model (edit.RenameVariable old new) old [] refl p.known in
      of_number model c old at.0 at.1 Parts (λ n. change_group model n
      (λ g. record g { vars = map (renamed n new) g.vars })) (of_name old at.0 at.1 new)
  parts_by (edit.RenameRow old new) p =
      let at = needed_row_there model (edit.RenameRow old new) old refl p.known in
      of_row old at.0 at.1 (λ r. record r { name = new }) (name_in_place model.groups at.0 new)

pub kept_valid : (model : ModelValue) (e : Edit) → IsValid model → first_refusal model e ≡ None
    → IsValid (edited model e)
kept_valid model e v none = record {
  consistent = kept_consistent model e v.consistent none;
  within = kept_within model e v.consistent v.within none;
  parts = parts_by model v.consistent v.parts e (passed model e none);
}
