-- The groups of a valid model, added one after another, are accepted and renumbered.
use Rattle.std.specs.Prelude.{◌≡◌, ◌≢◌, ℕ, suc, ◌+◌, ◌≤◌, ◌==◌, Bool, true, false, ◌&&◌, not, List, [], ◌∷◌, ◌++◌, All, AllPairs, bytes_eq, find, length, map, refl}
use Rattle.std.specs.List.{list_any}
use Rattle.std.proofs.Common.{ap, ap₂, append-nil, append_assoc, arith, subst, sym, ◌∙◌}
use Rattle.std.proofs.lemmas.Bool.{eq-eqb, false_from_ne_true, or_from}
use Rattle.std.proofs.lemmas.List.{length-append, length-map, map_push}
use Rattle.std.proofs.lemmas.List.Concat.{flat_map-append}
use Rattle.std.proofs.lemmas.List.Elements.{All-head, All-tail}
use Rattle.std.proofs.lemmas.Slice.Eq.{bytes_eq-Decides}
use Rattle.map_laws.specs.OptionLaws.{is_some-option_map}
use Rattle.map_laws.specs.EachLaws.{all_first, all_second}
use Rattle.map_laws.specs.PairLaws.{AllPairs-across, AllPairs-first, AllPairs-head, AllPairs-second, AllPairs-tail}
use Rattle.set_core.specs.declared.set.Set.{Set}
use Rattle.set_core.specs.Shapes.{IsSetOf, has_bad_dimension, is_scalar}
use Rattle.set_core.specs.ShapeLaws.{good_dimension, scalar_one}
use Rattle.user_model.specs.declared.edit.Edit.{Edit}
use Rattle.user_model.specs.declared.group.Group.{Group}
use Rattle.user_model.specs.declared.group.GroupVar.{GroupVar}
use Rattle.user_model.specs.declared.objective.Objective.TheVariants as objective
use Rattle.user_model.specs.Consistent.{variable_number}
use Rattle.user_model.specs.Edited.{edited, group_number, numbered_from}
use Rattle.user_model.specs.Model.{ModelValue, variables}
use Rattle.user_model.specs.Refusals.{counts, has_twins, has_variable_named}
use Rattle.user_model.specs.SameUpToNumbers.{group_by_position}
use Rattle.user_model.specs.Valid.{IsValid, IsValidGroup}
use Rattle.model_laws.specs.Found.{is_some-find}
use Rattle.model_laws.specs.Passed.{IsPassed}
use Rattle.mof_laws.specs.EditLaws.{group_edit, some_components}
use Rattle.model_laws.specs.Variables.{vars_in}
use Rattle.mof_laws.specs.ReadBack.{var_names}
use Rattle.mof_round_trip_laws.specs.Accepted.{AreCountsWithin, LeadTo, each_leads, each_within}
use Rattle.user_model.specs.PositionLaws.{placed_here}
use Rattle.mof_round_trip_laws.specs.Renumbered.{made_variable, made_variables, none_made}

-- ---- sets of n components

-- a set of numbers has one component
pub one_component : (set : Set) (n : ℕ) → IsSetOf n set → (is_scalar set && not (n == 1)) ≡ false
one_component set n h = by (is_scalar set) refl
  where
    by : (b : Bool) → is_scalar set ≡ b → (b && not (n == 1)) ≡ false
    by true e = ap (λ b. not b) (eq-eqb n 1 (sym h.dimension ∙ scalar_one set e))
    by false e = refl

-- ---- names that are apart

pub other_name : (name other : List ℕ) → name ≢ other → bytes_eq name other ≡ false
other_name name other apart =
    false_from_ne_true _ (λ e. apart ((bytes_eq-Decides name other).0 e))

no_twins : (vs : List GroupVar) → AllPairs {X = GroupVar} (λ v w. v.name ≢ w.name) vs
    → has_twins (var_names vs) ≡ false
no_twins [] h = refl
no_twins (v ∷ vs) h =
    or_from _ _
    (none_made (λ w. w.name) (λ w. v.name ≢ w.name) (bytes_eq v.name)
    (λ w. other_name v.name w.name) vs (AllPairs-head (λ v w. v.name ≢ w.name) v vs h))
    (no_twins vs (AllPairs-tail (λ v w. v.name ≢ w.name) v vs h))

-- ---- a model with the first groups alone

-- a later variable has another name
abbrev OtherName : GroupVar → GroupVar → Type 0
OtherName v w = v.name ≢ w.name

-- a variable with a name that none of the groups has
abbrev NewName : List Group → GroupVar → Type 0
NewName gs v = All {X = GroupVar} (λ u. OtherName u v) (vars_in gs)

abbrev variable_with : ℕ → List ℕ → GroupVar
variable_with n name = record { number = n; name = name }

abbrev group_with : ℕ → List GroupVar → Set → Group
group_with n vars set = record { id = n; vars = vars; set = set }

-- groups alone, and how many groups and variables there are
abbrev groups_alone : List Group → ℕ → ℕ → ModelValue
groups_alone gs n m = record {
  groups = gs;
  rows = [];
  objective = objective.Feasibility;
  next = record { group = n; variable = m; row = 0 };
}

module _ (model : ModelValue) where
  -- the first groups, renumbered
  abbrev pub with_groups : List Group → ModelValue
  with_groups done =
      groups_alone (map (group_by_position model) done) (length done) (length (vars_in done))

  -- a name that no variable of the groups has
  unnamed : (done : List Group) (name : List ℕ)
      → All {X = GroupVar} (λ v. v.name ≢ name) (vars_in done)
      → has_variable_named (with_groups done) name ≡ false
  unnamed done name h =
      is_some-option_map (λ v. v.number)
      (find (λ v. bytes_eq v.name name) (variables (with_groups done)))
      ∙ is_some-find (λ v. bytes_eq v.name name) (variables (with_groups done))
      ∙ ap (list_any (λ v. bytes_eq v.name name)) (made_variables model done)
      ∙ none_made (made_variable model) (λ v. v.name ≢ name) (λ v. bytes_eq v.name name)
      (λ v. other_name v.name name) (vars_in done) h

module _ (model : ModelValue) (valid : IsValid model) where
  -- variables between others are numbered from their place on
  numbered_on : (before vs after : List GroupVar) → variables model ≡ before ++ (vs ++ after)
      → numbered_from (length before) (var_names vs) ≡ map (made_variable model) vs
  numbered_on before [] after e = refl
  numbered_on before (v ∷ vs) after e =
      ap₂ (λ n ws. variable_with n v.name ∷ ws)
      (sym (placed_here variable_number (variables model) valid.consistent.variables_rise before v
      (vs ++ after) e))
      (ap (λ n. numbered_from n (var_names vs)) (longer before)
      ∙ numbered_on (before ++ v ∷ []) vs after
      (e ∙ sym (append_assoc before (v ∷ []) (vs ++ after))))
    where
      longer : (xs : List GroupVar) → suc (length xs) ≡ length (xs ++ v ∷ [])
      longer xs = omega (arith, length-append xs (v ∷ []))

  -- n groups have this number of variables
  no_more_groups : (gs : List Group) → All IsValidGroup gs → length gs ≤ length (vars_in gs)
  no_more_groups [] h = omega arith
  no_more_groups (g ∷ gs) h =
      let one = some_components g.set (length g.vars) (All-head IsValidGroup g gs h).set in
      let more = no_more_groups gs (All-tail IsValidGroup g gs h) in
      omega (arith, one, more, length-append g.vars (vars_in gs))

  module _ (done : List Group) (g : Group) (rest : List Group)
      (whole : model.groups ≡ done ++ g ∷ rest) where
    all_variables : variables model ≡ vars_in done ++ (g.vars ++ vars_in rest)
    all_variables = ap vars_in whole ∙ flat_map-append (λ g. g.vars) done (g ∷ rest)

    all_valid : All IsValidGroup (done ++ g ∷ rest)
    all_valid = subst (All IsValidGroup) whole valid.parts.valid_groups

    this_valid : IsValidGroup g
    this_valid = All-head IsValidGroup g rest (all_second IsValidGroup done (g ∷ rest) all_valid)

    names_apart : AllPairs OtherName (vars_in done ++ (g.vars ++ vars_in rest))
    names_apart = subst (AllPairs OtherName) all_variables valid.consistent.variable_names

    free_names : list_any (has_variable_named (with_groups model done)) (var_names g.vars) ≡ false
    free_names =
        none_made (λ v. v.name) (NewName done) (has_variable_named (with_groups model done))
        (λ w. unnamed model done w.name) g.vars
        (all_first (NewName done) g.vars (vars_in rest)
        (AllPairs-across OtherName (vars_in done) (g.vars ++ vars_in rest) names_apart))

    single_names : has_twins (var_names g.vars) ≡ false
    single_names =
        no_twins g.vars (AllPairs-first OtherName g.vars (vars_in rest)
        (AllPairs-second OtherName (vars_in done) (g.vars ++ vars_in rest) names_apart))

    names_count : length (var_names g.vars) ≡ length g.vars
    names_count = length-map g.vars (λ v. v.name)

    within_counts : AreCountsWithin (counts (with_groups model done) (group_edit g))
    within_counts =
        let limit = this_valid.limit in
        let all = valid.within.variables in
        let total : length (variables model)
        ≡ length (vars_in done) + (length g.vars + length (vars_in rest)) =
        ap length all_variables
        ∙ (length-append (vars_in done) (g.vars ++ vars_in rest)
        ∙ ap (λ n. length (vars_in done) + n) (length-append g.vars (vars_in rest))) in
        let before : length (variables (with_groups model done)) ≡ length (vars_in done) =
        ap length (made_variables model done)
        ∙ length-map (vars_in done) (made_variable model) in
        let groups = no_more_groups done (all_first IsValidGroup done (g ∷ rest) all_valid) in (
          omega (arith, limit, names_count),
          (
            omega (arith, all, total, before, names_count),
            (omega (arith, all, total, groups), (omega (arith, all, total, names_count), tt)),
          ),
        )

    group_passes : IsPassed (with_groups model done) (group_edit g)
    group_passes = record {
      known = refl;
      free = or_from _ _ free_names single_names;
      shaped = ap (λ n. is_scalar g.set && not (n == 1)) names_count
          ∙ one_component g.set (length g.vars) this_valid.set;
      dimension = ap (has_bad_dimension g.set) names_count
          ∙ good_dimension (length g.vars) g.set this_valid.set;
      output = refl;
      interval = this_valid.set.uncrossed;
      lower = refl;
      upper = refl;
      of_type = refl;
      deletable = refl;
      counted = each_within (counts (with_groups model done) (group_edit g)) within_counts;
    }

    made_group : group_with (length done)
        (numbered_from (length (vars_in done)) (var_names g.vars)) g.set
        ≡ group_by_position model g
    made_group =
        ap₂ (λ n vs. group_with n vs g.set)
        (sym (placed_here group_number model.groups valid.consistent.groups_rise done g rest whole))
        (numbered_on (vars_in done) g.vars (vars_in rest) all_variables)

    group_added : edited (with_groups model done) (group_edit g)
        ≡ with_groups model (done ++ g ∷ [])
    unfolding edited
    group_added = λ i. groups_alone (group_list i) (group_count i) (variable_count i)
      where
        group_list : map (group_by_position model) done ++ group_with (length done)
            (numbered_from (length (vars_in done)) (var_names g.vars)) g.set ∷ []
            ≡ map (group_by_position model) (done ++ g ∷ [])
        group_list =
            ap (λ h. map (group_by_position model) done ++ h ∷ []) made_group
            ∙ sym (map_push (group_by_position model) done g)

        group_count : length done + 1 ≡ length (done ++ g ∷ [])
        group_count = omega (arith, length-append done (g ∷ []))

        variable_count : length (vars_in done) + length (var_names g.vars)
            ≡ length (vars_in (done ++ g ∷ []))
        variable_count =
            ap (λ n. length (vars_in done) + n)
            (names_count ∙ ap length (sym (append-nil g.vars)))
            ∙ sym (length-append (vars_in done) (vars_in (g ∷ [])))
            ∙ ap length (sym (flat_map-append (λ g. g.vars) done (g ∷ [])))

  -- the groups' edits lead to all groups
  pub groups_lead : (es : List Edit) (new : ModelValue)
      → LeadTo (with_groups model model.groups) es new
      → LeadTo (with_groups model []) (map group_edit model.groups ++ es) new
  groups_lead =
      each_leads (with_groups model) group_edit model.groups group_passes group_added []
      model.groups refl
