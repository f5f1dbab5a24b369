-- A new group and a new row keep a model consistent and within its limits.
use Rattle.std.specs.Prelude.{◌≡◌, ◌≢◌, ℕ, ◌+◌, ◌-◌, ◌<◌, ◌≤◌, ◌==◌, true, false, List, [], ◌∷◌, ◌++◌, All, AllPairs, IsSome, find, length}
use Rattle.std.specs.List.{list_any}
use Rattle.std.proofs.Common.{arith, sym, ap, subst, append-nil, ◌∙◌}
use Rattle.std.proofs.lemmas.Bool.{or_left}
use Rattle.std.proofs.lemmas.List.{length-append}
use Rattle.std.proofs.lemmas.List.Concat.{flat_map-append}
use Rattle.std.proofs.lemmas.List.Folds.{list_any-append}
use Rattle.std.proofs.lemmas.List.Quantifiers.{all_pairs_push}
use Rattle.std.proofs.lemmas.List.Elements.{All-append, All-push, All-weaker}
use Rattle.numbered_list.specs.Numbered.{Rise}
use Rattle.numbered_list.specs.Laws.{Rise-append, Rise-push}
use Rattle.set_core.specs.declared.set.Set.{Set}
use Rattle.user_model.specs.declared.function.UserFunc.{UserFunc}
use Rattle.user_model.specs.declared.group.Group.{Group}
use Rattle.user_model.specs.declared.group.GroupVar.{GroupVar}
use Rattle.user_model.specs.declared.row.Row.{Row}
use Rattle.user_model.specs.Limits.{ALL_TERMS, LAST_NUMBER, ROWS, VARIABLES}
use Rattle.user_model.specs.Model.{ModelValue, group_of, has_variable, is_variable, total_terms, variables}
use Rattle.user_model.specs.Edited.{add_group, add_row, group_number, numbered_from, row_number}
use Rattle.user_model.specs.Refusals.{has_row_named, has_twins, has_variable_named}
use Rattle.user_model.specs.Consistent.{IsConsistent, IsWithinLimits, variable_number}
use Rattle.map_laws.specs.PairLaws.{AllPairs-append}
use Rattle.model_laws.specs.Found.{none_pass}
use Rattle.model_laws.specs.Variables.{group_found, vars_in}
use Rattle.model_laws.specs.Numbering.{numbered_below, numbered_distinct, numbered_from_on, numbered_length, numbered_names, numbered_rise}
use Rattle.model_laws.specs.Located.{free_row, free_variable}

module _ (model : ModelValue) (names : List (List ℕ)) (set : Set) where
  -- the new variables, and their group
  abbrev pub new_vars : List GroupVar
  new_vars = numbered_from model.next.variable names

  abbrev pub new_group : Group
  new_group = record { id = model.next.group; vars = new_vars; set = set }

  -- the new variables come last
  pub vars_added : vars_in (model.groups ++ new_group ∷ []) ≡ variables model ++ new_vars
  vars_added = flat_map-append (λ g. g.vars) model.groups (new_group ∷ [])
      ∙ ap (λ vs. variables model ++ vs) (append-nil new_vars)

  pub kept_add_group : IsConsistent model → list_any (has_variable_named model) names ≡ false
      → has_twins names ≡ false → IsConsistent (add_group model names set)
  kept_add_group c free single = record {
    groups_rise = Rise-push group_number model.groups new_group c.groups_rise c.given_groups;
    variables_rise = subst (Rise variable_number) (sym vars_added)
        (Rise-append variable_number model.next.variable (variables model) new_vars c.variables_rise
        c.given_variables (numbered_rise model.next.variable names)
        (numbered_from_on model.next.variable names));
    rows_rise = c.rows_rise;
    given_groups = All-push (λ g. g.id < model.next.group + 1) model.groups new_group
        (All-weaker (λ g. g.id < model.next.group) (λ g. g.id < model.next.group + 1)
        (λ g lt. omega arith) model.groups c.given_groups) (omega arith);
    given_variables = subst (All (λ v. v.number < model.next.variable + length names))
        (sym vars_added) (All-append (λ v. v.number < model.next.variable + length names)
        (variables model) new_vars (All-weaker (λ v. v.number < model.next.variable)
        (λ v. v.number < model.next.variable + length names) (λ v lt. omega arith) (variables model)
        c.given_variables) (numbered_below model.next.variable names));
    given_rows = c.given_rows;
    variable_names = subst (AllPairs (λ v w. v.name ≢ w.name)) (sym vars_added)
        (AllPairs-append (λ v w. v.name ≢ w.name) (variables model) new_vars c.variable_names
        (numbered_distinct model.next.variable names single)
        (λ k d end j b last. across j b last k d end));
    row_names = c.row_names;
    bounds = λ n. All-weaker (λ r. is_variable n r.func ≡ true → IsSome (group_of model n))
        (λ r. is_variable n r.func ≡ true
        → IsSome (find (has_variable n) (model.groups ++ new_group ∷ []))) (λ r h e. stays n (h e))
        model.rows (c.bounds n);
  }
    where
      across : All (λ w. All (λ v. v.name ≢ w.name) (variables model)) new_vars
      across = numbered_names (λ name. All (λ v. v.name ≢ name) (variables model))
          model.next.variable names (All-weaker (λ name. has_variable_named model name ≡ false)
          (λ name. All (λ v. v.name ≢ name) (variables model))
          (λ name e. free_variable model name e) names (none_pass (has_variable_named model) names
          free))

      stays : (n : ℕ) → IsSome (group_of model n)
          → IsSome (find (has_variable n) (model.groups ++ new_group ∷ []))
      stays n there =
          group_found n (model.groups ++ new_group ∷ [])
          ∙ (ap (list_any (λ v. v.number == n)) vars_added
          ∙ (list_any-append (λ v. v.number == n) (variables model) new_vars
          ∙ or_left (list_any (λ v. v.number == n) (variables model))
          (list_any (λ v. v.number == n) new_vars) (sym (group_found n model.groups) ∙ there)))

  pub add_group_within : IsWithinLimits model → length (variables model) + length names ≤ VARIABLES
      → model.next.group ≤ LAST_NUMBER → model.next.variable + length names - 1 ≤ LAST_NUMBER
      → IsWithinLimits (add_group model names set)
  add_group_within w fits group last = record {
    variables = omega (
      arith,
      fits,
      ap length vars_added,
      length-append (variables model) new_vars,
      numbered_length model.next.variable names,
    );
    rows = w.rows;
    terms = w.terms;
    group_numbers = omega (arith, group);
    variable_numbers = omega (arith, last);
    row_numbers = w.row_numbers;
  }

module _ (model : ModelValue) (name : List ℕ) (func : UserFunc) (set : Set) where
  abbrev pub new_row : Row
  new_row = record { id = model.next.row; name = name; func = func; set = set }

  pub kept_add_row : IsConsistent model → has_row_named model name ≡ false
      → ((n : ℕ) → is_variable n func ≡ true → IsSome (group_of model n))
      → IsConsistent (add_row model name func set)
  kept_add_row c free stands = record {
    groups_rise = c.groups_rise;
    variables_rise = c.variables_rise;
    rows_rise = Rise-push row_number model.rows new_row c.rows_rise c.given_rows;
    given_groups = c.given_groups;
    given_variables = c.given_variables;
    given_rows = All-push (λ r. r.id < model.next.row + 1) model.rows new_row
        (All-weaker (λ r. r.id < model.next.row) (λ r. r.id < model.next.row + 1)
        (λ r lt. omega arith) model.rows c.given_rows) (omega arith);
    variable_names = c.variable_names;
    row_names = all_pairs_push (λ r s. r.name ≢ s.name) model.rows new_row c.row_names
        (free_row model name free);
    bounds = λ n. All-push (λ r. is_variable n r.func ≡ true → IsSome (group_of model n)) model.rows
        new_row (c.bounds n) (stands n);
  }

  pub add_row_within : IsWithinLimits model → length model.rows + 1 ≤ ROWS
      → total_terms (add_row model name func set) ≤ ALL_TERMS → model.next.row ≤ LAST_NUMBER
      → IsWithinLimits (add_row model name func set)
  add_row_within w rows terms number = record {
    variables = w.variables;
    rows = omega (arith, rows, length-append model.rows (new_row ∷ []));
    terms = terms;
    group_numbers = w.group_numbers;
    variable_numbers = w.variable_numbers;
    row_numbers = omega (arith, number);
  }
