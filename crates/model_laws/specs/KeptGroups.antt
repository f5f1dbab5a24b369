-- Changes of groups that keep a model consistent and within its limits.
use Rattle.std.specs.Prelude.{◌≡◌, ◌≢◌, ℕ, ◌<◌, ◌≤◌, ◌==◌, true, List, Some, All, AllPairs, Contains, IsSome, find, length, map, refl}
use Rattle.std.specs.List.{list_any}
use Rattle.std.proofs.Common.{arith, sym, ap, subst, ◌∙◌}
use Rattle.std.proofs.lemmas.List.{length-map}
use Rattle.std.proofs.lemmas.List.Elements.{All-contains, All-weaker}
use Rattle.numbered_list.specs.Numbered.{Rise, put}
use Rattle.numbered_list.specs.Numbered as numbered
use Rattle.numbered_list.specs.Laws.{Contains-found}
use Rattle.numbered_list.specs.SetLaws.{Rise-set_at}
use Rattle.user_model.specs.declared.group.Group.{Group}
use Rattle.user_model.specs.declared.group.GroupVar.{GroupVar}
use Rattle.user_model.specs.Model.{ModelValue, group_of, has_variable, is_variable, variables}
use Rattle.user_model.specs.Edited.{group_number, renamed}
use Rattle.user_model.specs.Consistent.{IsConsistent, IsWithinLimits, variable_number}
use Rattle.model_laws.specs.Replaced.{All-put}
use Rattle.model_laws.specs.Variables.{group_found, vars_in, vars_renamed, vars_replaced}
use Rattle.model_laws.specs.Renamed.{renamed_below, renamed_distinct, renamed_rise, renamed_stands}

-- each variable that stands in a row stands in the groups
pub stand_on : (model : ModelValue) (groups : List Group) → IsConsistent model
    → ((n : ℕ) → list_any (λ v. v.number == n) (vars_in groups)
    ≡ list_any (λ v. v.number == n) (variables model)) → (n : ℕ)
    → All (λ r. is_variable n r.func ≡ true → IsSome (find (has_variable n) groups)) model.rows
stand_on model groups c same n =
    All-weaker (λ r. is_variable n r.func ≡ true → IsSome (group_of model n))
    (λ r. is_variable n r.func ≡ true → IsSome (find (has_variable n) groups))
    (λ r h e. group_found n groups ∙ (same n ∙ (sym (group_found n model.groups) ∙ h e)))
    model.rows (c.bounds n)

module _ (model : ModelValue) (c : IsConsistent model) where
  -- the groups alone change, with other variables of the same numbers
  pub kept_groups : (groups : List Group) (vars : List GroupVar) → vars_in groups ≡ vars
      → Rise group_number groups → All (λ g. g.id < model.next.group) groups
      → Rise variable_number vars → All (λ v. v.number < model.next.variable) vars
      → AllPairs (λ v w. v.name ≢ w.name) vars
      → ((n : ℕ) → list_any (λ v. v.number == n) vars
      ≡ list_any (λ v. v.number == n) (variables model))
      → IsConsistent (record model { groups = groups })
  kept_groups groups vars is rise given vars_rise vars_given names same = record {
    groups_rise = rise;
    variables_rise = subst (Rise variable_number) (sym is) vars_rise;
    rows_rise = c.rows_rise;
    given_groups = given;
    given_variables = subst (All (λ v. v.number < model.next.variable)) (sym is) vars_given;
    given_rows = c.given_rows;
    variable_names = subst (AllPairs (λ v w. v.name ≢ w.name)) (sym is) names;
    row_names = c.row_names;
    bounds = stand_on model groups c (λ n. ap (list_any (λ v. v.number == n)) is ∙ same n);
  }

  groups_within : (groups : List Group) → length (vars_in groups) ≤ length (variables model)
      → IsWithinLimits model → IsWithinLimits (record model { groups = groups })
  groups_within groups less w =
      let all = w.variables in
      record {
        variables = omega (arith, all, less);
        rows = w.rows;
        terms = w.terms;
        group_numbers = w.group_numbers;
        variable_numbers = w.variable_numbers;
        row_numbers = w.row_numbers;
      }

  module _ (old : Group) (found : numbered.find group_number old.id model.groups ≡ Some old) where
    below : old.id < model.next.group
    below = All-contains (λ g. g.id < model.next.group) model.groups old c.given_groups
        (Contains-found group_number old.id old model.groups found)

    -- a group with another set
    module _ (new : Group) (id : new.id ≡ old.id) (same : new.vars ≡ old.vars) where
      found_new : numbered.find group_number new.id model.groups ≡ Some old
      found_new = ap (λ n. numbered.find group_number n model.groups) id ∙ found

      pub kept_group : IsConsistent (record model { groups = put group_number new model.groups })
      kept_group =
          kept_groups (put group_number new model.groups) (variables model)
          (vars_replaced new old model.groups c.groups_rise found_new same)
          (Rise-set_at group_number new.id (Some new) model.groups refl c.groups_rise)
          (All-put group_number (λ g. g.id < model.next.group) new model.groups c.given_groups
          (let lt = below in omega (arith, lt, id))) c.variables_rise c.given_variables
          c.variable_names (λ n. refl)

      pub group_within : IsWithinLimits model
          → IsWithinLimits (record model { groups = put group_number new model.groups })
      group_within w = groups_within (put group_number new model.groups)
          (omega (
            arith,
            ap length (vars_replaced new old model.groups c.groups_rise found_new
                same),
          )) w

    -- a group of which one variable has a new name
    module _ (n : ℕ) (name : List ℕ) (v : GroupVar) (there : Contains old.vars v)
        (at : v.number ≡ n) where
      abbrev new_group : Group
      new_group = record old { vars = map (renamed n name) old.vars }

      new_vars : vars_in (put group_number new_group model.groups)
          ≡ map (renamed n name) (variables model)
      new_vars =
          vars_renamed n name old model.groups c.groups_rise c.variables_rise found v there at

      pub kept_renamed : All (λ v. v.name ≢ name) (variables model)
          → IsConsistent (record model {
            groups = put group_number
                (record old { vars = map (renamed n name) old.vars }) model.groups;
          })
      kept_renamed free =
          kept_groups (put group_number new_group model.groups)
          (map (renamed n name) (variables model)) new_vars
          (Rise-set_at group_number old.id (Some new_group) model.groups refl c.groups_rise)
          (All-put group_number (λ g. g.id < model.next.group) new_group model.groups
          c.given_groups below) (renamed_rise n name (variables model) c.variables_rise)
          (renamed_below n name model.next.variable (variables model) c.given_variables)
          (renamed_distinct n name (variables model) c.variables_rise c.variable_names free)
          (λ m. renamed_stands n name m (variables model))

      pub renamed_within : IsWithinLimits model
          → IsWithinLimits (record model {
            groups = put group_number
                (record old { vars = map (renamed n name) old.vars }) model.groups;
          })
      renamed_within w = groups_within (put group_number new_group model.groups)
          (omega (arith, ap length new_vars, length-map (variables model) (renamed n name))) w
