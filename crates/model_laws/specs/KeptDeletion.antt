-- A model without a variable is consistent and within its limits.
use Rattle.std.specs.Prelude.{◌≡◌, ◌≢◌, ℕ, ◌<◌, ◌≤◌, ◌==◌, true, false, not, cond, List, [], ◌∷◌, Option, Some, None, All, AllPairs, IfSome, IsSome, find, length, sum_by}
use Rattle.std.specs.List.{filter_map, cons_option, list_any}
use Rattle.std.proofs.Common.{arith, sym, ap, subst, ◌∙◌}
use Rattle.std.proofs.lemmas.Option.{IfSome_then}
use Rattle.std.proofs.lemmas.List.Elements.{All-filter}
use Rattle.std.proofs.lemmas.List.Kept.{AllPairs-filter}
use Rattle.std.proofs.lemmas.List.Sums.{sum_by-cons}
use Rattle.numbered_list.specs.Numbered.{Rise}
use Rattle.numbered_list.specs.Laws.{KeepsNumbers, Rise-filter, Rise-filter_map}
use Rattle.aff_core.specs.Address.{Address, address_eq}
use Rattle.user_model.specs.declared.group.Group.{Group}
use Rattle.user_model.specs.declared.row.Row.{Row}
use Rattle.user_model.specs.declared.objective.Objective.{Objective}
use Rattle.user_model.specs.declared.objective.Objective.TheVariants as objective
use Rattle.user_model.specs.Functions.{all_terms}
use Rattle.user_model.specs.Model.{ModelValue, group_of, has_variable, is_variable, objective_terms, variable_address, variables}
use Rattle.user_model.specs.Edited.{group_number, row_number}
use Rattle.user_model.specs.Deletion.{group_without, objective_without, row_without, without_variable}
use Rattle.user_model.specs.Consistent.{IsConsistent, IsWithinLimits, variable_number}
use Rattle.map_laws.specs.EachLaws.{All-filter_map}
use Rattle.map_laws.specs.PairLaws.{distinct-filter_map}
use Rattle.model_laws.specs.Replaced.{length_filter}
use Rattle.model_laws.specs.RowWithout.{row_without_is}
use Rattle.model_laws.specs.GroupWithout.{group_keeps_number, others_stand, vars_without}
use Rattle.model_laws.specs.Terms.{terms_without}
use Rattle.model_laws.specs.Variables.{group_found}

pub row_keeps_number : (at : Address) → KeepsNumbers row_number (row_without at)
row_keeps_number at = record {
  keeps = λ row. IfSome_then (row_without at row)
      (row_without_is at row) (λ left h. h.id);
}

-- a list of edited items has no greater sum, and is no longer
pub sum_filter_map : {X : Type 0} (f : X → ℕ) (g : X → Option X) (xs : List X)
    → ((x : X) → IfSome (g x) (λ y. f y ≤ f x)) → sum_by f (filter_map g xs) ≤ sum_by f xs
sum_filter_map f g [] each = omega arith
sum_filter_map {X = X} f g (x ∷ xs) each = first (g x) (each x) (sum_filter_map f g xs each)
  where
    first : (o : Option X) → IfSome o (λ y. f y ≤ f x) → sum_by f (filter_map g xs) ≤ sum_by f xs
        → sum_by f (cons_option o (filter_map g xs)) ≤ sum_by f (x ∷ xs)
    first None at rest = omega (arith, sum_by-cons f x xs)
    first (Some y) at rest =
        omega (arith, at, rest, sum_by-cons f x xs, sum_by-cons f y (filter_map g xs))

length_filter_map : {X Y : Type 0} (g : X → Option Y) (xs : List X)
    → length (filter_map g xs) ≤ length xs
length_filter_map g [] = omega arith
length_filter_map {Y = Y} g (x ∷ xs) = first (g x) (length_filter_map g xs)
  where
    first : (o : Option Y) → length (filter_map g xs) ≤ length xs
        → length (cons_option o (filter_map g xs)) ≤ length (x ∷ xs)
    first None rest = omega arith
    first (Some y) rest = omega arith

pub objective_without_terms : (at : Address) (o : Objective)
    → objective_terms (objective_without at o) ≤ objective_terms o
objective_without_terms at objective.Feasibility = omega arith
objective_without_terms at (objective.Plain sense var) =
    elim (address_eq at var) as (λ b. objective_terms
    (cond b objective.Feasibility (objective.Plain sense var)) ≤ 0)
    [ true ↦ omega arith | false ↦ omega arith ]
objective_without_terms at (objective.Affine sense f) = terms_without at f

module _ (model : ModelValue) (n : ℕ) (c : IsConsistent model) where
  -- a row that is left is on a variable that is left
  bounds_left : (m : ℕ) (row : Row) → (is_variable m row.func ≡ true → IsSome (group_of model m))
      → IfSome (row_without (variable_address n) row)
      (λ r. is_variable m r.func ≡ true
      → IsSome (find (has_variable m) (filter_map (group_without n) model.groups)))
  bounds_left m row stands =
      IfSome_then (row_without (variable_address n) row) (row_without_is (variable_address n) row)
      (λ left h e.
      group_found m (filter_map (group_without n) model.groups)
      ∙ (ap (list_any (λ v. v.number == m)) (vars_without n model.groups)
      ∙ (others_stand m n (variables model) (λ same. h.off m e (ap variable_address same))
      ∙ (sym (group_found m model.groups) ∙ stands (h.bounds m e)))))

  given_left : (group : Group) → group.id < model.next.group
      → IfSome (group_without n group) (λ g. g.id < model.next.group)
  given_left group lt = IfSome_then (group_without n group) ((group_keeps_number n).keeps group)
      (λ g e. omega (arith, lt, e))

  pub kept_without_variable : IsConsistent (without_variable model n)
  kept_without_variable = record {
    groups_rise = Rise-filter_map group_number (group_without n) model.groups (group_keeps_number n)
        c.groups_rise;
    variables_rise = subst (Rise variable_number) (sym (vars_without n model.groups))
        (Rise-filter variable_number (λ v. not (v.number == n)) (variables model) c.variables_rise);
    rows_rise = Rise-filter_map row_number (row_without (variable_address n)) model.rows
        (row_keeps_number (variable_address n)) c.rows_rise;
    given_groups = All-filter_map (λ g. g.id < model.next.group) (λ g. g.id < model.next.group)
        (group_without n) model.groups given_left c.given_groups;
    given_variables = subst (All (λ v. v.number < model.next.variable))
        (sym (vars_without n model.groups)) (All-filter (λ v. not (v.number == n))
        (λ v. v.number < model.next.variable) (variables model) c.given_variables);
    given_rows = All-filter_map (λ r. r.id < model.next.row) (λ r. r.id < model.next.row)
        (row_without (variable_address n)) model.rows
        (λ row lt. IfSome_then (row_without (variable_address n) row)
        (row_without_is (variable_address n) row) (λ left h.
        let e = h.id in omega (arith, lt, e))) c.given_rows;
    variable_names = subst (AllPairs (λ v w. v.name ≢ w.name)) (sym (vars_without n model.groups))
        (AllPairs-filter (λ v w. v.name ≢ w.name) (λ v. not (v.number == n)) (variables model)
        c.variable_names);
    row_names = distinct-filter_map (λ r. r.name) (row_without (variable_address n)) model.rows
        (λ row. IfSome_then (row_without (variable_address n) row)
        (row_without_is (variable_address n) row) (λ left h. h.name)) c.row_names;
    bounds = λ m. All-filter_map (λ r. is_variable m r.func ≡ true
        → IsSome (find (has_variable m) (filter_map (group_without n) model.groups)))
        (λ r. is_variable m r.func ≡ true → IsSome (group_of model m))
        (row_without (variable_address n)) model.rows (bounds_left m) (c.bounds m);
  }

  pub without_variable_within : IsWithinLimits model → IsWithinLimits (without_variable model n)
  without_variable_within w =
      let vars = w.variables in
      let rows = w.rows in
      let terms = w.terms in
      record {
        variables = omega (
          arith,
          vars,
          ap length (vars_without n model.groups),
          length_filter
              (λ v. not (v.number == n)) (variables model),
        );
        rows = omega (arith, rows, length_filter_map (row_without (variable_address n)) model.rows);
        terms = omega (
          arith,
          terms,
          sum_filter_map (λ r. all_terms r.func)
              (row_without (variable_address n)) model.rows
              (λ row. IfSome_then (row_without (variable_address n) row)
              (row_without_is (variable_address n) row) (λ left h. h.terms)),
          objective_without_terms
              (variable_address n) model.objective,
        );
        group_numbers = w.group_numbers;
        variable_numbers = w.variable_numbers;
        row_numbers = w.row_numbers;
      }
