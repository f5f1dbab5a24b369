-- The variables and rows that are found by name.
use Rattle.std.specs.Prelude.{◌≡◌, ◌≢◌, ℕ, zero, suc, ◌<◌, ◌==◌, true, false, List, [], ◌∷◌, Option, Some, None, All, Contains, IsSome, find, flat_map, length, slice_index_or, unwrap_or, refl}
use Rattle.std.specs.Option.{option_map}
use Rattle.std.specs.Str.{bytes_eq}
use Rattle.std.proofs.Common.{arith, sym, ap, subst, ◌∙◌}
use Rattle.std.proofs.lemmas.Bool.{eq-eqb, eqb-true}
use Rattle.std.proofs.lemmas.Option.{same_Some}
use Rattle.std.proofs.lemmas.List.Elements.{Contains-append_left, Contains-append_right}
use Rattle.std.proofs.lemmas.List.Folds.{Any-from_list_any}
use Rattle.std.proofs.lemmas.Slice.Eq.{bytes_eq-Decides}
use Rattle.map_laws.specs.OptionLaws.{is_some-option_map}
use Rattle.numbered_list.specs.Numbered as numbered
use Rattle.aff_core.specs.Address.{address_eq, address_eq-Decides}
use Rattle.user_model.specs.declared.group.Group.{Group}
use Rattle.user_model.specs.declared.group.GroupVar.{GroupVar}
use Rattle.user_model.specs.declared.row.Row.{Row}
use Rattle.user_model.specs.Model.{ModelValue, address_named, group_of, has_variable, row_named, variable_address, variable_named, variables}
use Rattle.user_model.specs.Edited.{group_number, row_number}
use Rattle.user_model.specs.Consistent.{IsConsistent, variable_number}
use Rattle.user_model.specs.Refusals.{has_row_named, has_variable_named}
use Rattle.model_laws.specs.Found.{found_passes, found_stands, is_some-find, one_passes, other_names, something, stands_found}
use Rattle.model_laws.specs.Variables.{group_found}

-- the variable with a number and a name, in its group
pub record IsVariableOf (model : ModelValue) (n : ℕ) (name : List ℕ) (group : Group)
    (var : GroupVar) : Type 0 where
  pub found : group_of model n ≡ Some group
  pub by_number : numbered.find group_number group.id model.groups ≡ Some group
  pub there : Contains group.vars var
  pub number : var.number ≡ n
  pub named : var.name ≡ name

-- what stands in the list of an item stands in the items' lists joined
pub stands_in_joined : {X Y : Type 0} (f : X → List Y) (xs : List X) (x : X) (y : Y) → Contains xs x
    → Contains (f x) y → Contains (flat_map f xs) y
stands_in_joined {X = X} {Y = Y} f xs x y at there = from xs at.0 at.1 at.2
  where
    from : (zs : List X) (k : ℕ) → k < length zs → slice_index_or zs k x ≡ x
        → Contains (flat_map f zs) y
    from [] k lt e = absurd (omega arith)
    from (z ∷ zs) zero lt e =
        Contains-append_left (f z) (flat_map f zs) y (subst (λ w. Contains (f w) y) (sym e) there)
    from (z ∷ zs) (suc k) lt e =
        Contains-append_right (f z) (flat_map f zs) y (from zs k (omega arith) e)

module _ (model : ModelValue) where
  -- a row is found by its name and by its number
  pub row_by_number : (name : List ℕ) (row : Row) → IsConsistent model
      → row_named model name ≡ Some row → numbered.find row_number row.id model.rows ≡ Some row
  row_by_number name row c e = stands_found row_number model.rows row c.rows_rise
      (found_stands (λ r. bytes_eq r.name name) model.rows row e)

  pub row_name : (name : List ℕ) (row : Row) → row_named model name ≡ Some row → row.name ≡ name
  row_name name row e =
      (bytes_eq-Decides row.name name).0 (found_passes (λ r. bytes_eq r.name name) model.rows row e)

  -- a group that has a variable is found by its number
  pub group_by_number : (n : ℕ) (group : Group) → IsConsistent model → group_of model n ≡ Some group
      → numbered.find group_number group.id model.groups ≡ Some group
  group_by_number n group c e = stands_found group_number model.groups group c.groups_rise
      (found_stands (has_variable n) model.groups group e)

  -- no other row has a free name, and no variable
  pub free_row : (name : List ℕ) → has_row_named model name ≡ false
      → All (λ r. r.name ≢ name) model.rows
  free_row name e = other_names (λ r. r.name) name model.rows
      (sym (is_some-find (λ r. bytes_eq r.name name) model.rows) ∙ e)

  pub free_variable : (name : List ℕ) → has_variable_named model name ≡ false
      → All (λ v. v.name ≢ name) (variables model)
  free_variable name e =
      other_names (λ v. v.name) name (variables model)
      (sym (is_some-find (λ v. bytes_eq v.name name) (variables model))
      ∙ (sym (is_some-option_map (λ v. v.number) (find (λ v. bytes_eq v.name name)
      (variables model))) ∙ e))

  -- the address of the variable with a name
  pub address_found : (name : List ℕ) (n : ℕ) → variable_named model name ≡ Some n
      → address_named model name ≡ variable_address n
  address_found name n e = ap (λ o. variable_address (unwrap_or o 0)) e

  -- the variable with a name
  pub variable_of_name : (name : List ℕ) (n : ℕ) → variable_named model name ≡ Some n
      → (var : GroupVar) × Contains (variables model) var × (var.number ≡ n) × (var.name ≡ name)
  variable_of_name name n e = from (find (λ v. bytes_eq v.name name) (variables model)) refl e
    where
      from : (o : Option GroupVar) → find (λ v. bytes_eq v.name name) (variables model) ≡ o
          → option_map (λ v. v.number) o ≡ Some n
          → (var : GroupVar) × Contains (variables model) var × (var.number ≡ n) × (var.name ≡ name)
      from None is e = cc
      from (Some var) is e = (
        var,
        found_stands (λ v. bytes_eq v.name name) (variables model) var is,
        cc,
        (bytes_eq-Decides var.name name).0 (found_passes (λ v. bytes_eq v.name name)
            (variables model) var is),
      )

  -- the variable with a number stands in a group
  pub named_stands : (name : List ℕ) (n : ℕ) → variable_named model name ≡ Some n
      → IsSome (group_of model n)
  named_stands name n e =
      let at = variable_of_name name n e in
      group_found n model.groups
      ∙ one_passes (λ v. v.number == n) (variables model) at.0 at.1
      (eq-eqb at.0.number n at.2)

  -- a plain function of a name is on a variable that stands
  pub address_stands : (name : List ℕ) (n m : ℕ) → variable_named model name ≡ Some n
      → address_eq (variable_address m) (address_named model name) ≡ true
      → IsSome (group_of model m)
  address_stands name n m e same =
      let is : variable_address m ≡ variable_address n = (address_eq-Decides (variable_address m)
      (address_named model name)).0 same ∙ address_found name n e in
      let number : m ≡ n = ap (λ a. a.number) is in
      subst (λ k. IsSome (group_of model k)) (sym number) (named_stands name n e)

  -- it is in the group that its number finds
  pub variable_located : (name : List ℕ) (n : ℕ) (group : Group) → IsConsistent model
      → variable_named model name ≡ Some n → group_of model n ≡ Some group
      → (var : GroupVar) × IsVariableOf model n name group var
  variable_located name n group c e found =
      let at = variable_of_name name n e in
      let any = Any-from_list_any (λ v. v.number == n) group.vars
      (found_passes (has_variable n) model.groups group found) in
      let there : Contains group.vars any.1 = (any.0, any.2, any.3) in
      let number : any.1.number ≡ n = eqb-true any.1.number n any.4 in
      let stands = stands_in_joined (λ g. g.vars) model.groups group any.1
      (found_stands (has_variable n) model.groups group found) there in
      let same : Some any.1 ≡ Some at.0 = sym (subst
      (λ k. numbered.find variable_number k (variables model) ≡ Some any.1) number
      (stands_found variable_number (variables model) any.1 c.variables_rise stands))
      ∙ subst (λ k. numbered.find variable_number k (variables model) ≡ Some at.0) at.2
      (stands_found variable_number (variables model) at.0 c.variables_rise at.1) in
      let is : any.1 ≡ at.0 = same_Some any.1 at.0 same in (
        any.1,
        record {
          found = found;
          by_number = group_by_number n group c found;
          there = there;
          number = number;
          named = ap (λ v. v.name) is ∙ at.3;
        },
      )

  -- the variable that a name finds, in the group that its number finds
  pub variable_found : (name : List ℕ) (n : ℕ) → IsConsistent model
      → variable_named model name ≡ Some n
      → (group : Group) × ((var : GroupVar) × IsVariableOf model n name group var)
  variable_found name n c e =
      let there = something (group_of model n) (named_stands name n e) in
      (there.0, variable_located name n there.0 c e there.1)
