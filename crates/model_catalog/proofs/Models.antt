-- What the look-ups rest on: groups, bounds and names of a model, by what is kept of it.
use Rattle.std.proofs.Common.{◌≡◌, ℕ, ◌&&◌, ◌==◌, nat_lt, Bool, true, false, List, length, Option, Some, None, refl, sym, ap, ◌∙◌, arith}
use Rattle.std.specs.Prelude.{IsSome, is_some, count_by, slice_index_or}
use Rattle.std.specs.List.{list_any}
use Rattle.std.specs.Option.{option_map, option_and_then}
use Rattle.std.specs.FinMap.{get}
use Rattle.std.proofs.lemmas.Bool.Decides.{nat_tests}
use Rattle.std.proofs.lemmas.List.{length-map}
use Rattle.std.proofs.lemmas.List.Folds.{list_any_none}
use Rattle.std.proofs.lemmas.Option.{none-some, same_Some}
use Rattle.name_index.specs.NameTable.{NumbersByName}
use Rattle.numbered_list.specs.Numbered.{find}
use Rattle.numbered_list.specs.Laws.{find-at}
use Rattle.user_model.specs.declared.group.Group.{Group}
use Rattle.user_model.specs.declared.group.GroupVar.{GroupVar}
use Rattle.user_model.specs.declared.row.Row.{Row}
use Rattle.user_model.specs.Edited.{group_number, row_number}
use Rattle.user_model.specs.Consistent as consistent
use Rattle.user_model.specs.Consistent.{IsConsistent}
use Rattle.user_model.specs.Model.{ModelValue, bounds_above, bounds_below, group_of, has_variable, is_variable, row_named, variable_named, variables}
use Rattle.user_model.specs.Sets.{sets_lower, sets_upper}
use Rattle.model_catalog.specs.declared.variable.Variable.{Variable}
use Rattle.model_catalog.specs.Index.{IsIndexOf, group_number_of, kept_as, lower_count, upper_count, variable_number}
use Rattle.model_catalog.specs.Named.{variable_name, row_name}
use Rattle.model_catalog.specs.Kept.{HasNames}
use Rattle.model_catalog.proofs.TableNames.{get-name_of, name_of-get}
use Rattle.model_catalog.proofs.Found.{IsNumberOf, any_counted, found_by_name, same_numbers, some_found_in}
use Rattle.map_laws.specs.PlaceLaws.{place_of_found}
use Rattle.map_laws.specs.OptionLaws.{is_some-option_map, none_mapped, none_of}

-- a variable has a name exactly where it has a group
pub named_in_group : (model : ModelValue) (n : ℕ) → is_some (variable_name model n)
    ≡ is_some (group_number_of model n)
named_in_group model n =
    is_some-option_map (λ (v : GroupVar). v.name) (find consistent.variable_number n
    (variables model))
    ∙ (some_found_in (λ (g : Group). g.vars) (λ v. consistent.variable_number v == n) model.groups
    ∙ sym (is_some-option_map (λ (g : Group). g.id) (group_of model n)))

module _ {model : ModelValue} {kept : List Variable} (ok : IsConsistent model)
    (index : IsIndexOf model kept) where
  pub kept_number : (n : ℕ) → is_some (find variable_number n kept)
      ≡ is_some (group_number_of model n)
  kept_number n = ap is_some (index.entries n) ∙ is_some-option_map _ (group_number_of model n)

  -- as many are kept as there are variables
  pub kept_length : length kept ≡ length (variables model)
  kept_length =
      let numbers = same_numbers variable_number consistent.variable_number kept (variables model)
      index.rising ok.variables_rise (λ n. kept_number n ∙ (sym (named_in_group model n)
      ∙ is_some-option_map (λ (v : GroupVar). v.name) (find consistent.variable_number n
      (variables model)))) in
      sym (length-map kept variable_number) ∙ (ap length numbers
      ∙ length-map (variables model) consistent.variable_number)

  pub found_group : (n : ℕ) (g : Group) → group_of model n ≡ Some g
      → find group_number g.id model.groups ≡ Some g
  found_group n g e =
      let at = place_of_found (has_variable n) model.groups g e in
      find-at group_number model.groups at.1.0 g ok.groups_rise at.1.1

  -- the group of a variable that is kept
  pub group_of_kept : (n : ℕ) (v : Variable) → Some v ≡ find variable_number n kept
      → find group_number v.group model.groups ≡ group_of model n
  group_of_kept n v there = by_group (group_of model n) refl (there ∙ index.entries n)
    where
      by_group : (o : Option Group) → group_of model n ≡ o
          → Some v ≡ option_map (kept_as model.rows n) (option_map group_number o)
          → find group_number v.group model.groups ≡ group_of model n
      by_group None e is = absurd (none-some v (sym is))
      by_group (Some g) e is =
          let id : v.group ≡ g.id = ap (λ x. x.group) (same_Some v _ is) in
          ap (λ k. find group_number k model.groups) id ∙ (found_group n g e ∙ sym e)

  pub no_group : (n : ℕ) → find variable_number n kept ≡ None → group_of model n ≡ None
  no_group n none =
      none_mapped group_number (group_of model n) (none_of (group_number_of model n)
      (sym (kept_number n) ∙ ap is_some none))

  -- a variable that isn't kept has no bound
  no_row : (n : ℕ) (test : Row → Bool) → find variable_number n kept ≡ None
      → list_any (λ r. is_variable n r.func && test r) model.rows ≡ false
  no_row n test none =
      list_any_none (λ r. is_variable n r.func && test r) model.rows
      (λ i d lt. off (is_variable n (slice_index_or model.rows i d).func)
      (test (slice_index_or model.rows i d)) (λ e. not_there (ok.bounds n i d lt e)))
    where
      not_there : IsSome (group_of model n) → ⊥
      not_there some = let both : true ≡ false = sym some ∙ ap is_some (no_group n none) in cc

      off : (a b : Bool) → (a ≡ true → ⊥) → (a && b) ≡ false
      off true b never = absurd (never refl)
      off false b never = refl

  counts_of : (n : ℕ) (v : Variable) → Some v ≡ find variable_number n kept
      → (v.lower ≡ lower_count n model.rows) × (v.upper ≡ upper_count n model.rows)
  counts_of n v there = by_group (group_number_of model n) (there ∙ index.entries n)
    where
      by_group : (o : Option ℕ) → Some v ≡ option_map (kept_as model.rows n) o
          → (v.lower ≡ lower_count n model.rows) × (v.upper ≡ upper_count n model.rows)
      by_group None e = absurd (none-some v (sym e))
      by_group (Some id) e =
          let is = same_Some v _ e in (ap (λ x. x.lower) is, ap (λ x. x.upper) is)

  pub lower_kept : (n : ℕ) (v : Variable) → Some v ≡ find variable_number n kept
      → nat_lt 0 v.lower ≡ list_any (bounds_below n) model.rows
  lower_kept n v there =
      ap (nat_lt 0) (counts_of n v there).0 ∙ any_counted (bounds_below n) model.rows

  pub upper_kept : (n : ℕ) (v : Variable) → Some v ≡ find variable_number n kept
      → nat_lt 0 v.upper ≡ list_any (bounds_above n) model.rows
  upper_kept n v there =
      ap (nat_lt 0) (counts_of n v there).1 ∙ any_counted (bounds_above n) model.rows

  pub no_lower : (n : ℕ) → find variable_number n kept ≡ None
      → list_any (bounds_below n) model.rows ≡ false
  no_lower n none = no_row n (λ r. sets_lower r.set) none

  pub no_upper : (n : ℕ) → find variable_number n kept ≡ None
      → list_any (bounds_above n) model.rows ≡ false
  no_upper n none = no_row n (λ r. sets_upper r.set) none

  zero_count : (p : Row → Bool) → list_any p model.rows ≡ false → 0 ≡ count_by p model.rows
  zero_count p none = nothing (count_by p model.rows) (any_counted p model.rows ∙ none)
    where
      nothing : (n : ℕ) → nat_lt 0 n ≡ false → 0 ≡ n
      nothing n e = grind (arith, nat_tests)

  pub no_lower_count : (n : ℕ) → find variable_number n kept ≡ None → 0 ≡ lower_count n model.rows
  no_lower_count n none = zero_count (bounds_below n) (no_lower n none)

  pub no_upper_count : (n : ℕ) → find variable_number n kept ≡ None → 0 ≡ upper_count n model.rows
  no_upper_count n none = zero_count (bounds_above n) (no_upper n none)

-- ---- names

-- what a table answers at a name is the number of the item that has it
is_number_of : {X : Type 0} (number : X → ℕ) (name : X → List ℕ) (xs : List X) (table : NumbersByName)
    → HasNames (λ n. option_map name (find number n xs)) table → (q : List ℕ)
    → IsNumberOf number name xs q (get table q)
is_number_of number name xs table h q = record {
  has = λ n e. sym (h.names n) ∙ name_of-get table h.one_to_one n q e;
  all = λ n e. get-name_of table n q (h.names n ∙ e);
}

pub variable_looked_up : {model : ModelValue} {table : NumbersByName} → IsConsistent model
    → HasNames (variable_name model) table → (name : List ℕ)
    → get table name ≡ variable_named model name
variable_looked_up {model} {table} ok h name =
    (found_by_name consistent.variable_number (λ (v : GroupVar). v.name) (variables model) name
    (get table name) ok.variables_rise (is_number_of consistent.variable_number
    (λ (v : GroupVar). v.name) (variables model) table h name)).0

pub row_looked_up : {model : ModelValue} {table : NumbersByName} → IsConsistent model
    → HasNames (row_name model) table → (name : List ℕ) (o : Option ℕ) → o ≡ get table name
    → option_and_then (λ n. find row_number n model.rows) o ≡ row_named model name
row_looked_up {model} {table} ok h name o e =
    ap (option_and_then (λ n. find row_number n model.rows)) e
    ∙ (found_by_name row_number (λ (r : Row). r.name) model.rows name (get table name) ok.rows_rise
    (is_number_of row_number (λ (r : Row). r.name) model.rows table h name)).1
