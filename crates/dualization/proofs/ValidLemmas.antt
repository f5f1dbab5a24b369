-- What a valid model has for its dual: sets of the right size, variables apart, and no more items
-- than a name can count.
use Rattle.std.specs.Prelude.{◌≡◌, ℕ, ◌+◌, ◌<◌, ◌≤◌, ◌^◌, Bool, true, false, cond, List, [], ◌∷◌, All, length, refl}
use Rattle.std.specs.List.{IsDistinct}
use Rattle.std.proofs.Common.{sym, ◌∙◌, ap₂, arith, subst}
use Rattle.std.proofs.lemmas.List.{length-append, length-map}
use Rattle.std.proofs.lemmas.List.Elements.{All-head, All-tail, All-weaker}
use Rattle.aff_core.specs.Address.{Address, address_eq}
use Rattle.aff_core.specs.Function.{coefficient}
use Rattle.aff_core.specs.FunctionLists.{coefficients}
use Rattle.set_core.specs.Shapes.{IsSetOf, is_norm_cone}
use Rattle.user_model.specs.declared.group.Group.{Group}
use Rattle.user_model.specs.declared.row.Row.{Row}
use Rattle.user_model.specs.Model.{ModelValue}
use Rattle.user_model.specs.Valid.{IsValid, IsValidGroup, IsValidRow}
use Rattle.certificates.specs.Points.{address_of, all_addresses, functions_of, variables_of}
use Rattle.certificates.specs.DualPointLaws.{component_count}
use Rattle.dual_parts.specs.PartLaws.{length-on_parts}
use Rattle.dual_parts.specs.Parts.{on_parts}
use Rattle.dual_model.specs.DualOf.{column_in, row_size}
use Rattle.dual_model.specs.GroupRowLaws.{HasGroupSetOf}
use Rattle.dual_model.specs.PlaceLaws.{rising_apart}
use Rattle.dual_model.specs.RowPartLaws.{HasSetOf, total_parts}
use Rattle.user_model.specs.Model.{variables}

valid_row : (groups : List Group) (r : Row) → IsValidRow groups r → HasSetOf r
valid_row groups r h = subst (λ n. IsSetOf n r.set) (sym (component_count r.func)) h.set

valid_group : (g : Group) → IsValidGroup g → HasGroupSetOf g
valid_group g h = subst (λ n. IsSetOf n g.set) (sym (length-map g.vars address_of)) h.set

pub length-column : (rows : List Row) (v : Address) → All HasSetOf rows
    → length (column_in rows v) ≡ total_parts rows
length-column [] v sets = refl
length-column (r ∷ rows) v sets =
    length-append (on_parts r.set (coefficients (functions_of r.func) v)) (column_in rows v)
    ∙ ap₂ ◌+◌ (length-on_parts (row_size r) r.set (coefficients (functions_of r.func) v)
    (All-head HasSetOf r rows sets) (length-map (functions_of r.func) (λ f. coefficient f v)))
    (length-column rows v (All-tail HasSetOf r rows sets))

one_at_least : (b : Bool) (n : ℕ) → cond b 2 1 ≤ n → 1 ≤ n
one_at_least true n h = omega (arith, h)
one_at_least false n h = h

-- each group has a variable
no_more_groups : (gs : List Group) → All IsValidGroup gs → length gs ≤ length (variables_of gs)
no_more_groups [] h = omega arith
no_more_groups (g ∷ gs) h =
    let one = one_at_least (is_norm_cone g.set) (length g.vars)
    (All-head IsValidGroup g gs h).set.enough in
    let more = no_more_groups gs (All-tail IsValidGroup g gs h) in
    omega (arith, one, more, length-append g.vars (variables_of gs))

module _ (model : ModelValue) (valid : IsValid model) where
  pub few_rows : length model.rows < 2 ^ 63
  few_rows = omega (arith, valid.within.rows)

  pub few_groups : length model.groups < 2 ^ 63
  few_groups =
      omega (arith, valid.within.variables, no_more_groups model.groups valid.parts.valid_groups)

  pub row_sets : All HasSetOf model.rows
  row_sets = All-weaker (IsValidRow model.groups) HasSetOf (valid_row model.groups) model.rows
      valid.parts.valid_rows

  pub group_sets : All HasGroupSetOf model.groups
  group_sets = All-weaker IsValidGroup HasGroupSetOf valid_group model.groups
      valid.parts.valid_groups

  pub variables_apart : IsDistinct address_eq (all_addresses model.groups)
  variables_apart = rising_apart (variables model) valid.consistent.variables_rise
