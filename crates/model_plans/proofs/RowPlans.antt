-- Plans of the edits of one row.
use Rattle.std.proofs.Common.{◌≡◌, ◌≢◌, ℕ, zero, suc, add-one, ◌+◌, ◌-◌, ◌≤◌, false, List, [], ◌∷◌, ◌++◌, Some, None, refl, sym, ap, subst, ◌∙◌, take, drop}
use Rattle.std.specs.Prelude.{slice_get}
use Rattle.std.proofs.lemmas.List.Elements.{All-contains}
use Rattle.std.proofs.lemmas.Option.{none-some}
use Rattle.numbered_list.specs.Laws.{find-none_below}
use Rattle.aff_core.specs.Function.{Function}
use Rattle.set_core.specs.declared.set.Set.{Set}
use Rattle.user_model.specs.declared.edit.Edit.TheVariants as edit
use Rattle.user_model.specs.declared.edit.NamedFunc.{NamedFunc}
use Rattle.user_model.specs.declared.function.UserFunc.{UserFunc}
use Rattle.user_model.specs.declared.function.UserFunc.TheVariants.{Affine, AffineVec}
use Rattle.user_model.specs.declared.row.Row.{Row}
use Rattle.user_model.specs.Model.{ModelValue, row_named}
use Rattle.user_model.specs.Edited.{add_row, change_function, change_row, changed_at, delete_row, edited, on_affine, on_output, row_number}
use Rattle.user_model.specs.Consistent.{IsConsistent}
use Rattle.user_model.specs.Limits.{LAST_NUMBER}
use Rattle.user_model.specs.Refusals.{has_row_named}
use Rattle.model_laws.specs.Changed.{delete_row-found}
use Rattle.model_laws.specs.Found.{found_stands}
use Rattle.model_laws.specs.KeptWithin.{kept_within}
use Rattle.model_laws.specs.ItemChanges.{set_all_last, set_to}
use Rattle.model_laws.specs.Located.{free_row, row_by_number}
use Rattle.model_laws.specs.Shapes.{affine_row_other, affine_row_same, output_row_other, output_row_same, row_name_other, row_set_other, row_set_same}
use Rattle.model_plans.specs.declared.plan.EditPlan.{EditPlan}
use Rattle.model_catalog.specs.Names.{listed_as}
use Rattle.model_catalog.specs.Named.{row_name}
use Rattle.numbered_list.specs.Numbered.{find}
use Rattle.std.specs.Option.{option_map}
use Rattle.model_plans.specs.Plans.{Accepts, HasParts, LeadsToTarget}
use Rattle.model_plans.proofs.NamesListed.{one_renamed, row_listed}
use Rattle.model_plans.proofs.Leading.{leads_changed_row, leads_renamed_row, leads_row, leads_same_row}

-- the next number of rows fits
pub next_row : (model : ModelValue) (name : List ℕ) (func : NamedFunc) (set : Set)
    → Accepts model (edit.AddRow name func set) → model.next.row + 1 ≤ LAST_NUMBER + 1
unfolding edited
next_row model name func set h =
    (kept_within model (edit.AddRow name func set) h.consistent h.within h.accepted).row_numbers

-- ---- the plans

-- a list with the item at a place changed
pub changed_split : {X : Type 0} (i : ℕ) (h : X → X) (xs : List X) (x : X) → slice_get xs i ≡ Some x
    → changed_at i h xs ≡ take i xs ++ (h x ∷ drop (i + 1) xs)
changed_split i h xs x e = rw add-one (from i xs e)
  where
    from : (i : ℕ) (ys : List _) → slice_get ys i ≡ Some x
        → changed_at i h ys ≡ take i ys ++ (h x ∷ drop (suc i) ys)
    from i [] is = cc
    from zero (y ∷ ys) is = let same : y ≡ x = cc in ap (λ z. h z ∷ ys) same
    from (suc i) (y ∷ ys) is = ap (λ zs. y ∷ zs) (from i ys is)

module _ (model : ModelValue) (plan : EditPlan) (c : IsConsistent model) (name : List ℕ) (row : Row)
    (found : row_named model name ≡ Some row) where
  abbrev IsUnchanged : Type 0
  IsUnchanged = HasParts plan [] [] None model.next [] []

  abbrev IsChangedTo : Row → Type 0
  IsChangedTo new = HasParts plan [] (set_to row_number new ∷ []) None model.next [] []

  pub scalar_same : (g : Function → Function) (func : Function) → row.func ≡ Affine func
      → g func ≡ func → IsUnchanged
      → LeadsToTarget model (change_function model name (on_affine g)) plan
  scalar_same g func is e p =
      leads_same_row model plan c name (λ r. record r { func = on_affine g r.func }) row found
      (affine_row_same g row func is e) p

  pub scalar_new : (g : Function → Function) (func f : Function) → row.func ≡ Affine func
      → f ≡ g func → f ≢ func → IsChangedTo (record row { func = Affine f }) → LeadsToTarget model
      (change_function model name (on_affine g)) plan
  scalar_new g func f is e ne p =
      leads_changed_row model plan c name (λ r. record r { func = on_affine g r.func }) row found
      refl (affine_row_other g row func is (λ same. ne (e ∙ same))) refl
      (subst (λ h. IsChangedTo (record row { func = h })) (ap Affine e
      ∙ sym (ap (on_affine g) is)) p)

  pub vector_same : (output : ℕ) (g : Function → Function) (funcs : List Function) (func : Function)
      → row.func ≡ AffineVec funcs → slice_get funcs (output - 1) ≡ Some func → g func ≡ func
      → IsUnchanged → LeadsToTarget model (change_function model name (on_output output g)) plan
  vector_same output g funcs func is at e p =
      leads_same_row model plan c name (λ r. record r { func = on_output output g r.func }) row
      found (output_row_same g output row funcs func is at e) p

  pub vector_new : (output : ℕ) (g : Function → Function) (funcs : List Function)
      (func f : Function) (fs : List Function) → row.func ≡ AffineVec funcs
      → slice_get funcs (output - 1) ≡ Some func → f ≡ g func → f ≢ func
      → fs ≡ take (output - 1) funcs ++ (f ∷ drop (output - 1 + 1) funcs)
      → IsChangedTo (record row { func = AffineVec fs }) → LeadsToTarget model (change_function model name
      (on_output output g)) plan
  vector_new output g funcs func f fs is at e ne made p =
      let split = changed_split (output - 1) g funcs func at in
      let all : fs ≡ changed_at (output - 1) g funcs =
      made ∙ (ap (λ h. take (output - 1) funcs ++ (h ∷ drop (output - 1 + 1) funcs)) e
      ∙ sym split) in
      leads_changed_row model plan c name (λ r. record r { func = on_output output g r.func }) row
      found refl (output_row_other g output row funcs func is at (λ same. ne (e ∙ same))) refl
      (subst (λ h. IsChangedTo (record row { func = h })) (ap AffineVec all
      ∙ sym (ap (on_output output g) is)) p)

  pub set_same : (set : Set) → row.set ≡ set → IsUnchanged
      → LeadsToTarget model (change_row model name (λ r. record r { set = set })) plan
  set_same set e p =
      leads_same_row model plan c name (λ r. record r { set = set }) row found
      (row_set_same row set e) p

  pub set_new : (set : Set) → row.set ≢ set
      → IsChangedTo (record row { set = set }) → LeadsToTarget model (change_row model name
      (λ r. record r { set = set })) plan
  set_new set ne p =
      leads_changed_row model plan c name (λ r. record r { set = set }) row found refl
      (row_set_other row set ne) refl p

  pub renamed_leads : (new : List ℕ) → has_row_named model new ≡ false
      → HasParts plan [] (set_to row_number (record row { name = new }) ∷ []) None model.next []
      (listed_as row.id (Some new) ∷ [])
      → LeadsToTarget model (change_row model name (λ r. record r { name = new })) plan
  renamed_leads new free p =
      let other : row.name ≢ new = All-contains (λ r. r.name ≢ new) model.rows row (free_row model
      new free) (found_stands _ model.rows row found) in
      leads_renamed_row model plan c name (λ r. record r { name = new }) row found refl
      (row_name_other row new other) (listed_as row.id (Some new)) refl refl other p

  pub deleted_leads : HasParts plan [] (record { number = row.id; content = None } ∷ []) None
      model.next [] (listed_as row.id None ∷ []) → LeadsToTarget model (delete_row model name) plan
  deleted_leads p =
      let there = row_by_number model name row c found in
      subst (λ after. LeadsToTarget model after plan) (sym (delete_row-found model name row found))
      (leads_row model plan row.id None model.next (listed_as row.id None ∷ []) p tt
      (λ same. none-some row (sym same ∙ there)) (row_listed (listed_as row.id None) row.id None
      model.rows tt refl refl) (one_renamed (row_name model) (listed_as row.id None)
      (λ same. none-some row.name (sym same ∙ ap (option_map (λ r. r.name)) there))))

pub added_leads : (model : ModelValue) (plan : EditPlan) (name : List ℕ) (func : UserFunc) (set : Set)
    → IsConsistent model → HasParts plan [] (record {
      number = model.next.row;
      content = Some (record { id = model.next.row; name = name; func = func; set = set });
    } ∷ [])
    None (record model.next { row = model.next.row + 1 }) [] (listed_as model.next.row
    (Some name) ∷ []) → LeadsToTarget model (add_row model name func set) plan
added_leads model plan name func set c p =
    let row : Row = record { id = model.next.row; name = name; func = func; set = set } in
    let free : find row_number model.next.row model.rows ≡ None =
    find-none_below row_number model.next.row model.rows c.given_rows in
    subst (λ rows. LeadsToTarget model (record model {
      rows = rows;
      next = record model.next { row = model.next.row + 1 };
    }) plan)
    (set_all_last row_number row model.rows c.given_rows)
    (leads_row model plan model.next.row (Some row)
    (record model.next { row = model.next.row + 1 }) (listed_as model.next.row (Some name) ∷ [])
    p refl (λ same. none-some row (sym free ∙ same))
    (row_listed (listed_as model.next.row (Some name)) model.next.row (Some row) model.rows refl
    refl refl) (one_renamed (row_name model) (listed_as model.next.row (Some name))
    (λ same. none-some name (sym (ap (option_map (λ r. r.name)) free) ∙ same))))
