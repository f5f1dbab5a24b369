-- A solver's model under other addresses in the same order.
use Rattle.std.specs.Prelude.{◌≡◌, List, [], ◌∷◌, ◌++◌, flat_map, map, refl}
use Rattle.std.proofs.Common.{ap, ap₂, sym, ◌∙◌}
use Rattle.std.proofs.lemmas.List.{map-append}
use Rattle.std.specs.FinMap as finite
use Rattle.aff_core.specs.Address.{Address, address_cmp, address_total}
use Rattle.fresh_bridging.specs.Leaves.{leaf_model_of, leaf_objectives, leaf_rows, leaf_variable, leaf_variables}
use Rattle.item_core.specs.declared.item.Body.{Body}
use Rattle.item_core.specs.declared.item.Body.TheVariants.{Group, Free}
use Rattle.item_core.specs.declared.item.Item.{Item}
use Rattle.leaf_model.specs.LeafModel.{LeafModel}
use Rattle.solver_store.specs.declared.leaf.LeafVar.TheVariants as leaf
use Rattle.renumbering_laws.specs.RenamedItems.{IsRenaming, map_either, renamed_body, renamed_item}
use Rattle.renumbering_laws.specs.RenamedMaps.{made-moved, moved_entries, renamed_entries}

pub flat_map_either : {A B C D : Type 0} (h : A → List C) (k : B → List D) (f : A → B) (g : C → D)
    → ((x : A) → k (f x) ≡ map g (h x)) → (xs : List A)
    → flat_map k (map f xs) ≡ map g (flat_map h xs)
flat_map_either h k f g same [] = refl
flat_map_either h k f g same (x ∷ xs) =
    ap₂ (λ a b. a ++ b) (same x) (flat_map_either h k f g same xs)
    ∙ sym (map-append g (h x) (flat_map h xs))

-- the same leaves, at the new addresses
pub record AreRenamedLeaves (σ : Address → Address) (one other : LeafModel) : Type 0 where
  pub variables : finite.entries other.variables ≡ renamed_entries σ (finite.entries one.variables)
  pub rows : finite.entries other.rows
      ≡ moved_entries σ (renamed_body σ) (finite.entries one.rows)
  pub objective : finite.entries other.objective
      ≡ moved_entries σ (renamed_body σ) (finite.entries one.objective)

module _ (σ : Address → Address) where
  variables_of_leaf : (at : Address) (b : Body)
      → leaf_variables (record { at = σ at; body = renamed_body σ b })
      ≡ renamed_entries σ (leaf_variables (record { at = at; body = b }))
  variables_of_leaf at (Group set vars) =
      map_either σ (λ v. (v, leaf_variable set)) (λ v. (v, leaf_variable set))
      (λ e. (σ e.0, e.1)) (λ v. refl) vars
  variables_of_leaf at (Free vars) =
      map_either σ (λ v. (v, leaf.Free)) (λ v. (v, leaf.Free)) (λ e. (σ e.0, e.1)) (λ v. refl) vars
  variables_of_leaf at _ = refl

  rows_of_leaf : (at : Address) (b : Body)
      → leaf_rows (record { at = σ at; body = renamed_body σ b })
      ≡ moved_entries σ (renamed_body σ) (leaf_rows (record { at = at; body = b }))
  rows_of_leaf at (Group set vars) = refl
  rows_of_leaf at _ = refl

  objectives_of_leaf : (at : Address) (b : Body)
      → leaf_objectives (record { at = σ at; body = renamed_body σ b })
      ≡ moved_entries σ (renamed_body σ) (leaf_objectives (record { at = at; body = b }))
  objectives_of_leaf at (Group set vars) = refl
  objectives_of_leaf at _ = refl

  pub leaves-renamed : IsRenaming σ → (items : List Item)
      → AreRenamedLeaves σ (leaf_model_of items) (leaf_model_of (map (renamed_item σ) items))
  leaves-renamed r items = record {
    variables = ap (λ es. finite.entries (finite.from_entries {R = address_cmp} es))
        (flat_map_either leaf_variables leaf_variables (renamed_item σ) (λ e. (σ e.0, e.1))
        (λ item. variables_of_leaf item.at item.body) items)
        ∙ made-moved address_cmp σ r.order (λ x. x) address_total (flat_map leaf_variables items);
    rows = ap (λ es. finite.entries (finite.from_entries {R = address_cmp} es))
        (flat_map_either leaf_rows leaf_rows (renamed_item σ) (λ e. (σ e.0, renamed_body σ e.1))
        (λ item. rows_of_leaf item.at item.body) items)
        ∙ made-moved address_cmp σ r.order (renamed_body σ) address_total
        (flat_map leaf_rows items);
    objective = ap (λ es. finite.entries (finite.from_entries {R = address_cmp} es))
        (flat_map_either leaf_objectives leaf_objectives (renamed_item σ)
        (λ e. (σ e.0, renamed_body σ e.1))
        (λ item. objectives_of_leaf item.at item.body) items)
        ∙ made-moved address_cmp σ r.order (renamed_body σ) address_total
        (flat_map leaf_objectives items);
  }
