-- What is planned of found items by themselves is what the new bridging holds of them.
use Rattle.std.specs.Prelude.{◌≡◌, not, cond, List, [], ◌∷◌, ◌++◌, All, find, map, Option, Some, None, refl}
use Rattle.std.proofs.Common.{ap₂}
use Rattle.std.specs.Option.{option_map_or}
use Rattle.std.proofs.lemmas.List.Elements.{All-head, All-tail}
use Rattle.aff_core.specs.Address.{Address}
use Rattle.bridge_plan.specs.Trees.{within_bridged}
use Rattle.bridge_plan.specs.Worked.{IsItemWithinLevels, worked, worked_each, worked_in}
use Rattle.expansion.specs.Grown.{Held, put_held}
use Rattle.fresh_bridging.specs.Entries.{Entry, put_in}
use Rattle.fresh_bridging.specs.FreshBridging.{FreshBridging}
use Rattle.fresh_bridging.specs.ModelImage.{model_image}
use Rattle.fresh_bridging.specs.TheRules.{Setting, rules_by}
use Rattle.item_core.specs.declared.item.Item.{Item}
use Rattle.local_laws.specs.Held.{fit, fits_at, held_of, is_there}
use Rattle.local_laws.specs.PlannedLaws.{group_planned, other_planned}
use Rattle.local_laws.specs.Stays.{AgreeOn}
use Rattle.model_bridging.specs.ModelHeld.{unfit, unfit_put}
use Rattle.push_laws.specs.HeldAllLaws.{leaves_held, nodes_held}
use Rattle.user_model.specs.Model.{ModelValue}
use Rattle.item_core.specs.Kind.{kind_count}

abbrev pub addresses_of : List Item → List Address
addresses_of items = map (λ i. i.at) items

module _ {setting : Setting} {model : ModelValue} (bridging : FreshBridging setting model) where
  -- a group of the model, worked out to its leaves
  pub record IsGroupOf (g : Item) : Type 0 where
    pub stands : find (is_there g.at) (model_image model).groups ≡ Some g
    pub within : IsItemWithinLevels bridging.choice kind_count g

  -- a row or the objective, with entries that stand for the variables that it names
  pub record IsOtherOf (es : List Entry) (c : Item) : Type 0 where
    pub no_group : find (is_there c.at) (model_image model).groups ≡ None
    pub stands : find (is_there c.at) (model_image model).others ≡ Some c
    pub agrees : AgreeOn es bridging.made.entries c.body
    pub within : IsItemWithinLevels bridging.choice kind_count (put_in es c)

  group_held : (g : Item) → IsGroupOf g
      → held_of bridging g.at ≡ Some (worked bridging.choice kind_count g)
  group_held g h =
      group_planned bridging g.at g (worked bridging.choice kind_count g) h.stands
      (within_bridged bridging.choice kind_count g h.within)

  other_held : (es : List Entry) (c : Item) → IsOtherOf es c
      → held_of bridging c.at
      ≡ Some (put_held (rules_by bridging.choice) es c (worked bridging.choice kind_count (put_in es c)))
  other_held es c h =
      other_planned bridging c.at c (worked bridging.choice kind_count (put_in es c)) h.no_group h.stands
      es h.agrees (within_bridged bridging.choice kind_count (put_in es c) h.within)

  -- ---- leaves and nodes

  pub groups_leaves : (gs : List Item) → All IsGroupOf gs
      → leaves_held bridging (addresses_of gs)
      ≡ (worked_each bridging.choice (worked bridging.choice kind_count) gs).leaves
  unfolding worked_each
  groups_leaves [] h = refl
  groups_leaves (g ∷ gs) h =
      ap₂ (λ (o : Option (Held Item Entry)) l. option_map_or (λ h. h.leaves) o [] ++ l)
      (group_held g (All-head IsGroupOf g gs h)) (groups_leaves gs (All-tail IsGroupOf g gs h))

  pub groups_nodes : (gs : List Item) → All IsGroupOf gs
      → nodes_held bridging (addresses_of gs)
      ≡ (worked_each bridging.choice (worked bridging.choice kind_count) gs).nodes
  unfolding worked_each
  groups_nodes [] h = refl
  groups_nodes (g ∷ gs) h =
      ap₂ (λ (o : Option (Held Item Entry)) l. option_map_or (λ h. h.nodes) o [] ++ l)
      (group_held g (All-head IsGroupOf g gs h)) (groups_nodes gs (All-tail IsGroupOf g gs h))

  module _ (es : List Entry) where
    pub others_leaves : (cs : List Item) → All (IsOtherOf es) cs
        → leaves_held bridging (addresses_of cs)
        ≡ (worked_in bridging.choice (worked bridging.choice kind_count) es cs).leaves
    unfolding worked_in
    others_leaves [] h = refl
    others_leaves (c ∷ cs) h =
        ap₂ (λ (o : Option (Held Item Entry)) l. option_map_or (λ h. h.leaves) o [] ++ l)
        (other_held es c (All-head (IsOtherOf es) c cs h))
        (others_leaves cs (All-tail (IsOtherOf es) c cs h))

    pub others_nodes : (cs : List Item) → All (IsOtherOf es) cs
        → nodes_held bridging (addresses_of cs)
        ≡ (worked_in bridging.choice (worked bridging.choice kind_count) es cs).nodes
    unfolding worked_in
    others_nodes [] h = refl
    others_nodes (c ∷ cs) h =
        ap₂ (λ (o : Option (Held Item Entry)) l. option_map_or (λ h. h.nodes) o [] ++ l)
        (other_held es c (All-head (IsOtherOf es) c cs h))
        (others_nodes cs (All-tail (IsOtherOf es) c cs h))

  -- ---- the first that doesn't fit

  pub groups_unfit : (gs : List Item) → All IsGroupOf gs
      → find (λ i. not (fits_at bridging i.at)) gs ≡ unfit bridging.choice kind_count gs
  groups_unfit [] h = refl
  groups_unfit (g ∷ gs) h =
      ap₂ (λ (o : Option (Held Item Entry)) r. cond (not (fit o)) (Some g) r)
      (group_held g (All-head IsGroupOf g gs h)) (groups_unfit gs (All-tail IsGroupOf g gs h))

  pub others_unfit : (es : List Entry) (cs : List Item) → All (IsOtherOf es) cs
      → find (λ i. not (fits_at bridging i.at)) cs ≡ unfit_put bridging.choice kind_count es cs
  others_unfit es [] h = refl
  others_unfit es (c ∷ cs) h =
      ap₂ (λ (o : Option (Held Item Entry)) r. cond (not (fit o)) (Some c) r)
      (other_held es c (All-head (IsOtherOf es) c cs h))
      (others_unfit es cs (All-tail (IsOtherOf es) c cs h))
