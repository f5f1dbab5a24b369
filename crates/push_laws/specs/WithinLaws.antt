-- Found items stand within as many levels as there are kinds.
use Rattle.std.specs.Prelude.{ℕ, Bool, List, All, filter}
use Rattle.std.proofs.Common.{sym, subst}
use Rattle.std.proofs.lemmas.List.Elements.{All-filter, All-weaker}
use Rattle.bridge_graph.specs.declared.Choice.{Choice}
use Rattle.bridge_plan.specs.Worked.{IsItemWithinLevels}
use Rattle.fresh_bridging.specs.Entries.{Entry, put_in}
use Rattle.fresh_bridging.specs.ExistenceLaws.{trees_of_bridged}
use Rattle.fresh_bridging.specs.FreshBridging.{FreshBridging, HasTree}
use Rattle.fresh_bridging.specs.ModelImage.{model_image}
use Rattle.fresh_bridging.specs.TheRules.{AreChoices, Setting, graph_of}
use Rattle.item_core.specs.declared.item.Item.{Item}
use Rattle.local_laws.specs.AgreeingLaws.{put_in_agreeing}
use Rattle.local_laws.specs.Sound.{IsValidUnder}
use Rattle.local_laws.specs.Stays.{AgreeOn}
use Rattle.map_laws.specs.EachLaws.{all_both}
use Rattle.model_bridging.specs.Levels.{groups_within, others_within}
use Rattle.user_model.specs.Model.{ModelValue}
use Rattle.item_core.specs.Kind.{kind_count}

module _ {setting : Setting} {model : ModelValue} (sound : IsValidUnder setting model)
    (keep : Item → Bool) where
  -- groups, where each has a tree
  pub found_groups_within : (choice : ℕ → Choice) → AreChoices setting choice
      → All (HasTree (graph_of setting)) (model_image model).groups
      → All (IsItemWithinLevels choice kind_count) (filter keep (model_image model).groups)
  found_groups_within choice chosen trees =
      All-filter keep (IsItemWithinLevels choice kind_count) (model_image model).groups
      (groups_within setting sound.costly choice chosen sound.lawful model sound.valid trees)

  module _ (bridging : FreshBridging setting model) where
    pub bridged_groups_within :
        All (IsItemWithinLevels bridging.choice kind_count) (filter keep (model_image model).groups)
    bridged_groups_within =
        found_groups_within bridging.choice bridging.chosen
        (trees_of_bridged setting sound.costly bridging.choice bridging.chosen sound.lawful
        (model_image model) bridging.made).0

    -- rows and the objective, with entries that stand for the variables that they name
    pub bridged_others_within : (es : List Entry)
        → All (λ c. AgreeOn es bridging.made.entries c.body)
        (filter keep (model_image model).others)
        → All (λ c. IsItemWithinLevels bridging.choice kind_count (put_in es c))
        (filter keep (model_image model).others)
    bridged_others_within es agree =
        let Agrees : Item → Type 0 = λ c. AgreeOn es bridging.made.entries c.body in
        let Within : Item → Type 0 =
        λ c. IsItemWithinLevels bridging.choice kind_count (put_in bridging.made.entries c) in
        All-weaker (λ c. Agrees c × Within c)
        (λ c. IsItemWithinLevels bridging.choice kind_count (put_in es c))
        (λ c h. subst (IsItemWithinLevels bridging.choice kind_count)
        (sym (put_in_agreeing es bridging.made.entries c h.0)) h.1)
        (filter keep (model_image model).others)
        (all_both Agrees Within (filter keep (model_image model).others) agree
        (All-filter keep Within (model_image model).others
        (others_within setting sound.costly bridging.choice bridging.chosen sound.lawful model
        sound.valid bridging.made.entries bridging.made.groups
        (trees_of_bridged setting sound.costly bridging.choice bridging.chosen sound.lawful
        (model_image model) bridging.made).1)))
