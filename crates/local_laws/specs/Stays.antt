-- A user's item that a change leaves as it is.
--     AgreeOn      two lists of entries have the same for each variable that a body names
--     StaysAt      the item at an address, the choices below it and what stands for the variables
--                  that it names are the same before and after
use Rattle.std.specs.Prelude.{◌≡◌, false, List, Some}
use Rattle.aff_core.specs.Address.{Address}
use Rattle.bridge_face.specs.Law.{Miss}
use Rattle.fresh_bridging.specs.Entries.{Entry, expression_in}
use Rattle.fresh_bridging.specs.FreshBridging.{FreshBridging}
use Rattle.fresh_bridging.specs.TheRules.{Setting}
use Rattle.fresh_bridging.specs.Touched.{ChoosesAlike, item_at}
use Rattle.item_core.specs.Item.{functions_of, is_group}
use Rattle.item_core.specs.declared.item.Body.{Body}
use Rattle.item_core.specs.declared.item.Item.{Item}
use Rattle.user_model.specs.Model.{ModelValue}

module _ (es fs : List Entry) where
  abbrev pub AgreeAt : Address → Type 0
  AgreeAt v = expression_in es v ≡ expression_in fs v

  -- on the variables that the body names
  abbrev pub AgreeOn : Body → Type 0
  AgreeOn body = (v : Address) → ¬ (Miss (functions_of body) v) → AgreeAt v

module _ {setting next : Setting} {model after : ModelValue}
    (old : FreshBridging setting model) (new : FreshBridging next after) where
  -- the same item stands there, the choices below it are the same, and so is what stands for each
  -- variable that it names, where it is no group
  pub record StaysAt (at : Address) : Type 0 where
    pub same : item_at model at ≡ item_at after at
    pub alike : ChoosesAlike old new at
    pub agree :
        (item : Item) → item_at model at ≡ Some item → is_group item.body ≡ false
        → AgreeOn old.made.entries new.made.entries item.body
