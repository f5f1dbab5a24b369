-- Whose an address is.
use Rattle.std.specs.Prelude.{◌≡◌, Some}
use Rattle.address_laws.specs.Keys.{Mine}
use Rattle.aff_core.specs.Address.{Address}
use Rattle.fresh_bridging.specs.Touched.{item_at}
use Rattle.item_core.specs.declared.item.Item.{Item}
use Rattle.user_model.specs.Model.{ModelValue}

-- the user's item at the first address has the second in its region: it is at or below the item's,
-- or the item is a group, and it is a variable of that
pub record IsOwner (model : ModelValue) (v at : Address) : Type 0 where
  pub item : Item
  pub is : item_at model at ≡ Some item
  pub mine : Mine item v
