-- Where the objective of the solver's model is read. It has no index, so its address is found from
-- the bridges: from the root of the user's objective, as long as a bridge keeps an item at the address,
-- on to the child objective that its edge makes of the item.
use Rattle.std.specs.Prelude.{◌≡◌, List, Some, None}
use Rattle.aff_core.specs.Address.{Address}
use Rattle.bridge_face.specs.ImageOf.{image_of}
use Rattle.bridge_face.specs.BridgeState.{BridgeState}
use Rattle.bridge_face.specs.declared.kept_item.KeptItem.{KeptItem}
use Rattle.bridge_set.specs.Bridges.{kept_first}
use Rattle.item_core.specs.declared.item.Item.{Item}

-- the bridges lead from the first address to the second, at which none keeps an item
pub data BridgesLeadTo (states : List BridgeState) : Address → Address → Type 0 where
  ends : {at : Address} → kept_first states at ≡ None → BridgesLeadTo states at at
  on : {at place : Address} (k : KeptItem) (child : Item) → kept_first states at ≡ Some k
      → (image_of k.edge k.item).objective ≡ Some child → BridgesLeadTo states child.at place
      → BridgesLeadTo states at place
