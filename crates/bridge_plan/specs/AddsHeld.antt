-- What is added to a plan.
use Rattle.std.specs.Prelude.{◌≡◌, ℕ, List, ◌++◌, map}
use Rattle.expansion.specs.Grown.{Held}
use Rattle.item_core.specs.declared.item.Item.{Item}
use Rattle.bridge_face.specs.declared.kept_item.KeptItem.{KeptItem}
use Rattle.fresh_bridging.specs.Entries.{Entry}
use Rattle.fresh_bridging.specs.TheRules.{edge_at}
use Rattle.bridge_plan.specs.declared.plan.Plan.{Plan}

-- a node as the bridges keep it
abbrev pub kept_of : ℕ × Item → KeptItem
kept_of node = record { edge = edge_at node.0; item = node.1 }

-- the plan and the entries have more of what is held
pub record AddsHeld
    (plan after : Plan) (es fs : List Entry) (held : Held Item Entry) : Type 0 where
  pub leaves : after.leaves.items ≡ plan.leaves.items ++ held.leaves
  pub nodes : after.nodes.items ≡ plan.nodes.items ++ map kept_of held.nodes
  pub entries : fs ≡ es ++ held.entries
