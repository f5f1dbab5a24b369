-- Each leaf of a fresh bridging and each node of it stands at an address of its own.
use Rattle.std.specs.Prelude.{flat_map, map}
use Rattle.expansion.specs.Read.{model_leaves, model_nodes}
use Rattle.user_model.specs.Model.{ModelValue}
use Rattle.fresh_bridging.specs.FreshBridging.{FreshBridging, leaves_of, nodes_of}
use Rattle.fresh_bridging.specs.Leaves.{leaf_objectives, leaf_rows, leaf_variables}
use Rattle.fresh_bridging.specs.TheRules.{Setting}
use Rattle.address_laws.specs.MadeLaws.{HasExactly}

-- the maps by address have exactly the leaves and the nodes of the bridging
pub record EachApart {setting : Setting} {model : ModelValue}
    (bridging : FreshBridging setting model) : Type 0 where
  pub variables :
      HasExactly (leaves_of bridging).variables
      (flat_map leaf_variables (model_leaves bridging.made))
  pub rows :
      HasExactly (leaves_of bridging).rows (flat_map leaf_rows (model_leaves bridging.made))
  pub objective :
      HasExactly (leaves_of bridging).objective
      (flat_map leaf_objectives (model_leaves bridging.made))
  pub nodes :
      HasExactly (nodes_of bridging) (map (λ n. (n.1.at, n)) (model_nodes bridging.made))
