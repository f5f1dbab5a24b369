-- What is asked where an answer is carried back: bridges and a map of addresses hold the fresh
-- bridging of the user's model, and the answer has a dual for each component of each leaf row.
use Rattle.std.specs.Prelude.{◌≡◌, List, All, length}
use Rattle.std.specs.FinMap as finite
use Rattle.address_map.specs.AddressMap.{AddressMap}
use Rattle.aff_core.specs.Address.{Address}
use Rattle.bridge_set.specs.Bridges.{families_of}
use Rattle.bridge_set.specs.Nodes.{nodes_by}
use Rattle.bridge_face.specs.BridgeState.{BridgeState}
use Rattle.bridge_graph.specs.Hypergraph.{IsCostly}
use Rattle.equality_form.specs.ReadBack.{AnswerByAddress, infeasible, optimal, unbounded}
use Rattle.fresh_bridging.specs.CanLaws.{AreLawful}
use Rattle.fresh_bridging.specs.FreshBridging.{FreshBridging, leaves_of}
use Rattle.fresh_bridging.specs.TheRules.{Setting, graph_of}
use Rattle.item_core.specs.Item.{functions_of}
use Rattle.leaf_model.specs.LeafModel.{LeafModel}
use Rattle.model_bridging.specs.Expressions.{expressions_by}
use Rattle.ratio_core.specs.Rational.{Rational}
use Rattle.tree_laws.specs.LeafLaws.{SupportsNativeKinds}
use Rattle.user_model.specs.Model.{ModelValue}

-- a dual for each component of each row
abbrev pub HasLeafDuals : LeafModel → (Address → List Rational) → Type 0
HasLeafDuals leaves y =
    All (λ row. length (y row.0) ≡ length (functions_of row.1)) (finite.entries leaves.rows)

abbrev pub HasItsDuals : LeafModel → AnswerByAddress → Type 0
HasItsDuals leaves (optimal x y) = HasLeafDuals leaves y
HasItsDuals leaves (infeasible y) = HasLeafDuals leaves y
HasItsDuals leaves (unbounded x d) = Unit {0}

pub record CanCarry (states : List BridgeState) (map : AddressMap) (model : ModelValue)
    (answer : AnswerByAddress) : Type 0 where
  -- a table and the families of the bridges
  pub setting : Setting
  pub families : families_of states ≡ setting.families
  pub costly : IsCostly (graph_of setting)
  pub lawful : AreLawful setting
  pub native : SupportsNativeKinds setting
  -- the fresh bridging by these, as the bridges and the map hold it
  pub bridging : FreshBridging setting model
  pub kept : All (λ (bridge : BridgeState). bridge.kept ≡ nodes_by bridging bridge.family) states
  pub exprs : map.exprs ≡ expressions_by bridging
  pub duals : HasItsDuals (leaves_of bridging) answer
