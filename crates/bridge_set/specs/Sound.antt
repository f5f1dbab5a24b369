-- What holds of bridges: the choices are those by the table and the families, each of which occurs
-- once and keeps the law of its edges.
use Rattle.std.specs.Prelude.{◌≡◌, List, [], ◌∷◌, All, IsTrue, length, map, refl}
use Rattle.std.specs.List.{list_all}
use Rattle.std.proofs.Common.{ap}
use Rattle.bridge_graph.specs.Hypergraph.{Hypergraph, is_edge_cost}
use Rattle.item_core.specs.Kind.{kind_count}
use Rattle.bridge_face.specs.Law.{IsLawful}
use Rattle.bridge_face.specs.BridgeState.{BridgeState, all_gone}
use Rattle.fresh_bridging.specs.TheRules.{graph_of}
use Rattle.bridge_plan.specs.Means.{AreSound}
use Rattle.bridge_set.specs.Bridges.{Bridges, families_of, means_of, occur_once, setting_of}

pub record IsBridgeSetSound (graph : Hypergraph) (bridges : Bridges) : Type 0 where
  pub graph_is : graph ≡ graph_of (setting_of bridges)
  pub kinds : length bridges.choices ≡ kind_count
  pub costs : IsTrue (list_all is_edge_cost bridges.table.cost)
  pub sound : AreSound (means_of bridges)
  pub laws : All IsLawful (families_of bridges.states)
  pub once : IsTrue (occur_once (families_of bridges.states))

-- bridges that release all keep their families
pub families_stay : (states : List BridgeState)
    → families_of (map all_gone states) ≡ families_of states
families_stay [] = refl
families_stay (s ∷ states) = ap (λ fs. s.family ∷ fs) (families_stay states)
