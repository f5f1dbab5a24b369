-- What rewrites items: the choices by a table and the families that have a bridge, and what the
-- bridges keep meanwhile.
use Rattle.std.specs.Prelude.{ℕ, List}
use Rattle.bridge_graph.specs.Hypergraph.{IsCostly}
use Rattle.bridge_graph.specs.declared.Choice.{Choice}
use Rattle.item_core.specs.declared.family.Family.{Family}
use Rattle.bridge_face.specs.BridgeState.{KeptByAddress}
use Rattle.fresh_bridging.specs.CanLaws.{AreLawful}
use Rattle.fresh_bridging.specs.TheRules.{AreChoices, Setting, graph_of}

pub record Means : Type 0 where
  pub setting : Setting
  pub choice : ℕ → Choice
  pub kept : List (Family × KeptByAddress)

-- the choices are those of the setting, whose families keep the law of their edges
pub record AreSound (means : Means) : Type 0 where
  pub costly : IsCostly (graph_of means.setting)
  pub chosen : AreChoices means.setting means.choice
  pub lawful : AreLawful means.setting
