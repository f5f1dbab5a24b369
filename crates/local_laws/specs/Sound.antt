-- Models and tables of which each leaf and node of a bridging stands at an address of its own.
use Rattle.bridge_graph.specs.Hypergraph.{IsCostly}
use Rattle.fresh_bridging.specs.CanLaws.{AreLawful}
use Rattle.fresh_bridging.specs.TheRules.{Setting, graph_of}
use Rattle.user_model.specs.Model.{ModelValue}
use Rattle.user_model.specs.Valid.{IsValid}

-- the model is valid, each edge costs something, and each family keeps the law of its edges
pub record IsValidUnder (setting : Setting) (model : ModelValue) : Type 0 where
  pub costly : IsCostly (graph_of setting)
  pub lawful : AreLawful setting
  pub valid : IsValid model
