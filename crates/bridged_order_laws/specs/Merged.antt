-- What `bridged` prints, in one order of addresses: variables, rows and the objective merged.
--     merged_text model leaves      the text
--     PrintsInOrder                 the law
use Rattle.std.specs.Prelude.{◌≡◌, List, ◌++◌, map}
use Rattle.std.specs.FinMap.{entries}
use Rattle.bridge_graph.specs.Hypergraph.{IsCostly}
use Rattle.bridged_report.specs.Lines.{bridged_text, in_order, joined, objective_line, row_line, variable_line}
use Rattle.fresh_bridging.specs.CanLaws.{AreLawful}
use Rattle.fresh_bridging.specs.FreshBridging.{FreshBridging, leaves_of}
use Rattle.fresh_bridging.specs.TheRules.{Setting, graph_of}
use Rattle.leaf_model.specs.LeafModel.{LeafModel}
use Rattle.user_model.specs.Model.{ModelValue}
use Rattle.user_model.specs.Valid.{IsValid}
use Rattle.std.specs.Prelude.{ℕ}

-- a line for each leaf, in the order of their addresses
abbrev pub merged_text : ModelValue → LeafModel → List ℕ
merged_text model leaves =
    joined (in_order ((map (variable_line model) (entries leaves.variables)
    ++ map (row_line model) (entries leaves.rows))
    ++ map (objective_line model) (entries leaves.objective)))

-- of the fresh bridging of a valid model, where each edge costs something and each family keeps the
-- law of its edges
abbrev pub PrintsInOrder : Type 0
PrintsInOrder =
    (setting : Setting) → IsCostly (graph_of setting) → AreLawful setting → (model : ModelValue)
    → IsValid model → (bridging : FreshBridging setting model)
    → bridged_text model (leaves_of bridging) ≡ merged_text model (leaves_of bridging)
