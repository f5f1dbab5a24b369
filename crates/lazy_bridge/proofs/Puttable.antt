-- The plan of a fresh bridging can be put in.
use Rattle.std.proofs.Common.{sym, subst}
use Rattle.aff_core.specs.Address.{address_cmp}
use Rattle.aff_core.specs.Rising.{HasDistinctKeys}
use Rattle.bridge_set.specs.Bridges.{AreKeepable}
use Rattle.bridge_graph.specs.Hypergraph.{IsCostly}
use Rattle.fresh_bridging.specs.CanLaws.{AreLawful}
use Rattle.fresh_bridging.specs.TheRules.{Setting, graph_of}
use Rattle.leaf_update.specs.Leaves.{AreLeaves}
use Rattle.lazy_bridge.specs.Plans.{IsPuttable}
use Rattle.model_bridging.specs.Planned.{IsPlanOf}
use Rattle.model_bridging.specs.declared.model_plan.ModelPlan.{ModelPlan}
use Rattle.push_laws.specs.PutLaws.{exprs_apart, leaves_are, nodes_are}
use Rattle.tree_laws.specs.LeafLaws.{SupportsNativeKinds}
use Rattle.user_model.specs.Model.{ModelValue}
use Rattle.user_model.specs.Valid.{IsValid}

pub puttable : (setting : Setting) → IsCostly (graph_of setting) → AreLawful setting
    → SupportsNativeKinds setting → (model : ModelValue) → IsValid model → (planned : ModelPlan)
    → IsPlanOf setting model planned → IsPuttable setting.families planned
puttable setting costly lawful native model valid planned plan = record {
  leaves = subst AreLeaves (sym plan.leaves)
      (leaves_are setting costly lawful native model valid plan.bridging);
  nodes = subst (AreKeepable setting.families) (sym plan.nodes)
      (nodes_are setting costly lawful native model valid plan.bridging);
  exprs = subst (HasDistinctKeys address_cmp) (sym plan.exprs)
      (exprs_apart setting costly lawful native model valid plan.bridging);
}
