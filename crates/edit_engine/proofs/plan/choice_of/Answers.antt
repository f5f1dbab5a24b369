use Rattle.fresh_bridging.specs.TheRules.{graph_of}
use Rattle.item_core.specs.Kind.{kind_number}
use Rattle.lazy_bridge.specs.Owned.{setting_in}
use Rattle.edit_engine.proofs.Steps.{cost_is}
use Rattle.edit_engine.proofs.plan.choice_of.Goals as goal

pub returns : goal.returns
returns g c = (
  c.choice.ensures,
  cost_is (graph_of (setting_in c.args.lazy.now)) (kind_number c.args.kind) c.cost.result
      c.cost.ensures.none c.cost.ensures.least,
)
