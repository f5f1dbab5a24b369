use Rattle.std.proofs.Common.{◌<◌, ℕ}
use Rattle.std.specs.Prelude.{Option, slice_index_or}
use Rattle.bridge_graph.specs.declared.Choice.{Choice}
use Rattle.fresh_bridging.specs.TheRules.{graph_of}
use Rattle.item_core.specs.declared.kind.Kind.{Kind}
use Rattle.lazy_bridge.specs.Owned.{setting_in}
use Rattle.edit_engine.specs.Script.{IsChosen}
use Rattle.edit_engine.proofs.plan.write_choices.Given as goal

abbrev pub invariant-loop-place : goal.invariant-loop-place
invariant-loop-place g l =
    (k : ℕ) (d : Kind × (Choice × Option ℕ)) → k < l.place
    → IsChosen (graph_of (setting_in l.lazy))
    (slice_index_or l.kinds k d.0, slice_index_or l.choices k d.1)
