use Rattle.std.proofs.Common.{sym, subst, arith}
use Rattle.std.specs.Prelude.{Option, ℕ}
use Rattle.std.proofs.lemmas.Slice.Zip.{get_or-zip, length-zip}
use Rattle.bridge_graph.specs.declared.Choice.{Choice}
use Rattle.fresh_bridging.specs.TheRules.{graph_of}
use Rattle.item_core.specs.declared.kind.Kind.{Kind}
use Rattle.lazy_bridge.specs.Owned.{setting_in}
use Rattle.edit_engine.specs.Script.{IsChosen}
use Rattle.edit_engine.proofs.PlanSteps.{chosen_more}
use Rattle.edit_engine.proofs.plan.write_choices.Goals as goal

pub returns : goal.returns
returns g c = λ k d lt.
    let long = length-zip c.args.kinds.now c.loop-place.choices in
    let P : Kind × (Choice × Option ℕ) → Type 0 =
    IsChosen (graph_of (setting_in c.args.lazy.now)) in
    subst P
    (sym (get_or-zip c.args.kinds.now c.loop-place.choices k d (omega arith) (omega arith)))
    (c.loop-place.invariant k d (omega arith))

pub loop-place-preserved : goal.loop-place-preserved
loop-place-preserved g c =
    chosen_more (graph_of (setting_in c.args.lazy.now)) c.args.kinds.now c.loop-place.choices
    c.loop-place.place _ c.choice_of.result (omega arith) (omega arith) c.choice_of.ensures
    c.loop-place.invariant
