use Rattle.std.proofs.Common.{arith, sym, ◌∙◌}
use Rattle.user_model.specs.Refusals.{has_variable_named}
use Rattle.map_laws.specs.LoopLaws.{any_found, any_more}
use Rattle.map_laws.specs.PlaceLaws.{none_past}
use Rattle.model_refusals.proofs.lookups.has_known.Goals.{in-Some+else-has_variable, in_default}
use Rattle.model_refusals.proofs.lookups.has_known.Goals as goal

pub returns-then-has_variable : goal.returns-then-has_variable
returns-then-has_variable c =
    any_found (has_variable_named c.args.model.now.model) c.args.names.now c.loop-place.place
    c.in-Some.name.now c.loop-place.invariant (sym c.in-Some.ensures)
    (sym c.has_variable.ensures ∙ c.if-has_variable.true)

pub loop-place-preserved : goal.loop-place-preserved
loop-place-preserved c =
    elim c.match-get.branch [
      | in-Some+else-has_variable w ↦
          any_more (has_variable_named c.args.model.now.model) c.args.names.now c.loop-place.place
          w.in-Some.name.now c.loop-place.invariant (sym w.in-Some.ensures)
          (sym w.has_variable.ensures ∙ w.if-has_variable.false)
      | in_default w ↦ absurd (none_past c.loop-place.place c.args.names.now
          (sym w.in_default.ensures) (omega arith))
    ]
