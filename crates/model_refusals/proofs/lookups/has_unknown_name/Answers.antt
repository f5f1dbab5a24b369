use Rattle.std.proofs.Common.{arith, not, sym, ap, ◌∙◌}
use Rattle.user_model.specs.Refusals.{has_variable_named}
use Rattle.map_laws.specs.LoopLaws.{any_found, any_more}
use Rattle.map_laws.specs.PlaceLaws.{none_past}
use Rattle.model_refusals.proofs.lookups.has_unknown_name.Goals.{in-Some+else-not-has_variable, in_default}
use Rattle.model_refusals.proofs.lookups.has_unknown_name.Goals as goal

pub returns-then-not-has_variable : goal.returns-then-not-has_variable
returns-then-not-has_variable c =
    any_found (λ name. not (has_variable_named c.args.model.now.model name)) c.args.names.now
    c.loop-place.place c.in-Some.name.now c.loop-place.invariant (sym c.in-Some.ensures)
    (ap not (sym c.has_variable.ensures ∙ c.if-not-has_variable.true))

pub loop-place-preserved : goal.loop-place-preserved
loop-place-preserved c =
    elim c.match-get.branch [
      | in-Some+else-not-has_variable w ↦
          any_more (λ name. not (has_variable_named c.args.model.now.model name)) c.args.names.now
          c.loop-place.place w.in-Some.name.now c.loop-place.invariant (sym w.in-Some.ensures)
          (ap not (sym w.has_variable.ensures ∙ w.if-not-has_variable.false))
      | in_default w ↦ absurd (none_past c.loop-place.place c.args.names.now
          (sym w.in_default.ensures) (omega arith))
    ]
