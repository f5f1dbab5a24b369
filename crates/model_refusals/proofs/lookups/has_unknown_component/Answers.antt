use Rattle.std.proofs.Common.{arith, map, not, sym, ap, ◌∙◌}
use Rattle.std.specs.List.{list_any}
use Rattle.user_model.specs.Functions.{names_of}
use Rattle.user_model.specs.Refusals.{has_variable_named}
use Rattle.map_laws.specs.LoopLaws.{each_found, each_more}
use Rattle.map_laws.specs.PlaceLaws.{none_past}
use Rattle.model_refusals.proofs.lookups.has_unknown_component.Goals.{in-Some+else-has_unknown_term, in_default}
use Rattle.model_refusals.proofs.lookups.has_unknown_component.Goals as goal

pub returns-then-has_unknown_term : goal.returns-then-has_unknown_term
returns-then-has_unknown_term c =
    each_found (λ name. not (has_variable_named c.args.model.now.model name)) names_of
    c.args.funcs.now c.loop-place.place c.in-Some.func.now c.loop-place.invariant
    (sym c.in-Some.ensures)
    (ap (λ ts. list_any (λ name. not (has_variable_named c.args.model.now.model name))
    (map (λ t. t.variable) ts)) (sym c.as_slice.ensures.value) ∙ (sym c.has_unknown_term.ensures
    ∙ c.if-has_unknown_term.true))

pub loop-place-preserved : goal.loop-place-preserved
loop-place-preserved c =
    elim c.match-get.branch [
      | in-Some+else-has_unknown_term w ↦
          each_more (λ name. not (has_variable_named c.args.model.now.model name)) names_of
          c.args.funcs.now c.loop-place.place w.in-Some.func.now c.loop-place.invariant
          (sym w.in-Some.ensures)
          (ap (λ ts. list_any (λ name. not (has_variable_named c.args.model.now.model name))
          (map (λ t. t.variable) ts)) (sym w.as_slice.ensures.value)
          ∙ (sym w.has_unknown_term.ensures ∙ w.if-has_unknown_term.false))
      | in_default w ↦ absurd (none_past c.loop-place.place c.args.funcs.now
          (sym w.in_default.ensures) (omega arith))
    ]
