use Rattle.std.proofs.Common.{◌==◌, refl, ap, ap₂, sym, ◌∙◌}
use Rattle.std.specs.Prelude.{◌&&◌, ◌||◌, not}
use Rattle.set_core.specs.Shapes.{has_bad_dimension, is_scalar}
use Rattle.model_refusals.proofs.FirstRefusals.{full_group}
use Rattle.model_refusals.proofs.group_edits.add.Goals as goal

pub returns-in-Some : goal.returns-in-Some
returns-in-Some c =
    let set = c.args.set.now in
    let free = ap₂ (λ a b. a || b) (sym c.has_known.ensures ∙ c.if-has_known.false)
    (sym c.has_twins.ensures ∙ c.if-has_twins.false) in
    let shaped = sym (c.is_scalar_for_others.ensures
    ∙ ap (λ n. is_scalar set && not (n == 1)) c.len.ensures)
    ∙ c.if-is_scalar_for_others.false in
    let dimension = sym (c.has_bad_dimension.ensures ∙ ap (has_bad_dimension set) c.len-2.ensures)
    ∙ c.if-has_bad_dimension.false in
    let interval = sym c.is_crossed.ensures ∙ c.if-is_crossed.false in
    full_group c.args.model.now.model c.args.names.now set free shaped dimension interval
    ∙ (sym (c.full_by_group.ensures set) ∙ c.in-Some.is)

pub returns-in-None : goal.returns-in-None
returns-in-None c =
    let set = c.args.set.now in
    let free = ap₂ (λ a b. a || b) (sym c.has_known.ensures ∙ c.if-has_known.false)
    (sym c.has_twins.ensures ∙ c.if-has_twins.false) in
    let shaped = sym (c.is_scalar_for_others.ensures
    ∙ ap (λ n. is_scalar set && not (n == 1)) c.len.ensures)
    ∙ c.if-is_scalar_for_others.false in
    let dimension = sym (c.has_bad_dimension.ensures ∙ ap (has_bad_dimension set) c.len-2.ensures)
    ∙ c.if-has_bad_dimension.false in
    let interval = sym c.is_crossed.ensures ∙ c.if-is_crossed.false in (
      full_group c.args.model.now.model c.args.names.now set free shaped dimension interval
          ∙ (sym (c.full_by_group.ensures set) ∙ c.in-None.is),
      refl,
      tt,
    )
