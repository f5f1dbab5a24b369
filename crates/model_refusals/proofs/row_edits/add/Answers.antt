use Rattle.std.proofs.Common.{refl, ap, ap₂, sym, ◌∙◌}
use Rattle.set_core.specs.Shapes.{has_bad_dimension}
use Rattle.user_model.specs.Refusals.{differ}
use Rattle.model_refusals.proofs.FirstRefusals.{bounded_row, full_row}
use Rattle.model_refusals.proofs.row_edits.add.Goals as goal

pub returns-in-Some : goal.returns-in-Some
returns-in-Some c =
    let name = c.args.name.now in
    let set = c.args.set.now in
    let known = sym c.has_unknown.ensures ∙ c.if-has_unknown.false in
    let free = sym c.has_row.ensures ∙ c.if-has_row.false in
    let shaped = sym (c.differ.ensures ∙ ap₂ (λ a b. differ a b) c.is_scalar_named.ensures
    c.is_scalar.ensures) ∙ c.if-differ.false in
    let dimension = sym (c.has_bad_dimension.ensures
    ∙ ap (has_bad_dimension set) c.named_components.ensures) ∙ c.if-has_bad_dimension.false in
    let interval = sym c.is_crossed.ensures ∙ c.if-is_crossed.false in
    bounded_row c.args.model.now.model name c.args.func.now set known free shaped dimension interval
    c.in-Some.refusal (sym c.in-Some.is ∙ c.bound_already_set.ensures name)

pub returns-in-Some-full_by_row : goal.returns-in-Some-full_by_row
returns-in-Some-full_by_row c =
    let name = c.args.name.now in
    let set = c.args.set.now in
    let known = sym c.has_unknown.ensures ∙ c.if-has_unknown.false in
    let free = sym c.has_row.ensures ∙ c.if-has_row.false in
    let shaped = sym (c.differ.ensures ∙ ap₂ (λ a b. differ a b) c.is_scalar_named.ensures
    c.is_scalar.ensures) ∙ c.if-differ.false in
    let dimension = sym (c.has_bad_dimension.ensures
    ∙ ap (has_bad_dimension set) c.named_components.ensures) ∙ c.if-has_bad_dimension.false in
    let interval = sym c.is_crossed.ensures ∙ c.if-is_crossed.false in
    full_row c.args.model.now.model name c.args.func.now set known free shaped dimension interval
    (sym c.in_default.is ∙ c.bound_already_set.ensures name)
    ∙ (sym (c.full_by_row.ensures name set) ∙ c.in-Some-full_by_row.is)

pub returns-in-None : goal.returns-in-None
returns-in-None c =
    let name = c.args.name.now in
    let set = c.args.set.now in
    let known = sym c.has_unknown.ensures ∙ c.if-has_unknown.false in
    let free = sym c.has_row.ensures ∙ c.if-has_row.false in
    let shaped = sym (c.differ.ensures ∙ ap₂ (λ a b. differ a b) c.is_scalar_named.ensures
    c.is_scalar.ensures) ∙ c.if-differ.false in
    let dimension = sym (c.has_bad_dimension.ensures
    ∙ ap (has_bad_dimension set) c.named_components.ensures) ∙ c.if-has_bad_dimension.false in
    let interval = sym c.is_crossed.ensures ∙ c.if-is_crossed.false in (
      full_row c.args.model.now.model name c.args.func.now set known free shaped dimension interval
          (sym c.in_default.is ∙ c.bound_already_set.ensures name)
          ∙ (sym (c.full_by_row.ensures name set) ∙ c.in-None.is),
      refl,
      tt,
    )
