use Rattle.std.proofs.Common.{◌-◌, sym, ap, subst, ◌∙◌, refl, length}
use Rattle.ratio_core.specs.AnsweredLaws.{passed_on}
use Rattle.aff_core.specs.Address.{child_of}
use Rattle.set_core.specs.declared.set.Set.TheVariants.{Reals}
use Rattle.bridge_face.specs.ComponentLaws.{length-components, variables}
use Rattle.bridge_face.specs.ImageOf.{ImageFits}
use Rattle.bridge_face.specs.Images.{function_of_body}
use Rattle.bridges_norm.specs.BothLaws.{others_of}
use Rattle.bridge_face.specs.FamilyLaws.{source_is}
use Rattle.bridges_norm.specs.NormOneLaws.{NormOneRowsFit, bounded_row, fits_made, image_made, others_count, rule}
use Rattle.bridges_norm.proofs.norm_one.NormOneRewriting.image.Goals as goal

pub bounded-requires-clause-cone : goal.bounded-requires-clause-cone
bounded-requires-clause-cone c =
    (source_is rule c.args._edge c.requires.own c.args.item.now c.requires.suits).cone

pub bounded-requires-clause-vars : goal.bounded-requires-clause-vars
bounded-requires-clause-vars c =
    ap length (c.as_slice.ensures ∙ c.in_ok-vars.ensures)
    ∙ length-components (child_of c.args.item.now.at 0) (c.component_count-count.result - 1)
    ∙ others_count c.args._edge c.requires.own c.args.item.now c.requires.suits
    c.component_count-count.result c.component_count-count.ensures

pub bounded-requires-clause-count : goal.bounded-requires-clause-count
bounded-requires-clause-count c =
    sym (ap length (c.as_slice.ensures ∙ c.in_ok-vars.ensures)
    ∙ length-components (child_of c.args.item.now.at 0) (c.component_count-count.result - 1))

pub returns : goal.returns
returns c = (
  subst (λ T. T) (ap (λ vs. NormOneRowsFit (function_of_body c.args.item.now.body)
      (others_of c.args.item.now.body) (variables vs)) c.as_slice.ensures
      ∙ fits_made c.args._edge c.requires.own c.args.item.now c.requires.suits
      (c.component_count-count.result - 1) c.in_ok-vars.vars
      (ap (λ m. m - 1) c.component_count-count.ensures) c.in_ok-vars.ensures)
      c.in_ok-row.ensures.0,
  image_made c.args._edge c.requires.own c.args.item.now c.requires.suits
      (c.component_count-count.result - 1) c.in_ok-vars.vars
      (Reals (c.component_count-count.result - 1)) c.child_group-group.result c.new.result
      c.in_ok-row.row c.in_ok-group_row_image.field-0
      (ap (λ m. m - 1) c.component_count-count.ensures) c.in_ok-vars.ensures refl c.new.ensures
      c.child_group-group.ensures
      (c.in_ok-row.ensures.1 ∙ ap (λ vs. bounded_row (function_of_body c.args.item.now.body)
      (others_of c.args.item.now.body) vs (c.component_count-count.result - 1))
      c.as_slice.ensures)
      c.in_ok-group_row_image.ensures,
)

pub returns-in_err-row : goal.returns-in_err-row
returns-in_err-row c =
    passed_on c.from_residual-in_err-row.result c.in_err-row.field-0.0
    (NormOneRowsFit (function_of_body c.args.item.now.body) (others_of c.args.item.now.body)
    (variables c.as_slice.result.now)) (ImageFits c.args._edge c.args.item.now) _ _
    c.from_residual-in_err-row.ensures.1 c.in_err-row.ensures
    (λ h. subst (λ T. T) (sym (ap (λ vs. NormOneRowsFit (function_of_body c.args.item.now.body)
    (others_of c.args.item.now.body) (variables vs)) c.as_slice.ensures
    ∙ fits_made c.args._edge c.requires.own c.args.item.now c.requires.suits
    (c.component_count-count.result - 1) c.in_ok-vars.vars
    (ap (λ m. m - 1) c.component_count-count.ensures) c.in_ok-vars.ensures)) h)
