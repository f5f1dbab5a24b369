use Rattle.std.proofs.Common.{◌∙◌, ◌+◌, ap, subst, sym, length, refl}
use Rattle.item_core.specs.declared.item.Body.TheVariants.{AffineVec}
use Rattle.set_core.specs.declared.set.Set.TheVariants.{Nonnegatives}
use Rattle.std.specs.Prelude.{◌++◌}
use Rattle.ratio_core.specs.AnsweredLaws.{passed_on}
use Rattle.bridge_face.specs.Images.{first_in, rest_of}
use Rattle.bridges_norm.specs.NormInfinityLaws.{MadeFits, fits_of, made_of}
use Rattle.bridges_norm.specs.BothLaws.{more_each}
use Rattle.bridges_norm.proofs.norm_infinity.NormInfinityRuleRowRule.child.Goals as goal

pub returns-in_err-less : goal.returns-in_err-less
returns-in_err-less c =
    passed_on c.from_residual.result c.in_err-less.field-0.0 _ (MadeFits c.args.row.now) _ _
    c.from_residual.ensures.1 c.in_err-less.ensures
    (λ h. (subst (λ T. T) (sym (fits_of c.args.row.now c.in-AffineVec.set c.in-AffineVec.func
    c.other_functions-others.result.now c.first_function-first.result.now c.in-AffineVec.is
    (c.first_function-first.ensures ∙ ap first_in c.as_slice-funcs.ensures)
    (c.other_functions-others.ensures ∙ ap rest_of c.as_slice-funcs.ensures))) h).0)

pub returns-in_err-both : goal.returns-in_err-both
returns-in_err-both c =
    passed_on c.from_residual-in_err-both.result c.in_err-both.field-0.0 _ (MadeFits c.args.row.now)
    _ _ c.from_residual-in_err-both.ensures.1 c.in_err-both.ensures
    (λ h. (subst (λ T. T) (sym (fits_of c.args.row.now c.in-AffineVec.set c.in-AffineVec.func
    c.other_functions-others.result.now c.first_function-first.result.now c.in-AffineVec.is
    (c.first_function-first.ensures ∙ ap first_in c.as_slice-funcs.ensures)
    (c.other_functions-others.ensures ∙ ap rest_of c.as_slice-funcs.ensures))) h).1)

pub returns : goal.returns
returns c =
    let first_is = c.first_function-first.ensures ∙ ap first_in c.as_slice-funcs.ensures in
    let others_are = c.other_functions-others.ensures ∙ ap rest_of c.as_slice-funcs.ensures in (
      subst (λ T. T) (fits_of c.args.row.now c.in-AffineVec.set c.in-AffineVec.func
          c.other_functions-others.result.now c.first_function-first.result.now c.in-AffineVec.is
          first_is others_are) (c.in_ok-less.ensures.0, c.in_ok-both.ensures.0),
      ap (λ fs. AffineVec fs (Nonnegatives (length c.other_functions-others.result.now + length
          c.other_functions-others.result.now))) c.from_vec.ensures
          ∙ made_of c.args.row.now c.in-AffineVec.set c.in-AffineVec.func
          c.other_functions-others.result.now c.in_ok-both.both.items
          c.first_function-first.result.now (length c.other_functions-others.result.now)
          c.in-AffineVec.is first_is others_are
          (c.in_ok-both.ensures.1 ∙ ap (λ fs. fs ++ more_each c.first_function-first.result.now
          c.other_functions-others.result.now) c.in_ok-less.ensures.1) refl,
    )
