use Rattle.ratio_core.specs.AnsweredLaws.{passed_on}
use Rattle.item_core.specs.declared.item.Body.TheVariants.{AffineVec}
use Rattle.set_core.specs.declared.set.Set.TheVariants.{Nonnegatives}
use Rattle.std.proofs.Common.{◌∙◌, ◌≤◌, ◌+◌, ap, subst, sym, length}
use Rattle.item_core.specs.Item.{functions_of}
use Rattle.bridge_face.specs.ComponentLaws.{variables}
use Rattle.bridge_face.specs.Images.{first_in, function_of_body, rest_of}
use Rattle.bridges_norm.specs.BothLaws.{others_of}
use Rattle.bridges_norm.specs.NormOneLaws.{NormOneRowsFit, fits_of, row_of}
use Rattle.bridges_norm.proofs.norm_one.bounded.Goals as goal

pub first_function-requires : goal.first_function-requires
first_function-requires c =
    subst (λ fs. 1 ≤ length fs) (sym c.as_slice-funcs.ensures)
    (subst (λ b. 1 ≤ length (functions_of b)) c.in-AffineVec.is c.requires.some)

pub less-requires : goal.less-requires
less-requires c =
    c.requires.vars ∙ ap length (sym (c.other_functions-others.ensures
    ∙ ap rest_of c.as_slice-funcs.ensures ∙ ap others_of (sym c.in-AffineVec.is)))

pub more-requires : goal.more-requires
more-requires c =
    c.requires.vars ∙ ap length (sym (c.other_functions-others.ensures
    ∙ ap rest_of c.as_slice-funcs.ensures ∙ ap others_of (sym c.in-AffineVec.is)))

pub returns-in_err-rest : goal.returns-in_err-rest
returns-in_err-rest c =
    passed_on c.from_residual.result c.in_err-rest.field-0.0 _
    (NormOneRowsFit (function_of_body c.args.body.now) (others_of c.args.body.now)
    (variables c.args.vars.now)) _ _ c.from_residual.ensures.1 c.in_err-rest.ensures
    (λ h. (subst (λ T. T) (sym (fits_of c.args.body.now c.in-AffineVec.set c.in-AffineVec.func
    c.other_functions-others.result.now c.first_function.result.now c.args.vars.now
    c.in-AffineVec.is (c.first_function.ensures ∙ ap first_in c.as_slice-funcs.ensures)
    (c.other_functions-others.ensures ∙ ap rest_of c.as_slice-funcs.ensures))) h).0)

pub returns-in_err-less : goal.returns-in_err-less
returns-in_err-less c =
    passed_on c.from_residual-in_err-less.result c.in_err-less.field-0.0 _
    (NormOneRowsFit (function_of_body c.args.body.now) (others_of c.args.body.now)
    (variables c.args.vars.now)) _ _ c.from_residual-in_err-less.ensures.1 c.in_err-less.ensures
    (λ h. (subst (λ T. T) (sym (fits_of c.args.body.now c.in-AffineVec.set c.in-AffineVec.func
    c.other_functions-others.result.now c.first_function.result.now c.args.vars.now
    c.in-AffineVec.is (c.first_function.ensures ∙ ap first_in c.as_slice-funcs.ensures)
    (c.other_functions-others.ensures ∙ ap rest_of c.as_slice-funcs.ensures))) h).1)

pub returns-in_err-both : goal.returns-in_err-both
returns-in_err-both c =
    passed_on c.from_residual-in_err-both.result c.in_err-both.field-0.0 _
    (NormOneRowsFit (function_of_body c.args.body.now) (others_of c.args.body.now)
    (variables c.args.vars.now)) _ _ c.from_residual-in_err-both.ensures.1 c.in_err-both.ensures
    (λ h. (subst (λ T. T) (sym (fits_of c.args.body.now c.in-AffineVec.set c.in-AffineVec.func
    c.other_functions-others.result.now c.first_function.result.now c.args.vars.now
    c.in-AffineVec.is (c.first_function.ensures ∙ ap first_in c.as_slice-funcs.ensures)
    (c.other_functions-others.ensures ∙ ap rest_of c.as_slice-funcs.ensures))) h).2)

pub returns : goal.returns
returns c = (
  subst (λ T. T) (fits_of c.args.body.now c.in-AffineVec.set c.in-AffineVec.func
      c.other_functions-others.result.now c.first_function.result.now c.args.vars.now
      c.in-AffineVec.is (c.first_function.ensures ∙ ap first_in c.as_slice-funcs.ensures)
      (c.other_functions-others.ensures ∙ ap rest_of c.as_slice-funcs.ensures))
      (c.in_ok-rest.ensures.0, c.in_ok-less.ensures.0, c.in_ok-both.ensures.0),
  ap (λ fs. AffineVec fs (Nonnegatives (c.args.count + c.args.count + 1))) c.from_vec.ensures
      ∙ row_of c.args.body.now c.in-AffineVec.set c.in-AffineVec.func
      c.other_functions-others.result.now c.in_ok-less.less.items c.in_ok-both.both.items
      c.first_function.result.now c.in_ok-rest.rest c.args.vars.now c.args.count
      c.in-AffineVec.is
      (c.first_function.ensures ∙ ap first_in c.as_slice-funcs.ensures)
      (c.other_functions-others.ensures ∙ ap rest_of c.as_slice-funcs.ensures)
      c.in_ok-rest.ensures.1 c.in_ok-less.ensures.1 c.in_ok-both.ensures.1,
)
