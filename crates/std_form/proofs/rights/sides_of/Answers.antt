use Rattle.std.proofs.Common.{◌∙◌, ap, subst}
use Rattle.equality_form.specs.Equations.{RightFits, flipped, is_flipped, right_of}
use Rattle.std_form.specs.Borrowed.{equation_in}
use Rattle.std_form.specs.declared.equation.Equation.{Equation}
use Rattle.std_form.proofs.Steps.{fits_fail, fits_step, mapped_step, side_is}
use Rattle.std_form.proofs.rights.sides_of.Goals as goal

pub returns-in_err-side-clause-overflow : goal.returns-in_err-side-clause-overflow
returns-in_err-side-clause-overflow c = λ _.
    fits_fail equation_in c.args.equations.now c.loop-equation.equation-index c.equation-item.result
    c.loop-equation-test.true
    (subst (λ (e : Equation). ¬ RightFits (equation_in e)) c.equation-item.is c.in_err-side.ensures)

pub loop-equation-preserved : goal.loop-equation-preserved
loop-equation-preserved c =
    let i = c.loop-equation.equation-index in
    let item = c.equation-item.result in
    let inside = c.loop-equation-test.true in
    let side = side_is equation_in c.args.equations.now i item inside c.in_ok-side.side
    c.flipped.result c.is_negative-is_flipped.result (c.in_ok-side.ensures.1
    ∙ ap (λ (e : Equation). right_of (equation_in e)) c.equation-item.is)
    c.is_negative-is_flipped.ensures c.flipped.ensures in
    record {
      right = mapped_step equation_in c.args.equations.now i item inside
          (λ e. flipped (is_flipped e) (right_of e)) c.loop-equation.right.items
          c.push.new.self.items c.flipped.result c.loop-equation.invariant.right side.0
          c.in_ok-push.ensures.items;
      flips = mapped_step equation_in c.args.equations.now i item inside is_flipped
          c.loop-equation.flips.items c.push-in-loop-equation.new.self.items
          c.is_negative-is_flipped.result c.loop-equation.invariant.flips side.1
          c.in_ok-push-2.ensures.items;
      fit = fits_step equation_in c.args.equations.now i item inside c.loop-equation.invariant.fit
          (subst (λ (e : Equation). RightFits (equation_in e)) c.equation-item.is
          c.in_ok-side.ensures.0);
    }
